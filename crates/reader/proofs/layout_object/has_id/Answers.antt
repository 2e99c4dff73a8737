use Rattle.std.proofs.Common.{◌∙◌, rules}
use borrow.Author.Tests.{tests}
use Rattle.std.proofs.lemmas.Iterator.{YieldsList-from_slice}
use Rattle.std.proofs.lemmas.Iterator.Search.{any_from_yields_List}
use Rattle.plan.specs.Laws.{named}
use Rattle.reader.proofs.Ids.{any_named}
use Rattle.reader.proofs.layout_object.has_id.Goals as goal

pub returns : goal.returns
returns c =
    record {
      value = any_from_yields_List (named c.args.id) _ _ c.any.result c.any.ensures.ran (YieldsList-from_slice c.args.rows.now cc) (λ x b q k. search (rules, tests)) ∙ any_named c.args.id c.args.rows.now;
    }
