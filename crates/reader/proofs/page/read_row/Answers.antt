use Rattle.std.proofs.Common.{◌≡◌, false, IfSome, List, sym, subst}
use Rattle.plan.specs.Laws.{has_id}
use Rattle.plan.specs.declared.layout.Row.{Row}
use Rattle.reader.proofs.Earlier.{layout-earlier}
use Rattle.reader.proofs.page.read_row.Goals as goal

pub returns-clause-new : goal.returns-clause-new
returns-clause-new c =
    let same = layout-earlier _ _ _ _ _ (sym c.in_ok-read_superbox.ensures.after) in
    let New : List Row → Type 0 = λ earlier. IfSome c.row.result (λ row. has_id row.layout.lobjid earlier ≡ false) in
    subst New same c.row.ensures.new
