-- How many bytes the written form of a page has. Assumes nothing.
use Rattle.std.proofs.Common.{◌≡◌, ◌++◌, length, arith, length-append}
use Rattle.std.specs.List.{flat_map}
use Rattle.plan.specs.Page.{Page}
use Rattle.writer.specs.Written.{collection_bytes, res, lobj, written, page_size}

pub written-length : (p : Page) → length (written p) ≡ page_size p
unfolding written
written-length p = let l = length-append (collection_bytes p.header.collection) (res p.resolution ++ flat_map lobj p.rows) in omega arith
