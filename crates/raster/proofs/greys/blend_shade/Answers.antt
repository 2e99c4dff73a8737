use Rattle.std.proofs.Common.{ℕ, ◌+◌, ◌/◌, ap, arith}
use Rattle.raster.specs.Covers.{full}
use Rattle.raster.proofs.Rounding.{nearest}
use Rattle.raster.proofs.greys.blend_shade.Goals as goal

pub returns : goal.returns
returns c =
    let is = c.exact_blend.ensures.value in
    record {
      value = ap (λ (x : ℕ). (x + full / 2) / full) is;
      nearest = nearest c.args.below c.args.above c.args.cover c.exact_blend.result (omega arith) is;
    }
