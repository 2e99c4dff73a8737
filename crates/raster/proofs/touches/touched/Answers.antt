use Rattle.std.proofs.Common.{◌∙◌, ap₂}
use Rattle.raster.proofs.Likeness.{touches}
use Rattle.raster.proofs.touches.touched.Goals as goal

pub returns : goal.returns
returns g c =
    let is = c.touched.ensures.answer ∙ ap₂ (λ f n. f c.args.column n) c.on_row.ensures.touch c.on_row.ensures.number in
    record { answer = is; alike = λ mask' image' m i. is ∙ touches c.args.place _ mask' _ image' m i c.args.column c.args.row }
