use Rattle.canvas.proofs.Worked.{cases}
use Rattle.canvas.proofs.cases.small_sheet_cells.Goals as goal

pub returns-clause-cases : goal.returns-clause-cases
returns-clause-cases c = cases
