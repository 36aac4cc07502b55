use Rattle.report.proofs.Counting.{every_line_is_counted}
use Rattle.report.proofs.dump.dump.Goals as goal

pub returns : goal.returns
returns g c = every_line_is_counted g.R.CellRow.width g.R.CellRow.reads
