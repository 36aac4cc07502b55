use Rattle.capture.proofs.Lines.{every_line_is_read}
use Rattle.capture.proofs.line.HexLine.new.Goals as goal

pub returns-clause-every : goal.returns-clause-every
returns-clause-every c = every_line_is_read
