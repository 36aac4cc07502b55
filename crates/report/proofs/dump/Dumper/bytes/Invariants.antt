use Rattle.std.proofs.Common.{◌≡◌, take}
use Rattle.report.specs.Dumping.{bytes_read, dump_of}
use Rattle.report.proofs.dump.Dumper.bytes.Given as goal

abbrev pub invariant-loop-b : goal.invariant-loop-b
invariant-loop-b g l =
    dump_of l.self ≡ bytes_read g.R.CellRow.width g.R.CellRow.reads (dump_of l.initial.self) (take l.b-index l.chunk)
