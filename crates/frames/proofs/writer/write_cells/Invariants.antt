use Rattle.frames.specs.Addressed.{addresses_left}
use Rattle.frames.proofs.Laying.{Laid}
use Rattle.frames.proofs.writer.write_cells.Given as goal

abbrev pub invariant-loop-address : goal.invariant-loop-address
invariant-loop-address g l = Laid g.R.CellRow.bytes l.entries.cells l.entries.page.map l.initial.out l.out (addresses_left l.address-iterator) l.at
