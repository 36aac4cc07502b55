use Rattle.std.proofs.Common.{◌*◌}
use Rattle.frames.specs.Addressed.{addresses, addresses_left}
use Rattle.frames.specs.Texts.{entry_text}
use Rattle.frames.proofs.Telling.{Told}
use Rattle.frames.proofs.Walking.{cell_at}
use Rattle.frames.proofs.text.EntriesDisplay.fmt.Given as goal

abbrev pub invariant-loop-address : goal.invariant-loop-address
invariant-loop-address g l =
    Told g.W.Write.write_str_gives (λ a. entry_text g.R.CellText.text a (cell_at g.R.CellRow.bytes l.self.cells a)) (addresses 8 (8 * l.self.page.number) l.self.page.map) l.initial.f l.f l.yielded (addresses_left l.address-iterator)
