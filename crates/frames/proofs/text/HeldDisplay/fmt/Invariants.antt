use Rattle.std.proofs.Common.{◌*◌, ◌++◌, codes, decimal}
use Rattle.frames.specs.Addressed.{addresses, addresses_left}
use Rattle.frames.proofs.Telling.{Told}
use Rattle.frames.proofs.text.HeldDisplay.fmt.Given as goal

abbrev pub invariant-loop-address : goal.invariant-loop-address
invariant-loop-address g l =
    Told g.W.Write.write_str_gives (λ a. codes " " ++ decimal a) (addresses 8 (8 * l.self.page.number) l.self.page.map) l.initial.f l.f l.yielded (addresses_left l.address-iterator)
