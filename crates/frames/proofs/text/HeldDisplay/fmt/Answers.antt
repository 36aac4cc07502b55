use Rattle.std.proofs.Common.{◌*◌, ◌++◌, codes, decimal, rules}
use Rattle.frames.specs.Addressed.{addresses, addresses_left}
use Rattle.frames.specs.Texts.{head_text, held_text}
use Rattle.frames.proofs.Telling.{held-addresses, told_behind}
use Rattle.frames.proofs.text.HeldDisplay.fmt.Goals as goal

pub returns-clause-writes : goal.returns-clause-writes
returns-clause-writes g c =
    λ plain ok.
    let p = c.args.self.now.page in
    told_behind g.W.Write.write_str_gives (λ a. codes " " ++ decimal a) (addresses 8 (8 * p.number) p.map) (head_text (codes "held ") p.cycle p.number) (held_text 8 (8 * p.number) p.map)
    c.args.f.now c.write.new.self c.loop-address.f c.loop-address.yielded (addresses_left c.loop-address.address-iterator)
    (search rules) c.in-None.ensures.steps.0 c.loop-address.invariant (held-addresses 8 (8 * p.number) p.map)
