use Rattle.std.proofs.Common.{◌*◌, codes, rules}
use Rattle.frames.specs.Addressed.{addresses, addresses_left}
use Rattle.frames.specs.Frames.{places}
use Rattle.frames.specs.Texts.{entry_text, entries_text, head_text}
use Rattle.frames.proofs.Telling.{entries-addresses, told_behind, told_more}
use Rattle.frames.proofs.Walking.{cell_at, cell_at-is}
use Rattle.frames.proofs.text.EntriesDisplay.fmt.Goals as goal

pub loop-address-preserved : goal.loop-address-preserved
loop-address-preserved g c =
    let e = c.args.self.now in
    let p = e.page in
    let text = g.R.CellText.text in
    let bytes = g.R.CellRow.bytes in
    told_more g.W.Write.write_str_gives (λ a. entry_text text a (cell_at bytes e.cells a)) (addresses 8 (8 * p.number) p.map)
    c.write.new.self c.loop-address.f c.write-in-loop-address.new.self c.loop-address.yielded (addresses_left c.loop-address.address-iterator) (addresses_left c.next.new.self) c.in-Some.address
    c.in-Some.ensures.steps
    (λ plain.
    let r = c.index-self-address.result in
    let cell = cell_at-is bytes e.cells c.in-Some.address r e.eight c.index-self-address.is in
    let told = g.met.R.CellText.told r in
    rw cell (search rules)) c.loop-address.invariant

pub returns-clause-writes : goal.returns-clause-writes
returns-clause-writes g c =
    λ plain ok.
    let e = c.args.self.now in
    let p = e.page in
    let text = g.R.CellText.text in
    let bytes = g.R.CellRow.bytes in
    told_behind g.W.Write.write_str_gives (λ a. entry_text text a (cell_at bytes e.cells a)) (addresses 8 (8 * p.number) p.map) (head_text (codes "entries ") p.cycle p.number) (entries_text text (8 * p.number) (places bytes p.map e.cells))
    c.args.f.now c.write.new.self c.loop-address.f c.loop-address.yielded (addresses_left c.loop-address.address-iterator)
    (search rules) c.in-None.ensures.steps.0 c.loop-address.invariant (entries-addresses bytes text p.number p.map e.cells e.eight)
