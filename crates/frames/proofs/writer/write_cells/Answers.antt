use Rattle.std.proofs.Common.{◌+◌, length, ap, ◌∙◌, arith}
use Rattle.frames.specs.Addressed.{addresses_left}
use Rattle.frames.proofs.Laying.{laid_none, laid_more, laid_all}
use Rattle.frames.proofs.writer.write_cells.Goals as goal

pub loop-address-init : goal.loop-address-init
loop-address-init g c =
    let e = c.args.entries.now in
    laid_none g.R.CellRow.bytes e.cells e.page.map c.args.out.now e.page.number (addresses_left c.into_iter-address-iterator.result) e.eight
    (ap addresses_left c.into_iter-address-iterator.ensures.into_iter_gives ∙ c.addresses-address-items.ensures)

pub put_at-requires : goal.put_at-requires
put_at-requires g c =
    let s = c.in-Some.ensures.steps in
    let l = c.loop-address.invariant.low in
    omega (arith, ap length s, g.met.R.CellRow.most)

pub loop-address-preserved : goal.loop-address-preserved
loop-address-preserved g c =
    let e = c.args.entries.now in
    let at = c.loop-address.at in
    let r = c.index-entries-address.result in
    laid_more g.R.CellRow.bytes e.cells e.page.map c.args.out.now c.loop-address.out c.put_at.new.out (addresses_left c.loop-address.address-iterator) (addresses_left c.next.new.self) c.in-Some.address at (at + c.width-width.result) g.R.CellRow.width r
    c.in-Some.ensures.steps
    (ap (λ n. at + n) c.width-width.ensures)
    e.eight
    c.index-entries-address.is
    (omega arith)
    g.met.R.CellRow.most
    (g.met.R.CellRow.wide r)
    (cc)
    c.loop-address.invariant

pub returns : goal.returns
returns g c =
    let e = c.args.entries.now in
    let p = laid_all g.R.CellRow.bytes e.cells e.page.map c.args.out.now c.loop-address.out (addresses_left c.loop-address.address-iterator) c.loop-address.at c.in-None.ensures.steps.0 (omega arith) c.loop-address.invariant in
    record { size = p.0; laid = p.1; most = omega arith }
