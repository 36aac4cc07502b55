use Rattle.std.proofs.Common.{◌≡◌, [], sym, ap, ◌∙◌, subst, ⊎_elim, arith, refl}
use Rattle.std.specs.Iterator.Adapters.{zip_first, zip_second}
use Rattle.std.specs.Slice.Iter.{chunks_exact_rest, chunks_exact_size}
use Rattle.std.proofs.lemmas.Result.{err_from_is_err_and}
use Rattle.cells.proofs.CellOf.{read_from_ok, unread_from_err}
use Rattle.frames.specs.Meaning.{all_read}
use Rattle.frames.specs.Format.{parted}
use Rattle.frames.specs.Frames.{CellsOf}
use Rattle.frames.specs.Addressed.{addresses_left}
use Rattle.frames.proofs.Cutting.{reading_all, reading_ends, reading_first, reading_more, reading_stops}
use Rattle.frames.proofs.Places.{read_places}
use Rattle.frames.proofs.reader.read_cells.Goals as goal

pub loop-address-init : goal.loop-address-init
loop-address-init g c =
    let zip = ap zip_first c.into_iter-address-iterator.ensures.into_iter_gives ∙ c.zip-address-items.ensures.first in
    let of = ap zip_second c.into_iter-address-iterator.ensures.into_iter_gives ∙ c.zip-address-items.ensures.second in
    record {
      cut = reading_first g.R.CellRow.bytes g.R.CellRow.reads g.R.CellRow.width c.args.page.number c.args.page.map c.args.bytes.now _ _ _ refl c.requires (ap addresses_left zip ∙ c.addresses.ensures) (ap chunks_exact_rest of ∙ c.chunks_exact.ensures.rest);
      wide = ap chunks_exact_size of ∙ c.chunks_exact.ensures.size ∙ c.width.ensures;
    }

pub returns-in_err-cells : goal.returns-in_err-cells
returns-in_err-cells g c =
    let w = g.R.CellRow.width in
    let reads = g.R.CellRow.reads in
    let m = c.args.page.map in
    let v = c.loop-address.invariant in
    let s = c.in-Some.ensures.steps in
    let p = err_from_is_err_and c.from_residual.result c.from_residual.ensures.1 in
    let u = unread_from_err reads c.in-Some.cell.now c.in_err-cells.field-0.0 c.in_err-cells.ensures.answer in
    let stop = reading_stops g.R.CellRow.bytes reads w c.args.page.number m c.args.bytes.now c.loop-address.cells _ (addresses_left (zip_first c.next.new.self)) _ (chunks_exact_rest (zip_second c.next.new.self)) c.in-Some.address c.in-Some.cell.now s.0 s.1.1.0 (s.1.1.1 ∙ v.wide) u.0 v.cut in
    subst (CellsOf g.R.CellRow.bytes reads m (parted w 8 m c.args.bytes.now)) (sym p.1) (stop, p.2 ∙ u.1)

pub loop-address-preserved : goal.loop-address-preserved
loop-address-preserved g c =
    let v = c.loop-address.invariant in
    let s = c.in-Some.ensures.steps in
    let r = read_from_ok g.R.CellRow.reads c.in-Some.cell.now (g.R.CellRow.bytes c.in_ok-cells.field-0) c.in_ok-cells.ensures.answer in
    record {
      cut = reading_more g.R.CellRow.bytes g.R.CellRow.reads g.R.CellRow.width c.args.page.number c.args.page.map c.args.bytes.now c.loop-address.cells _ (addresses_left (zip_first c.next.new.self)) _ (chunks_exact_rest (zip_second c.next.new.self)) c.in-Some.address c.in-Some.cell.now c.in_ok-cells.field-0 s.0 s.1.1.0 (s.1.1.1 ∙ v.wide) r.1 v.cut;
      wide = s.1.0 ∙ v.wide;
    }

pub returns : goal.returns
returns g c =
    let bytes = g.R.CellRow.bytes in
    let reads = g.R.CellRow.reads in
    let w = g.R.CellRow.width in
    let m = c.args.page.map in
    let rs = c.loop-address.cells in
    let v = c.loop-address.invariant in
    let left = addresses_left (zip_first c.loop-address.address-iterator) in
    let none : left ≡ [] =
    ⊎_elim (λ a. a.1.0) (λ b. reading_ends bytes reads w c.args.page.number m c.args.bytes.now rs left (chunks_exact_rest (zip_second c.loop-address.address-iterator)) (omega (arith, v.wide, b.1.1.0)) v.cut) c.in-None.ensures.steps in
    let all = reading_all bytes reads w c.args.page.number m c.args.bytes.now rs left (chunks_exact_rest (zip_second c.loop-address.address-iterator)) none v.cut in
    (v.cut.eight, all, ap (all_read reads) (sym all) ∙ read_places bytes reads w g.met.R.CellRow.read g.met.R.CellRow.wide m rs)
