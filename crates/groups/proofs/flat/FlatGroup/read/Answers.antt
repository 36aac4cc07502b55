use Rattle.std.proofs.Common.{◌*◌, get_or, sym, ◌∙◌, arith}
use Rattle.std.proofs.lemmas.Option.{slice_get-get_or}
use Rattle.groups.specs.Rows.{cells_of}
use Rattle.groups.proofs.RowCalls.{cell_at}
use Rattle.groups.proofs.TableCalls.{read_found}
use Rattle.groups.proofs.flat.FlatGroup.read.Goals as goal

pub returns : goal.returns
returns g c =
    let s = c.args.self.now in
    let R = g.R.CellRow in
    let n = s.table.shape.volumes * s.table.shape.blocks in
    let a = c.in_ok-a.a in
    let x = get_or s.rows.now a c.index-self-a.result in
    read_found s.table c.args.v c.args.b a (cells_of R.bytes n s.rows.now) (R.bytes x) (sym c.address.ensures.answer ∙ c.in_ok-a.was) (λ h. cell_at R.bytes s.rows.now n a x h (slice_get-get_or s.rows.now a c.index-self-a.result (omega (arith, s.fits))))
