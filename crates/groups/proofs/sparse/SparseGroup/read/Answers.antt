use Rattle.std.proofs.Common.{◌*◌, sym, ◌∙◌}
use Rattle.groups.specs.Records.{record_cells}
use Rattle.groups.proofs.RecordCells.{cell_found}
use Rattle.groups.proofs.TableCalls.{read_found}
use Rattle.groups.proofs.sparse.SparseGroup.read.Goals as goal

pub returns : goal.returns
returns g c =
    let s = c.args.self.now in
    let R = g.R.CellRow in
    let n = s.table.shape.volumes * s.table.shape.blocks in
    let a = c.in_ok-a.a in
    read_found s.table c.args.v c.args.b a (record_cells R.bytes n s.records.now s.used) (R.bytes c.row.result) (sym c.address.ensures.answer ∙ c.in_ok-a.was) (λ h. cell_found R.bytes s.records.now s.used n a c.row.result h c.row.ensures)
