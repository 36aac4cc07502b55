use Rattle.std.proofs.Common.{◌*◌, ap, ◌∙◌}
use Rattle.groups.specs.declared.volumes.VolumeTable.{VolumeTable}
use Rattle.groups.specs.Records.{record_cells, sparse_meaning}
use Rattle.groups.proofs.TableCalls.{remount_kept}
use Rattle.groups.proofs.sparse.SparseGroup.remount.Goals as goal

pub returns-clause-after : goal.returns-clause-after
returns-clause-after g c =
    let s = c.args.self.now in
    let R = g.R.CellRow in
    ap (λ (t : VolumeTable). sparse_meaning R.bytes t s.records.now s.used) c.remount.ensures.after ∙ remount_kept s.table c.args.v (record_cells R.bytes (s.table.shape.volumes * s.table.shape.blocks) s.records.now s.used)
