use Rattle.std.proofs.Common.{◌*◌, ap, ◌∙◌}
use Rattle.groups.specs.declared.volumes.VolumeTable.{VolumeTable}
use Rattle.groups.specs.Rows.{cells_of, flat_meaning}
use Rattle.groups.proofs.TableCalls.{remount_kept}
use Rattle.groups.proofs.flat.FlatGroup.remount.Goals as goal

pub returns-clause-after : goal.returns-clause-after
returns-clause-after g c =
    let s = c.args.self.now in
    let R = g.R.CellRow in
    ap (λ (t : VolumeTable). flat_meaning R.bytes t s.rows.now) c.remount.ensures.after ∙ remount_kept s.table c.args.v (cells_of R.bytes (s.table.shape.volumes * s.table.shape.blocks) s.rows.now)
