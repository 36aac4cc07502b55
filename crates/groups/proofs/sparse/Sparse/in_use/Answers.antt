use Rattle.std.proofs.Common.{◌<◌, length, arith}
use Rattle.std.proofs.lemmas.Grind.{common_steps}
use Rattle.groups.proofs.RecordCounts.{used_in}
use Rattle.groups.proofs.sparse.Sparse.in_use.Goals as goal

pub slice_bounds-result-end-2 : goal.slice_bounds-result-end-2
slice_bounds-result-end-2 g c =
    let s = c.args.self.now in
    let h : s.used < length s.records.now = used_in s in
    grind (arith, common_steps)
