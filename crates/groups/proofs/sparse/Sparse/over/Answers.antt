use Rattle.std.proofs.Common.{◌*◌}
use Rattle.groups.proofs.RecordCounts.{count_none}
use Rattle.groups.proofs.sparse.Sparse.over.Goals as goal

pub invariant_of-result-clause-single : goal.invariant_of-result-clause-single
invariant_of-result-clause-single g c = count_none 0 (c.new.result.shape.volumes * c.new.result.shape.blocks)
