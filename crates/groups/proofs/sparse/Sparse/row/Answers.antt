use Rattle.std.proofs.Common.{sym, ◌∙◌}
use Rattle.groups.proofs.RecordCounts.{used_in}
use Rattle.groups.proofs.RecordPlaces.{row_first, row_found}
use Rattle.groups.proofs.sparse.Sparse.row.Goals as goal

pub returns-in-Some : goal.returns-in-Some
returns-in-Some g c =
    let s = c.args.self.now in
    rw c.in_use.ensures (row_found s.records.now s.used c.args.address c.in-Some.i c.index-in_use-i.result (used_in s) (sym c.find.ensures ∙ c.in-Some.is))

pub returns-in-None : goal.returns-in-None
returns-in-None g c =
    let s = c.args.self.now in
    row_first s.records.now s.used c.args.address c.index-self-0.result (used_in s) (sym c.find.ensures ∙ c.in-None.is)
