use Rattle.std.proofs.Common.{◌≡◌, ℕ, ◌<◌, get_or, Some, Ok, ap, ◌∙◌, rules}
use Rattle.cells.specs.BigEndian.{bytes_from}
use Rattle.cells.specs.Readings.{row_at}
use Rattle.cells.specs.ReadingBytes.{nine_made}
use Rattle.cells.proofs.CellOf.{sized_from_some}
use Rattle.cells.proofs.readings.ReadingRowCellRow.get.Goals as goal

pub returns : goal.returns
returns c =
    let bs = c.args.from.now in
    let row = c.in_ok-row.row in
    let small : (i : ℕ) → get_or bs i 0 < 256 = λ i. let f = c.type_inv.from i in search rules in
    let some : Some row ≡ c.row_at.result = let v = c.in_ok-row.ensures.value in search rules in
    let n = sized_from_some 9 bs row (row_at bs) (some ∙ c.row_at.ensures) in
    nine_made bs row c.from.result (bytes_from bs small) n.0 n.1 (ap Ok c.from.ensures.0 ∙ c.in_ok-reading.ensures)
