use Rattle.std.proofs.Common.{◌≡◌, ℕ, List, ◌++◌, drop, ap, ◌∙◌, w32, of_z, rules}
use Rattle.cells.specs.Readings.{row_bytes, standing}
use Rattle.cells.specs.BigEndian.{be_four}
use Rattle.cells.proofs.readings.ReadingRowCellRow.put.Goals as goal

pub returns : goal.returns
returns c =
    let row = c.from-row.result in
    let e = be_four (of_z w32 row.level) in
    let f = be_four row.second in
    let laid : c.copy_from_slice.new.self ≡ row_bytes row = search rules in
    let stands : row ≡ standing c.args.self = c.from-row.ensures.0 ∙ c.reading.ensures in
    ap (λ (l : List ℕ). l ++ drop 9 c.args.out.now) (laid ∙ ap row_bytes stands)
