use Rattle.std.proofs.Common.{◌≡◌, ◌^◌, ◌<◌, true, sym, ap, ◌∙◌, rules}
use Rattle.std.proofs.Output.{has_written_of_eq}
use Rattle.cells.specs.declared.reading.ReadingRow.{ReadingRow}
use Rattle.cells.specs.Readings.{makes, standing, row_at, row_bytes}
use Rattle.cells.specs.ReadingBytes.{makes-standing, row_at-row_bytes}
use Rattle.cells.specs.Texts.{row_text}
use Rattle.cells.proofs.text.ReadingRowDisplay.fmt.Goals as goal

pub returns-clause-writes : goal.returns-clause-writes
returns-clause-writes g c plain ok =
    let row = c.from-level.result in
    let stands : row ≡ standing c.args.self.now = c.from-level.ensures.0 ∙ c.reading.ensures in
    let made : makes row ≡ true = ap makes stands ∙ makes-standing c.args.self.now in
    let small : row.second < 2 ^ 32 = search rules in
    has_written_of_eq _ _ (row_text row) _ _ (ap row_text (sym (row_at-row_bytes row made small) ∙ ap (λ (r : ReadingRow). row_at (row_bytes r)) stands)) (let w = c.write.ensures.writes in search rules)
