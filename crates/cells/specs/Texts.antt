-- Cells as text: a kind's numbers in decimal, with commas between them. Assumes nothing.
use Rattle.std.specs.Prelude.{ℕ, List, ◌++◌, codes, decimal}
use Rattle.std.specs.Fmt.{signed_decimal}
use Rattle.cells.specs.declared.raw.RawBlock.{RawBlock}
use Rattle.cells.specs.declared.reading.ReadingRow.{ReadingRow}
use Rattle.cells.specs.Raws.{raw_at}
use Rattle.cells.specs.Readings.{row_at}

-- a raw block: its high and its low number
abbrev pub block_text : RawBlock → List ℕ
block_text r = decimal r.high ++ (codes "," ++ decimal r.low)

abbrev pub raw_text : List ℕ → List ℕ
raw_text bs = block_text (raw_at bs)

-- a reading: its level, its second and its quality
abbrev pub row_text : ReadingRow → List ℕ
row_text r = signed_decimal r.level ++ (codes "," ++ (decimal r.second ++ (codes "," ++ decimal r.quality)))

abbrev pub reading_text : List ℕ → List ℕ
reading_text bs = row_text (row_at bs)
