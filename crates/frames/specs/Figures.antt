-- Worked figures of cells and frames. Assumes nothing.
use Rattle.std.specs.Prelude.{◌≡◌, ℕ, ◌/◌, ◌%◌, Bool, List, [], ◌∷◌, replicate, pos, negsuc, Some, None, Ok, Err, slice_set}
use Rattle.cells.specs.declared.reading.Quality.TheVariants.{Good}
use Rattle.cells.specs.declared.reading.ReadingRow.{ReadingRow}
use Rattle.cells.specs.Cells.{cell_of}
use Rattle.cells.specs.Faults.{not_a_frame, not_a_cell}
use Rattle.cells.specs.Readings.{quality_of, reading_bytes, reading_of, reading_reads}
use Rattle.frames.specs.Meaning.{FrameMeaning, entries, whole, encoded}
use Rattle.frames.specs.Format.{decoded}

-- the frame of one entry, by its cycle, its address and its cell
abbrev pub entry_at : ℕ → ℕ → List ℕ → FrameMeaning
entry_at c a cell = entries c (a / 8) (slice_set (replicate 8 None) (a % 8) (Some cell))

-- five millimetres below the gauge's zero, at second 60, good
abbrev pub low_reading : ReadingRow
low_reading = record { level = negsuc 4; second = 60; quality = 0 }

abbrev pub low_bytes : List ℕ
low_bytes = 0xff ∷ 0xff ∷ 0xff ∷ 0xfb ∷ 0x00 ∷ 0x00 ∷ 0x00 ∷ 0x3c ∷ 0x00 ∷ []

-- a level's four bytes, at second 0, good
abbrev pub at_level : ℕ → ℕ → ℕ → ℕ → List ℕ
at_level a b c d = a ∷ b ∷ c ∷ d ∷ 0x00 ∷ 0x00 ∷ 0x00 ∷ 0x00 ∷ 0x00 ∷ []

pub record WorkedFigures : Type 0 where
  -- the reading is its nine bytes, and is read from them
  pub reading : reading_bytes low_reading ≡ low_bytes
  pub reading_back : cell_of reading_reads low_bytes ≡ Ok low_bytes
  -- at address 2 in cycle 1 it is this frame
  pub entry : encoded (entry_at 1 2 (reading_bytes low_reading)) ≡ 0x07 ∷ 0x00 ∷ 0x00 ∷ 0x00 ∷ 0x01 ∷ 0x00 ∷ 0x00 ∷ 0x04 ∷ low_bytes
  pub entry_back : decoded 9 reading_reads (0x07 ∷ 0x00 ∷ 0x00 ∷ 0x00 ∷ 0x01 ∷ 0x00 ∷ 0x00 ∷ 0x04 ∷ low_bytes) ≡ Ok (entry_at 1 2 low_bytes)
  -- for any kind: cycle 0 may be whole, and may have no marker
  pub whole_none : (w : ℕ) (reads : List ℕ → Bool) → decoded w reads (0x01 ∷ 0x00 ∷ 0x00 ∷ 0x00 ∷ 0x00 ∷ []) ≡ Ok (whole 0)
  pub marker_none : (w : ℕ) (reads : List ℕ → Bool) → decoded w reads (0x09 ∷ 0x00 ∷ 0x00 ∷ 0x00 ∷ 0x00 ∷ 0x00 ∷ 0x00 ∷ []) ≡ Err not_a_frame
  -- level 500,000 is read and made, 500,001 is not
  pub highest : cell_of reading_reads (at_level 0x00 0x07 0xa1 0x20) ≡ Ok (reading_bytes (record { level = pos 500000; second = 0; quality = 0 }))
  pub highest_made : reading_of (pos 500000) 0 Good ≡ Ok (record { level = pos 500000; second = 0; quality = 0 })
  pub above : cell_of reading_reads (at_level 0x00 0x07 0xa1 0x21) ≡ Err not_a_cell
  pub above_made : reading_of (pos 500001) 0 Good ≡ Err not_a_cell
  -- nor is quality 4
  pub quality : cell_of reading_reads (0x00 ∷ 0x00 ∷ 0x00 ∷ 0x00 ∷ 0x00 ∷ 0x00 ∷ 0x00 ∷ 0x00 ∷ 0x04 ∷ []) ≡ Err not_a_cell
  pub quality_made : quality_of 4 ≡ Err not_a_cell
