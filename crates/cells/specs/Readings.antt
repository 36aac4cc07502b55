-- Readings, their rows and their nine bytes. Assumes nothing.
use Rattle.std.specs.Prelude.{ℕ, Bool, cond, ◌&&◌, List, [], ◌∷◌, ◌++◌, length, ℤ, pos, Ok, Err, Result, ◌==◌, nat_lt, slice_index}
use Rattle.std.specs.Int.{w32}
use Rattle.std.proofs.Common.{of_z, to_z}
use Rattle.cells.specs.declared.fault.Fault.{Fault}
use Rattle.cells.specs.declared.reading.Quality.{Quality}
use Rattle.cells.specs.declared.reading.Quality.TheVariants.{Good, Doubtful, Estimated, Missing}
use Rattle.cells.specs.declared.reading.Reading.{Reading}
use Rattle.cells.specs.declared.reading.ReadingRow.{ReadingRow}
use Rattle.cells.specs.Faults.{not_a_cell}
use Rattle.cells.specs.Levels.{in_range}
use Rattle.cells.specs.Numbers.{be, field}

-- the number of each quality
abbrev pub quality_number : Quality → ℕ
quality_number Good = 0
quality_number Doubtful = 1
quality_number Estimated = 2
quality_number Missing = 3

abbrev pub quality_of : ℕ → Result Quality Fault
quality_of n = cond (n == 0) (Ok Good) (cond (n == 1) (Ok Doubtful) (cond (n == 2) (Ok Estimated) (cond (n == 3) (Ok Missing) (Err not_a_cell))))

-- a reading's numbers
abbrev pub row_of : Reading → ReadingRow
row_of r = record { level = r.level; second = r.second; quality = quality_number r.quality }

-- whether a row's numbers make a reading
abbrev pub makes : ReadingRow → Bool
makes r = in_range r.level && nat_lt r.quality 4

-- the reading whose numbers are all 0
abbrev pub zeros : ReadingRow
zeros = record { level = pos 0; second = 0; quality = 0 }

-- the numbers of the reading that a row stands for
abbrev pub standing : ReadingRow → ReadingRow
standing r = cond (makes r) r zeros

-- what making a reading of numbers gives
abbrev pub reading_of : ℤ → ℕ → Quality → Result ReadingRow Fault
reading_of level second quality = cond (in_range level) (Ok (record { level = level; second = second; quality = quality_number quality })) (Err not_a_cell)

-- what making a reading of a row's numbers gives
abbrev pub made : ReadingRow → Result ReadingRow Fault
made r = cond (makes r) (Ok r) (Err not_a_cell)

-- nine bytes: the level in two's complement, the second and the quality
abbrev pub row_bytes : ReadingRow → List ℕ
row_bytes r = be 4 (of_z w32 r.level) ++ (be 4 r.second ++ (r.quality ∷ []))

abbrev pub reading_bytes : ReadingRow → List ℕ
reading_bytes r = row_bytes (standing r)

-- the numbers that nine bytes write
abbrev pub row_at : List ℕ → ReadingRow
row_at bs = record { level = to_z w32 (field 4 0 bs); second = field 4 4 bs; quality = slice_index bs 8 }

abbrev pub reading_reads : List ℕ → Bool
reading_reads bs = length bs == 9 && makes (row_at bs)
