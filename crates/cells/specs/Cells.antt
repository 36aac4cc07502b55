-- Cells, by their bytes. Assumes nothing.
use Rattle.std.specs.Prelude.{◌≡◌, ℕ, Bool, cond, List, Ok, Err, Result, ◌≢◌}
use Rattle.cells.specs.declared.fault.Fault.{Fault}
use Rattle.cells.specs.Faults.{not_a_cell}

-- what reading bytes as a cell gives: the cell, which is those bytes, or the refusal
abbrev pub cell_of : (List ℕ → Bool) → List ℕ → Result (List ℕ) Fault
cell_of reads bs = cond (reads bs) (Ok bs) (Err not_a_cell)

-- bytes are read exactly if some cell is written so, and then as that cell
abbrev pub CellWritten : {R : Type 0} → (R → List ℕ) → List ℕ → Result R Fault → Type 0
CellWritten bytes bs (Ok r) = bytes r ≡ bs
CellWritten {R} bytes bs (Err e) = (r : R) → bytes r ≢ bs
