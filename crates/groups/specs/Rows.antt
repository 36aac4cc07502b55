-- A flat group's memory: a row for each address, and rows beyond them that are never touched. Assumes nothing.
use Rattle.std.specs.Prelude.{◌≡◌, ℕ, ◌*◌, ◌≤◌, Bool, true, cond, List, map, length, take, slice_set}
use Rattle.std.proofs.Common.{◌∙◌}
use Rattle.std.proofs.lemmas.List.{length-map, length-take-le}
use Rattle.cells.specs.Numbers.{Bytes}
use Rattle.groups.specs.declared.volumes.VolumeTable.{VolumeTable}
use Rattle.groups.specs.Marking.{kept_lawful, map_celled}
use Rattle.groups.specs.Meaning.{Cell, Celled, GroupLaws, GroupMeaning, address_in}
use Rattle.groups.specs.Tables.{Ready, admits, kept}

-- the cells that the first n rows stand for
abbrev pub cells_of : {R : Type 0} → (R → Cell) → ℕ → List R → List Cell
cells_of bytes n rows = map bytes (take n rows)

-- what a flat group means
abbrev pub flat_meaning : {R : Type 0} → (R → Cell) → VolumeTable → List R → GroupMeaning
flat_meaning bytes t rows = kept t (cells_of bytes (t.shape.volumes * t.shape.blocks) rows)

-- the rows after a write: the one of the place is the row written, if the write is taken
abbrev pub rows_written : {R : Type 0} → VolumeTable → List R → ℕ → ℕ → R → List R
rows_written t rows v b row = cond (admits t v b) (slice_set rows (address_in t.shape.blocks v b) row) rows

pub rows_lawful : {R : Type 0} (bytes : R → Cell) (t : VolumeTable) (rows : List R) → Ready t → t.shape.volumes * t.shape.blocks ≤ length rows → GroupLaws (flat_meaning bytes t rows)
rows_lawful bytes t rows r fits =
    let n = t.shape.volumes * t.shape.blocks in
    kept_lawful t (cells_of bytes n rows) r (length-map (take n rows) bytes ∙ length-take-le n rows fits)

-- whatever rows hold, they stand for cells of the kind
pub rows_celled : {R : Type 0} (bytes : R → Cell) (reads : List ℕ → Bool) → ((r : R) → reads (bytes r) ≡ true) → ((r : R) → Bytes (bytes r)) → (t : VolumeTable) (rows : List R) → Celled reads (flat_meaning bytes t rows)
rows_celled bytes reads p q t rows = map_celled reads bytes (λ r. (p r, q r)) (take (t.shape.volumes * t.shape.blocks) rows)
