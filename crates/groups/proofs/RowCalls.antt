-- A flat group's rows, by the cells that they stand for. Assumes nothing.
use Rattle.std.proofs.Common.{◌≡◌, ℕ, zero, suc, ◌*◌, ◌<◌, Bool, true, false, cond, List, [], ◌∷◌, map, take, set, Some, sym, refl, ap, ◌∙◌, le_of_suc-le-suc, not-suc-le-zero}
use lib.Seq.{map-set, take-set-lt}
use Rattle.std.specs.List.{slice_get}
use Rattle.groups.specs.declared.volumes.VolumeTable.{VolumeTable}
use Rattle.groups.specs.Meaning.{Cell, address_in, after_write}
use Rattle.groups.specs.Rows.{cells_of, flat_meaning, rows_written}
use Rattle.groups.specs.Tables.{admits, after_admit, has, kept}
use Rattle.groups.proofs.Basics.{address_below}
use Rattle.groups.proofs.TableCalls.{write_kept}
use Rattle.std.proofs.lemmas.Bool.{and_parts}

module _ {R : Type 0} (bytes : R → Cell) where
  pub cell_at : (rows : List R) (n a : ℕ) (r : R) → a < n → slice_get rows a ≡ Some r → slice_get (cells_of bytes n rows) a ≡ Some (bytes r)
  cell_at rows zero a r h e = absurd (not-suc-le-zero h)
  cell_at [] (suc n) a r h e = absurd (cc)
  cell_at (x ∷ rows) (suc n) zero r h e = let s : x ≡ r = cc in ap (λ (y : R). Some (bytes y)) s
  cell_at (x ∷ rows) (suc n) (suc a) r h e = cell_at rows n a r (le_of_suc-le-suc h) e

  rows_if : (test : Bool) (n a : ℕ) (rows : List R) (row : R) → (test ≡ true → a < n) → cells_of bytes n (cond test (set rows a row) rows) ≡ cond test (set (cells_of bytes n rows) a (bytes row)) (cells_of bytes n rows)
  rows_if true n a rows row h = ap (map bytes) (take-set-lt n rows a row (h refl)) ∙ map-set bytes (take n rows) a row
  rows_if false n a rows row h = refl

  -- a row laid at the place of a write that is taken
  pub rows_written_mean : (t : VolumeTable) (rows : List R) (v b : ℕ) (row : R) → flat_meaning bytes (after_admit t v b) (rows_written t rows v b row) ≡ after_write (flat_meaning bytes t rows) v b (bytes row)
  rows_written_mean t rows v b row =
      let n = t.shape.volumes * t.shape.blocks in
      ap (kept (after_admit t v b)) (rows_if (admits t v b) n (address_in t.shape.blocks v b) rows row (λ e. address_below t.shape.volumes t.shape.blocks v b (and_parts (has t v b) _ e).0))
      ∙ write_kept t v b (cells_of bytes n rows) (bytes row)

  -- one that is taken lays the row at the address that the table answered
  pub rows_laid : (t : VolumeTable) (rows : List R) (v b a : ℕ) (row : R) → (admits t v b ≡ true) × (a ≡ address_in t.shape.blocks v b) → set rows a row ≡ rows_written t rows v b row
  rows_laid t rows v b a row e = ap (λ (k : ℕ). set rows k row) e.1 ∙ ap (λ (k : Bool). cond k (set rows (address_in t.shape.blocks v b) row) rows) (sym e.0)

  -- the meaning after a write, from the table and the rows after it
  pub flat_written : (t t' : VolumeTable) (rows rows' : List R) (v b : ℕ) (row : R) → t' ≡ after_admit t v b → rows' ≡ rows_written t rows v b row → flat_meaning bytes t' rows' ≡ after_write (flat_meaning bytes t rows) v b (bytes row)
  flat_written t t' rows rows' v b row p q =
      ap (λ (k : VolumeTable). flat_meaning bytes k rows') p ∙ ap (flat_meaning bytes (after_admit t v b)) q ∙ rows_written_mean t rows v b row
