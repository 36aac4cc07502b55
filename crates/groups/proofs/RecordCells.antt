-- A sparse group's records, by the cells that they stand for. Assumes nothing.
use Rattle.std.proofs.Common.{◌≡◌, ℕ, ◌*◌, ◌<◌, max, Bool, true, false, cond, eqb, List, [], map, length, set, Some, count_by, sym, refl, ap, ◌∙◌, subst, arith}
use Rattle.std.proofs.lemmas.List.FromFn.{get_or-map-range_with_len, length-map-range_with_len}
use Rattle.std.proofs.lemmas.Option.{slice_get-get_or}
use Rattle.std.proofs.lemmas.Bool.{and_parts}
use Rattle.std.specs.List.{range_with_len, slice_get}
use Rattle.groups.specs.declared.records.Record.{Record}
use Rattle.groups.specs.declared.volumes.VolumeTable.{VolumeTable}
use Rattle.groups.specs.Meaning.{Cell, address_in, after_write}
use Rattle.groups.specs.Records.{Single, cell_by, has_record, in_use, place_in, record_cells, records_written, row_in, sparse_meaning, used_after}
use Rattle.groups.specs.Tables.{Ready, admits, after_admit, has, kept}
use Rattle.groups.proofs.Basics.{address_below, few, over_cond}
use Rattle.groups.proofs.RecordCounts.{set_counted}
use Rattle.groups.proofs.RecordWrites.{room, row_put, single_still}
use Rattle.groups.proofs.TableCalls.{write_kept}

module _ {R : Type 0} (bytes : R → Cell) where
  pub cell_found : (rs : List (Record R)) (used n a : ℕ) (r : R) → a < n → row_in rs used a ≡ Some r → slice_get (record_cells bytes n rs used) a ≡ Some (bytes r)
  cell_found rs used n a r h e =
      let f = λ (k : ℕ). cell_by bytes (row_in rs used k) in
      let l = length-map-range_with_len f 0 n in
      slice_get-get_or (map f (range_with_len 0 n)) a [] (omega arith) ∙ ap Some (get_or-map-range_with_len f 0 n a a [] h (omega arith) ∙ ap (cell_by bytes) e)

  cells_if : (test : Bool) (rs : List (Record R)) (used n a p : ℕ) (row : R) → used ≡ count_by (has_record (in_use rs used)) (range_with_len 0 n) → n < length rs → p ≡ place_in rs used a → (test ≡ true → a < n) → record_cells bytes n (cond test (set rs p (record { address = a; cell = row })) rs) (cond test (max used p) used) ≡ cond test (set (record_cells bytes n rs used) a (bytes row)) (record_cells bytes n rs used)
  cells_if false rs used n a p row single fits at low = refl
  cells_if true rs used n a p row single fits at low =
      let h : p < length rs = subst (λ (k : ℕ). k < length rs) (sym at) (room a row rs used n single fits (low refl)) in
      set_counted (λ (k : ℕ). cell_by bytes (row_in rs used k)) (λ (k : ℕ). cell_by bytes (row_in (set rs p (record { address = a; cell = row })) (max used p) k)) n a (bytes row) (low refl)
      (λ k. ap (cell_by bytes) (row_put a row rs used p at h k) ∙ over_cond (cell_by bytes) (eqb k a) (Some row) (row_in rs used k))

  module _ (t : VolumeTable) (rs : List (Record R)) (used v b : ℕ) (row : R) where
    admitted : admits t v b ≡ true → address_in t.shape.blocks v b < t.shape.volumes * t.shape.blocks
    admitted e = address_below t.shape.volumes t.shape.blocks v b (and_parts (has t v b) _ e).0

    -- an address that the table answers is small, and there is a place for its record
    module _ (ready : Ready t) (single : Single t rs used) (fits : t.shape.volumes * t.shape.blocks < length rs) (a : ℕ) (e : (admits t v b ≡ true) × (a ≡ address_in t.shape.blocks v b)) where
      pub low : a < t.shape.volumes * t.shape.blocks
      low = subst (λ (k : ℕ). k < t.shape.volumes * t.shape.blocks) (sym e.1) (admitted e.0)

      pub small : a < 65536
      small = omega (arith, low, few t.shape.volumes t.shape.blocks ready.0)

      pub placed : (i : ℕ) → i ≡ place_in rs used a → i < length rs
      placed i p = subst (λ (k : ℕ). k < length rs) (sym p) (room a row rs used (t.shape.volumes * t.shape.blocks) single fits low)

      pub single_after : (i u : ℕ) → i ≡ place_in rs used a → u ≡ max used i → Single t (set rs i (record { address = a; cell = row })) u
      single_after i u p q = subst (Single t (set rs i (record { address = a; cell = row }))) (sym q) (single_still a row rs used (t.shape.volumes * t.shape.blocks) single fits low i p)

    -- the meaning after a write, from the table, the records and their count after it
    pub sparse_written : Single t rs used → t.shape.volumes * t.shape.blocks < length rs → (t' : VolumeTable) (rs' : List (Record R)) (used' : ℕ) → t' ≡ after_admit t v b → rs' ≡ records_written t rs used v b row → used' ≡ used_after t rs used v b → sparse_meaning bytes t' rs' used' ≡ after_write (sparse_meaning bytes t rs used) v b (bytes row)
    sparse_written single fits t' rs' used' p q r =
        let n = t.shape.volumes * t.shape.blocks in
        ap (λ (k : VolumeTable). sparse_meaning bytes k rs' used') p
        ∙ ap (λ (l : List (Record R)). sparse_meaning bytes (after_admit t v b) l used') q
        ∙ ap (sparse_meaning bytes (after_admit t v b) (records_written t rs used v b row)) r
        ∙ ap (kept (after_admit t v b)) (cells_if (admits t v b) rs used n (address_in t.shape.blocks v b) (place_in rs used (address_in t.shape.blocks v b)) row single fits refl admitted)
        ∙ write_kept t v b (record_cells bytes n rs used) (bytes row)

    -- one that is taken lays the record at the place of its address
    pub records_laid : (a i : ℕ) → (admits t v b ≡ true) × (a ≡ address_in t.shape.blocks v b) → i ≡ place_in rs used a → (set rs i (record { address = a; cell = row }) ≡ records_written t rs used v b row) × (max used i ≡ used_after t rs used v b)
    records_laid a i e at =
        let s = address_in t.shape.blocks v b in
        let p : i ≡ place_in rs used s = at ∙ ap (place_in rs used) e.1 in (
          ap (λ (k : ℕ). set rs k (record { address = a; cell = row })) p ∙ ap (λ (k : ℕ). set rs (place_in rs used s) (record { address = k; cell = row })) e.1 ∙ ap (λ (k : Bool). cond k (set rs (place_in rs used s) (record { address = s; cell = row })) rs) (sym e.0),
          ap (max used) p ∙ ap (λ (k : Bool). cond k (max used (place_in rs used s)) used) (sym e.0),
        )
