-- A sparse group's memory: the first record has the cell of every address that none of those in use has. Assumes nothing.
use Rattle.std.specs.Prelude.{◌≡◌, ℕ, ◌+◌, ◌*◌, ◌<◌, max, Bool, true, false, cond, List, [], ◌∷◌, map, length, take, drop, Some, None, count_by, Option, ◌==◌, slice_set}
use Rattle.std.proofs.lemmas.List.FromFn.{length-map-range_with_len}
use Rattle.std.specs.List.{position_or_len, range_with_len}
use Rattle.std.proofs.Common.{not-suc-le-zero}
use Rattle.cells.specs.Numbers.{Bytes}
use Rattle.groups.specs.declared.records.Record.{Record}
use Rattle.groups.specs.declared.volumes.VolumeTable.{VolumeTable}
use Rattle.groups.specs.Marking.{kept_lawful, map_celled}
use Rattle.groups.specs.Meaning.{Cell, Celled, GroupLaws, GroupMeaning, address_in}
use Rattle.groups.specs.Tables.{Ready, admits, kept}

-- the records in use: so many after the first
abbrev pub in_use : {R : Type 0} → List (Record R) → ℕ → List (Record R)
in_use rs used = take used (drop 1 rs)

-- what the first record of an address gives, or d if none is of that address
abbrev pub look_by : {R X : Type 0} → (Record R → X) → X → List (Record R) → ℕ → X
look_by f d [] a = d
look_by f d (r ∷ rs) a = cond (r.address == a) (f r) (look_by f d rs a)

-- whether an address has a record
abbrev pub has_record : {R : Type 0} → List (Record R) → ℕ → Bool
has_record rs a = look_by (λ _. true) false rs a

-- the row of an address
abbrev pub row_in : {R : Type 0} → List (Record R) → ℕ → ℕ → Option R
row_in [] used a = None
row_in (r ∷ rs) used a = Some (look_by (λ s. s.cell) r.cell (take used rs) a)

-- whether a record is that of an address
abbrev pub is_of : {R : Type 0} → ℕ → Record R → Bool
is_of a r = r.address == a

-- the place of an address's record, or of the first record that is not in use
abbrev pub place_in : {R : Type 0} → List (Record R) → ℕ → ℕ → ℕ
place_in rs used a = 1 + position_or_len (is_of a) (in_use rs used)

-- the records in use are as many as the addresses that have one, so that no address has two and none is of no place
abbrev pub Single : {R : Type 0} → VolumeTable → List (Record R) → ℕ → Type 0
Single t rs used = used ≡ count_by (has_record (in_use rs used)) (range_with_len 0 (t.shape.volumes * t.shape.blocks))

-- the memory and the count of records in use after a write
abbrev pub records_written : {R : Type 0} → VolumeTable → List (Record R) → ℕ → ℕ → ℕ → R → List (Record R)
records_written t rs used v b row = cond (admits t v b) (slice_set rs (place_in rs used (address_in t.shape.blocks v b)) (record { address = address_in t.shape.blocks v b; cell = row })) rs

abbrev pub used_after : {R : Type 0} → VolumeTable → List (Record R) → ℕ → ℕ → ℕ → ℕ
used_after t rs used v b = cond (admits t v b) (max used (place_in rs used (address_in t.shape.blocks v b))) used

-- the cell of an address
abbrev pub cell_by : {R : Type 0} → (R → Cell) → Option R → Cell
cell_by bytes (Some r) = bytes r
cell_by bytes None = []

abbrev pub record_cells : {R : Type 0} → (R → Cell) → ℕ → List (Record R) → ℕ → List Cell
record_cells bytes n rs used = map (λ a. cell_by bytes (row_in rs used a)) (range_with_len 0 n)

-- what a sparse group means
abbrev pub sparse_meaning : {R : Type 0} → (R → Cell) → VolumeTable → List (Record R) → ℕ → GroupMeaning
sparse_meaning bytes t rs used = kept t (record_cells bytes (t.shape.volumes * t.shape.blocks) rs used)

pub records_lawful : {R : Type 0} (bytes : R → Cell) (t : VolumeTable) (rs : List (Record R)) (used : ℕ) → Ready t → GroupLaws (sparse_meaning bytes t rs used)
records_lawful bytes t rs used r =
    let n = t.shape.volumes * t.shape.blocks in
    kept_lawful t (record_cells bytes n rs used) r (length-map-range_with_len (λ (a : ℕ). cell_by bytes (row_in rs used a)) 0 n)

-- whatever records hold, they stand for cells of the kind
pub records_celled : {R : Type 0} (bytes : R → Cell) (reads : List ℕ → Bool) → ((r : R) → reads (bytes r) ≡ true) → ((r : R) → Bytes (bytes r)) → (t : VolumeTable) (rs : List (Record R)) (used : ℕ) → t.shape.volumes * t.shape.blocks < length rs → Celled reads (sparse_meaning bytes t rs used)
records_celled bytes reads p q t [] used h = absurd (not-suc-le-zero h)
records_celled bytes reads p q t (r ∷ rs) used h =
    map_celled reads (λ (a : ℕ). cell_by bytes (row_in (r ∷ rs) used a)) (λ a. (p _, q _)) (range_with_len 0 (t.shape.volumes * t.shape.blocks))
