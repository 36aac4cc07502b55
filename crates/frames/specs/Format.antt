-- Reading bytes as a frame. Assumes nothing.
use Rattle.std.specs.Prelude.{◌≡◌, ℕ, zero, suc, ◌*◌, ◌/◌, ◌%◌, Bool, true, false, cond, ◌&&◌, ◌⊎◌, List, [], ◌∷◌, length, take, drop, Some, None, Ok, Err, Result, ◌==◌, ◌≢◌, count_ones, nat_le, nat_lt, slice_index}
use Rattle.cells.specs.declared.fault.Fault.{Fault}
use Rattle.cells.specs.Faults.{not_a_frame, not_a_cell}
use Rattle.cells.specs.Numbers.{field}
use Rattle.frames.specs.Meaning.{FrameMeaning, Places, entries, marker, held, whole, encoded, Formed, all_read, cells_read}

-- bytes cut into n places of w bytes, where the map has a bit, the lowest first
unfoldable pub parted : ℕ → ℕ → ℕ → List ℕ → Places
parted w zero m bs = []
parted w (suc n) m bs = cond (m % 2 == 1) (Some (take w bs) ∷ parted w n (m / 2) (drop w bs)) (None ∷ parted w n (m / 2) bs)

-- the number of a cycle that has a set; the page and the map of a page's frame
abbrev pub numbered : ℕ → Bool
numbered c = nat_le 1 c && nat_lt c 4294967295

abbrev pub paged : ℕ → ℕ → ℕ → Bool
paged c p m = numbered c && (nat_le p 511 && nat_le 1 m)

-- the numbers of a page, or the refusal
abbrev pub page_of : ℕ → ℕ → ℕ → Result (ℕ × ℕ × ℕ) Fault
page_of c p m = cond (paged c p m) (Ok (c, p, m)) (Err not_a_frame)

-- the frame of fields that were read, or the refusal
abbrev pub marker_of : ℕ → ℕ → Result FrameMeaning Fault
marker_of c n = cond (numbered c && nat_le n 4096) (Ok (marker c n)) (Err not_a_frame)

abbrev pub held_of : ℕ → ℕ → ℕ → Result FrameMeaning Fault
held_of c p m = cond (paged c p m) (Ok (held c p m)) (Err not_a_frame)

abbrev pub whole_of : ℕ → Result FrameMeaning Fault
whole_of c = cond (nat_lt c 4294967295) (Ok (whole c)) (Err not_a_frame)

abbrev pub entries_of : ℕ → ℕ → ℕ → Places → Result FrameMeaning Fault
entries_of c p m ps = cond (paged c p m) (Ok (entries c p ps)) (Err not_a_frame)

-- the same of cells that have yet to be cut and read
abbrev pub entries_in : ℕ → (List ℕ → Bool) → ℕ → ℕ → ℕ → List ℕ → Result FrameMeaning Fault
entries_in w reads c p m bs =
    cond (length bs == count_ones m * w && paged c p m)
    (cond (all_read reads (parted w 8 m bs)) (Ok (entries c p (parted w 8 m bs))) (Err not_a_cell))
    (Err not_a_frame)

-- bytes as a frame of each kind, whatever the first byte: the cycle lies at byte 1, the page or the count
-- at byte 5, a map at byte 7 and cells behind it
abbrev pub decoded_entries : ℕ → (List ℕ → Bool) → List ℕ → Result FrameMeaning Fault
decoded_entries w reads bs = cond (nat_le 8 (length bs)) (entries_in w reads (field 4 1 bs) (field 2 5 bs) (slice_index bs 7) (drop 8 bs)) (Err not_a_frame)

abbrev pub decoded_marker : List ℕ → Result FrameMeaning Fault
decoded_marker bs = cond (length bs == 7) (marker_of (field 4 1 bs) (field 2 5 bs)) (Err not_a_frame)

abbrev pub decoded_held : List ℕ → Result FrameMeaning Fault
decoded_held bs = cond (length bs == 8) (held_of (field 4 1 bs) (field 2 5 bs) (slice_index bs 7)) (Err not_a_frame)

abbrev pub decoded_whole : List ℕ → Result FrameMeaning Fault
decoded_whole bs = cond (length bs == 5) (whole_of (field 4 1 bs)) (Err not_a_frame)

-- what reading bytes gives
abbrev pub decoded : ℕ → (List ℕ → Bool) → List ℕ → Result FrameMeaning Fault
decoded w reads bs =
    cond (slice_index bs 0 == 7) (decoded_entries w reads bs)
    (cond (slice_index bs 0 == 9) (decoded_marker bs)
    (cond (slice_index bs 0 == 19) (decoded_held bs)
    (cond (slice_index bs 0 == 1) (decoded_whole bs) (Err not_a_frame))))

-- what reading must answer, by what is written: a frame exactly for the bytes that it is written as;
-- the refusal of a cell exactly where those of a frame hold a cell that the kind refuses; the refusal of
-- a frame exactly where no frame is written so
abbrev pub Exact : ℕ → (List ℕ → Bool) → List ℕ → Result FrameMeaning Fault → Type 0
Exact w reads bs (Ok f) = Formed w f × (cells_read reads f ≡ true) × (encoded f ≡ bs)
Exact w reads bs (Err e) =
    ((e ≡ not_a_cell) × ((f : FrameMeaning) × (Formed w f × (cells_read reads f ≡ false) × (encoded f ≡ bs))))
    ⊎ ((e ≡ not_a_frame) × ((f : FrameMeaning) → Formed w f → encoded f ≢ bs))
