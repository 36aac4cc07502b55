-- What the program's frames mean. Assumes nothing.
use Rattle.std.specs.Prelude.{◌≡◌, ℕ, ◌/◌, ◌%◌, Bool, true, false, cond, List, [], ◌∷◌, length, Some, None, Ok, Err, Option, Result, ◌==◌, ◌≢◌}
use Rattle.cells.specs.declared.fault.Fault.{Fault}
use Rattle.cells.specs.Faults.{not_a_cell}
use Rattle.frames.specs.declared.frame.Entries.{Entries}
use Rattle.frames.specs.declared.frame.Marker.{Marker}
use Rattle.frames.specs.declared.frame.Held.{Held}
use Rattle.frames.specs.declared.frame.Page.{Page}
use Rattle.frames.specs.declared.frame.Whole.{Whole}
use Rattle.frames.specs.declared.frame.Frame.{Frame}
use Rattle.frames.specs.declared.frame.Frame.TheVariants as variant
use Rattle.frames.specs.Meaning.{FrameMeaning, Places, all_read, encoded, entries, marker, held, whole}

-- a row, where the map's lowest bit stands
abbrev pub place : {R : Type 0} → (R → List ℕ) → ℕ → R → Option (List ℕ)
place bytes m r = cond (m % 2 == 1) (Some (bytes r)) None

-- the rows whose bit stands
abbrev pub places : {R : Type 0} → (R → List ℕ) → ℕ → List R → Places
places bytes m [] = []
places bytes m (r ∷ rs) = place bytes m r ∷ places bytes (m / 2) rs

-- the three numbers of a page
abbrev pub of_page : Page → ℕ × ℕ × ℕ
of_page p = (p.cycle, p.number, p.map)

abbrev pub of_entries : {R : Type 0} → (R → List ℕ) → Entries R → FrameMeaning
of_entries bytes e = entries e.page.cycle e.page.number (places bytes e.page.map e.cells)

abbrev pub of_marker : Marker → FrameMeaning
of_marker m = marker m.cycle m.count

abbrev pub of_held : Held → FrameMeaning
of_held h = held h.page.cycle h.page.number h.page.map

abbrev pub of_whole : Whole → FrameMeaning
of_whole w = whole w.cycle

abbrev pub meaning : {R : Type 0} → (R → List ℕ) → Frame R → FrameMeaning
meaning bytes (variant.Entries e) = of_entries bytes e
meaning bytes (variant.Marker m) = of_marker m
meaning bytes (variant.Held h) = of_held h
meaning bytes (variant.Whole w) = of_whole w

-- what comes of reading the cells of a page
abbrev pub CellsOf : {R : Type 0} → (R → List ℕ) → (List ℕ → Bool) → ℕ → Places → Result (List R) Fault → Type 0
CellsOf bytes reads m ps (Ok rs) = (length rs ≡ 8) × (places bytes m rs ≡ ps) × (all_read reads ps ≡ true)
CellsOf bytes reads m ps (Err e) = (all_read reads ps ≡ false) × (e ≡ not_a_cell)

-- bytes are read exactly if some frame is written so, and then as that frame
abbrev pub Written : {R : Type 0} → (R → List ℕ) → List ℕ → Result (Frame R) Fault → Type 0
Written bytes bs (Ok f) = encoded (meaning bytes f) ≡ bs
Written {R} bytes bs (Err e) = (f : Frame R) → encoded (meaning bytes f) ≢ bs
