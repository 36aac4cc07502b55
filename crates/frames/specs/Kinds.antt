-- Kinds of frame, by their first byte. Assumes nothing.
use Rattle.std.specs.Prelude.{ℕ, Bool, cond, List, length, drop, Ok, Err, Result, ◌==◌, nat_le, slice_index}
use Rattle.cells.specs.declared.fault.Fault.{Fault}
use Rattle.cells.specs.Faults.{not_a_frame}
use Rattle.cells.specs.Numbers.{field}
use Rattle.frames.specs.Meaning.{FrameMeaning}
use Rattle.frames.specs.Format.{entries_in, held_of, marker_of, whole_of}
use Rattle.frames.specs.declared.kind.Kind.{Kind}
use Rattle.frames.specs.declared.kind.Kind.TheVariants.{Whole, Entries, Marker, Held}

abbrev pub kind_byte : Kind → ℕ
kind_byte Whole = 1
kind_byte Entries = 7
kind_byte Marker = 9
kind_byte Held = 19

abbrev pub kind_of : ℕ → Result Kind Fault
kind_of b = cond (b == 7) (Ok Entries) (cond (b == 9) (Ok Marker) (cond (b == 19) (Ok Held) (cond (b == 1) (Ok Whole) (Err not_a_frame))))

-- the bytes behind a cycle as the fields of each kind: the page or the count lies first, then a map and cells
abbrev pub entries_behind : ℕ → (List ℕ → Bool) → ℕ → List ℕ → Result FrameMeaning Fault
entries_behind w reads c fs = cond (nat_le 3 (length fs)) (entries_in w reads c (field 2 0 fs) (slice_index fs 2) (drop 3 fs)) (Err not_a_frame)

abbrev pub marker_behind : ℕ → List ℕ → Result FrameMeaning Fault
marker_behind c fs = cond (length fs == 2) (marker_of c (field 2 0 fs)) (Err not_a_frame)

abbrev pub held_behind : ℕ → List ℕ → Result FrameMeaning Fault
held_behind c fs = cond (length fs == 3) (held_of c (field 2 0 fs) (slice_index fs 2)) (Err not_a_frame)

abbrev pub whole_behind : ℕ → List ℕ → Result FrameMeaning Fault
whole_behind c fs = cond (length fs == 0) (whole_of c) (Err not_a_frame)

-- and as those of a kind
abbrev pub fields_as : ℕ → (List ℕ → Bool) → Kind → ℕ → List ℕ → Result FrameMeaning Fault
fields_as w reads Entries c fs = entries_behind w reads c fs
fields_as w reads Marker c fs = marker_behind c fs
fields_as w reads Held c fs = held_behind c fs
fields_as w reads Whole c fs = whole_behind c fs
