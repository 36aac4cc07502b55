-- Frames as text. Assumes nothing.
use Rattle.std.specs.Prelude.{ℕ, zero, suc, ◌+◌, ◌*◌, ◌/◌, ◌%◌, cond, List, [], ◌∷◌, ◌++◌, Some, None, codes, decimal, ◌==◌}
use Rattle.frames.specs.Meaning.{FrameMeaning, Places, entries, marker, held, whole}

-- a word, and two numbers behind it
abbrev pub head_text : List ℕ → ℕ → ℕ → List ℕ
head_text word m n = word ++ (decimal m ++ (codes " " ++ decimal n))

-- one entry: its address and its cell
abbrev pub entry_text : (List ℕ → List ℕ) → ℕ → List ℕ → List ℕ
entry_text text a c = codes " " ++ (decimal a ++ (codes "=" ++ text c))

-- the entries of a page, from an address on
abbrev pub entries_text : (List ℕ → List ℕ) → ℕ → Places → List ℕ
entries_text text a [] = []
entries_text text a (None ∷ ps) = entries_text text (a + 1) ps
entries_text text a (Some c ∷ ps) = entry_text text a c ++ entries_text text (a + 1) ps

-- the addresses whose bit stands in a map of n bits, from an address on
abbrev pub held_text : ℕ → ℕ → ℕ → List ℕ
held_text zero a m = []
held_text (suc n) a m = cond (m % 2 == 1) (codes " " ++ decimal a) [] ++ held_text n (a + 1) (m / 2)

-- a frame
abbrev pub frame_text : (List ℕ → List ℕ) → FrameMeaning → List ℕ
frame_text text (entries c p ps) = head_text (codes "entries ") c p ++ entries_text text (8 * p) ps
frame_text text (marker c n) = head_text (codes "marker ") c n
frame_text text (held c p m) = head_text (codes "held ") c p ++ held_text 8 (8 * p) m
frame_text text (whole c) = codes "whole " ++ decimal c
