-- What a frame means, and the bytes that it is written as. Assumes nothing.
use Rattle.std.specs.Prelude.{◌≡◌, ℕ, ◌+◌, ◌*◌, ◌<◌, ◌≤◌, Bool, true, ◌&&◌, List, [], ◌∷◌, ◌++◌, length, Some, None, Option}
use Rattle.cells.specs.Numbers.{be}

-- the eight addresses of a page, each with the bytes of a cell or with nothing
abbrev pub Places : Type 0
Places = List (Option (List ℕ))

-- entries of a page, by cycle and page; a marker, by cycle and count; the addresses held of a page,
-- by cycle, page and map; and a whole cycle
pub data FrameMeaning : Type 0 where
  entries : ℕ → ℕ → Places → FrameMeaning
  marker : ℕ → ℕ → FrameMeaning
  held : ℕ → ℕ → ℕ → FrameMeaning
  whole : ℕ → FrameMeaning

-- a bit for each place that has a cell, the first place's the lowest
abbrev pub map_of : Places → ℕ
map_of [] = 0
map_of (None ∷ ps) = 2 * map_of ps
map_of (Some c ∷ ps) = 1 + 2 * map_of ps

-- the cells one after the other, the first place's first
abbrev pub bodies : Places → List ℕ
bodies [] = []
bodies (None ∷ ps) = bodies ps
bodies (Some c ∷ ps) = c ++ bodies ps

-- the map byte, and then each field whose bit stands in it: cycle (bit 0), page (bit 1), cell map with
-- its cells (bit 2), count (bit 3), held map (bit 4)
abbrev pub encoded : FrameMeaning → List ℕ
encoded (entries c p ps) = 7 ∷ (be 4 c ++ (be 2 p ++ (map_of ps ∷ bodies ps)))
encoded (marker c n) = 9 ∷ (be 4 c ++ be 2 n)
encoded (held c p m) = 19 ∷ (be 4 c ++ (be 2 p ++ (m ∷ [])))
encoded (whole c) = 1 ∷ be 4 c

-- the number of a cycle that has a set
abbrev pub Numbered : ℕ → Type 0
Numbered c = (1 ≤ c) × (c < 4294967295)

-- cells of w bytes
abbrev pub Wide : ℕ → Places → Type 0
Wide w [] = Unit {0}
Wide w (None ∷ ps) = Wide w ps
Wide w (Some c ∷ ps) = (length c ≡ w) × Wide w ps

-- the frames that there are of a kind with cells of w bytes, whatever those bytes
abbrev pub Formed : ℕ → FrameMeaning → Type 0
Formed w (entries c p ps) = Numbered c × (p ≤ 511) × (length ps ≡ 8) × (1 ≤ map_of ps) × Wide w ps
Formed w (marker c n) = Numbered c × (n ≤ 4096)
Formed w (held c p m) = Numbered c × (p ≤ 511) × (1 ≤ m) × (m < 256)
Formed w (whole c) = c < 4294967295

-- whether the kind reads every cell
abbrev pub all_read : (List ℕ → Bool) → Places → Bool
all_read reads [] = true
all_read reads (None ∷ ps) = all_read reads ps
all_read reads (Some c ∷ ps) = reads c && all_read reads ps

abbrev pub cells_read : (List ℕ → Bool) → FrameMeaning → Bool
cells_read reads (entries c p ps) = all_read reads ps
cells_read reads (marker c n) = true
cells_read reads (held c p m) = true
cells_read reads (whole c) = true
