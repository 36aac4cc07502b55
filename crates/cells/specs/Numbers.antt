-- Numbers as bytes, the highest first. Assumes nothing.
use Rattle.std.specs.Prelude.{ℕ, zero, suc, ◌/◌, ◌%◌, List, [], ◌∷◌, ◌++◌, take, drop}
use Rattle.std.specs.Int.Digits.{AllBelowBase, number_from_digits}

-- bytes: numbers below 256
abbrev pub Bytes : List ℕ → Type 0
Bytes bs = AllBelowBase 256 bs

-- a number as so many bytes
unfoldable pub be : ℕ → ℕ → List ℕ
be zero n = []
be (suc k) n = be k (n / 256) ++ (n % 256 ∷ [])

-- the number that bytes write
abbrev pub value : List ℕ → ℕ
value bs = number_from_digits 256 bs

-- the number that so many bytes from a place on write
abbrev pub field : ℕ → ℕ → List ℕ → ℕ
field k at bs = value (take k (drop at bs))
