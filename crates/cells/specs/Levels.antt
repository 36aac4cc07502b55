-- Levels in millimetres. Assumes nothing.
use Rattle.std.specs.Prelude.{Bool, ◌&&◌, ℤ, pos, negsuc, int_le}

-- a gauge's range: -50,000 to 500,000
abbrev pub in_range : ℤ → Bool
in_range z = int_le (negsuc 49999) z && int_le z (pos 500000)
