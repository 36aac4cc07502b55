-- A raw block's sixteen bytes. Assumes nothing.
use Rattle.std.specs.Prelude.{ℕ, Bool, List, ◌++◌, length, ◌==◌}
use Rattle.cells.specs.declared.raw.RawBlock.{RawBlock}
use Rattle.cells.specs.Numbers.{be, field}

abbrev pub raw_bytes : RawBlock → List ℕ
raw_bytes r = be 8 r.high ++ be 8 r.low

abbrev pub raw_reads : List ℕ → Bool
raw_reads bs = length bs == 16

-- the block that sixteen bytes write
abbrev pub raw_at : List ℕ → RawBlock
raw_at bs = record { high = field 8 0 bs; low = field 8 8 bs }
