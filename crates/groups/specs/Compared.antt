-- What is read back after a write, and when two groups hold the same. Assumes nothing.
use Rattle.std.specs.Prelude.{◌≡◌, ℕ, cond, [], Ok, Err, Result}
use Rattle.cells.specs.declared.fault.Fault.{Fault}
use Rattle.groups.specs.Meaning.{Cell, Dimensions, GroupMeaning, dimensions, inside, no_place, read_only_fault}

-- the cell written, if the write is taken
abbrev pub read_back : GroupMeaning → ℕ → ℕ → Cell → Result Cell Fault
read_back m v b x = cond (inside m v b) (cond (m.takes [] v) (Ok x) (Err (read_only_fault v))) (Err (no_place v))

-- two groups of one shape, equal cell by cell
pub record SameCells (m n : GroupMeaning) : Type 0 where
  pub volumes : m.volumes ≡ n.volumes
  pub blocks : m.blocks ≡ n.blocks
  pub cells : m.cells ≡ n.cells

-- both groups have a place, and the same cell there
abbrev pub SameAnswers : Result Cell Fault → Result Cell Fault → Type 0
SameAnswers (Ok x) (Ok y) = x ≡ y
SameAnswers (Ok x) (Err f) = ⊥
SameAnswers (Err f) s = ⊥

-- two groups of one shape
pub record SameShape (m n : GroupMeaning) (shape : Dimensions) : Type 0 where
  pub one : dimensions m ≡ shape
  pub other : dimensions n ≡ shape
