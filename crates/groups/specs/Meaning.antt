-- What a group of volumes means, with what it foretells, and what its calls answer and leave. Assumes nothing.
use Rattle.std.specs.Prelude.{◌≡◌, ℕ, ◌+◌, ◌*◌, ◌≤◌, Bool, true, false, cond, ◌&&◌, List, [], ◌∷◌, length, Some, None, Ok, Err, Option, Result, nat_lt, slice_index_or, slice_set}
use Rattle.std.specs.List.{AllByRecursion, slice_get}
use Rattle.cells.specs.declared.fault.Fault.{Fault}
use Rattle.cells.specs.declared.fault.Refusal.TheVariants.{NoSuchPlace, ReadOnly}
use Rattle.cells.specs.Faults.{fault_in}
use Rattle.cells.specs.Numbers.{Bytes}

-- a cell, by its bytes
abbrev pub Cell : Type 0
Cell = List ℕ

-- the calls that alter a group of any type, with their arguments: volume, block and cell; volume
pub data GroupCall : Type 0 where
  write : ℕ → ℕ → Cell → GroupCall
  remount : ℕ → GroupCall

-- volumes and blocks; the cell of each address; each volume's read-only mark; and whether the next write to a
-- volume would be taken, now and after any further calls
pub record GroupMeaning : Type 0 where
  pub volumes : ℕ
  pub blocks : ℕ
  pub cells : List Cell
  pub marks : List Bool
  pub takes : List GroupCall → ℕ → Bool

-- block b of volume v, counted through all volumes
abbrev pub address_in : ℕ → ℕ → ℕ → ℕ
address_in blocks v b = v * blocks + b

-- whether a group of so many volumes and blocks has block b of volume v
abbrev pub inside_of : ℕ → ℕ → ℕ → ℕ → Bool
inside_of volumes blocks v b = nat_lt v volumes && nat_lt b blocks

abbrev pub inside : GroupMeaning → ℕ → ℕ → Bool
inside m v b = inside_of m.volumes m.blocks v b

-- a place that the group does not have; a volume that does not take the write
abbrev pub no_place : ℕ → Fault
no_place v = fault_in NoSuchPlace v

abbrev pub read_only_fault : ℕ → Fault
read_only_fault v = fault_in ReadOnly v

-- the meaning after a write that is taken: one cell is another
abbrev pub stored : GroupMeaning → ℕ → ℕ → Cell → GroupMeaning
stored m v b x = record {
  volumes = m.volumes;
  blocks = m.blocks;
  cells = slice_set m.cells (address_in m.blocks v b) x;
  marks = m.marks;
  takes = λ h. m.takes (write v b x ∷ h);
}

-- the meaning after a write that is not taken: the volume's mark is up
abbrev pub marked : GroupMeaning → ℕ → ℕ → Cell → GroupMeaning
marked m v b x = record {
  volumes = m.volumes;
  blocks = m.blocks;
  cells = m.cells;
  marks = slice_set m.marks v true;
  takes = λ h. m.takes (write v b x ∷ h);
}

abbrev pub after_write : GroupMeaning → ℕ → ℕ → Cell → GroupMeaning
after_write m v b x = cond (inside m v b) (cond (m.takes [] v) (stored m v b x) (marked m v b x)) m

abbrev pub write_answer : GroupMeaning → ℕ → ℕ → Result Unit Fault
write_answer m v b = cond (inside m v b) (cond (m.takes [] v) (Ok tt) (Err (read_only_fault v))) (Err (no_place v))

-- the meaning after a remount: the volume's mark is down
abbrev pub mounted : GroupMeaning → ℕ → GroupMeaning
mounted m v = record {
  volumes = m.volumes;
  blocks = m.blocks;
  cells = m.cells;
  marks = slice_set m.marks v false;
  takes = λ h. m.takes (remount v ∷ h);
}

abbrev pub after_remount : GroupMeaning → ℕ → GroupMeaning
after_remount m v = cond (nat_lt v m.volumes) (mounted m v) m

abbrev pub remount_answer : GroupMeaning → ℕ → Result Unit Fault
remount_answer m v = cond (nat_lt v m.volumes) (Ok tt) (Err (no_place v))

-- what a read answers: the cell of the place
abbrev pub found : ℕ → Option Cell → Result Cell Fault
found v (Some x) = Ok x
found v None = Err (no_place v)

abbrev pub read_answer : GroupMeaning → ℕ → ℕ → Result Cell Fault
read_answer m v b = cond (inside m v b) (found v (slice_get m.cells (address_in m.blocks v b))) (Err (no_place v))

-- the meaning after further calls, one after another
abbrev pub after : GroupCall → GroupMeaning → GroupMeaning
after (write v b x) m = after_write m v b x
after (remount v) m = after_remount m v

abbrev pub ran : List GroupCall → GroupMeaning → GroupMeaning
ran [] m = m
ran (c ∷ h) m = ran h (after c m)

-- how many volumes a group has, and of how many blocks
pub record Dimensions : Type 0 where
  pub volumes : ℕ
  pub blocks : ℕ

abbrev pub dimensions : GroupMeaning → Dimensions
dimensions m = record { volumes = m.volumes; blocks = m.blocks }

-- 1 to 8 volumes of 1 to 512 blocks
abbrev pub Shaped : ℕ → ℕ → Type 0
Shaped volumes blocks = (1 ≤ volumes) × (volumes ≤ 8) × (1 ≤ blocks) × (blocks ≤ 512)

-- bytes that are a cell of the kind that reads them
abbrev pub IsCell : (List ℕ → Bool) → Cell → Type 0
IsCell reads x = (reads x ≡ true) × Bytes x

-- every cell of a group is one of the kind
abbrev pub Celled : (List ℕ → Bool) → GroupMeaning → Type 0
Celled reads m = AllByRecursion (IsCell reads) m.cells

-- what holds of every group
pub record GroupLaws (m : GroupMeaning) : Type 0 where
  -- its shape is in range
  pub shaped : Shaped m.volumes m.blocks
  -- it has a cell for each address, and a mark for each volume
  pub sized : length m.cells ≡ m.volumes * m.blocks
  pub many : length m.marks ≡ m.volumes
  -- while a mark is up, now or after any further calls, every write to its volume is foretold as refused
  pub stands : (h : List GroupCall) (v : ℕ) → slice_index_or (ran h m).marks v false ≡ true → (ran h m).takes [] v ≡ false
