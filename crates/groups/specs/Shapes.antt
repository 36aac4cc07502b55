-- The shape of a group, its places, and the memory that a group of it needs. Assumes nothing.
use Rattle.std.specs.Prelude.{ℕ, ◌+◌, ◌*◌, Bool, cond, ◌&&◌, Ok, Err, Result, nat_le, nat_lt}
use Rattle.cells.specs.declared.fault.Fault.{Fault}
use Rattle.cells.specs.declared.fault.Layer.TheVariants.{Pair}
use Rattle.cells.specs.declared.fault.Refusal.TheVariants.{ShortMemory, WrongShape}
use Rattle.cells.specs.Faults.{fault}
use Rattle.groups.specs.declared.shape.Shape.{Shape}
use Rattle.groups.specs.Meaning.{address_in, inside_of, no_place}

-- whether volumes and blocks make a shape
abbrev pub in_range : ℕ → ℕ → Bool
in_range volumes blocks = nat_le 1 volumes && nat_le volumes 8 && nat_le 1 blocks && nat_le blocks 512

-- what making one answers
abbrev pub shape_answer : ℕ → ℕ → Result Shape Fault
shape_answer volumes blocks = cond (in_range volumes blocks) (Ok (record { volumes = volumes; blocks = blocks })) (Err (fault WrongShape Pair))

-- whether a group of the shape has a volume, and the index of its record
abbrev pub index_answer : Shape → ℕ → Result ℕ Fault
index_answer s v = cond (nat_lt v s.volumes) (Ok v) (Err (no_place v))

-- whether a group of the shape has a place, and the place's address
abbrev pub place_answer : Shape → ℕ → ℕ → Result ℕ Fault
place_answer s v b = cond (inside_of s.volumes s.blocks v b) (Ok (address_in s.blocks v b)) (Err (no_place v))

-- whether memory for so many more than the cells of a group is lent
abbrev pub room_answer : ℕ → Shape → ℕ → Result Unit Fault
room_answer more s lent = cond (nat_le (s.volumes * s.blocks + more) lent) (Ok tt) (Err (fault ShortMemory Pair))

-- the test before making a group: its shape, then the memory
abbrev pub test_answer : ℕ → ℕ → ℕ → ℕ → Result Unit Fault
test_answer more volumes blocks lent = cond (in_range volumes blocks) (cond (nat_le (volumes * blocks + more) lent) (Ok tt) (Err (fault ShortMemory Pair))) (Err (fault WrongShape Pair))
