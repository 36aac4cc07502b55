-- A table of volume records, what the calls on it leave, and the meaning of a group that keeps one. Assumes nothing.
use Rattle.std.specs.Prelude.{◌≡◌, ℕ, ◌+◌, ◌-◌, ◌^◌, min, Bool, true, false, cond, not, ◌&&◌, List, [], ◌∷◌, map, length, take, replicate, Ok, Err, Result, nat_lt, slice_index_or, slice_set}
use Rattle.cells.specs.declared.fault.Fault.{Fault}
use Rattle.groups.specs.declared.volumes.VolumeRecord.{VolumeRecord}
use Rattle.groups.specs.declared.volumes.VolumeTable.{VolumeTable}
use Rattle.groups.specs.Meaning.{Cell, GroupCall, GroupMeaning, Shaped, address_in, inside_of, no_place, read_only_fault, remount, write}

-- a record of a volume that has taken nothing
abbrev pub unused : VolumeRecord
unused = record { read_only = false; taken = 0 }

-- a record with its mark as given; up; down; with one more write taken, if the count has room for it
abbrev pub marked_as : Bool → VolumeRecord → VolumeRecord
marked_as mark r = record { read_only = mark; taken = r.taken }

abbrev pub up : VolumeRecord → VolumeRecord
up r = marked_as true r

abbrev pub down : VolumeRecord → VolumeRecord
down r = marked_as false r

abbrev pub counted : VolumeRecord → VolumeRecord
counted r = record { read_only = r.read_only; taken = min (r.taken + 1) (2 ^ 32 - 1) }

-- a volume's record
abbrev pub record_of : VolumeTable → ℕ → VolumeRecord
record_of t v = slice_index_or t.records v unused

-- the table with a volume's record altered, if the test says so
abbrev pub altered_if : Bool → (VolumeRecord → VolumeRecord) → VolumeTable → ℕ → VolumeTable
altered_if test f t v = record { shape = t.shape; records = cond test (slice_set t.records v (f (record_of t v))) t.records }

-- a table of a group with every mark down and nothing taken
abbrev pub fresh_table : ℕ → ℕ → VolumeTable
fresh_table volumes blocks = record { shape = record { volumes = volumes; blocks = blocks }; records = replicate 8 unused }

-- the table's eight records serve a group of its shape
abbrev pub Ready : VolumeTable → Type 0
Ready t = Shaped t.shape.volumes t.shape.blocks × (length t.records ≡ 8)

-- whether the table has a place
abbrev pub has : VolumeTable → ℕ → ℕ → Bool
has t v b = inside_of t.shape.volumes t.shape.blocks v b

-- whether the table lets a write to a place through, and what it answers and holds then
abbrev pub admits : VolumeTable → ℕ → ℕ → Bool
admits t v b = has t v b && not (record_of t v).read_only

abbrev pub admit_answer : VolumeTable → ℕ → ℕ → Result ℕ Fault
admit_answer t v b = cond (has t v b) (cond (record_of t v).read_only (Err (read_only_fault v)) (Ok (address_in t.shape.blocks v b))) (Err (no_place v))

abbrev pub after_admit : VolumeTable → ℕ → ℕ → VolumeTable
after_admit t v b = altered_if (admits t v b) counted t v

-- a volume's record altered, if the table has the volume
abbrev pub volume_answer : {X : Type 0} → VolumeTable → ℕ → X → Result X Fault
volume_answer t v x = cond (nat_lt v t.shape.volumes) (Ok x) (Err (no_place v))

abbrev pub after_alter : (VolumeRecord → VolumeRecord) → VolumeTable → ℕ → VolumeTable
after_alter f t v = altered_if (nat_lt v t.shape.volumes) f t v

-- the marks of a table's volumes
abbrev pub marks_of : VolumeTable → List Bool
marks_of t = take t.shape.volumes (map (λ r. r.read_only) t.records)

-- marks after more calls, where only a remount takes one down and no call puts one up
abbrev pub marks_after : List Bool → List GroupCall → List Bool
marks_after ms [] = ms
marks_after ms (write v b x ∷ h) = marks_after ms h
marks_after ms (remount v ∷ h) = marks_after (slice_set ms v false) h

-- a group that refuses a write only while the volume's mark is up
abbrev pub marking : ℕ → ℕ → List Cell → List Bool → GroupMeaning
marking volumes blocks cs ms = record {
  volumes = volumes;
  blocks = blocks;
  cells = cs;
  marks = ms;
  takes = λ h v. not (slice_index_or (marks_after ms h) v false);
}

-- what a group that keeps a table means, by its cells
abbrev pub kept : VolumeTable → List Cell → GroupMeaning
kept t cs = marking t.shape.volumes t.shape.blocks cs (marks_of t)
