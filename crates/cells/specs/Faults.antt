-- Refusals by number, and how a fault gains its place on the way up. Assumes nothing.
use Rattle.std.specs.Prelude.{ℕ, Some, None, Ok, Err, Result}
use Rattle.cells.specs.declared.fault.Refusal.{Refusal}
use Rattle.cells.specs.declared.fault.Refusal.TheVariants.{NoSuchPlace, WrongShape, ShortMemory, NumberOutOfRange, GroupsDiffer, ReadOnly, NotSending, StillSending, TakenOver, StillFollowing, Torn, NotAFrame, NotACell, WrongDirection, CycleAhead, SetMismatch}
use Rattle.cells.specs.declared.fault.Layer.{Layer}
use Rattle.cells.specs.declared.fault.Layer.TheVariants.{Cell, Frame, Group}
use Rattle.cells.specs.declared.fault.Side.{Side}
use Rattle.cells.specs.declared.fault.Fault.{Fault}

-- the number that operators know a refusal by
abbrev pub refusal_number : Refusal → ℕ
refusal_number NoSuchPlace = 1
refusal_number WrongShape = 2
refusal_number ShortMemory = 3
refusal_number NumberOutOfRange = 4
refusal_number GroupsDiffer = 5
refusal_number ReadOnly = 6
refusal_number NotSending = 7
refusal_number StillSending = 8
refusal_number TakenOver = 9
refusal_number StillFollowing = 10
refusal_number Torn = 11
refusal_number NotAFrame = 12
refusal_number NotACell = 13
refusal_number WrongDirection = 14
refusal_number CycleAhead = 15
refusal_number SetMismatch = 16

-- a refusal of a layer, on neither side yet
abbrev pub fault : Refusal → Layer → Fault
fault r l = record { refusal = r; layer = l; side = None; cycle = 0; volume = None }

-- a group's refusal, with its volume
abbrev pub fault_in : Refusal → ℕ → Fault
fault_in r v = record { refusal = r; layer = Group; side = None; cycle = 0; volume = Some v }

-- bytes that are no frame; bytes or numbers that make no cell
abbrev pub not_a_frame : Fault
not_a_frame = fault NotAFrame Frame

abbrev pub not_a_cell : Fault
not_a_cell = fault NotACell Cell

-- a fault from below, on the side and in the cycle of the end that passes it up
abbrev pub placed : Side → ℕ → Fault → Fault
placed side cycle f = record { refusal = f.refusal; layer = f.layer; side = Some side; cycle = cycle; volume = f.volume }

abbrev pub placed_in : {X : Type 0} → Side → ℕ → Result X Fault → Result X Fault
placed_in side cycle (Ok x) = Ok x
placed_in side cycle (Err f) = Err (placed side cycle f)

-- a result, by what its value means
abbrev pub answered : {X Y : Type 0} → (X → Y) → Result X Fault → Result Y Fault
answered of (Ok x) = Ok (of x)
answered of (Err f) = Err f
