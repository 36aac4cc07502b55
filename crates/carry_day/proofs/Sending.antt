-- What sending a frame comes to. Assumes nothing.
use Rattle.std.proofs.Common.{◌≡◌, ℕ, ◌*◌, ◌/◌, ◌%◌, ◌^◌, List, ◌++◌, length, take, replicate, Ok, Err, Result, sym, ap, ◌∙◌, mod-lt, arith}
use Rattle.std.proofs.lemmas.Nat.{one_shl}
use Rattle.std.proofs.lemmas.List.{take_at}
use Rattle.cells.specs.declared.fault.Fault.{Fault}
use Rattle.cells.specs.declared.reading.ReadingRow.{ReadingRow}
use Rattle.cells.specs.Faults.{answered}
use Rattle.cells.specs.Readings.{reading_bytes}
use Rattle.frames.specs.Format.{entries_of}
use Rattle.frames.specs.Frames.{places}
use Rattle.frames.specs.Meaning.{FrameMeaning, encoded}
use Rattle.carry_day.specs.Carried.{frame_of}

-- a frame that could not be made
pub unmade : {X : Type 0} (of : X → FrameMeaning) (r : Result X Fault) (f : Result FrameMeaning Fault) (e : Fault) → answered of r ≡ f → r ≡ Err e → f ≡ Err e
unmade of r f e p q = sym p ∙ ap (answered of) q

pub made : {X : Type 0} (of : X → FrameMeaning) (r : Result X Fault) (f : Result FrameMeaning Fault) (x : X) → answered of r ≡ f → r ≡ Ok x → f ≡ Ok (of x)
made of r f x p q = sym p ∙ ap (answered of) q

-- the bytes written are those at the buffer's front
pub front : (f : FrameMeaning) (rest out : List ℕ) (n : ℕ) → n ≡ length (encoded f) → out ≡ encoded f ++ rest → take n out ≡ encoded f
front f rest out n p q = ap (take n) q ∙ take_at (encoded f) rest n (sym p)

-- one bit of a map
pub one_bit : (a : ℕ) (row : ReadingRow) → entries_of 1 (a / 8) (1 * 2 ^ (a % 8) % 256) (places reading_bytes (1 * 2 ^ (a % 8) % 256) (replicate 8 row)) ≡ frame_of a row
one_bit a row = ap (λ (m : ℕ). entries_of 1 (a / 8) m (places reading_bytes m (replicate 8 row))) (one_shl (a % 8) 8 (mod-lt a (omega arith)))
