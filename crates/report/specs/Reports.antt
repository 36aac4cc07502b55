-- What is told of a datagram. Assumes nothing.
use Rattle.std.specs.Prelude.{◌≡◌, ℕ, Bool, List, ◌++◌, IfOk, Some, None, Ok, Err, codes, decimal, Option, Result}
use Rattle.std.specs.Option.{option_map}
use Rattle.cells.specs.declared.fault.Fault.{Fault}
use Rattle.cells.specs.Faults.{refusal_number}
use Rattle.frames.specs.Format.{decoded}
use Rattle.frames.specs.Meaning.{FrameMeaning, entries, marker, held, whole}
use Rattle.frames.specs.Texts.{frame_text}
use Rattle.report.specs.declared.tally.Outcome.{Outcome}
use Rattle.report.specs.declared.tally.Outcome.TheVariants as outcome

-- the answer to reading a datagram
abbrev pub answer_text : (List ℕ → List ℕ) → Result FrameMeaning Fault → List ℕ
answer_text text (Ok f) = frame_text text f
answer_text text (Err e) = codes "refused " ++ decimal (refusal_number e.refusal)

abbrev pub frame_outcome : FrameMeaning → Outcome
frame_outcome (entries c p ps) = outcome.Entries
frame_outcome (marker c n) = outcome.Marker
frame_outcome (held c p m) = outcome.Held
frame_outcome (whole c) = outcome.Whole

abbrev pub answer_outcome : Result FrameMeaning Fault → Outcome
answer_outcome (Ok f) = frame_outcome f
answer_outcome (Err e) = outcome.Refused

-- the answer to a line of a capture, if it has a datagram
abbrev pub heard : ℕ → (List ℕ → Bool) → Option (List ℕ) → Option (Result FrameMeaning Fault)
heard w reads o = option_map (decoded w reads) o

abbrev pub line_text : (List ℕ → List ℕ) → Option (Result FrameMeaning Fault) → List ℕ
line_text text None = codes "?"
line_text text (Some a) = answer_text text a

abbrev pub line_outcome : Option (Result FrameMeaning Fault) → Outcome
line_outcome None = outcome.Unreadable
line_outcome (Some a) = answer_outcome a

-- unless memory ran out, the text was appended, and this is the answer
abbrev pub Told : {T E : Type 0} → Result T E → T → List ℕ → List ℕ → List ℕ → Type 0
Told r answer old text new = IfOk r (λ t. (t ≡ answer) × (new ≡ old ++ text))
