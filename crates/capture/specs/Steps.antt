-- Reading a line a character at a time. Assumes nothing.
use Rattle.std.specs.Prelude.{◌≡◌, ℕ, ◌+◌, ◌*◌, cond, List, [], ◌∷◌, ◌++◌, length, Some, None, Option, ◌==◌, nat_lt}
use Rattle.std.specs.List.{fold}
use Rattle.capture.specs.declared.line.Nibble.{Nibble}
use Rattle.capture.specs.declared.line.Stage.{Stage}
use Rattle.capture.specs.declared.line.Stage.TheVariants.{Gap, Half, Joint, Broken}
use Rattle.capture.specs.declared.line.HexLine.{HexLine}
use Rattle.capture.specs.Hex.{Due, pair, second, any, digit_of, datagram_of}

-- a line read so far: the bytes of its whole pairs, and what may come next, or nothing where it is broken
pub record LineMeaning : Type 0 where
  pub due : Option Due
  pub bytes : List ℕ

abbrev pub value_of : Nibble → ℕ
value_of n = n.value

abbrev pub due_of : Stage → Option Due
due_of Gap = Some pair
due_of (Half n) = Some (second n.value)
due_of Joint = Some any
due_of Broken = None

abbrev pub line_of : HexLine → LineMeaning
line_of h = record { due = due_of h.stage; bytes = h.bytes.items }

abbrev pub line : Option Due → List ℕ → LineMeaning
line d bs = record { due = d; bytes = bs }

-- a line of which nothing has been read
abbrev pub blank : LineMeaning
blank = line (Some pair) []

-- a byte more, if there is room for it
abbrev pub joined : List ℕ → ℕ → LineMeaning
joined bs b = cond (nat_lt (length bs) 136) (line (Some any) (bs ++ (b ∷ []))) (line None bs)

-- a pair's first digit, and its second, which makes a byte
abbrev pub opened : List ℕ → Option ℕ → LineMeaning
opened bs None = line None bs
opened bs (Some d) = line (Some (second d)) bs

abbrev pub closed : ℕ → List ℕ → Option ℕ → LineMeaning
closed h bs None = line None bs
closed h bs (Some d) = joined bs (16 * h + d)

abbrev pub pushed_at : Option Due → List ℕ → ℕ → LineMeaning
pushed_at None bs c = line None bs
pushed_at (Some pair) bs c = opened bs (digit_of c)
pushed_at (Some (second h)) bs c = closed h bs (digit_of c)
pushed_at (Some any) bs c = cond (c == 32) (line (Some pair) bs) (opened bs (digit_of c))

-- one character more
abbrev pub pushed : LineMeaning → ℕ → LineMeaning
pushed l c = pushed_at l.due l.bytes c

-- the datagram, where the line may end here
abbrev pub ended_at : Option Due → List ℕ → Option (List ℕ)
ended_at None bs = None
ended_at (Some pair) bs = None
ended_at (Some (second h)) bs = None
ended_at (Some any) bs = Some bs

abbrev pub ended : LineMeaning → Option (List ℕ)
ended l = ended_at l.due l.bytes

-- all the characters of a text
abbrev pub read : LineMeaning → List ℕ → LineMeaning
read l cs = fold pushed l cs

-- whatever a line holds, a character after the other gives its datagram, or none where it has none
abbrev pub EveryLineIsRead : Type 0
EveryLineIsRead = (text : List ℕ) → ended (read blank text) ≡ datagram_of text
