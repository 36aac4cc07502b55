-- A capture read a byte at a time. Assumes nothing.
use Rattle.std.specs.Prelude.{◌≡◌, ℕ, Bool, true, false, cond, List, [], ◌∷◌, ◌++◌, Some, None, Option, is_some, ◌==◌, ◌≢◌}
use Rattle.std.specs.List.{fold}
use Rattle.capture.specs.Hex.{datagram_of}
use Rattle.capture.specs.declared.line.HexLine.{HexLine}
use Rattle.capture.specs.Steps.{LineMeaning, line_of, blank, pushed, ended}
use Rattle.report.specs.declared.tally.Tally.{Tally}
use Rattle.report.specs.Reports.{heard, line_outcome}
use Rattle.report.specs.Tallies.{none, counted}
use Rattle.report.specs.declared.dump.Dumper.{Dumper}

-- the line that is being read, whether it has a character yet, and the lines counted before it
pub record DumpMeaning : Type 0 where
  pub line : LineMeaning
  pub begun : Bool
  pub tally : Tally

-- the line, if it has begun, as far as it has been read
abbrev pub line_begun : Option HexLine → LineMeaning
line_begun None = blank
line_begun (Some l) = line_of l

abbrev pub dump_of : {R W : Type 0} → Dumper R W → DumpMeaning
dump_of d = record { line = line_begun d.line; begun = is_some d.line; tally = d.tally }

abbrev pub started : DumpMeaning
started = record { line = blank; begun = false; tally = none }

module _ (w : ℕ) (reads : List ℕ → Bool) where
  -- the line ends here: it is counted, and the next begins
  abbrev pub line_ended : DumpMeaning → DumpMeaning
  line_ended d = record { line = blank; begun = false; tally = counted (line_outcome (heard w reads (ended d.line))) d.tally }

  -- one byte more; byte 10 ends a line
  abbrev pub byte_read : DumpMeaning → ℕ → DumpMeaning
  byte_read d b = cond (b == 10) (line_ended d) (record { line = pushed d.line b; begun = true; tally = d.tally })

  abbrev pub bytes_read : DumpMeaning → List ℕ → DumpMeaning
  bytes_read d bs = fold byte_read d bs

  -- the input ends here: so does a line that has begun
  abbrev pub finished : DumpMeaning → DumpMeaning
  finished d = cond d.begun (line_ended d) d

  -- lines, each counted by what it spells
  abbrev pub lines_counted : Tally → List (List ℕ) → Tally
  lines_counted t ls = fold (λ u l. counted (line_outcome (heard w reads (datagram_of l))) u) t ls

-- a line has no line feed
abbrev pub Unbroken : List ℕ → Type 0
Unbroken [] = Unit {0}
Unbroken (c ∷ cs) = (c ≢ 10) × Unbroken cs

abbrev pub AllUnbroken : List (List ℕ) → Type 0
AllUnbroken [] = Unit {0}
AllUnbroken (l ∷ ls) = Unbroken l × AllUnbroken ls

-- lines, each with its line feed, and a last one that lacks it
abbrev pub captured : List (List ℕ) → List ℕ → List ℕ
captured [] last = last
captured (l ∷ ls) last = l ++ (10 ∷ captured ls last)

-- the last line is one only if it has a character
abbrev pub all_lines : List (List ℕ) → List ℕ → List (List ℕ)
all_lines ls [] = ls
all_lines ls (c ∷ cs) = ls ++ ((c ∷ cs) ∷ [])

-- of any capture, read a byte at a time to its end, each line is counted once, by what it spells
abbrev pub EveryLineIsCounted : ℕ → (List ℕ → Bool) → Type 0
EveryLineIsCounted w reads = (lines : List (List ℕ)) (last : List ℕ) → AllUnbroken lines → Unbroken last → (finished w reads (bytes_read w reads started (captured lines last))).tally ≡ lines_counted w reads none (all_lines lines last)
