-- A capture read a byte at a time is its lines, counted one after the other. Assumes nothing.
use Rattle.std.proofs.Common.{◌≡◌, ℕ, Bool, true, false, eqb, List, [], ◌∷◌, ◌++◌, Option, refl, ap, ◌∙◌}
use Rattle.std.proofs.lemmas.Bool.{cond-false, ne_eqb}
use Rattle.capture.specs.Hex.{datagram_of}
use Rattle.capture.specs.Steps.{LineMeaning, blank, pushed, ended, read}
use Rattle.capture.proofs.Lines.{every_line_is_read}
use Rattle.report.specs.declared.tally.Tally.{Tally}
use Rattle.report.specs.Reports.{heard, line_outcome}
use Rattle.report.specs.Tallies.{none, counted}
use Rattle.report.specs.Dumping.{DumpMeaning, line_ended, byte_read, bytes_read, finished, lines_counted, Unbroken, AllUnbroken, captured, all_lines, EveryLineIsCounted}

module _ (w : ℕ) (reads : List ℕ → Bool) where
  at : LineMeaning → Bool → Tally → DumpMeaning
  at l b t = record { line = l; begun = b; tally = t }

  -- a character that is no line feed is pushed
  byte_pushed : (l : LineMeaning) (b : Bool) (t : Tally) (c : ℕ) → (c ≡ 10 → ⊥) → byte_read w reads (at l b t) c ≡ at (pushed l c) true t
  unfolding at
  byte_pushed l b t c h = cond-false (eqb c 10) (line_ended w reads (at l b t)) (at (pushed l c) true t) (ne_eqb c 10 h)

  -- a line and its line feed
  line_read : (text rest : List ℕ) (l : LineMeaning) (b : Bool) (t : Tally) → Unbroken text → bytes_read w reads (at l b t) (text ++ (10 ∷ rest)) ≡ bytes_read w reads (line_ended w reads (at (read l text) b t)) rest
  unfolding at
  line_read [] rest l b t h = refl
  line_read (c ∷ cs) rest l b t h =
      ap (λ (d : DumpMeaning). bytes_read w reads d (cs ++ (10 ∷ rest))) (byte_pushed l b t c h.0) ∙ line_read cs rest (pushed l c) true t h.1

  -- a line without one
  tail_read : (text : List ℕ) (l : LineMeaning) (t : Tally) → Unbroken text → bytes_read w reads (at l true t) text ≡ at (read l text) true t
  unfolding at
  tail_read [] l t h = refl
  tail_read (c ∷ cs) l t h = ap (λ (d : DumpMeaning). bytes_read w reads d cs) (byte_pushed l true t c h.0) ∙ tail_read cs (pushed l c) t h.1

  counted_as : (text : List ℕ) (t : Tally) → counted (line_outcome (heard w reads (ended (read blank text)))) t ≡ counted (line_outcome (heard w reads (datagram_of text))) t
  counted_as text t = ap (λ (o : Option (List ℕ)). counted (line_outcome (heard w reads o)) t) (every_line_is_read text)

  -- what is left of a capture, after lines that were counted before
  from : (lines : List (List ℕ)) (last : List ℕ) (t : Tally) → AllUnbroken lines → Unbroken last → (finished w reads (bytes_read w reads (at blank false t) (captured lines last))).tally ≡ lines_counted w reads t (all_lines lines last)
  unfolding at
  from [] [] t h k = refl
  from [] (c ∷ cs) t h k =
      ap (λ (d : DumpMeaning). (finished w reads (bytes_read w reads d cs)).tally) (byte_pushed blank false t c k.0)
      ∙ ap (λ (d : DumpMeaning). (finished w reads d).tally) (tail_read cs (pushed blank c) t k.1)
      ∙ counted_as (c ∷ cs) t
  from (l ∷ ls) [] t h k =
      ap (λ (d : DumpMeaning). (finished w reads d).tally) (line_read l (captured ls []) blank false t h.0)
      ∙ ap (λ (u : Tally). (finished w reads (bytes_read w reads (at blank false u) (captured ls []))).tally) (counted_as l t)
      ∙ from ls [] (counted (line_outcome (heard w reads (datagram_of l))) t) h.1 k
  from (l ∷ ls) (c ∷ cs) t h k =
      ap (λ (d : DumpMeaning). (finished w reads d).tally) (line_read l (captured ls (c ∷ cs)) blank false t h.0)
      ∙ ap (λ (u : Tally). (finished w reads (bytes_read w reads (at blank false u) (captured ls (c ∷ cs)))).tally) (counted_as l t)
      ∙ from ls (c ∷ cs) (counted (line_outcome (heard w reads (datagram_of l))) t) h.1 k

  pub every_line_is_counted : EveryLineIsCounted w reads
  unfolding at
  every_line_is_counted lines last h k = from lines last none h k
