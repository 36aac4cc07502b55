-- What is read, by the kind of frame. Assumes nothing.
use Rattle.std.proofs.Common.{◌≡◌, ℕ, ◌+◌, ◌-◌, ◌*◌, ◌≤◌, Bool, true, false, cond, List, length, get_or, drop, eqb, leb, Ok, Err, Result, sym, ap, ◌∙◌, ⊎_elim, arith, rules, length-drop}
use Rattle.std.proofs.lemmas.Bool.{cases_eq, cases_lt, eq-eqb, ne_eqb, le-leb, lt-leb}
use Rattle.std.proofs.lemmas.List.{drop-drop, get_or-drop}
use Rattle.cells.specs.declared.fault.Fault.{Fault}
use Rattle.cells.specs.Faults.{not_a_frame}
use Rattle.cells.specs.Numbers.{field}
use Rattle.frames.specs.declared.kind.Kind.{Kind}
use Rattle.frames.specs.declared.kind.Kind.TheVariants.{Whole, Entries, Marker, Held}
use Rattle.frames.specs.Meaning.{FrameMeaning}
use Rattle.frames.specs.Kinds.{kind_of, fields_as, entries_behind, marker_behind, held_behind, whole_behind}
use Rattle.frames.specs.Format.{decoded, decoded_entries, decoded_marker, decoded_held, decoded_whole, entries_in, marker_of, held_of, whole_of}

-- a length, and that of what lies behind five bytes
same_length : (n d k : ℕ) → 5 ≤ n → d ≡ n - 5 → eqb n (5 + k) ≡ eqb d k
same_length n d k l e = ⊎_elim (λ b. eq-eqb n (5 + k) b ∙ sym (eq-eqb d k (omega arith))) (λ b. ne_eqb n (5 + k) b ∙ sym (ne_eqb d k (λ f. b (omega arith)))) (cases_eq n (5 + k))

same_room : (n d k : ℕ) → 5 ≤ n → d ≡ n - 5 → leb (5 + k) n ≡ leb k d
same_room n d k l e = ⊎_elim (λ b. lt-leb (5 + k) n b ∙ sym (lt-leb k d (omega arith))) (λ b. le-leb (5 + k) n b ∙ sym (le-leb k d (omega arith))) (cases_lt n (5 + k))

-- the cycle of five bytes or more, as the machine reads it
pub cycle_is : (bs : List ℕ) (n : ℕ) → 5 ≤ length bs → n ≡ ((get_or bs 1 0 * 256 + get_or bs 2 0) * 256 + get_or bs 3 0) * 256 + get_or bs 4 0 → n ≡ field 4 1 bs
cycle_is bs n l e = search rules

module _ (w : ℕ) (reads : List ℕ → Bool) (bs : List ℕ) (l : 5 ≤ length bs) where
  long : length (drop 5 bs) ≡ length bs - 5
  long = length-drop 5 bs

  map_behind : get_or bs 7 0 ≡ get_or (drop 5 bs) 2 0
  map_behind = sym (get_or-drop 5 bs 2 0)

  entries_are : decoded_entries w reads bs ≡ entries_behind w reads (field 4 1 bs) (drop 5 bs)
  entries_are =
      let of : ℕ → List ℕ → Result FrameMeaning Fault = λ m x. entries_in w reads (field 4 1 bs) (field 2 5 bs) m x in
      ap (λ (t : Bool). cond t (of (get_or bs 7 0) (drop 8 bs)) (Err not_a_frame)) (same_room (length bs) (length (drop 5 bs)) 3 l long)
      ∙ ap (λ (m : ℕ). cond (leb 3 (length (drop 5 bs))) (of m (drop 8 bs)) (Err not_a_frame)) map_behind
      ∙ ap (λ (x : List ℕ). cond (leb 3 (length (drop 5 bs))) (of (get_or (drop 5 bs) 2 0) x) (Err not_a_frame)) (sym (drop-drop 3 5 bs))

  marker_is : decoded_marker bs ≡ marker_behind (field 4 1 bs) (drop 5 bs)
  marker_is = ap (λ (t : Bool). cond t (marker_of (field 4 1 bs) (field 2 5 bs)) (Err not_a_frame)) (same_length (length bs) (length (drop 5 bs)) 2 l long)

  held_is : decoded_held bs ≡ held_behind (field 4 1 bs) (drop 5 bs)
  held_is =
      ap (λ (t : Bool). cond t (held_of (field 4 1 bs) (field 2 5 bs) (get_or bs 7 0)) (Err not_a_frame)) (same_length (length bs) (length (drop 5 bs)) 3 l long)
      ∙ ap (λ (m : ℕ). cond (eqb (length (drop 5 bs)) 3) (held_of (field 4 1 bs) (field 2 5 bs) m) (Err not_a_frame)) map_behind

  whole_is : decoded_whole bs ≡ whole_behind (field 4 1 bs) (drop 5 bs)
  whole_is = ap (λ (t : Bool). cond t (whole_of (field 4 1 bs)) (Err not_a_frame)) (same_length (length bs) (length (drop 5 bs)) 0 l long)

  picked : (a b c d : Bool) (k : Kind) → ◌≡◌ {A = Result Kind Fault} (Ok k) (cond a (Ok Entries) (cond b (Ok Marker) (cond c (Ok Held) (cond d (Ok Whole) (Err not_a_frame))))) → cond a (decoded_entries w reads bs) (cond b (decoded_marker bs) (cond c (decoded_held bs) (cond d (decoded_whole bs) (Err not_a_frame)))) ≡ fields_as w reads k (field 4 1 bs) (drop 5 bs)
  picked true b c d k e = entries_are ∙ (let f : Entries ≡ k = cc in ap (λ (x : Kind). fields_as w reads x (field 4 1 bs) (drop 5 bs)) f)
  picked false true c d k e = marker_is ∙ (let f : Marker ≡ k = cc in ap (λ (x : Kind). fields_as w reads x (field 4 1 bs) (drop 5 bs)) f)
  picked false false true d k e = held_is ∙ (let f : Held ≡ k = cc in ap (λ (x : Kind). fields_as w reads x (field 4 1 bs) (drop 5 bs)) f)
  picked false false false true k e = whole_is ∙ (let f : Whole ≡ k = cc in ap (λ (x : Kind). fields_as w reads x (field 4 1 bs) (drop 5 bs)) f)
  picked false false false false k e = absurd cc

  -- bytes are read as the fields of their kind
  pub decoded_by : (k : Kind) → ◌≡◌ {A = Result Kind Fault} (Ok k) (kind_of (get_or bs 0 0)) → decoded w reads bs ≡ fields_as w reads k (field 4 1 bs) (drop 5 bs)
  decoded_by k e = picked (eqb (get_or bs 0 0) 7) (eqb (get_or bs 0 0) 9) (eqb (get_or bs 0 0) 19) (eqb (get_or bs 0 0) 1) k e
