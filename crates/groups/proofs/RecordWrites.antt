-- Records after a write. Assumes nothing.
use Rattle.std.proofs.Common.{◌≡◌, ℕ, zero, suc, ◌+◌, ◌<◌, max, Bool, true, false, cond, eqb, List, [], ◌∷◌, length, take, drop, set, Some, count_by, sym, refl, ap, ◌∙◌, subst, ⊎_elim, le_of_suc-le-suc, not-suc-le-zero, arith}
use Rattle.std.proofs.lemmas.List.{length-drop, length-take-le}
use Rattle.std.proofs.lemmas.Bool.{cases_Bool}
use Rattle.std.proofs.lemmas.Bool.Decides.{nat_tests}
use Rattle.std.specs.List.{position_or_len, range_with_len}
use Rattle.groups.specs.declared.records.Record.{Record}
use Rattle.groups.specs.Records.{has_record, in_use, is_of, look_by, place_in, row_in}
use Rattle.groups.proofs.Basics.{over_cond}
use Rattle.groups.proofs.RecordCounts.{count_le, count_put}
use Rattle.groups.proofs.RecordPlaces.{place_known, place_new}

module _ {R : Type 0} (a : ℕ) (x : R) where
  abbrev pub entry : Record R
  entry = record { address = a; cell = x }

  -- records with that of one address replaced, or put behind all
  abbrev pub put_in : List (Record R) → List (Record R)
  put_in [] = entry ∷ []
  put_in (r ∷ rs) = cond (eqb r.address a) (entry ∷ rs) (r ∷ put_in rs)

  -- what is looked up after that
  pub look_put : {X : Type 0} (f : Record R → X) (d : X) (rs : List (Record R)) (k : ℕ) → look_by f d (put_in rs) k ≡ cond (eqb k a) (f entry) (look_by f d rs k)
  look_put f d [] k = grind (arith, nat_tests)
  look_put f d (r ∷ rs) k = let e = look_put f d rs k in grind (arith, nat_tests)

  -- the memory after a write holds them
  pub laid : (n j m : ℕ) (l : List (Record R)) → position_or_len (is_of a) (take n l) ≡ j → j < length l → m ≡ max n (suc j) → take m (set l j entry) ≡ put_in (take n l)
  laid n j m [] p h e = absurd (not-suc-le-zero h)
  laid n j zero (y ∷ l) p h e = absurd (omega arith)
  laid zero zero (suc m) (y ∷ l) p h e = let z : m ≡ 0 = omega arith in ap (λ (i : ℕ). entry ∷ take i l) z
  laid zero (suc j) (suc m) (y ∷ l) p h e = absurd (omega arith)
  laid (suc n) zero (suc m) (y ∷ l) p h e = let z : m ≡ n = omega arith in grind (arith, nat_tests)
  laid (suc n) (suc j) (suc m) (y ∷ l) p h e = let q = laid n j m l in grind (arith, nat_tests)

  pub in_use-set : (rs : List (Record R)) (used i : ℕ) → i ≡ place_in rs used a → i < length rs → in_use (set rs i entry) (max used i) ≡ put_in (in_use rs used)
  in_use-set [] used i p h = absurd (not-suc-le-zero h)
  in_use-set (r ∷ rs) used zero p h = absurd (omega arith)
  in_use-set (r ∷ rs) used (suc j) p h = laid used j (max used (suc j)) rs (omega arith) (le_of_suc-le-suc h) refl

  -- each address but one has the row that it had
  pub row_put : (rs : List (Record R)) (used i : ℕ) → i ≡ place_in rs used a → i < length rs → (k : ℕ) → row_in (set rs i entry) (max used i) k ≡ cond (eqb k a) (Some x) (row_in rs used k)
  row_put [] used i p h k = absurd (not-suc-le-zero h)
  row_put (r ∷ rs) used zero p h k = absurd (omega arith)
  row_put (r ∷ rs) used (suc j) p h k =
      ap (λ (l : List (Record R)). Some (look_by (λ (s : Record R). s.cell) r.cell l k)) (in_use-set (r ∷ rs) used (suc j) p h)
      ∙ ap Some (look_put (λ (s : Record R). s.cell) r.cell (take used rs) k)
      ∙ over_cond Some (eqb k a) x (look_by (λ (s : Record R). s.cell) r.cell (take used rs) k)

  -- there is a place for the record, and as many are in use as addresses have one
  module _ (rs : List (Record R)) (used n : ℕ) (single : used ≡ count_by (has_record (in_use rs used)) (range_with_len 0 n)) (fits : n < length rs) (low : a < n) where
    enough : length (in_use rs used) ≡ used
    enough = length-take-le used (drop 1 rs) (let l = length-drop 1 rs in omega (arith, count_le n (has_record (in_use rs used))))

    -- one more is in use, unless the address had a record
    counted_up : count_by (has_record (put_in (in_use rs used))) (range_with_len 0 n) + cond (has_record (in_use rs used) a) 1 0 ≡ used + 1
    counted_up = count_put n a (has_record (in_use rs used)) (has_record (put_in (in_use rs used))) low (look_put (λ _. true) false (in_use rs used)) ∙ ap (λ (k : ℕ). k + 1) (sym single)

    put_in_use : max used (place_in rs used a) ≡ count_by (has_record (put_in (in_use rs used))) (range_with_len 0 n)
    put_in_use =
        ⊎_elim
        (λ e. let one : ◌≡◌ {A = ℕ} (cond (has_record (in_use rs used) a) 1 0) 1 = ap (λ (b : Bool). cond b 1 0) e in omega (arith, enough, counted_up, place_known (in_use rs used) a e))
        (λ e. let none : ◌≡◌ {A = ℕ} (cond (has_record (in_use rs used) a) 1 0) 0 = ap (λ (b : Bool). cond b 1 0) e in omega (arith, enough, counted_up, place_new (in_use rs used) a e))
        (cases_Bool (has_record (in_use rs used) a))

    pub room : place_in rs used a < length rs
    room = omega (arith, put_in_use, count_le n (has_record (put_in (in_use rs used))))

    pub single_still : (i : ℕ) → i ≡ place_in rs used a → max used i ≡ count_by (has_record (in_use (set rs i entry) (max used i))) (range_with_len 0 n)
    single_still i p =
        ap (max used) p
        ∙ put_in_use
        ∙ sym (ap (λ (l : List (Record R)). count_by (has_record l) (range_with_len 0 n)) (in_use-set rs used i p (subst (λ (k : ℕ). k < length rs) (sym p) room)))
