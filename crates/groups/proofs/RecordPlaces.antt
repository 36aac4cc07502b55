-- The place of an address among records, and what stands there. Assumes nothing.
use Rattle.std.proofs.Common.{◌≡◌, ℕ, zero, suc, ◌+◌, ◌<◌, ◌≤◌, Bool, true, false, cond, not, ltb, List, [], ◌∷◌, length, get_or, take, drop, Some, None, Option, sym, refl, ap, not-suc-le-zero, arith, unwrap_or}
use Rattle.std.proofs.lemmas.Bool.Decides.{nat_tests}
use Rattle.std.proofs.lemmas.Bool.{ltb-false, ltb-true}
use Rattle.std.proofs.lemmas.List.{length-drop, length-take-le}
use Rattle.std.proofs.lemmas.List.Sums.{prefix_len-le-length}
use Rattle.std.proofs.lemmas.Option.{none-some}
use Rattle.std.specs.List.{position, position_or_len}
use Rattle.groups.specs.declared.records.Record.{Record}
use Rattle.groups.specs.Records.{has_record, in_use, is_of, look_by, place_in, row_in}

module _ {R : Type 0} where
  -- the place of an address that has a record is that of a record; that of any other is the one after all
  pub place_known : (rs : List (Record R)) (a : ℕ) → has_record rs a ≡ true → position_or_len (is_of a) rs < length rs
  place_known [] a e = absurd (cc)
  place_known (r ∷ rs) a e = let h = place_known rs a in grind (arith, nat_tests)

  pub place_new : (rs : List (Record R)) (a : ℕ) → has_record rs a ≡ false → position_or_len (is_of a) rs ≡ length rs
  place_new [] a e = refl
  place_new (r ∷ rs) a e = let h = place_new rs a in grind (arith, nat_tests)

  -- what is looked up is what stands at the place
  look_at : {X : Type 0} (f : Record R → X) (d : X) (rs : List (Record R)) (a j : ℕ) (e : Record R) → j ≡ position_or_len (is_of a) rs → j < length rs → look_by f d rs a ≡ f (get_or rs j e)
  look_at f d [] a j e p h = absurd (not-suc-le-zero h)
  look_at f d (r ∷ rs) a zero e p h = grind (arith, nat_tests)
  look_at f d (r ∷ rs) a (suc j) e p h = let q = look_at f d rs a j e in grind (arith, nat_tests)

  look_none : {X : Type 0} (f : Record R → X) (d : X) (rs : List (Record R)) (a : ℕ) → length rs ≤ position_or_len (is_of a) rs → look_by f d rs a ≡ d
  look_none f d [] a h = refl
  look_none f d (r ∷ rs) a h = let q = look_none f d rs a in grind (arith, nat_tests)

-- what a search answers, by the place
some_at : (b : Bool) (k i : ℕ) → cond b (Some k) None ≡ Some i → (b ≡ true) × (i ≡ k)
some_at true k i e = (refl, cc)
some_at false k i e = absurd (none-some i e)

none_at : (b : Bool) (k : ℕ) → ◌≡◌ {A = Option ℕ} (cond b (Some k) None) None → b ≡ false
none_at true k e = absurd (none-some k (sym e))
none_at false k e = refl

pub or_all : (b : Bool) (k n : ℕ) → (b ≡ false → k ≡ n) → unwrap_or (cond b (Some k) None) n ≡ k
or_all true k n e = refl
or_all false k n e = sym (e refl)

module _ {R : Type 0} (rs : List (Record R)) (used a : ℕ) (h : used < length rs) where
  long : length (in_use rs used) ≡ used
  long = length-take-le used (drop 1 rs) (let l = length-drop 1 rs in omega arith)

  pub place_or : 1 + unwrap_or (position (is_of a) (in_use rs used)) used ≡ place_in rs used a
  place_or =
      let k = position_or_len (is_of a) (in_use rs used) in
      ap (λ (i : ℕ). 1 + i) (or_all (ltb k (length (in_use rs used))) k used (λ e. omega (arith, long, ltb-false k (length (in_use rs used)) e, prefix_len-le-length (λ r. not (is_of a r)) (in_use rs used))))

  pub place_fits : unwrap_or (position (is_of a) (in_use rs used)) used ≤ used
  place_fits = let e = place_or in omega (arith, long, prefix_len-le-length (λ r. not (is_of a r)) (in_use rs used))

-- the row of an address that is found among those in use, and that of any other
pub row_found : {R : Type 0} (rs : List (Record R)) (used a i : ℕ) (e : Record R) → used < length rs → position (is_of a) (in_use rs used) ≡ Some i → row_in rs used a ≡ Some (get_or (in_use rs used) i e).cell
row_found [] used a i e h p = absurd (not-suc-le-zero h)
row_found {R = R} (r ∷ rs) used a i e h p =
    let k = position_or_len (is_of a) (take used rs) in
    let s = some_at (ltb k (length (take used rs))) k i p in
    ap Some (look_at (λ (x : Record R). x.cell) r.cell (take used rs) a i e s.1 (let l = ltb-true k (length (take used rs)) s.0 in omega (arith, s.1)))

pub row_first : {R : Type 0} (rs : List (Record R)) (used a : ℕ) (e : Record R) → used < length rs → position (is_of a) (in_use rs used) ≡ None → row_in rs used a ≡ Some (get_or rs 0 e).cell
row_first [] used a e h p = absurd (not-suc-le-zero h)
row_first {R = R} (r ∷ rs) used a e h p =
    let k = position_or_len (is_of a) (take used rs) in
    ap Some (look_none (λ (x : Record R). x.cell) r.cell (take used rs) a (ltb-false k (length (take used rs)) (none_at (ltb k (length (take used rs))) k p)))
