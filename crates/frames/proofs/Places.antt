-- The places of a page, and the map that says which have a cell. Assumes nothing.
use Rattle.std.proofs.Common.{◌≡◌, ℕ, zero, suc, ◌/◌, ◌%◌, ◌^◌, ◌<◌, Bool, true, List, [], ◌∷◌, length, get_or, Some, None, Option, sym, refl, ap, ◌∙◌, subst, ⊎_elim, le_of_suc-le-suc, not-suc-le-zero, div-one, arith}
use native.Mathlib.Nat.{two-pow-succ}
use Rattle.std.proofs.lemmas.Nat.{shr-shr}
use Rattle.std.proofs.lemmas.Bool.{cases_eq, eq-eqb, ne_eqb, and_from}
use Rattle.frames.specs.Meaning.{map_of, all_read, Wide}
use Rattle.frames.specs.Frames.{place, places}

module _ {R : Type 0} (bytes : R → List ℕ) where
  pub place_up : (m : ℕ) (r : R) → m % 2 ≡ 1 → place bytes m r ≡ Some (bytes r)
  place_up m r h = simp (eq-eqb (m % 2) 1 h)

  pub place_down : (m : ℕ) (r : R) → (m % 2 ≡ 1 → ⊥) → place bytes m r ≡ None
  place_down m r h = simp (ne_eqb (m % 2) 1 h)

  -- a statement about the first place, by its bit
  by_bit : (P : Option (List ℕ) → Type 0) (m : ℕ) (r : R) → (m % 2 ≡ 1 → P (Some (bytes r))) → ((m % 2 ≡ 1 → ⊥) → P None) → P (place bytes m r)
  by_bit P m r up down = ⊎_elim (λ b. subst P (sym (place_up m r b)) (up b)) (λ b. subst P (sym (place_down m r b)) (down b)) (cases_eq (m % 2) 1)

  pub length-places : (m : ℕ) (rs : List R) → length (places bytes m rs) ≡ length rs
  length-places m [] = refl
  length-places m (r ∷ rs) = ap suc (length-places (m / 2) rs)

  pub get_or-places : (m : ℕ) (rs : List R) (i : ℕ) (d : R) → i < length rs → get_or (places bytes m rs) i None ≡ place bytes (m / 2 ^ i) (get_or rs i d)
  get_or-places m [] i d h = absurd (not-suc-le-zero h)
  get_or-places m (r ∷ rs) zero d h = ap (λ (n : ℕ). place bytes n r) (sym (div-one m))
  get_or-places m (r ∷ rs) (suc i) d h = get_or-places (m / 2) rs i d (le_of_suc-le-suc h) ∙ ap (λ (n : ℕ). place bytes n (get_or rs i d)) (shr-shr m 1 i ∙ ap (λ (k : ℕ). m / 2 ^ k) (omega arith))

  -- the map of the places is the map that they were made by
  pub map_of-places : (m : ℕ) (rs : List R) → m < 2 ^ length rs → map_of (places bytes m rs) ≡ m
  map_of-places m [] h = omega arith
  map_of-places m (r ∷ rs) h =
      let p = two-pow-succ (length rs) in
      let e : map_of (places bytes (m / 2) rs) ≡ m / 2 = map_of-places (m / 2) rs (omega arith) in
      by_bit (λ o. map_of (o ∷ places bytes (m / 2) rs) ≡ m) m r (λ b. omega arith) (λ b. omega arith)

  -- a kind's own cells are read, and have its width
  module _ (reads : List ℕ → Bool) (w : ℕ) (read : (r : R) → reads (bytes r) ≡ true) (wide : (r : R) → length (bytes r) ≡ w) where
    pub read_places : (m : ℕ) (rs : List R) → all_read reads (places bytes m rs) ≡ true
    read_places m [] = refl
    read_places m (r ∷ rs) =
        by_bit (λ o. all_read reads (o ∷ places bytes (m / 2) rs) ≡ true) m r
        (λ b. and_from (reads (bytes r)) (all_read reads (places bytes (m / 2) rs)) (read r) (read_places (m / 2) rs))
        (λ b. read_places (m / 2) rs)

    pub wide-places : (m : ℕ) (rs : List R) → Wide w (places bytes m rs)
    wide-places m [] = tt
    wide-places m (r ∷ rs) = by_bit (λ o. Wide w (o ∷ places bytes (m / 2) rs)) m r (λ b. (wide r, wide-places (m / 2) rs)) (λ b. wide-places (m / 2) rs)
