-- A page's places, one address after the other. Assumes nothing.
use Rattle.std.proofs.Common.{◌≡◌, ℕ, zero, suc, ◌+◌, ◌*◌, ◌/◌, ◌%◌, ◌<◌, ◌≤◌, Bool, cond, List, [], ◌∷◌, ◌++◌, length, get_or, map, Some, None, Option, sym, refl, ap, ◌∙◌, ⊎_elim, add-zero, add_assoc, arith}
use Rattle.std.specs.List.{flat_map}
use Rattle.std.proofs.lemmas.List.{get_or-map}
use Rattle.std.proofs.lemmas.Bool.{cases_eq, eq-eqb, ne_eqb}
use Rattle.frames.specs.Meaning.{Places, bodies}
use Rattle.frames.specs.Frames.{places}
use Rattle.frames.specs.Addressed.{addresses}
use Rattle.frames.proofs.Places.{place_up, place_down}

pub addresses_up : (n a m : ℕ) → m % 2 ≡ 1 → addresses (suc n) a m ≡ a ∷ addresses n (a + 1) (m / 2)
unfolding addresses
addresses_up n a m b = simp (eq-eqb (m % 2) 1 b)

pub addresses_down : (n a m : ℕ) → (m % 2 ≡ 1 → ⊥) → addresses (suc n) a m ≡ addresses n (a + 1) (m / 2)
unfolding addresses
addresses_down n a m b = simp (ne_eqb (m % 2) 1 b)

pub length-addresses : (n a m : ℕ) → length (addresses n a m) ≤ n
unfolding addresses
length-addresses zero a m = omega arith
length-addresses (suc n) a m =
    let h = length-addresses n (a + 1) (m / 2) in
    ⊎_elim (λ b. simp (eq-eqb (m % 2) 1 b) (omega arith)) (λ b. simp (ne_eqb (m % 2) 1 b) (omega arith)) (cases_eq (m % 2) 1)

module _ {R : Type 0} (bytes : R → List ℕ) where
  -- the bytes of the row at an address
  abbrev pub cell_at : List R → ℕ → List ℕ
  cell_at rs x = get_or (map bytes rs) (x % 8) []

  pub cell_at-is : (rs : List R) (x : ℕ) (r : R) → length rs ≡ 8 → r ≡ get_or rs (x % 8) r → cell_at rs x ≡ bytes r
  cell_at-is rs x r l e = get_or-map bytes rs (x % 8) r [] (omega arith) ∙ ap bytes (sym e)

  -- what is made of a page's places, from an address on, by what each address gives
  module _ (of : ℕ → Places → List ℕ) (one : ℕ → List ℕ → List ℕ) (none : (a : ℕ) → of a [] ≡ []) (down : (a : ℕ) (ps : Places) → of a (None ∷ ps) ≡ of (a + 1) ps) (up : (a : ℕ) (c : List ℕ) (ps : Places) → of a (Some c ∷ ps) ≡ one a c ++ of (a + 1) ps) where
    by_address : (cell : ℕ → List ℕ) (a m : ℕ) (rs : List R) → ((i : ℕ) → i < length rs → cell (a + i) ≡ get_or (map bytes rs) i []) → of a (places bytes m rs) ≡ flat_map (λ x. one x (cell x)) (addresses (length rs) a m)
    unfolding addresses
    by_address cell a m [] h = none a
    by_address cell a m (r ∷ rs) h =
        let ps = places bytes (m / 2) rs in
        let rest = addresses (length rs) (a + 1) (m / 2) in
        let tell : ℕ → List ℕ = λ x. one x (cell x) in
        let e : of (a + 1) ps ≡ flat_map tell rest =
        by_address cell (a + 1) (m / 2) rs (λ i l. ap cell (add_assoc a 1 i ∙ (omega arith)) ∙ h (suc i) (omega arith)) in
        let k : cell a ≡ bytes r = ap cell (sym (add-zero a)) ∙ h 0 (omega arith) in
        ⊎_elim
        (λ b.
        ap (λ (o : Option (List ℕ)). of a (o ∷ ps)) (place_up bytes m r b)
        ∙ up a (bytes r) ps
        ∙ ap (λ (l : List ℕ). one a (bytes r) ++ l) e
        ∙ ap (λ (c : List ℕ). one a c ++ flat_map tell rest) (sym k)
        ∙ ap (λ (t : Bool). flat_map tell (cond t (a ∷ []) [] ++ rest)) (sym (eq-eqb (m % 2) 1 b)))
        (λ b.
        ap (λ (o : Option (List ℕ)). of a (o ∷ ps)) (place_down bytes m r b)
        ∙ down a ps
        ∙ e
        ∙ ap (λ (t : Bool). flat_map tell (cond t (a ∷ []) [] ++ rest)) (sym (ne_eqb (m % 2) 1 b)))
        (cases_eq (m % 2) 1)

    pub over_page : (p m : ℕ) (rs : List R) → length rs ≡ 8 → of (8 * p) (places bytes m rs) ≡ flat_map (λ x. one x (cell_at rs x)) (addresses 8 (8 * p) m)
    over_page p m rs l =
        by_address (cell_at rs) (8 * p) m rs (λ i h. ap (λ (n : ℕ). get_or (map bytes rs) n []) (omega arith))
        ∙ ap (λ (n : ℕ). flat_map (λ (x : ℕ). one x (cell_at rs x)) (addresses n (8 * p) m)) l

  pub bodies-page : (p m : ℕ) (rs : List R) → length rs ≡ 8 → bodies (places bytes m rs) ≡ flat_map (cell_at rs) (addresses 8 (8 * p) m)
  bodies-page p m rs l = over_page (λ a ps. bodies ps) (λ a c. c) (λ a. refl) (λ a ps. refl) (λ a c ps. refl) p m rs l
