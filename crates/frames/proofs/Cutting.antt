-- Bytes cut into cells. Assumes nothing.
use Rattle.std.proofs.Common.{◌≡◌, ℕ, zero, suc, ◌+◌, ◌*◌, ◌/◌, ◌%◌, ◌^◌, ◌<◌, ◌≤◌, Bool, true, false, ◌&&◌, ◌⊎◌, List, [], ◌∷◌, ◌++◌, length, get_or, take, drop, set, Some, None, Option, sym, refl, ap, ◌∙◌, subst, inl, inr, ⊎_elim, le_of_suc-le-suc, not-suc-le-zero, add-zero, add_assoc, add-mul, one-mul, div-one, arith, length-set, length-drop}
use lib.Count.{ones, ones_step}
use Rattle.std.proofs.lemmas.List.{ext_get_or, get_or-set_same, get_or-set_other, take_at, drop_at}
use Rattle.std.proofs.lemmas.Bool.{cases_eq, eq-eqb, ne_eqb}
use Rattle.std.proofs.lemmas.Nat.Bits.{bit_at-suc}
use Rattle.frames.specs.Meaning.{Places, all_read}
use Rattle.frames.specs.Format.{parted}
use Rattle.frames.specs.Frames.{place, places}
use Rattle.frames.specs.Addressed.{addresses}
use Rattle.frames.proofs.Walking.{addresses_up, addresses_down}
use Rattle.frames.proofs.Places.{place_up, place_down, get_or-places, length-places}

pub parted_up : (w n m : ℕ) (bs : List ℕ) → m % 2 ≡ 1 → parted w (suc n) m bs ≡ Some (take w bs) ∷ parted w n (m / 2) (drop w bs)
unfolding parted
parted_up w n m bs h = simp (eq-eqb (m % 2) 1 h)

pub parted_down : (w n m : ℕ) (bs : List ℕ) → (m % 2 ≡ 1 → ⊥) → parted w (suc n) m bs ≡ None ∷ parted w n (m / 2) bs
unfolding parted
parted_down w n m bs h = simp (ne_eqb (m % 2) 1 h)

pub length-parted : (w n m : ℕ) (bs : List ℕ) → length (parted w n m bs) ≡ n
unfolding parted
length-parted w zero m bs = refl
length-parted w (suc n) m bs =
    ⊎_elim (λ b. ap length (parted_up w n m bs b) ∙ ap suc (length-parted w n (m / 2) (drop w bs))) (λ b. ap length (parted_down w n m bs b) ∙ ap suc (length-parted w n (m / 2) bs)) (cases_eq (m % 2) 1)

-- one cell that is not read refuses them all
all_unread : (reads : List ℕ → Bool) (ps : Places) (i : ℕ) (c : List ℕ) → get_or ps i None ≡ Some c → reads c ≡ false → all_read reads ps ≡ false
all_unread reads [] i c e r = absurd cc
all_unread reads (None ∷ ps) zero c e r = absurd cc
all_unread reads (None ∷ ps) (suc i) c e r = all_unread reads ps i c e r
all_unread reads (Some d ∷ ps) zero c e r = let f : d ≡ c = cc in ap (λ (t : Bool). t && all_read reads ps) (ap reads f ∙ r)
all_unread reads (Some d ∷ ps) (suc i) c e r =
    ap (λ (t : Bool). reads d && t) (all_unread reads ps i c e r) ∙ (elim (reads d) as (λ t. (t && false) ≡ false) [ true ↦ refl | false ↦ refl ])

-- y is among xs
Among : ℕ → List ℕ → Type 0
Among y [] = ⊥
Among y (x ∷ xs) = (y ≡ x) ⊎ Among y xs

-- the cells of the addresses still to come lie in the bytes that are left, each at its place and each where the map has a bit
module _ (at : ℕ → Option (List ℕ)) (up : ℕ → Type 0) (w : ℕ) where
  Ahead : List ℕ → List ℕ → Type 0
  Ahead [] bs = Unit {0}
  Ahead (x ∷ xs) bs = (w ≤ length bs) × (at x ≡ Some (take w bs)) × up x × Ahead xs (drop w bs)

  ahead_first : (n a m : ℕ) (bs : List ℕ) → ((i : ℕ) → i < n → at (a + i) ≡ get_or (parted w n m bs) i None) → ((i : ℕ) → i < n → m / 2 ^ i % 2 ≡ 1 → up (a + i)) → length bs ≡ ones m * w → Ahead (addresses n a m) bs
  unfolding Ahead addresses
  ahead_first zero a m bs h k l = tt
  ahead_first (suc n) a m bs h k l =
      ⊎_elim
      (λ b.
      let o : ones m ≡ 1 + ones (m / 2) = ones_step m ∙ ap (λ (x : ℕ). x + ones (m / 2)) b in
      let q : ones m * w ≡ (1 + ones (m / 2)) * w = ap (λ (x : ℕ). x * w) o in
      let r = add-mul 1 (ones (m / 2)) w in
      let s = one-mul w in
      let wide : w ≤ length bs = omega arith in
      let rest : length (drop w bs) ≡ ones (m / 2) * w = length-drop w bs ∙ (omega arith) in
      let here : at a ≡ Some (take w bs) = ap at (sym (add-zero a)) ∙ h 0 (omega arith) ∙ ap (λ (ps : Places). get_or ps 0 None) (parted_up w n m bs b) in
      let stands : up a = subst up (add-zero a) (k 0 (omega arith) (ap (λ (x : ℕ). x % 2) (div-one m) ∙ b)) in
      let more =
      ahead_first n (a + 1) (m / 2) (drop w bs)
      (λ i j. ap at (add_assoc a 1 i ∙ (omega arith)) ∙ h (suc i) (omega arith) ∙ ap (λ (ps : Places). get_or ps (suc i) None) (parted_up w n m bs b))
      (λ i j d. subst up (omega arith) (k (suc i) (omega arith) (bit_at-suc m i ∙ d)))
      rest in
      subst (λ (l : List ℕ). Ahead l bs) (sym (addresses_up n a m b)) (wide, here, stands, more))
      (λ b.
      let z : m % 2 ≡ 0 = omega arith in
      let o : ones m ≡ ones (m / 2) = ones_step m ∙ ap (λ (x : ℕ). x + ones (m / 2)) z ∙ (omega arith) in
      let more =
      ahead_first n (a + 1) (m / 2) bs
      (λ i j. ap at (add_assoc a 1 i ∙ (omega arith)) ∙ h (suc i) (omega arith) ∙ ap (λ (ps : Places). get_or ps (suc i) None) (parted_down w n m bs b))
      (λ i j d. subst up (omega arith) (k (suc i) (omega arith) (bit_at-suc m i ∙ d)))
      (l ∙ ap (λ (x : ℕ). x * w) o) in
      subst (λ (l : List ℕ). Ahead l bs) (sym (addresses_down n a m b)) more)
      (cases_eq (m % 2) 1)

module _ {R : Type 0} (bytes : R → List ℕ) (w : ℕ) where
  abbrev Done : ℕ → ℕ → ℕ → List ℕ → List R → ℕ → Type 0
  Done a n m bs rs i = (get_or (places bytes m rs) i None ≡ get_or (parted w n m bs) i None) ⊎ Among (a + i) (addresses n a m)

  at_up : (n a m : ℕ) (bs : List ℕ) (r : R) (rs : List R) → ((i : ℕ) → i < n → Done (a + 1) n (m / 2) (drop w bs) rs i) → (i : ℕ) → i < suc n → (get_or (places bytes m (r ∷ rs)) i None ≡ get_or (Some (take w bs) ∷ parted w n (m / 2) (drop w bs)) i None) ⊎ Among (a + i) (a ∷ addresses n (a + 1) (m / 2))
  unfolding Among
  at_up n a m bs r rs h zero l = inr (inl (add-zero a))
  at_up n a m bs r rs h (suc i) l =
      ⊎_elim (λ x. inl x) (λ x. inr (inr (subst (λ (y : ℕ). Among y (addresses n (a + 1) (m / 2))) (add_assoc a 1 i ∙ (omega arith)) x)))
      (h i (le_of_suc-le-suc l))

  at_down : (n a m : ℕ) (bs : List ℕ) (r : R) (rs : List R) → ((i : ℕ) → i < n → Done (a + 1) n (m / 2) bs rs i) → (m % 2 ≡ 1 → ⊥) → (i : ℕ) → i < suc n → (get_or (places bytes m (r ∷ rs)) i None ≡ get_or (None ∷ parted w n (m / 2) bs) i None) ⊎ Among (a + i) (addresses n (a + 1) (m / 2))
  at_down n a m bs r rs h b zero l = inl (place_down bytes m r b)
  at_down n a m bs r rs h b (suc i) l =
      ⊎_elim (λ x. inl x) (λ x. inr (subst (λ (y : ℕ). Among y (addresses n (a + 1) (m / 2))) (add_assoc a 1 i ∙ (omega arith)) x))
      (h i (le_of_suc-le-suc l))

  -- at first a place is empty, or its address is still to come
  done_first : (n a m : ℕ) (bs : List ℕ) (rs : List R) → length rs ≡ n → (i : ℕ) → i < n → (get_or (places bytes m rs) i None ≡ get_or (parted w n m bs) i None) ⊎ Among (a + i) (addresses n a m)
  done_first zero a m bs rs e i l = absurd (not-suc-le-zero l)
  done_first (suc n) a m bs [] e i l = absurd (omega arith)
  done_first (suc n) a m bs (r ∷ rs) e i l =
      ⊎_elim
      (λ b.
      subst (λ (ps : Places). (get_or (places bytes m (r ∷ rs)) i None ≡ get_or ps i None) ⊎ Among (a + i) (addresses (suc n) a m)) (sym (parted_up w n m bs b))
      (subst (λ (xs : List ℕ). (get_or (places bytes m (r ∷ rs)) i None ≡ get_or (Some (take w bs) ∷ parted w n (m / 2) (drop w bs)) i None) ⊎ Among (a + i) xs) (sym (addresses_up n a m b))
      (at_up n a m bs r rs (λ j k. done_first n (a + 1) (m / 2) (drop w bs) rs (omega arith) j k) i l)))
      (λ b.
      subst (λ (ps : Places). (get_or (places bytes m (r ∷ rs)) i None ≡ get_or ps i None) ⊎ Among (a + i) (addresses (suc n) a m)) (sym (parted_down w n m bs b))
      (subst (λ (xs : List ℕ). (get_or (places bytes m (r ∷ rs)) i None ≡ get_or (None ∷ parted w n (m / 2) bs) i None) ⊎ Among (a + i) xs) (sym (addresses_down n a m b))
      (at_down n a m bs r rs (λ j k. done_first n (a + 1) (m / 2) bs rs (omega arith) j k) b i l)))
      (cases_eq (m % 2) 1)

module _ {R : Type 0} (bytes : R → List ℕ) (reads : List ℕ → Bool) (w p m : ℕ) (whole : List ℕ) where
  -- the place of an address in the whole, and whether the map has its bit
  at : ℕ → Option (List ℕ)
  at x = get_or (parted w 8 m whole) (x % 8) None

  up : ℕ → Type 0
  up x = m / 2 ^ (x % 8) % 2 ≡ 1

  -- each place is that of a row that was read, or its address is still to come
  pub record Reading (rs : List R) (left bs : List ℕ) : Type 0 where
    pub eight : length rs ≡ 8
    done : (i : ℕ) → i < 8 → (get_or (places bytes m rs) i None ≡ get_or (parted w 8 m whole) i None) ⊎ Among (8 * p + i) left
    ahead : Ahead at up w left bs

  pub reading_first : (rs : List R) (left bs : List ℕ) → length rs ≡ 8 → length whole ≡ ones m * w → left ≡ addresses 8 (8 * p) m → bs ≡ whole → Reading rs left bs
  unfolding at up
  reading_first rs left bs e l f g =
      let same : (i : ℕ) → i < 8 → (8 * p + i) % 8 ≡ i = λ i h. omega arith in
      let ahead : Ahead at up w (addresses 8 (8 * p) m) whole =
      ahead_first at up w 8 (8 * p) m whole (λ i h. ap (λ (n : ℕ). get_or (parted w 8 m whole) n None) (same i h)) (λ i h b. subst (λ (n : ℕ). m / 2 ^ n % 2 ≡ 1) (sym (same i h)) b) l in
      record {
        eight = e;
        done = λ i h. subst (λ (xs : List ℕ). (get_or (places bytes m rs) i None ≡ get_or (parted w 8 m whole) i None) ⊎ Among (8 * p + i) xs) (sym f) (done_first bytes w 8 (8 * p) m whole rs e i h);
        ahead = subst (λ (xs : List ℕ). Ahead at up w xs bs) (sym f) (subst (λ (ys : List ℕ). Ahead at up w (addresses 8 (8 * p) m) ys) (sym g) ahead);
      }

  -- what is known of the next address and of its cell
  record Next (x : ℕ) (left bs cell : List ℕ) : Type 0 where
    here : at x ≡ Some cell
    stands : up x
    more : Ahead at up w left bs

  next : (rs : List R) (from left bs rest : List ℕ) (x : ℕ) (cell : List ℕ) → from ≡ x ∷ left → bs ≡ cell ++ rest → length cell ≡ w → Reading rs from bs → Next x left rest cell
  unfolding Ahead
  next rs from left bs rest x cell e f l v =
      let a : Ahead at up w (x ∷ left) (cell ++ rest) = subst (λ (xs : List ℕ). Ahead at up w xs (cell ++ rest)) e (subst (λ (ys : List ℕ). Ahead at up w from ys) f v.ahead) in
      record {
        here = a.1 ∙ ap (λ (y : List ℕ). Some y) (take_at cell rest w l);
        stands = a.2;
        more = subst (λ (ys : List ℕ). Ahead at up w left ys) (drop_at cell rest w l) a.3;
      }

  pub reading_more : (rs : List R) (from left bs rest : List ℕ) (x : ℕ) (cell : List ℕ) (c : R) → from ≡ x ∷ left → bs ≡ cell ++ rest → length cell ≡ w → bytes c ≡ cell → Reading rs from bs → Reading (set rs (x % 8) c) left rest
  unfolding Among at up
  reading_more rs from left bs rest x cell c e f l k v =
      let n = next rs from left bs rest x cell e f l v in
      let small : x % 8 < length rs = let q = v.eight in omega arith in
      let long : length (set rs (x % 8) c) ≡ 8 = length-set rs (x % 8) c ∙ v.eight in
      let here : get_or (places bytes m (set rs (x % 8) c)) (x % 8) None ≡ get_or (parted w 8 m whole) (x % 8) None =
      get_or-places bytes m (set rs (x % 8) c) (x % 8) c (omega arith)
      ∙ ap (place bytes (m / 2 ^ (x % 8))) (get_or-set_same rs (x % 8) c c small)
      ∙ place_up bytes (m / 2 ^ (x % 8)) c n.stands
      ∙ ap (λ (y : List ℕ). Some y) k
      ∙ sym n.here in
      record {
        eight = long;
        done =
            λ i h.
            ⊎_elim
            (λ q. inl (subst (λ (y : ℕ). get_or (places bytes m (set rs (x % 8) c)) y None ≡ get_or (parted w 8 m whole) y None) (sym q) here))
            (λ q.
            let kept : get_or (places bytes m (set rs (x % 8) c)) i None ≡ get_or (places bytes m rs) i None =
            get_or-places bytes m (set rs (x % 8) c) i c (omega arith)
            ∙ ap (place bytes (m / 2 ^ i)) (get_or-set_other rs (x % 8) i c c q)
            ∙ sym (get_or-places bytes m rs i c (let r = v.eight in omega arith)) in
            ⊎_elim (λ y. inl (kept ∙ y))
            (λ y. ⊎_elim (λ z. absurd (q (omega arith))) (λ z. inr z) (subst (λ (xs : List ℕ). Among (8 * p + i) xs) e y))
            (v.done i h))
            (cases_eq i (x % 8));
        ahead = n.more;
      }

  pub reading_stops : (rs : List R) (from left bs rest : List ℕ) (x : ℕ) (cell : List ℕ) → from ≡ x ∷ left → bs ≡ cell ++ rest → length cell ≡ w → reads cell ≡ false → Reading rs from bs → all_read reads (parted w 8 m whole) ≡ false
  unfolding at
  reading_stops rs from left bs rest x cell e f l k v = all_unread reads (parted w 8 m whole) (x % 8) cell (next rs from left bs rest x cell e f l v).here k

  ended : (left bs : List ℕ) → length bs < w → Ahead at up w left bs → left ≡ []
  unfolding Ahead
  ended [] bs l v = refl
  ended (x ∷ xs) bs l v = let q = v.0 in absurd (omega arith)

  -- the bytes end only where the addresses do
  pub reading_ends : (rs : List R) (left bs : List ℕ) → length bs < w → Reading rs left bs → left ≡ []
  reading_ends rs left bs l v = ended left bs l v.ahead

  pub reading_all : (rs : List R) (left bs : List ℕ) → left ≡ [] → Reading rs left bs → places bytes m rs ≡ parted w 8 m whole
  unfolding Among
  reading_all rs left bs e v =
      let l : length (places bytes m rs) ≡ 8 = length-places bytes m rs ∙ v.eight in
      ext_get_or None (places bytes m rs) (parted w 8 m whole) (l ∙ sym (length-parted w 8 m whole))
      (λ i h. ⊎_elim (λ y. y) (λ y. absurd (subst (λ (xs : List ℕ). Among (8 * p + i) xs) e y)) (v.done i (omega arith)))
