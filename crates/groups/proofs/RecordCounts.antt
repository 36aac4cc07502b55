-- How many addresses have a record. Assumes nothing.
use Rattle.std.proofs.Common.{◌≡◌, ℕ, zero, suc, ◌+◌, ◌<◌, ◌≤◌, Bool, true, false, cond, eqb, map, length, get_or, set, sum, count_by, sym, refl, ap, ◌∙◌, arith, length-set}
use Rattle.std.proofs.lemmas.List.FromFn.{get_or-map-range_with_len, length-range_with_len, length-map-range_with_len}
use Rattle.std.proofs.lemmas.List.{same_lists}
use Rattle.std.proofs.lemmas.List.Sums.{count_by-le-length, sum-map, sum_by-set}
use Rattle.std.proofs.lemmas.Bool.Decides.{nat_tests}
use Rattle.std.proofs.lemmas.Grind.{common_steps}
use Rattle.std.specs.List.{range_with_len}
use Rattle.groups.specs.declared.sparse.Sparse.{Sparse}
use Rattle.groups.proofs.Basics.{over_cond}

-- a list by index, with one place altered
pub set_counted : {X : Type 0} (f g : ℕ → X) (n a : ℕ) (y : X) → a < n → ((k : ℕ) → g k ≡ cond (eqb k a) y (f k)) → map g (range_with_len 0 n) ≡ set (map f (range_with_len 0 n)) a y
set_counted f g n a y h e =
    let l = length-map-range_with_len f 0 n in
    let m = length-map-range_with_len g 0 n in
    same_lists (map g (range_with_len 0 n)) (set (map f (range_with_len 0 n)) a y) (simp length-set (omega arith)) (λ k d low.
    let q = e k in
    let is = get_or-map-range_with_len g 0 n k k d (omega arith) (omega arith) in
    let was = get_or-map-range_with_len f 0 n k k d (omega arith) (omega arith) in
    grind (arith, common_steps, nat_tests))

-- no number passes a test that none does
pub count_none : (k n : ℕ) → 0 ≡ count_by (λ _. false) (range_with_len k n)
count_none k zero = refl
count_none k (suc n) = let h = count_none (k + 1) n in grind (arith, nat_tests)

pub count_le : (n : ℕ) (f : ℕ → Bool) → count_by f (range_with_len 0 n) ≤ n
count_le n f = let l = length-range_with_len 0 n in omega (arith, count_by-le-length f (range_with_len 0 n))

bit : Bool → ℕ
bit b = cond b 1 0

-- with one number more that passes, or the same number again
pub count_put : (n a : ℕ) (f g : ℕ → Bool) → a < n → ((k : ℕ) → g k ≡ cond (eqb k a) true (f k)) → count_by g (range_with_len 0 n) + cond (f a) 1 0 ≡ count_by f (range_with_len 0 n) + 1
unfolding bit
count_put n a f g h e =
    let F = λ (k : ℕ). bit (f k) in
    let G = λ (k : ℕ). bit (g k) in
    let xs = map F (range_with_len 0 n) in
    let l = length-map-range_with_len F 0 n in
    let put : map G (range_with_len 0 n) ≡ set xs a 1 = set_counted F G n a 1 h (λ k. ap bit (e k) ∙ over_cond bit (eqb k a) true (f k)) in
    let is : count_by g (range_with_len 0 n) ≡ sum (set xs a 1) = sym (sum-map G (range_with_len 0 n)) ∙ ap sum put in
    let was : count_by f (range_with_len 0 n) ≡ sum xs = sym (sum-map F (range_with_len 0 n)) in
    let at : get_or xs a 0 ≡ F a = get_or-map-range_with_len F 0 n a a 0 h (omega arith) in
    let step = sum_by-set (λ (x : ℕ). x) xs a 1 0 (omega arith) in
    omega arith

-- no more are in use than there are
pub used_below : (n : ℕ) (f : ℕ → Bool) (used lent : ℕ) → used ≡ count_by f (range_with_len 0 n) → n < lent → used < lent
used_below n f used lent e h = omega (arith, count_le n f)

pub used_in : {R : Type 0} (s : Sparse R) → s.used < length s.records.now
used_in s = used_below _ _ s.used _ s.single s.fits
