-- The lowest bit of a map, and a map without it. Assumes nothing.
use Rattle.std.proofs.Common.{◌≡◌, ℕ, zero, suc, ◌+◌, ◌-◌, ◌/◌, ◌%◌, ◌^◌, ◌<◌, ◌≤◌, [], ◌∷◌, sym, refl, ap, ◌∙◌, pow-suc, add-zero, div-one, arith, le_of_suc-le-suc, not-suc-le-zero}
use Rattle.std.proofs.lemmas.Bool.{eq-eqb, ne_eqb}
use Rattle.std.proofs.lemmas.Nat.Bits.{bit_at-suc, bit_at-trailing_zeros}
use Rattle.std.proofs.Math.Nat.{mul-div-le, mul-le-mul_left}
use Rattle.std.specs.Int.{trailing_zeros}
use mir.Syntax.{w8}
use Rattle.frames.specs.Addressed.{addresses}

-- k is the place of the lowest bit that stands in m
pub record IsLowest (m k : ℕ) : Type 0 where
  pub stands : m / 2 ^ k % 2 ≡ 1
  pub below : (i : ℕ) → i < k → m / 2 ^ i % 2 ≡ 0

-- `trailing_zeros` of a map is the place of its lowest bit
pub lowest_of : (m : ℕ) → 0 < m → m < 256 → (trailing_zeros w8 m < 8) × IsLowest m (trailing_zeros w8 m)
lowest_of m h k =
    let t = bit_at-trailing_zeros w8 m h k in
    (t.0, record { stands = t.1; below = t.2 })

pub lowest_le : (m k : ℕ) → IsLowest m k → 2 ^ k ≤ m
lowest_le m k h =
    let s = h.stands in
    let q : 1 ≤ m / 2 ^ k = omega arith in
    omega (arith, mul-div-le m (2 ^ k), mul-le-mul_left (2 ^ k) q)

-- m where its lowest bit is the first
pub record FirstStands (m : ℕ) : Type 0 where
  pub odd : m % 2 ≡ 1
  pub less_even : (m - 1) % 2 ≡ 1 → ⊥
  pub less_half : (m - 1) / 2 ≡ m / 2

pub first_stands : (m : ℕ) → IsLowest m 0 → FirstStands m
first_stands m h =
    let d = div-one m in
    let o : m % 2 ≡ 1 = ap (λ (n : ℕ). n % 2) (sym d) ∙ h.stands in
    record { odd = o; less_even = λ e. omega arith; less_half = omega arith }

-- m where its lowest bit is a later one
pub record LaterStands (m k : ℕ) : Type 0 where
  pub even : m % 2 ≡ 1 → ⊥
  pub less_even : (m - 2 ^ suc k) % 2 ≡ 1 → ⊥
  pub less_half : (m - 2 ^ suc k) / 2 ≡ m / 2 - 2 ^ k
  pub low : IsLowest (m / 2) k

pub later_stands : (m k : ℕ) → IsLowest m (suc k) → LaterStands m k
later_stands m k h =
    let d = div-one m in
    let z : 0 < suc k = omega arith in
    let o : m % 2 ≡ 0 = ap (λ (n : ℕ). n % 2) (sym d) ∙ h.below 0 z in
    let p = pow-suc 2 k in
    record {
      even = λ e. omega arith;
      less_even = λ e. omega arith;
      less_half = omega arith;
      low = record { stands = sym (bit_at-suc m k) ∙ h.stands; below = λ i l. sym (bit_at-suc m i) ∙ h.below (suc i) (omega arith) };
    }

pub addresses_lowest : (n a m k : ℕ) → k < n → IsLowest m k → addresses n a m ≡ (a + k) ∷ addresses n a (m - 2 ^ k)
unfolding addresses
addresses_lowest zero a m k l h = absurd (not-suc-le-zero l)
addresses_lowest (suc n) a m zero l h =
    let s = first_stands m h in
    simp (eq-eqb (m % 2) 1 s.odd, ne_eqb ((m - 1) % 2) 1 s.less_even, s.less_half, add-zero a)
addresses_lowest (suc n) a m (suc k) l h =
    let s = later_stands m k h in
    let e = addresses_lowest n (a + 1) (m / 2) k (le_of_suc-le-suc l) s.low in
    simp (ne_eqb (m % 2) 1 s.even, ne_eqb ((m - 2 ^ suc k) % 2) 1 s.less_even, s.less_half, e) (ap (λ (x : ℕ). x ∷ addresses n (a + 1) (m / 2 - 2 ^ k)) (omega arith))

pub addresses_none : (n a : ℕ) → addresses n a 0 ≡ []
unfolding addresses
addresses_none zero a = refl
addresses_none (suc n) a = addresses_none n (a + 1)
