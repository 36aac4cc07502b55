-- Numbers as bytes, over any count of bytes. Assumes nothing.
use Rattle.std.specs.Prelude.{◌≡◌, ℕ, zero, suc, ◌+◌, ◌*◌, ◌/◌, ◌%◌, ◌^◌, ◌<◌, ◌≤◌, List, [], ◌∷◌, length, take, drop, slice_index, refl}
use Rattle.std.proofs.Common.{sym, subst, ◌∙◌, pow-suc, arith, length-take, length-drop}
use Rattle.std.proofs.Math.Nat.{div-div-eq-div-mul}
use Rattle.std.specs.Int.Digits.{number_from_digits_after}
use Rattle.std.proofs.lemmas.Int.Digits.{number_push, number_lt}
use Rattle.std.proofs.ByRecursion.{All-append, All-drop, All-from_get_or, All-take}
use Rattle.std.proofs.lemmas.List.{length_push}
use Rattle.cells.specs.Numbers.{Bytes, be, value, field}

pub length-be : (k n : ℕ) → length (be k n) ≡ k
unfolding be
length-be zero n = refl
length-be (suc k) n = length_push (be k (n / 256)) (n % 256) ∙ (let e = length-be k (n / 256) in omega arith)

pub bytes-be : (k n : ℕ) → Bytes (be k n)
unfolding be
bytes-be zero n = tt
bytes-be (suc k) n = All-append (λ (b : ℕ). b < 256) (be k (n / 256)) (n % 256 ∷ []) (bytes-be k (n / 256)) (omega arith, tt)

pub value-be : (k n : ℕ) → n < 256 ^ k → value (be k n) ≡ n
unfolding be
value-be zero n h = omega arith
value-be (suc k) n h =
    let p : 256 ^ suc k ≡ 256 ^ k * 256 = pow-suc 256 k in
    let e : value (be k (n / 256)) ≡ n / 256 = value-be k (n / 256) (omega arith) in
    number_push 256 (be k (n / 256)) (n % 256) ∙ (omega arith)

-- lists of bytes of one length that write one number are one list
same_after : (m n : ℕ) (xs ys : List ℕ) → length xs ≡ length ys → Bytes xs → Bytes ys → number_from_digits_after 256 m xs ≡ number_from_digits_after 256 n ys → (m ≡ n) × (xs ≡ ys)
same_after m n [] [] l h k e = (e, refl)
same_after m n [] (y ∷ ys) l h k e = absurd (omega arith)
same_after m n (x ∷ xs) [] l h k e = absurd (omega arith)
same_after m n (x ∷ xs) (y ∷ ys) l h k e =
    let p = same_after (m * 256 + x) (n * 256 + y) xs ys (omega arith) h.1 k.1 e in
    let q = p.0 in
    let a = h.0 in
    let b = k.0 in
    let s : m ≡ n = omega arith in
    let t : x ≡ y = omega arith in
    let u = p.1 in
    (s, cc)

pub be-value : (k : ℕ) (bs : List ℕ) → length bs ≡ k → Bytes bs → be k (value bs) ≡ bs
be-value k bs l h =
    let small : value bs < 256 ^ k = subst (λ (n : ℕ). value bs < 256 ^ n) l (number_lt 256 bs h) in
    (same_after 0 0 (be k (value bs)) bs (length-be k (value bs) ∙ sym l) (bytes-be k (value bs)) h (value-be k (value bs) small)).1

-- what is known of a slice, at each place
pub bytes_from : (bs : List ℕ) → ((i : ℕ) → slice_index bs i < 256) → Bytes bs
bytes_from bs h = All-from_get_or (λ (b : ℕ). b < 256) bs 0 (λ i l. h i)

-- the bytes of a field are bytes
bytes-field : (k at : ℕ) (bs : List ℕ) → Bytes bs → Bytes (take k (drop at bs))
bytes-field k at bs h = All-take (λ (b : ℕ). b < 256) k (drop at bs) (All-drop (λ (b : ℕ). b < 256) at bs h)

-- a field that is read is written again as the bytes that it lay in
pub be-field : (k at : ℕ) (bs : List ℕ) → Bytes bs → at + k ≤ length bs → be k (field k at bs) ≡ take k (drop at bs)
be-field k at bs h l = be-value k (take k (drop at bs)) (simp (length-take, length-drop) (omega arith)) (bytes-field k at bs h)

pub field_lt : (k at : ℕ) (bs : List ℕ) → Bytes bs → at + k ≤ length bs → field k at bs < 256 ^ k
field_lt k at bs h l =
    let e : length (take k (drop at bs)) ≡ k = simp (length-take, length-drop) (omega arith) in
    subst (λ (n : ℕ). field k at bs < 256 ^ n) e (number_lt 256 (take k (drop at bs)) (bytes-field k at bs h))

-- two, four and eight bytes, spelled out as the machine's own conversions give them
pub be_two : (n : ℕ) → be 2 n ≡ (n / 256 % 256) ∷ (n % 256) ∷ []
unfolding be
be_two n = refl

pub be_four : (n : ℕ) → be 4 n ≡ (n / 16777216 % 256) ∷ (n / 65536 % 256) ∷ (n / 256 % 256) ∷ (n % 256) ∷ []
unfolding be
be_four n =
    let e2 = div-div-eq-div-mul n 256 256 in
    let e3 = div-div-eq-div-mul n 65536 256 in
    cc

pub be_eight : (n : ℕ) → be 8 n ≡ (n / 72057594037927936 % 256) ∷ (n / 281474976710656 % 256) ∷ (n / 1099511627776 % 256) ∷ (n / 4294967296 % 256) ∷ (n / 16777216 % 256) ∷ (n / 65536 % 256) ∷ (n / 256 % 256) ∷ (n % 256) ∷ []
unfolding be
be_eight n =
    let e2 = div-div-eq-div-mul n 256 256 in
    let e3 = div-div-eq-div-mul n 65536 256 in
    let e4 = div-div-eq-div-mul n 16777216 256 in
    let e5 = div-div-eq-div-mul n 4294967296 256 in
    let e6 = div-div-eq-div-mul n 1099511627776 256 in
    let e7 = div-div-eq-div-mul n 281474976710656 256 in
    cc
