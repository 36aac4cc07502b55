use Rattle.std.proofs.Common.{◌≡◌, ℕ, ◌+◌, ◌-◌, ◌*◌, ◌%◌, ◌^◌, ◌<◌, [], ◌∷◌, length, sym, ap, ◌∙◌, arith, rules}
use Rattle.std.specs.Int.{trailing_zeros}
use mir.Syntax.{w8}
use Rattle.std.proofs.lemmas.Nat.{one_shl}
use Rattle.frames.specs.Addressed.{addresses, addresses_left}
use Rattle.frames.proofs.Lowest.{lowest_of, lowest_le, addresses_none, addresses_lowest}
use Rattle.frames.proofs.addresses.AddressesIterator.next.Goals as goal

pub returns-then-self-eq0-clause-steps : goal.returns-then-self-eq0-clause-steps
returns-then-self-eq0-clause-steps c =
    let s = c.args.self.now in
    let e : addresses_left s ≡ [] = ap (addresses 8 (8 * s.number)) c.if-self-eq0.true ∙ addresses_none 8 (8 * s.number) in
    (e, e)

pub overflow_sub-self : goal.overflow_sub-self
overflow_sub-self c =
    let m = c.args.self.now.map in
    let l = lowest_of m (omega arith) (search rules) in
    let p = one_shl (trailing_zeros w8 m) 8 l.0 in
    let q = lowest_le m (trailing_zeros w8 m) l.1 in
    omega arith

taken : (a m : ℕ) → 0 < m → m < 256 → addresses 8 a m ≡ (a + trailing_zeros w8 m) ∷ addresses 8 a (m - 1 * 2 ^ trailing_zeros w8 m % 256)
taken a m h k =
    let l = lowest_of m h k in
    addresses_lowest 8 a m (trailing_zeros w8 m) l.0 l.1
    ∙ ap (λ n. (a + trailing_zeros w8 m) ∷ addresses 8 a (m - n)) (sym (one_shl (trailing_zeros w8 m) 8 l.0))

pub returns-clause-steps : goal.returns-clause-steps
returns-clause-steps c =
    let s = c.args.self.now in
    let e : c.from.result ≡ s.number = c.from.ensures in
    rw e (taken (8 * s.number) s.map (omega arith) (search rules))

pub returns-clause-goes : goal.returns-clause-goes
returns-clause-goes c =
    let s = c.args.self.now in
    let m = s.map in
    let t : addresses 8 (8 * s.number) m ≡ (8 * s.number + trailing_zeros w8 m) ∷ addresses 8 (8 * s.number) (m - 1 * 2 ^ trailing_zeros w8 m % 256) =
    taken (8 * s.number) m (omega arith) (search rules) in
    record { on = λ _. (tt, tt, omega (arith, ap length t)); keeps = tt; rests = λ _. tt }
