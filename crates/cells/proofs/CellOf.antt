-- What an answer to reading a cell tells. Assumes nothing.
use Rattle.std.proofs.Common.{◌≡◌, ℕ, Bool, true, false, cond, eqb, List, length, Some, None, Ok, Err, Result, refl, ap}
use Rattle.std.specs.Option.{ok_or}
use Rattle.cells.specs.declared.fault.Fault.{Fault}
use Rattle.std.proofs.lemmas.Bool.{eqb-true}
use Rattle.cells.specs.Cells.{cell_of}
use Rattle.cells.specs.Faults.{answered, not_a_cell}

either : (b : Bool) (x y : List ℕ) → Ok y ≡ cond {A = Result (List ℕ) Fault} b (Ok x) (Err not_a_cell) → (b ≡ true) × (y ≡ x)
either true x y e = (refl, cc)
either false x y e = cc

neither : (b : Bool) (x : List ℕ) (f : Fault) → Err f ≡ cond {A = Result (List ℕ) Fault} b (Ok x) (Err not_a_cell) → (b ≡ false) × (f ≡ not_a_cell)
neither true x f e = cc
neither false x f e = (refl, cc)

some_if : {X : Type 0} (b : Bool) (x y : X) → Some x ≡ cond b (Some y) None → (b ≡ true) × (x ≡ y)
some_if true x y e = (refl, cc)
some_if false x y e = cc

-- a row of bytes of a length
pub sized_from_some : {X : Type 0} (n : ℕ) (bs : List ℕ) (x y : X) → Some x ≡ cond (eqb (length bs) n) (Some y) None → (length bs ≡ n) × (x ≡ y)
sized_from_some n bs x y e = let p = some_if (eqb (length bs) n) x y e in (eqb-true (length bs) n p.0, p.1)

-- bytes that write a cell where they are of its length, and else none
pub read_or_not : {X : Type 0} (bytes : X → List ℕ) (b : Bool) (x : X) (bs : List ℕ) → (b ≡ true → bytes x ≡ bs) → answered bytes (ok_or (cond b (Some x) None) not_a_cell) ≡ cond b (Ok bs) (Err not_a_cell)
read_or_not bytes true x bs h = ap Ok (h refl)
read_or_not bytes false x bs h = refl

pub read_from_ok : (reads : List ℕ → Bool) (bs c : List ℕ) → Ok c ≡ cell_of reads bs → (reads bs ≡ true) × (c ≡ bs)
read_from_ok reads bs c e = either (reads bs) bs c e

pub unread_from_err : (reads : List ℕ → Bool) (bs : List ℕ) (f : Fault) → Err f ≡ cell_of reads bs → (reads bs ≡ false) × (f ≡ not_a_cell)
unread_from_err reads bs f e = neither (reads bs) bs f e
