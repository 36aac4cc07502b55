-- What holds of any group, by its meaning. Assumes nothing.
use Rattle.std.proofs.Common.{◌≡◌, ℕ, ◌*◌, ◌/◌, ◌%◌, ◌<◌, Bool, true, false, cond, ltb, List, [], length, get_or, set, Some, Ok, Err, Decides, Result, sym, refl, ap, ◌∙◌, subst, zero-add, mod-lt, arith, length-set, get_or-set_same, lt-ltb}
use Rattle.std.proofs.lemmas.List.FromFn.{get_or-range_with_len, length-range_with_len}
use Rattle.std.proofs.lemmas.Nat.{div-add-mod', div_below}
use Rattle.std.proofs.lemmas.List.{ext_get_or}
use Rattle.std.proofs.lemmas.Option.{slice_get-get_or}
use Rattle.std.proofs.lemmas.Bool.Decides.{nat_tests}
use Rattle.std.proofs.lemmas.Bool.{and_from, false≢true}
use Rattle.std.specs.Bool.{MatchBool}
use Rattle.std.specs.List.{AllWithin, HoldsAt, range_with_len, slice_get}
use Rattle.cells.specs.declared.fault.Fault.{Fault}
use Rattle.groups.specs.Compared.{SameAnswers, SameShape, read_back}
use Rattle.groups.specs.Meaning.{Cell, Dimensions, GroupLaws, GroupMeaning, address_in, after_write, dimensions, found, inside, no_place, read_answer, stored, write_answer}
use Rattle.groups.proofs.Basics.{address_below}

module _ (m : GroupMeaning) (v b : ℕ) where
  -- a place that the group has is an address
  has_cell : GroupLaws m → inside m v b ≡ true → address_in m.blocks v b < length m.cells
  has_cell laws h = let l = laws.sized in omega (arith, address_below m.volumes m.blocks v b h)

  at_set : (cs : List Cell) (a : ℕ) (x : Cell) → a < length cs → slice_get (set cs a x) a ≡ Some x
  at_set cs a x l = slice_get-get_or (set cs a x) a x (simp length-set l) ∙ ap Some (get_or-set_same cs a x x l)

  pub back_taken : (x : Cell) (u : Unit) → GroupLaws m → write_answer m v b ≡ Ok u → read_answer (after_write m v b x) v b ≡ read_back m v b x
  back_taken x u laws e =
      let p : (inside m v b ≡ true) × (m.takes [] v ≡ true) = grind (arith, nat_tests) in
      let i = p.0 in
      let t = p.1 in
      let after : after_write m v b x ≡ stored m v b x = simp (i, t) in
      ap (λ (n : GroupMeaning). read_answer n v b) after ∙ ap (λ (k : Bool). cond k (found v (slice_get (set m.cells (address_in m.blocks v b) x) (address_in m.blocks v b))) (Err (no_place v))) i ∙ ap (found v) (at_set m.cells (address_in m.blocks v b) x (has_cell laws i)) ∙ sym (simp (i, t))

-- both groups answer the same cell at an address
abbrev pub same_read : GroupMeaning → GroupMeaning → ℕ → ℕ → Type 0
same_read m n blocks a = SameAnswers (read_answer m (a / blocks) (a % blocks)) (read_answer n (a / blocks) (a % blocks))

-- the cell of an address, read at its volume and block
reads_own : (m : GroupMeaning) → GroupLaws m → (a : ℕ) → a < m.volumes * m.blocks → read_answer m (a / m.blocks) (a % m.blocks) ≡ Ok (get_or m.cells a [])
reads_own m laws a h =
    let v = a / m.blocks in
    let b = a % m.blocks in
    let some = laws.shaped.2 in
    let p = lt-ltb v m.volumes (div_below a m.blocks m.volumes some h) in
    let q = lt-ltb b m.blocks (mod-lt a some) in
    let i : inside m v b ≡ true = and_from (ltb v m.volumes) (ltb b m.blocks) p q in
    ap (λ (k : Bool). cond k (found v (slice_get m.cells (address_in m.blocks v b))) (Err (no_place v))) i
    ∙ ap (λ (k : ℕ). found v (slice_get m.cells k)) (div-add-mod' a m.blocks)
    ∙ ap (found v) (slice_get-get_or m.cells a [] (omega (arith, laws.sized)))

pub reads_address : (m : GroupMeaning) → GroupLaws m → (shape : Dimensions) (a : ℕ) → dimensions m ≡ shape → a < shape.volumes * shape.blocks → read_answer m (a / shape.blocks) (a % shape.blocks) ≡ Ok (get_or m.cells a [])
reads_address m laws shape a e =
    subst (λ (d : Dimensions). a < d.volumes * d.blocks → read_answer m (a / d.blocks) (a % d.blocks) ≡ Ok (get_or m.cells a [])) e (reads_own m laws a)

module _ (m n : GroupMeaning) (laws : GroupLaws m) (laws' : GroupLaws n) (shape : Dimensions) (same : SameShape m n shape) where
  long : (length m.cells ≡ shape.volumes * shape.blocks) × (length n.cells ≡ shape.volumes * shape.blocks)
  long = (laws.sized ∙ ap (λ (d : Dimensions). d.volumes * d.blocks) same.one, laws'.sized ∙ ap (λ (d : Dimensions). d.volumes * d.blocks) same.other)

  -- to compare what is read at an address is to compare its cells
  at_address : (a : ℕ) → a < shape.volumes * shape.blocks → same_read m n shape.blocks a ≡ (get_or m.cells a [] ≡ get_or n.cells a [])
  at_address a h =
      ap (λ (r : Result Cell Fault). SameAnswers r (read_answer n (a / shape.blocks) (a % shape.blocks))) (reads_address m laws shape a same.one h)
      ∙ ap (SameAnswers (Ok (get_or m.cells a []))) (reads_address n laws' shape a same.other h)

  -- whether all that is read at the addresses is the same decides whether the cells are
  pub cells_decided : (r : Bool) → MatchBool r (AllWithin (same_read m n shape.blocks) (range_with_len 0 (shape.volumes * shape.blocks)) 0 (length (range_with_len 0 (shape.volumes * shape.blocks)))) ((k : ℕ) × (k < length (range_with_len 0 (shape.volumes * shape.blocks))) × HoldsAt (λ a. same_read m n shape.blocks a → ⊥) (range_with_len 0 (shape.volumes * shape.blocks)) k) → Decides r (m.cells ≡ n.cells)
  cells_decided true h =
      let l = long in
      let all = length-range_with_len 0 (shape.volumes * shape.blocks) in
      (λ t. ext_get_or [] m.cells n.cells (l.0 ∙ sym l.1) (λ a low. let high : a < shape.volumes * shape.blocks = omega (arith, l.0) in subst (λ (X : Type 0). X) (at_address a high) (subst (same_read m n shape.blocks) (get_or-range_with_len 0 (shape.volumes * shape.blocks) a 0 high ∙ zero-add a) (h a 0 (omega arith) (omega (arith, all))))), λ e. refl)
  cells_decided false (k, low, h) =
      let high : k < shape.volumes * shape.blocks = omega (arith, length-range_with_len 0 (shape.volumes * shape.blocks)) in
      (λ t. absurd (false≢true t), λ e. absurd (h 0 (subst (same_read m n shape.blocks) (sym (get_or-range_with_len 0 (shape.volumes * shape.blocks) k 0 high ∙ zero-add k)) (subst (λ (X : Type 0). X) (sym (at_address k high)) (ap (λ (cs : List Cell). get_or cs k []) e)))))
