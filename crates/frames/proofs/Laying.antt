-- Frames laid into a buffer. Assumes nothing.
use Rattle.std.proofs.Common.{◌≡◌, ℕ, ◌+◌, ◌*◌, ◌%◌, ◌≤◌, List, [], ◌∷◌, ◌++◌, length, get_or, take, drop, sym, refl, ap, ◌∙◌, subst, arith, length-append, length-drop, length-take}
use borrow.Rule.Slice.PartMut.{put_mid}
use Rattle.std.proofs.lemmas.List.{append_assoc, append-nil, drop_all, drop-drop, drop_at, take_all, take_at, take-append-drop}
use Rattle.cells.specs.Numbers.{be}
use Rattle.cells.specs.BigEndian.{length-be}
use Rattle.frames.specs.Meaning.{Places, entries, marker, whole, encoded, map_of, bodies}
use Rattle.frames.specs.Frames.{places}
use Rattle.std.specs.List.{flat_map}
use Rattle.frames.specs.Addressed.{addresses}
use Rattle.frames.proofs.Walking.{bodies-page, cell_at, cell_at-is, length-addresses}

-- how long each frame is
pub length-marker : (c n : ℕ) → length (encoded (marker c n)) ≡ 7
length-marker c n =
    let e = length-be 4 c in
    let f = length-be 2 n in
    simp length-append (omega arith)

pub length-paged : (k c p : ℕ) (rest : List ℕ) → length (k ∷ (be 4 c ++ (be 2 p ++ rest))) ≡ 7 + length rest
length-paged k c p rest =
    let e = length-be 4 c in
    let f = length-be 2 p in
    simp (length-append, length-append) (omega arith)

pub length_whole : (c : ℕ) → length (encoded (whole c)) ≡ 5
length_whole c = let e = length-be 4 c in omega arith

-- an entries frame: a head of eight bytes, and then what was laid into the rest of the buffer
pub entries_laid : (c p m r : ℕ) (ps : Places) (old u new : List ℕ) → map_of ps ≡ m → length old ≡ 136 → u ≡ 7 ∷ (be 4 c ++ (be 2 p ++ (m ∷ []))) → length new ≡ 128 → new ≡ bodies ps ++ drop r (take 128 (drop 8 (u ++ drop 8 old))) → put_mid 8 128 (u ++ drop 8 old) new ≡ encoded (entries c p ps) ++ drop (8 + r) old
entries_laid c p m r ps old u new e l f k g =
    let h : length u ≡ 8 = ap length f ∙ length-paged 7 c p (m ∷ []) in
    let t = take_at u (drop 8 old) 8 h in
    let d = drop_at u (drop 8 old) 8 h in
    let lo : length (drop 8 old) ≡ 128 = simp length-drop (omega arith) in
    let z : drop 128 (drop 8 old) ≡ [] = drop_all 128 (drop 8 old) (omega arith) in
    let w : take 128 (drop 8 old) ≡ drop 8 old = take_all 128 (drop 8 old) (omega arith) in
    let a = append-nil new in
    let i = drop-drop r 8 old in
    let j = append_assoc (be 4 c) (be 2 p ++ (m ∷ [])) (bodies ps ++ drop (8 + r) old) in
    let n = append_assoc (be 2 p) (m ∷ []) (bodies ps ++ drop (8 + r) old) in
    let o = append_assoc (be 4 c) (be 2 p ++ (map_of ps ∷ bodies ps)) (drop (8 + r) old) in
    let q = append_assoc (be 2 p) (map_of ps ∷ bodies ps) (drop (8 + r) old) in
    cc

module _ {R : Type 0} (bytes : R → List ℕ) (rs : List R) (m : ℕ) (old : List ℕ) where
  -- the bytes laid so far, with those of the addresses still to come, are all the cells; the rest of the buffer is as it was
  pub record Laid (out left : List ℕ) (at : ℕ) : Type 0 where
    pub all : take at out ++ flat_map (cell_at bytes rs) left ≡ bodies (places bytes m rs)
    pub rest : drop at out ≡ drop at old
    pub low : at + 16 * length left ≤ 128

  pub laid_none : (p : ℕ) (left : List ℕ) → length rs ≡ 8 → left ≡ addresses 8 (8 * p) m → Laid old left 0
  laid_none p left e f =
      let l = length-addresses 8 (8 * p) m in
      record { all = ap (flat_map (cell_at bytes rs)) f ∙ sym (bodies-page bytes p m rs e); rest = refl; low = omega (arith, ap length f) }

  pub laid_more : (out new from left : List ℕ) (x at to w : ℕ) (r : R) → from ≡ x ∷ left → to ≡ at + w → length rs ≡ 8 → r ≡ get_or rs (x % 8) r → 128 ≤ length out → w ≤ 16 → length (bytes r) ≡ w → new ≡ take at out ++ (bytes r ++ drop (at + w) out) → Laid out from at → Laid new left to
  laid_more out new from left x at to w r i j e h k s l f v =
      let front = take at out ++ bytes r in
      let q = v.low in
      let n : at + w ≤ length out = omega (arith, ap length i) in
      let lt : length (take at out) ≡ at = simp length-take (omega arith) in
      let lf : length front ≡ at + w = length-append (take at out) (bytes r) ∙ (omega arith) in
      let f' : new ≡ front ++ drop (at + w) out = f ∙ sym (append_assoc (take at out) (bytes r) (drop (at + w) out)) in
      let t : take (at + w) new ≡ front = ap (take (at + w)) f' ∙ take_at front (drop (at + w) out) (at + w) lf in
      let d : drop (at + w) new ≡ drop (at + w) out = ap (drop (at + w)) f' ∙ drop_at front (drop (at + w) out) (at + w) lf in
      let made : Laid new left (at + w) =
      record {
        all =
            ap (λ (y : List ℕ). y ++ flat_map (cell_at bytes rs) left) t
            ∙ append_assoc (take at out) (bytes r) (flat_map (cell_at bytes rs) left)
            ∙ ap (λ (y : List ℕ). take at out ++ (y ++ flat_map (cell_at bytes rs) left)) (sym (cell_at-is bytes rs x r e h))
            ∙ ap (λ (y : List ℕ). take at out ++ flat_map (cell_at bytes rs) y) (sym i)
            ∙ v.all;
        rest = d ∙ sym (drop-drop w at out) ∙ ap (drop w) v.rest ∙ drop-drop w at old;
        low = omega (arith, ap length i);
      } in
      subst (λ (n : ℕ). Laid new left n) (sym j) made

  pub laid_all : (out left : List ℕ) (at : ℕ) → left ≡ [] → at ≤ length out → Laid out left at → (at ≡ length (bodies (places bytes m rs))) × (out ≡ bodies (places bytes m rs) ++ drop at old)
  laid_all out left at e k v =
      let z : take at out ≡ bodies (places bytes m rs) = sym (append-nil (take at out)) ∙ ap (λ (l : List ℕ). take at out ++ flat_map (cell_at bytes rs) l) (sym e) ∙ v.all in
      let la : length (take at out) ≡ at = simp length-take (omega arith) in (
        sym la ∙ ap length z,
        sym (take-append-drop at out) ∙ ap (λ (y : List ℕ). y ++ drop at out) z ∙ ap (λ (y : List ℕ). bodies (places bytes m rs) ++ y) v.rest,
      )
