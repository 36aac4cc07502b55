-- Bytes are read exactly if some frame is written so. Assumes nothing.
use Rattle.std.proofs.Common.{◌≡◌, ℕ, zero, suc, ◌+◌, ◌*◌, ◌/◌, ◌%◌, ◌^◌, ◌<◌, ◌≤◌, Bool, true, false, cond, ◌&&◌, eqb, ltb, leb, ◌⊎◌, List, [], ◌∷◌, ◌++◌, length, get_or, take, drop, Ok, Err, Result, sym, refl, ap, ◌∙◌, subst, inl, inr, ⊎_elim, add-mul, one-mul, zero-mul, arith, length-drop, length-take}
use native.Mathlib.Nat.{two-pow-succ}
use lib.Count.{ones, ones_step}
use Rattle.std.proofs.ByRecursion.{All-get_or}
use Rattle.std.proofs.lemmas.List.{append-nil, drop_more, drop_all, drop-drop, nil_from_length, take-append-drop}
use Rattle.std.proofs.lemmas.Bool.{cases_eq, cases_Bool, and_parts, leb-true, ltb-true, eqb-true, cond-true, cond-false, cond_both}
use Rattle.cells.specs.declared.fault.Fault.{Fault}
use Rattle.cells.specs.Faults.{not_a_frame, not_a_cell, refusal_number}
use Rattle.cells.specs.Numbers.{Bytes, be, field}
use Rattle.cells.specs.BigEndian.{be-field}
use Rattle.frames.specs.Meaning.{FrameMeaning, Places, entries, marker, held, whole, encoded, map_of, bodies, Numbered, Wide, Formed, all_read, cells_read}
use Rattle.frames.specs.Format.{parted, numbered, paged, marker_of, held_of, whole_of, entries_in, decoded_entries, decoded_marker, decoded_held, decoded_whole, decoded, Exact}
use Rattle.frames.proofs.Cutting.{length-parted, parted_up, parted_down}
use Rattle.frames.proofs.RoundTrip.{decoded-encoded}

numbered_is : (c : ℕ) → numbered c ≡ true → Numbered c
numbered_is c h = let p = and_parts (leb 1 c) (ltb c 4294967295) h in (leb-true 1 c p.0, ltb-true c 4294967295 p.1)

map_small : (bs : List ℕ) → Bytes bs → 8 ≤ length bs → get_or bs 7 0 < 256
map_small bs h l = All-get_or (λ (b : ℕ). b < 256) bs 7 0 l h

-- bytes that are cut and laid together again
module _ (w : ℕ) where
  map_of-parted : (n m : ℕ) (bs : List ℕ) → m < 2 ^ n → map_of (parted w n m bs) ≡ m
  unfolding parted
  map_of-parted zero m bs h = omega arith
  map_of-parted (suc n) m bs h =
      let p = two-pow-succ n in
      let k : m / 2 < 2 ^ n = omega arith in
      ⊎_elim
      (λ b. ap map_of (parted_up w n m bs b) ∙ ap (λ (x : ℕ). 1 + 2 * x) (map_of-parted n (m / 2) (drop w bs) k) ∙ (omega arith))
      (λ b. ap map_of (parted_down w n m bs b) ∙ ap (λ (x : ℕ). 2 * x) (map_of-parted n (m / 2) bs k) ∙ (omega arith))
      (cases_eq (m % 2) 1)

  -- the cells have their width, and are the bytes that were cut
  whole_parted : (n m : ℕ) (bs : List ℕ) → m < 2 ^ n → length bs ≡ ones m * w → Wide w (parted w n m bs) × (bodies (parted w n m bs) ≡ bs)
  unfolding parted ones
  whole_parted zero m bs h e =
      let z : m ≡ 0 = omega arith in
      (tt, sym (nil_from_length bs (e ∙ ap (λ (x : ℕ). ones x * w) z ∙ zero-mul w)))
  whole_parted (suc n) m bs h e =
      let p = two-pow-succ n in
      let k : m / 2 < 2 ^ n = omega arith in
      let o = ones_step m in
      let P : Places → Type 0 = λ ps. Wide w ps × (bodies ps ≡ bs) in
      ⊎_elim
      (λ b.
      let q : ones m * w ≡ (1 + ones (m / 2)) * w = ap (λ (x : ℕ). x * w) (o ∙ ap (λ (x : ℕ). x + ones (m / 2)) b) in
      let a = add-mul 1 (ones (m / 2)) w in
      let u = one-mul w in
      let l : length (drop w bs) ≡ ones (m / 2) * w = length-drop w bs ∙ (omega arith) in
      let t : length (take w bs) ≡ w = simp length-take (omega arith) in
      let r = whole_parted n (m / 2) (drop w bs) k l in
      subst P (sym (parted_up w n m bs b)) ((t, r.0), ap (λ (x : List ℕ). take w bs ++ x) r.1 ∙ take-append-drop w bs))
      (λ b.
      let z : m % 2 ≡ 0 = omega arith in
      let s : ones m ≡ ones (m / 2) = o ∙ ap (λ (x : ℕ). x + ones (m / 2)) z ∙ (omega arith) in
      subst P (sym (parted_down w n m bs b)) (whole_parted n (m / 2) bs k (e ∙ ap (λ (x : ℕ). x * w) s)))
      (cases_eq (m % 2) 1)

module _ (w : ℕ) (reads : List ℕ → Bool) (bs : List ℕ) (small : Bytes bs) where
  -- a frame that is written as these bytes
  Source : Type 0
  Source = (f : FrameMeaning) × (Formed w f × (encoded f ≡ bs))

  -- the first byte, the cycle and the rest; the page or count and the rest
  first : (k : ℕ) (rest : List ℕ) → get_or bs 0 0 ≡ k → 5 ≤ length bs → rest ≡ drop 5 bs → k ∷ (be 4 (field 4 1 bs) ++ rest) ≡ bs
  first k rest e h f =
      let a = drop_more bs 0 0 (omega arith) in
      let b = be-field 4 1 bs small (omega arith) in
      let c = take-append-drop 4 (drop 1 bs) in
      let d : drop 4 (drop 1 bs) ≡ drop 5 bs = drop-drop 4 1 bs in
      let i : k ∷ (be 4 (field 4 1 bs) ++ rest) ≡ get_or bs 0 0 ∷ drop 1 bs = cc in
      i ∙ sym a

  second : (rest : List ℕ) → 7 ≤ length bs → rest ≡ drop 7 bs → be 2 (field 2 5 bs) ++ rest ≡ drop 5 bs
  second rest h f =
      let b = be-field 2 5 bs small (omega arith) in
      let c = take-append-drop 2 (drop 5 bs) in
      let d : drop 2 (drop 5 bs) ≡ drop 7 bs = drop-drop 2 5 bs in
      cc

  third : (rest : List ℕ) → 8 ≤ length bs → rest ≡ drop 8 bs → get_or bs 7 0 ∷ rest ≡ drop 7 bs
  third rest h f = ap (λ (x : List ℕ). get_or bs 7 0 ∷ x) f ∙ sym (drop_more bs 7 0 (omega arith))

  -- the bytes are those of a frame, or a test refuses them
  Parted : Result FrameMeaning Fault → Type 0
  Parted r = Source ⊎ (r ≡ Err not_a_frame)

  by_test : (b : Bool) (r : Result FrameMeaning Fault) → (b ≡ true → Parted r) → Parted (cond b r (Err not_a_frame))
  unfolding Parted
  by_test true r h = h refl
  by_test false r h = inr refl

  paged_is : (c p m : ℕ) → paged c p m ≡ true → Numbered c × (p ≤ 511) × (1 ≤ m)
  paged_is c p m e =
      let q = and_parts (numbered c) (leb p 511 && leb 1 m) e in
      let r = and_parts (leb p 511) (leb 1 m) q.1 in
      (numbered_is c q.0, leb-true p 511 r.0, leb-true 1 m r.1)

  shape_marker : get_or bs 0 0 ≡ 9 → Parted (decoded_marker bs)
  unfolding Source Parted
  shape_marker k =
      by_test (eqb (length bs) 7) (marker_of (field 4 1 bs) (field 2 5 bs)) (λ le.
      by_test (numbered (field 4 1 bs) && leb (field 2 5 bs) 4096) (Ok (marker (field 4 1 bs) (field 2 5 bs))) (λ e.
      let l = eqb-true (length bs) 7 le in
      let q = and_parts (numbered (field 4 1 bs)) (leb (field 2 5 bs) 4096) e in
      let z : be 2 (field 2 5 bs) ≡ drop 5 bs = sym (append-nil (be 2 (field 2 5 bs))) ∙ second [] (omega arith) (sym (drop_all 7 bs (omega arith))) in
      inl (marker (field 4 1 bs) (field 2 5 bs), ((numbered_is (field 4 1 bs) q.0, leb-true (field 2 5 bs) 4096 q.1), first 9 (be 2 (field 2 5 bs)) k (omega arith) z))))

  shape_held : get_or bs 0 0 ≡ 19 → Parted (decoded_held bs)
  unfolding Source Parted
  shape_held k =
      let c = field 4 1 bs in
      let p = field 2 5 bs in
      let m = get_or bs 7 0 in
      by_test (eqb (length bs) 8) (held_of c p m) (λ le.
      by_test (paged c p m) (Ok (held c p m)) (λ e.
      let l = eqb-true (length bs) 8 le in
      let q = paged_is c p m e in
      let z : be 2 p ++ (m ∷ []) ≡ drop 5 bs = second (m ∷ []) (omega arith) (third [] (omega arith) (sym (drop_all 8 bs (omega arith)))) in
      inl (held c p m, ((q.0, q.1, q.2, map_small bs small (omega arith)), first 19 (be 2 p ++ (m ∷ [])) k (omega arith) z))))

  shape_whole : get_or bs 0 0 ≡ 1 → Parted (decoded_whole bs)
  unfolding Source Parted
  shape_whole k =
      let c = field 4 1 bs in
      by_test (eqb (length bs) 5) (whole_of c) (λ le.
      by_test (ltb c 4294967295) (Ok (whole c)) (λ e.
      let l = eqb-true (length bs) 5 le in
      inl (whole c, (ltb-true c 4294967295 e, ap (λ (x : List ℕ). 1 ∷ x) (sym (append-nil (be 4 c))) ∙ first 1 [] k (omega arith) (sym (drop_all 5 bs (omega arith)))))))

  shape_entries : get_or bs 0 0 ≡ 7 → Parted (decoded_entries w reads bs)
  unfolding Source Parted
  shape_entries k =
      let c = field 4 1 bs in
      let p = field 2 5 bs in
      let m = get_or bs 7 0 in
      let ps = parted w 8 m (drop 8 bs) in
      let good = eqb (length (drop 8 bs)) (ones m * w) in
      by_test (leb 8 (length bs)) (entries_in w reads c p m (drop 8 bs)) (λ le.
      by_test (good && paged c p m) (cond (all_read reads ps) (Ok (entries c p ps)) (Err not_a_cell)) (λ e.
      let l = leb-true 8 (length bs) le in
      let a = and_parts good (paged c p m) e in
      let q = paged_is c p m a.1 in
      let u = whole_parted w 8 m (drop 8 bs) (map_small bs small (omega arith)) (eqb-true (length (drop 8 bs)) (ones m * w) a.0) in
      let em : map_of ps ≡ m = map_of-parted w 8 m (drop 8 bs) (map_small bs small (omega arith)) in
      let t : map_of ps ∷ bodies ps ≡ drop 7 bs = ap (λ (n : ℕ). n ∷ bodies ps) em ∙ third (bodies ps) (omega arith) u.1 in
      let z : be 2 p ++ (map_of ps ∷ bodies ps) ≡ drop 5 bs = second (map_of ps ∷ bodies ps) (omega arith) t in
      inl (
        entries c p ps,
        (
          (q.0, q.1, length-parted w 8 m (drop 8 bs), subst (λ (n : ℕ). 1 ≤ n) (sym em) q.2, u.0),
          first 7 (be 2 p ++ (map_of ps ∷ bodies ps)) k (omega arith) z,
        ),
      )))

  by_kind : (n : ℕ) (r s : Result FrameMeaning Fault) → (get_or bs 0 0 ≡ n → Parted r) → Parted s → Parted (cond (eqb (get_or bs 0 0) n) r s)
  by_kind n r s h k = cond_both (eqb (get_or bs 0 0) n) r s Parted (λ e. h (eqb-true (get_or bs 0 0) n e)) (λ e. k)

  shape : Parted (decoded w reads bs)
  unfolding Parted
  shape =
      let one = cond (eqb (get_or bs 0 0) 1) (decoded_whole bs) (Err not_a_frame) in
      let nineteen = cond (eqb (get_or bs 0 0) 19) (decoded_held bs) one in
      let nine = cond (eqb (get_or bs 0 0) 9) (decoded_marker bs) nineteen in
      by_kind 7 (decoded_entries w reads bs) nine shape_entries
      (by_kind 9 (decoded_marker bs) nineteen shape_marker
      (by_kind 19 (decoded_held bs) one shape_held (by_kind 1 (decoded_whole bs) (Err not_a_frame) shape_whole (inr refl))))

  -- what a frame that is written as these bytes is read as
  read_as : (f : FrameMeaning) → Formed w f → encoded f ≡ bs → decoded w reads bs ≡ cond (cells_read reads f) (Ok f) (Err not_a_cell)
  read_as f h e = ap (decoded w reads) (sym e) ∙ decoded-encoded w reads f h

  refused : (b : Bool) (f : FrameMeaning) → cond {A = Result FrameMeaning Fault} b (Ok f) (Err not_a_cell) ≡ Err not_a_frame → ⊥
  refused true f e = let z : ◌≡◌ {A = ℕ} 0 1 = cc in omega arith
  refused false f e =
      let number : Result FrameMeaning Fault → ℕ = λ r. elim r [ Ok x ↦ 0 | Err x ↦ refusal_number x.refusal ] in
      let z : ◌≡◌ {A = ℕ} 13 12 = ap number e in
      omega arith

  pub exact : Exact w reads bs (decoded w reads bs)
  unfolding Source Parted
  exact =
      ⊎_elim
      (λ s.
      let f = s.0 in
      let h = s.1.0 in
      let e = s.1.1 in
      ⊎_elim
      (λ (t : cells_read reads f ≡ true). subst (Exact w reads bs) (sym (read_as f h e ∙ cond-true (cells_read reads f) (Ok f) (Err not_a_cell) t)) (h, t, e))
      (λ (t : cells_read reads f ≡ false). subst (Exact w reads bs) (sym (read_as f h e ∙ cond-false (cells_read reads f) (Ok f) (Err not_a_cell) t)) (inl (refl, (f, (h, t, e)))))
      (cases_Bool (cells_read reads f)))
      (λ z. subst (Exact w reads bs) (sym z) (inr (refl, λ f h e. refused (cells_read reads f) f (sym (read_as f h e) ∙ z))))
      shape
