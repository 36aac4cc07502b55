-- What is written is read. Assumes nothing.
use Rattle.std.proofs.Common.{◌≡◌, ℕ, ◌+◌, ◌*◌, ◌/◌, ◌%◌, ◌<◌, ◌≤◌, Bool, true, cond, ◌&&◌, eqb, ltb, leb, List, [], ◌∷◌, ◌++◌, length, get_or, take, drop, Some, None, Ok, Err, Result, sym, refl, ap, ◌∙◌, add-mul, one-mul, zero-mul, arith, length-append}
use lib.Count.{ones, ones_step}
use Rattle.std.proofs.lemmas.List.{append-nil, take_at, drop_at, drop-drop, get_or-drop}
use Rattle.std.proofs.lemmas.Bool.{and_from, le-leb, lt-ltb, eq-eqb, cond-true}
use Rattle.cells.specs.declared.fault.Fault.{Fault}
use Rattle.cells.specs.Faults.{not_a_frame, not_a_cell}
use Rattle.cells.specs.Numbers.{be, value, field}
use Rattle.cells.specs.BigEndian.{length-be, value-be}
use Rattle.frames.specs.Meaning.{FrameMeaning, Places, entries, marker, held, whole, encoded, map_of, bodies, Numbered, Wide, Formed, all_read, cells_read}
use Rattle.frames.specs.Format.{parted, numbered, paged, marker_of, held_of, whole_of, entries_in, decoded}
use Rattle.frames.proofs.Cutting.{parted_up, parted_down}
use Rattle.frames.proofs.Laying.{length-marker, length-paged, length_whole}

-- the fields of a frame that was written
cycle_at : (k c : ℕ) (rest : List ℕ) → c < 4294967296 → field 4 1 (k ∷ (be 4 c ++ rest)) ≡ c
cycle_at k c rest h = ap value (take_at (be 4 c) rest 4 (length-be 4 c)) ∙ value-be 4 c h

page_at : (k c p : ℕ) (rest : List ℕ) → p < 65536 → field 2 5 (k ∷ (be 4 c ++ (be 2 p ++ rest))) ≡ p
page_at k c p rest h =
    ap (λ (l : List ℕ). value (take 2 l)) (drop_at (be 4 c) (be 2 p ++ rest) 4 (length-be 4 c))
    ∙ ap value (take_at (be 2 p) rest 2 (length-be 2 p))
    ∙ value-be 2 p h

rest_at : (k c p : ℕ) (rest : List ℕ) → drop 7 (k ∷ (be 4 c ++ (be 2 p ++ rest))) ≡ rest
rest_at k c p rest =
    sym (drop-drop 2 4 (be 4 c ++ (be 2 p ++ rest)))
    ∙ ap (drop 2) (drop_at (be 4 c) (be 2 p ++ rest) 4 (length-be 4 c))
    ∙ drop_at (be 2 p) rest 2 (length-be 2 p)

map_at : (k c p m : ℕ) (rest : List ℕ) → get_or (k ∷ (be 4 c ++ (be 2 p ++ (m ∷ rest)))) 7 0 ≡ m
map_at k c p m rest = sym (get_or-drop 7 (k ∷ (be 4 c ++ (be 2 p ++ (m ∷ rest)))) 0 0) ∙ ap (λ (l : List ℕ). get_or l 0 0) (rest_at k c p (m ∷ rest))

cells_at : (k c p m : ℕ) (rest : List ℕ) → drop 8 (k ∷ (be 4 c ++ (be 2 p ++ (m ∷ rest)))) ≡ rest
cells_at k c p m rest = sym (drop-drop 1 7 (k ∷ (be 4 c ++ (be 2 p ++ (m ∷ rest))))) ∙ ap (drop 1) (rest_at k c p (m ∷ rest))

numbered_from : (c : ℕ) → Numbered c → numbered c ≡ true
numbered_from c h = and_from (leb 1 c) (ltb c 4294967295) (le-leb 1 c h.0) (lt-ltb c 4294967295 h.1)

paged_from : (c p m : ℕ) → Numbered c → p ≤ 511 → 1 ≤ m → paged c p m ≡ true
paged_from c p m h k l = and_from (numbered c) (leb p 511 && leb 1 m) (numbered_from c h) (and_from (leb p 511) (leb 1 m) (le-leb p 511 k) (le-leb 1 m l))

-- how many bits a map of places has
ones_even : (k : ℕ) → ones (2 * k) ≡ ones k
ones_even k =
    let z : 2 * k % 2 ≡ 0 = omega arith in
    let d : 2 * k / 2 ≡ k = omega arith in
    ones_step (2 * k) ∙ ap (λ (n : ℕ). n + ones (2 * k / 2)) z ∙ ap (λ (n : ℕ). 0 + ones n) d ∙ (omega arith)

ones_odd : (k : ℕ) → ones (1 + 2 * k) ≡ 1 + ones k
ones_odd k =
    let z : (1 + 2 * k) % 2 ≡ 1 = omega arith in
    let d : (1 + 2 * k) / 2 ≡ k = omega arith in
    ones_step (1 + 2 * k) ∙ ap (λ (n : ℕ). n + ones ((1 + 2 * k) / 2)) z ∙ ap (λ (n : ℕ). 1 + ones n) d

module _ (w : ℕ) where
  pub length-bodies : (ps : Places) → Wide w ps → length (bodies ps) ≡ ones (map_of ps) * w
  unfolding ones
  length-bodies [] h = sym (zero-mul w)
  length-bodies (None ∷ ps) h = length-bodies ps h ∙ ap (λ (n : ℕ). n * w) (sym (ones_even (map_of ps)))
  length-bodies (Some c ∷ ps) h =
      let l = h.0 in
      let e = length-bodies ps h.1 in
      let a = length-append c (bodies ps) in
      let m = add-mul 1 (ones (map_of ps)) w in
      let o = one-mul w in
      let s : length (c ++ bodies ps) ≡ (1 + ones (map_of ps)) * w = omega arith in
      s ∙ ap (λ (n : ℕ). n * w) (sym (ones_odd (map_of ps)))

  parted-bodies : (ps : Places) → Wide w ps → parted w (length ps) (map_of ps) (bodies ps) ≡ ps
  unfolding parted
  parted-bodies [] h = refl
  parted-bodies (None ∷ ps) h =
      let d : 2 * map_of ps / 2 ≡ map_of ps = omega arith in
      parted_down w (length ps) (2 * map_of ps) (bodies ps) (λ b. omega arith)
      ∙ ap (λ (k : ℕ). None ∷ parted w (length ps) k (bodies ps)) d
      ∙ ap (λ (l : Places). None ∷ l) (parted-bodies ps h)
  parted-bodies (Some c ∷ ps) h =
      let d : (1 + 2 * map_of ps) / 2 ≡ map_of ps = omega arith in
      parted_up w (length ps) (1 + 2 * map_of ps) (c ++ bodies ps) (omega arith)
      ∙ ap (λ (k : ℕ). Some (take w (c ++ bodies ps)) ∷ parted w (length ps) k (drop w (c ++ bodies ps))) d
      ∙ ap (λ (x : List ℕ). Some x ∷ parted w (length ps) (map_of ps) (drop w (c ++ bodies ps))) (take_at c (bodies ps) w h.0)
      ∙ ap (λ (x : List ℕ). Some c ∷ parted w (length ps) (map_of ps) x) (drop_at c (bodies ps) w h.0)
      ∙ ap (λ (x : Places). Some c ∷ x) (parted-bodies ps h.1)

module _ (w : ℕ) (reads : List ℕ → Bool) where
  back_marker : (c n : ℕ) → Formed w (marker c n) → decoded w reads (encoded (marker c n)) ≡ Ok (marker c n)
  back_marker c n h =
      let bs = encoded (marker c n) in
      let hc = h.0 in
      let ec : field 4 1 bs ≡ c = cycle_at 9 c (be 2 n) (omega arith) in
      let hn = h.1 in
      let en : field 2 5 bs ≡ n = ap (λ (l : List ℕ). field 2 5 (9 ∷ (be 4 c ++ l))) (sym (append-nil (be 2 n))) ∙ page_at 9 c n [] (omega arith) in
      cond-true (eqb (length bs) 7) (marker_of (field 4 1 bs) (field 2 5 bs)) (Err not_a_frame) (eq-eqb (length bs) 7 (length-marker c n))
      ∙ ap (λ (x : ℕ). marker_of x (field 2 5 bs)) ec
      ∙ ap (marker_of c) en
      ∙ cond-true (numbered c && leb n 4096) (Ok (marker c n)) (Err not_a_frame) (and_from (numbered c) (leb n 4096) (numbered_from c h.0) (le-leb n 4096 h.1))

  back_held : (c p m : ℕ) → Formed w (held c p m) → decoded w reads (encoded (held c p m)) ≡ Ok (held c p m)
  back_held c p m h =
      let bs = encoded (held c p m) in
      let hc = h.0 in
      let hp = h.1 in
      let ec : field 4 1 bs ≡ c = cycle_at 19 c (be 2 p ++ (m ∷ [])) (omega arith) in
      let ep : field 2 5 bs ≡ p = page_at 19 c p (m ∷ []) (omega arith) in
      let em : get_or bs 7 0 ≡ m = map_at 19 c p m [] in
      cond-true (eqb (length bs) 8) (held_of (field 4 1 bs) (field 2 5 bs) (get_or bs 7 0)) (Err not_a_frame) (eq-eqb (length bs) 8 (length-paged 19 c p (m ∷ [])))
      ∙ ap (λ (x : ℕ). held_of x (field 2 5 bs) (get_or bs 7 0)) ec
      ∙ ap (λ (x : ℕ). held_of c x (get_or bs 7 0)) ep
      ∙ ap (held_of c p) em
      ∙ cond-true (paged c p m) (Ok (held c p m)) (Err not_a_frame) (paged_from c p m h.0 h.1 h.2)

  back_whole : (c : ℕ) → Formed w (whole c) → decoded w reads (encoded (whole c)) ≡ Ok (whole c)
  back_whole c h =
      let bs = encoded (whole c) in
      let ec : field 4 1 bs ≡ c = ap (λ (l : List ℕ). field 4 1 (1 ∷ l)) (sym (append-nil (be 4 c))) ∙ cycle_at 1 c [] (omega arith) in
      cond-true (eqb (length bs) 5) (whole_of (field 4 1 bs)) (Err not_a_frame) (eq-eqb (length bs) 5 (length_whole c))
      ∙ ap whole_of ec
      ∙ cond-true (ltb c 4294967295) (Ok (whole c)) (Err not_a_frame) (lt-ltb c 4294967295 h)

  back_entries : (c p : ℕ) (ps : Places) → Formed w (entries c p ps) → decoded w reads (encoded (entries c p ps)) ≡ cond (all_read reads ps) (Ok (entries c p ps)) (Err not_a_cell)
  back_entries c p ps h =
      let bs = encoded (entries c p ps) in
      let m = map_of ps in
      let hc = h.0 in
      let hp = h.1 in
      let ec : field 4 1 bs ≡ c = cycle_at 7 c (be 2 p ++ (m ∷ bodies ps)) (omega arith) in
      let ep : field 2 5 bs ≡ p = page_at 7 c p (m ∷ bodies ps) (omega arith) in
      let em : get_or bs 7 0 ≡ m = map_at 7 c p m (bodies ps) in
      let eb : drop 8 bs ≡ bodies ps = cells_at 7 c p m (bodies ps) in
      let l = length-paged 7 c p (m ∷ bodies ps) in
      let cut : parted w 8 m (bodies ps) ≡ ps = ap (λ (n : ℕ). parted w n m (bodies ps)) (sym h.2) ∙ parted-bodies w ps h.4 in
      let good : (eqb (length (bodies ps)) (ones m * w) && paged c p m) ≡ true =
      and_from (eqb (length (bodies ps)) (ones m * w)) (paged c p m) (eq-eqb (length (bodies ps)) (ones m * w) (length-bodies w ps h.4)) (paged_from c p m h.0 h.1 h.3) in
      let of : Places → Result FrameMeaning Fault = λ x. cond (all_read reads x) (Ok (entries c p x)) (Err not_a_cell) in
      cond-true (leb 8 (length bs)) (entries_in w reads (field 4 1 bs) (field 2 5 bs) (get_or bs 7 0) (drop 8 bs)) (Err not_a_frame) (le-leb 8 (length bs) (omega arith))
      ∙ ap (λ (x : ℕ). entries_in w reads x (field 2 5 bs) (get_or bs 7 0) (drop 8 bs)) ec
      ∙ ap (λ (x : ℕ). entries_in w reads c x (get_or bs 7 0) (drop 8 bs)) ep
      ∙ ap (λ (x : ℕ). entries_in w reads c p x (drop 8 bs)) em
      ∙ ap (entries_in w reads c p m) eb
      ∙ cond-true (eqb (length (bodies ps)) (ones m * w) && paged c p m) (of (parted w 8 m (bodies ps))) (Err not_a_frame) good
      ∙ ap of cut

  -- a frame is read as itself, or refused for a cell that its kind refuses
  pub decoded-encoded : (f : FrameMeaning) → Formed w f → decoded w reads (encoded f) ≡ cond (cells_read reads f) (Ok f) (Err not_a_cell)
  decoded-encoded (entries c p ps) h = back_entries c p ps h
  decoded-encoded (marker c n) h = back_marker c n h
  decoded-encoded (held c p m) h = back_held c p m h
  decoded-encoded (whole c) h = back_whole c h
