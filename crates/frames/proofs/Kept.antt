-- Every frame that the program can hold is one that there is, with cells that its kind reads. Assumes nothing.
use Rattle.std.proofs.Common.{◌≡◌, ℕ, ◌*◌, ◌^◌, ◌<◌, ◌≤◌, Bool, true, List, [], ◌∷◌, ◌++◌, length, take, drop, Ok, Err, Result, sym, refl, ap, ◌∙◌, subst, arith}
use lib.Count.{ones, ones-le}
use Rattle.std.proofs.lemmas.Nat.{mul-le}
use Rattle.std.proofs.lemmas.List.{take_at}
use Rattle.std.proofs.lemmas.Bool.{cond-true}
use Rattle.cells.specs.declared.fault.Fault.{Fault}
use Rattle.cells.specs.Faults.{answered, not_a_cell}
use Rattle.cells.specs.Numbers.{Bytes}
use Rattle.frames.specs.declared.frame.Entries.{Entries}
use Rattle.frames.specs.declared.frame.Frame.{Frame}
use Rattle.frames.specs.declared.frame.Frame.TheVariants as variant
use Rattle.frames.specs.Meaning.{encoded, map_of, bodies, Formed, cells_read}
use Rattle.frames.specs.Format.{decoded, Exact}
use Rattle.frames.specs.Frames.{places, meaning, Written}
use Rattle.frames.proofs.Places.{length-places, map_of-places, read_places, wide-places}
use Rattle.frames.proofs.Laying.{length-marker, length-paged, length_whole}
use Rattle.frames.proofs.RoundTrip.{length-bodies, decoded-encoded}
use Rattle.frames.proofs.Exactness.{exact}

module _ {R : Type 0} (bytes : R → List ℕ) (reads : List ℕ → Bool) (w : ℕ) (read : (r : R) → reads (bytes r) ≡ true) (wide : (r : R) → length (bytes r) ≡ w) where
  kept_map : (e : Entries R) → map_of (places bytes e.page.map e.cells) ≡ e.page.map
  kept_map e = map_of-places bytes e.page.map e.cells (subst (λ (n : ℕ). e.page.map < 2 ^ n) (sym e.eight) e.page.some.1)

  formed : (f : Frame R) → Formed w (meaning bytes f)
  formed (variant.Entries e) =
      (e.page.numbered, e.page.paged, length-places bytes e.page.map e.cells ∙ e.eight, subst (λ (n : ℕ). 1 ≤ n) (sym (kept_map e)) e.page.some.0, wide-places bytes reads w read wide e.page.map e.cells)
  formed (variant.Marker m) = (m.numbered, m.counted)
  formed (variant.Held h) = (h.page.numbered, h.page.paged, h.page.some.0, h.page.some.1)
  formed (variant.Whole v) = v.numbered

  kept_all_read : (f : Frame R) → cells_read reads (meaning bytes f) ≡ true
  kept_all_read (variant.Entries e) = read_places bytes reads w read wide e.page.map e.cells
  kept_all_read (variant.Marker m) = refl
  kept_all_read (variant.Held h) = refl
  kept_all_read (variant.Whole v) = refl

  -- the bytes of a frame that the program holds are read as that frame
  pub frame_read_back : (f : Frame R) → decoded w reads (encoded (meaning bytes f)) ≡ Ok (meaning bytes f)
  frame_read_back f = decoded-encoded w reads (meaning bytes f) (formed f) ∙ cond-true (cells_read reads (meaning bytes f)) (Ok (meaning bytes f)) (Err not_a_cell) (kept_all_read f)

  pub read_written : (f : Frame R) (r : ℕ) (old new : List ℕ) → r ≡ length (encoded (meaning bytes f)) → new ≡ encoded (meaning bytes f) ++ drop r old → decoded w reads (take r new) ≡ Ok (meaning bytes f)
  read_written f r old new l e = ap (λ (x : List ℕ). decoded w reads (take r x)) e ∙ ap (decoded w reads) (take_at (encoded (meaning bytes f)) (drop r old) r (sym l)) ∙ frame_read_back f

  -- a frame has 5 to 136 bytes
  pub bounded : w ≤ 16 → (f : Frame R) → (5 ≤ length (encoded (meaning bytes f))) × (length (encoded (meaning bytes f)) ≤ 136)
  bounded h (variant.Entries e) =
      let ps = places bytes e.page.map e.cells in
      let l = length-paged 7 e.page.cycle e.page.number (map_of ps ∷ bodies ps) in
      let b : length (bodies ps) ≡ ones e.page.map * w = length-bodies w ps (wide-places bytes reads w read wide e.page.map e.cells) ∙ ap (λ (n : ℕ). ones n * w) (kept_map e) in
      let m = mul-le (ones e.page.map) w 8 16 (ones-le 8 e.page.map e.page.some.1) h in
      (omega arith, omega arith)
  bounded h (variant.Marker m) = let l = length-marker m.cycle m.count in (omega arith, omega arith)
  bounded h (variant.Held v) = let l = length-paged 19 v.page.cycle v.page.number (v.page.map ∷ []) in (omega arith, omega arith)
  bounded h (variant.Whole v) = let l = length_whole v.cycle in (omega arith, omega arith)

  -- an answer to reading, by what the program writes
  pub as_written : (bs : List ℕ) (r : Result (Frame R) Fault) → Bytes bs → answered (meaning bytes) r ≡ decoded w reads bs → Written bytes bs r
  as_written bs (Ok f) small e = (subst (Exact w reads bs) (sym e) (exact w reads bs small)).2
  as_written bs (Err x) small e =
      λ f g.
      let h : decoded w reads bs ≡ Ok (meaning bytes f) = ap (decoded w reads) (sym g) ∙ frame_read_back f in
      let z : ◌≡◌ {A = ℕ} 0 1 = cc in
      omega arith
