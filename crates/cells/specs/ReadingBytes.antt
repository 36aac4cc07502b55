-- The nine bytes of a reading. Assumes nothing.
use Rattle.std.specs.Prelude.{◌≡◌, ℕ, ◌^◌, ◌<◌, Bool, true, false, cond, ◌&&◌, List, [], ◌∷◌, ◌++◌, length, take, drop, replicate, ℤ, pos, negsuc, Ok, Err, FitsSigned, nat_le, nat_lt, slice_index, slice_index_or, refl}
use Rattle.std.proofs.Common.{sym, ap, ◌∙◌, ⊎_elim, arith, length-append, of_z, to_z}
use Rattle.std.specs.Int.{w32}
use Rattle.std.proofs.ByRecursion.{All-append}
use Rattle.std.proofs.lemmas.List.{take-append-drop, take_at, drop_at, drop_more, drop_all, drop-drop, get_or-drop, get_or_at}
use Rattle.std.proofs.lemmas.Int.{of_z-to_z, to_z-of_z}
use Rattle.std.proofs.lemmas.Bool.{and_parts, cond-true, cond-false, cases_Bool, leb-true, eq-eqb, ltb-true}
use Rattle.cells.specs.declared.reading.ReadingRow.{ReadingRow}
use Rattle.cells.specs.declared.fault.Fault.{Fault}
use Rattle.cells.specs.Cells.{cell_of}
use Rattle.cells.specs.Faults.{answered, not_a_cell}
use Rattle.cells.specs.Levels.{in_range}
use Rattle.cells.specs.Numbers.{Bytes, be, value, field}
use Rattle.cells.specs.Readings.{made, makes, zeros, standing, row_bytes, reading_bytes, row_at, reading_reads}
use Rattle.cells.specs.BigEndian.{length-be, bytes-be, be-field, field_lt, value-be}

-- what a row stands for makes a reading
pub makes-standing : (r : ReadingRow) → makes (standing r) ≡ true
makes-standing r = ⊎_elim (λ (e : makes r ≡ true). ap makes (cond-true (makes r) r zeros e) ∙ e) (λ (e : makes r ≡ false). ap (λ (b : Bool). makes (cond b r zeros)) e) (cases_Bool (makes r))

pub standing_made : (r : ReadingRow) → makes r ≡ true → standing r ≡ r
standing_made r e = cond-true (makes r) r zeros e

pub length-row : (r : ReadingRow) → length (row_bytes r) ≡ 9
length-row r =
    let e = length-be 4 (of_z w32 r.level) in
    let f = length-be 4 r.second in
    simp (length-append, length-append) (omega arith)

quality_small : (r : ReadingRow) → makes r ≡ true → r.quality < 4
quality_small r e = ltb-true r.quality 4 (and_parts (in_range r.level) (nat_lt r.quality 4) e).1

pub bytes-row : (r : ReadingRow) → makes r ≡ true → Bytes (row_bytes r)
bytes-row r e =
    let q = quality_small r e in
    All-append (λ (b : ℕ). b < 256) (be 4 (of_z w32 r.level)) (be 4 r.second ++ (r.quality ∷ [])) (bytes-be 4 (of_z w32 r.level))
    (All-append (λ (b : ℕ). b < 256) (be 4 r.second) (r.quality ∷ []) (bytes-be 4 r.second) (omega arith, tt))

-- nine bytes are those of the row that they write
pub row_back : (bs : List ℕ) → Bytes bs → length bs ≡ 9 → row_bytes (row_at bs) ≡ bs
row_back bs h l =
    let v : field 4 0 bs < 2 ^ 32 = field_lt 4 0 bs h (omega arith) in
    let z : of_z w32 (to_z w32 (field 4 0 bs)) ≡ field 4 0 bs = of_z-to_z w32 (field 4 0 bs) v in
    let e = be-field 4 0 bs h (omega arith) in
    let f = be-field 4 4 bs h (omega arith) in
    let d : drop 8 bs ≡ slice_index bs 8 ∷ [] = drop_more bs 8 0 (omega arith) ∙ ap (λ (x : List ℕ). slice_index bs 8 ∷ x) (drop_all 9 bs (omega arith)) in
    let s = take-append-drop 4 bs in
    let t = take-append-drop 4 (drop 4 bs) in
    let u : drop 4 (drop 4 bs) ≡ drop 8 bs = drop-drop 4 4 bs in
    cc

level_fits : (z : ℤ) → in_range z ≡ true → FitsSigned w32 z
level_fits (pos n) e = let h = leb-true n 500000 e in record { sfits = omega arith }
level_fits (negsuc n) e = let h = leb-true n 49999 (and_parts (nat_le n 49999) true e).0 in record { sfits = omega arith }

bits_lt : (z : ℤ) → FitsSigned w32 z → of_z w32 z < 256 ^ 4
bits_lt (pos n) f = let h = f.sfits in omega arith
bits_lt (negsuc n) f = omega arith

-- the numbers that a row's bytes write are the row's own
module _ (r : ReadingRow) where
  level_at : makes r ≡ true → to_z w32 (field 4 0 (row_bytes r)) ≡ r.level
  level_at e =
      let f = level_fits r.level (and_parts (in_range r.level) (nat_lt r.quality 4) e).0 in
      let x = of_z w32 r.level in
      ap (λ (l : List ℕ). to_z w32 (value l)) (take_at (be 4 x) (be 4 r.second ++ (r.quality ∷ [])) 4 (length-be 4 x))
      ∙ ap (to_z w32) (value-be 4 x (bits_lt r.level f))
      ∙ to_z-of_z w32 r.level f

  tail_at : drop 4 (row_bytes r) ≡ be 4 r.second ++ (r.quality ∷ [])
  tail_at = drop_at (be 4 (of_z w32 r.level)) (be 4 r.second ++ (r.quality ∷ [])) 4 (length-be 4 (of_z w32 r.level))

  second_at : r.second < 2 ^ 32 → field 4 4 (row_bytes r) ≡ r.second
  second_at s =
      ap (λ (l : List ℕ). value (take 4 l)) tail_at
      ∙ ap value (take_at (be 4 r.second) (r.quality ∷ []) 4 (length-be 4 r.second))
      ∙ value-be 4 r.second s

  quality_at : slice_index_or (row_bytes r) 8 0 ≡ r.quality
  quality_at =
      sym (get_or-drop 4 (row_bytes r) 4 0)
      ∙ ap (λ (l : List ℕ). slice_index l 4) tail_at
      ∙ get_or_at (be 4 r.second) r.quality [] 0 4 (length-be 4 r.second)

  pub row_read : makes r ≡ true → makes (row_at (row_bytes r)) ≡ true
  row_read e =
      let l = level_at e in
      let q = quality_at in
      ap (λ (z : ℤ). in_range z && nat_lt (slice_index (row_bytes r) 8) 4) l ∙ ap (λ (n : ℕ). in_range r.level && nat_lt n 4) q ∙ e

  pub row_at-row_bytes : makes r ≡ true → r.second < 2 ^ 32 → row_at (row_bytes r) ≡ r
  row_at-row_bytes e s =
      let l = level_at e in
      let t = second_at s in
      let q = quality_at in
      let row : ℤ → ℕ → ℕ → ReadingRow = λ z m n. record { level = z; second = m; quality = n } in
      ap (λ (z : ℤ). row z (field 4 4 (row_bytes r)) (slice_index (row_bytes r) 8)) l ∙ ap (λ (m : ℕ). row r.level m (slice_index (row_bytes r) 8)) t ∙ ap (row r.level r.second) q

-- two readings with the same bytes have the same numbers
pub same_rows : (a b : ReadingRow) → makes a ≡ true → makes b ≡ true → a.second < 2 ^ 32 → b.second < 2 ^ 32 → row_bytes a ≡ row_bytes b → a ≡ b
same_rows a b ma mb sa sb e = sym (row_at-row_bytes a ma sa) ∙ ap row_at e ∙ row_at-row_bytes b mb sb

reads_nine : (bs : List ℕ) → length bs ≡ 9 → reading_reads bs ≡ makes (row_at bs)
reads_nine bs l = ap (λ (b : Bool). b && makes (row_at bs)) (eq-eqb (length bs) 9 l)

-- what reading nine bytes gives, by what their numbers make
pub nine_made : (bs : List ℕ) (row new : ReadingRow) → Bytes bs → length bs ≡ 9 → row ≡ row_at bs → Ok new ≡ made row → answered reading_bytes (Ok new) ≡ cell_of reading_reads bs
nine_made bs row new h l e k =
    ⊎_elim
    (λ (m : makes row ≡ true).
    let n : new ≡ row = let f = cond-true (makes row) (Ok row) (Err not_a_cell) m in cc in
    let b : reading_bytes new ≡ bs = ap reading_bytes (n ∙ e) ∙ ap row_bytes (standing_made (row_at bs) (ap makes (sym e) ∙ m)) ∙ row_back bs h l in
    let t : reading_reads bs ≡ true = reads_nine bs l ∙ ap makes (sym e) ∙ m in
    ap Ok b ∙ sym (cond-true (reading_reads bs) (Ok bs) (Err not_a_cell) t))
    (λ (m : makes row ≡ false).
    let f = cond-false (makes row) (Ok row) (Err not_a_cell) m in
    cc)
    (cases_Bool (makes row))

pub nine_refused : (bs : List ℕ) (row : ReadingRow) (fault : Fault) → length bs ≡ 9 → row ≡ row_at bs → Err fault ≡ made row → answered reading_bytes (Err fault) ≡ cell_of reading_reads bs
nine_refused bs row fault l e k =
    ⊎_elim
    (λ (m : makes row ≡ true).
    let f = cond-true (makes row) (Ok row) (Err not_a_cell) m in
    let z : ◌≡◌ {A = ℕ} 0 1 = cc in
    absurd (omega arith))
    (λ (m : makes row ≡ false).
    let n : fault ≡ not_a_cell = let f = cond-false (makes row) (Ok row) (Err not_a_cell) m in cc in
    let t : reading_reads bs ≡ false = reads_nine bs l ∙ ap makes (sym e) ∙ m in
    ap Err n ∙ sym (cond-false (reading_reads bs) (Ok bs) (Err not_a_cell) t))
    (cases_Bool (makes row))

pub reading_zero : reading_bytes (record { level = pos 0; second = 0; quality = 0 }) ≡ replicate 9 0
unfolding be
reading_zero = refl
