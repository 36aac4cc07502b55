-- The sixteen bytes of a raw block. Assumes nothing.
use Rattle.std.specs.Prelude.{◌≡◌, ℕ, ◌^◌, ◌<◌, List, length, take, drop, replicate, refl}
use Rattle.std.proofs.Common.{sym, ap, ◌∙◌, arith, length-append, length-drop}
use Rattle.std.proofs.ByRecursion.{All-append}
use Rattle.std.proofs.lemmas.List.{take-append-drop, take_all, take_at, drop_at}
use Rattle.cells.specs.declared.raw.RawBlock.{RawBlock}
use Rattle.cells.specs.Numbers.{Bytes, be, value, field}
use Rattle.cells.specs.Raws.{raw_bytes, raw_at}
use Rattle.cells.specs.BigEndian.{length-be, bytes-be, be-field, value-be}

pub length-raw : (r : RawBlock) → length (raw_bytes r) ≡ 16
length-raw r =
    let e = length-be 8 r.high in
    let f = length-be 8 r.low in
    simp length-append (omega arith)

pub bytes-raw : (r : RawBlock) → Bytes (raw_bytes r)
bytes-raw r = All-append (λ (b : ℕ). b < 256) (be 8 r.high) (be 8 r.low) (bytes-be 8 r.high) (bytes-be 8 r.low)

-- sixteen bytes are those of the block that they write
pub raw_back : (bs : List ℕ) → Bytes bs → length bs ≡ 16 → raw_bytes (raw_at bs) ≡ bs
raw_back bs h l =
    let e = be-field 8 0 bs h (omega arith) in
    let f = be-field 8 8 bs h (omega arith) in
    let t = take_all 8 (drop 8 bs) (simp length-drop (omega arith)) in
    let s = take-append-drop 8 bs in
    cc

-- the block that a block's bytes write is that block
pub raw_at-raw_bytes : (r : RawBlock) → r.high < 256 ^ 8 → r.low < 256 ^ 8 → raw_at (raw_bytes r) ≡ r
raw_at-raw_bytes r h l =
    let block : ℕ → ℕ → RawBlock = λ m n. record { high = m; low = n } in
    let long = length-be 8 r.high in
    let e : field 8 0 (raw_bytes r) ≡ r.high = ap value (take_at (be 8 r.high) (be 8 r.low) 8 long) ∙ value-be 8 r.high h in
    let t : take 8 (be 8 r.low) ≡ be 8 r.low = take_all 8 (be 8 r.low) (let k = length-be 8 r.low in omega arith) in
    let f : field 8 8 (raw_bytes r) ≡ r.low = ap (λ (x : List ℕ). value (take 8 x)) (drop_at (be 8 r.high) (be 8 r.low) 8 long) ∙ ap value t ∙ value-be 8 r.low l in
    ap (λ (n : ℕ). block n (field 8 8 (raw_bytes r))) e ∙ ap (block r.high) f

-- two blocks with the same bytes are the same
pub same_raw : (a b : RawBlock) → a.high < 256 ^ 8 → a.low < 256 ^ 8 → b.high < 256 ^ 8 → b.low < 256 ^ 8 → raw_bytes a ≡ raw_bytes b → a ≡ b
same_raw a b p q r s e = sym (raw_at-raw_bytes a p q) ∙ ap raw_at e ∙ raw_at-raw_bytes b r s

pub raw_zero : raw_bytes (record { high = 0; low = 0 }) ≡ replicate 16 0
unfolding be
raw_zero = refl
