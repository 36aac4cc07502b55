-- Bytes laid into a buffer one part after the other. Assumes nothing.
use Rattle.std.proofs.Common.{◌≡◌, ℕ, ◌+◌, List, ◌++◌, length, drop}
use borrow.Rule.Slice.PartMut.{put_mid}
use Rattle.std.proofs.lemmas.List.{append_assoc, take_at, drop_at, drop-drop}

-- a front, and then a second part behind it
pub two_parts : (m n : ℕ) (old u v : List ℕ) → length u ≡ m → put_mid m n (u ++ drop m old) v ≡ (u ++ v) ++ drop (m + n) old
two_parts m n old u v h =
    let t = take_at u (drop m old) m h in
    let d = drop_at u (drop m old) m h in
    let e = drop-drop n m old in
    let a = append_assoc u v (drop (m + n) old) in
    cc
