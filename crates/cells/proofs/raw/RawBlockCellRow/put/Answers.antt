use Rattle.std.proofs.Common.{◌≡◌, ℕ, List, ◌++◌, length, drop, sym, ap, ◌∙◌}
use Rattle.cells.specs.Numbers.{be}
use Rattle.cells.specs.BigEndian.{be_eight, length-be}
use Rattle.cells.proofs.Laying.{two_parts}
use Rattle.cells.proofs.raw.RawBlockCellRow.put.Goals as goal

pub returns : goal.returns
returns c =
    let a = c.args.self in
    let u = c.copy_from_slice.new.self in
    let v = c.copy_from_slice-2.new.self in
    let e : u ≡ be 8 a.high = c.copy_from_slice.ensures.after ∙ c.to_be_bytes.ensures ∙ sym (be_eight a.high) in
    let f : v ≡ be 8 a.low = c.copy_from_slice-2.ensures.after ∙ c.to_be_bytes-2.ensures ∙ sym (be_eight a.low) in
    two_parts 8 8 c.args.out.now u v (ap length e ∙ length-be 8 a.high)
    ∙ ap (λ (l : List ℕ). (l ++ v) ++ drop 16 c.args.out.now) e
    ∙ ap (λ (l : List ℕ). (be 8 a.high ++ l) ++ drop 16 c.args.out.now) f
