use Rattle.std.proofs.Common.{◌≡◌, Decides, ap, rules}
use Rattle.std.proofs.lemmas.Bool.Decides.{Decides-like}
use Rattle.cells.specs.Raws.{raw_bytes}
use Rattle.cells.specs.RawBytes.{same_raw}
use Rattle.cells.proofs.raw.RawBlockCellRow.same.Goals as goal

pub returns : goal.returns
returns c =
    let a = c.args.self in
    let b = c.args.other in
    let told : Decides c.eq.result (a ≡ b) = let e = c.eq.ensures in search rules in
    Decides-like c.eq.result (λ (e : a ≡ b). ap raw_bytes e) (λ e. same_raw a b (search rules) (search rules) (search rules) (search rules) e) told
