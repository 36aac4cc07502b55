use Rattle.std.proofs.Common.{◌≡◌, ◌^◌, ◌<◌, true, Decides, sym, ap, ◌∙◌, rules}
use Rattle.std.proofs.lemmas.Bool.Decides.{Decides-like}
use Rattle.cells.specs.Readings.{makes, row_bytes, standing}
use Rattle.cells.specs.ReadingBytes.{makes-standing, same_rows}
use Rattle.cells.proofs.readings.ReadingRowCellRow.same.Goals as goal

pub returns : goal.returns
returns c =
    let a = c.from.result in
    let b = c.from-2.result in
    let ea : a ≡ standing c.args.self = c.from.ensures.0 ∙ c.reading.ensures in
    let eb : b ≡ standing c.args.other = c.from-2.ensures.0 ∙ c.reading-2.ensures in
    let ma : makes a ≡ true = ap makes ea ∙ makes-standing c.args.self in
    let mb : makes b ≡ true = ap makes eb ∙ makes-standing c.args.other in
    let sa : a.second < 2 ^ 32 = search rules in
    let sb : b.second < 2 ^ 32 = search rules in
    let told : Decides c.eq.result (a ≡ b) = let e = c.eq.ensures in search rules in
    Decides-like c.eq.result
    (λ (e : a ≡ b). ap row_bytes (sym ea ∙ e ∙ eb))
    (λ e. same_rows a b ma mb sa sb (ap row_bytes ea ∙ e ∙ ap row_bytes (sym eb)))
    told
