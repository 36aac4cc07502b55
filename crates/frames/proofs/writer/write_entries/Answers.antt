use Rattle.std.proofs.Common.{◌≡◌, ℕ, ◌^◌, ◌<◌, List, [], ◌∷◌, ◌++◌, length, sym, subst, rules}
use Rattle.cells.specs.Numbers.{be}
use Rattle.frames.specs.Meaning.{map_of}
use Rattle.frames.specs.Frames.{places}
use Rattle.frames.proofs.Places.{map_of-places}
use Rattle.frames.proofs.Laying.{entries_laid}
use Rattle.frames.proofs.writer.write_entries.Goals as goal

pub returns-clause-laid : goal.returns-clause-laid
returns-clause-laid g c =
    let e = c.args.entries.now in
    let p = e.page in
    let ps = places g.R.CellRow.bytes p.map e.cells in
    let old = c.args.out.now in
    let head : List ℕ = 7 ∷ (be 4 p.cycle ++ (be 2 p.number ++ (p.map ∷ []))) in
    let made : c.copy_from_slice.new.self ≡ head = search rules in
    let long : length old ≡ 136 = search rules in
    let kept : length c.write_cells.new.out ≡ 128 = search rules in
    let small : p.map < 2 ^ length e.cells = subst (λ (n : ℕ). p.map < 2 ^ n) (sym e.eight) p.some.1 in
    let m : map_of ps ≡ p.map = map_of-places g.R.CellRow.bytes p.map e.cells small in
    entries_laid p.cycle p.number p.map c.write_cells.result ps old c.copy_from_slice.new.self c.write_cells.new.out m long made kept c.write_cells.ensures.laid
