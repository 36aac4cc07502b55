use Rattle.std.proofs.Common.{◌*◌, rules, arith}
use Rattle.std.proofs.lemmas.Iterator.{YieldsList-from_range, cases_from_all}
use Rattle.groups.proofs.AnyGroup.{cells_decided, same_read}
use Rattle.groups.proofs.compare.same_cells.Goals as goal

pub returns : goal.returns
returns g c =
    let m = g.G.Group.meaning c.args.one.now in
    let n = g.H.Group.meaning c.args.other.now in
    let s = c.args.shape in
    cells_decided m n (g.G.Group.lawful c.args.one.now) (g.H.Group.lawful c.args.other.now) s c.requires c.all.result
    (cases_from_all _ _ _ (same_read m n s.blocks) (λ a. same_read m n s.blocks a → ⊥) c.all.ensures.ran (YieldsList-from_range 0 (s.volumes * s.blocks) (s.volumes * s.blocks) (cc) (omega arith)) (λ x q k. search rules) (λ x q k. search rules))
