use Rattle.std.proofs.Common.{sym, ◌∙◌}
use Rattle.groups.proofs.RowCalls.{flat_written, rows_laid}
use Rattle.groups.proofs.TableCalls.{taken}
use Rattle.groups.proofs.flat.FlatGroup.write.Goals as goal

pub returns-clause-after : goal.returns-clause-after
returns-clause-after g c =
    let s = c.args.self.now in
    let R = g.R.CellRow in
    let t = s.table in
    let v = c.args.v in
    let b = c.args.b in
    let a = c.in_ok-a.a in
    flat_written R.bytes t c.admit.new.self s.rows.now _ v b c.args.cell c.admit.ensures.after (rows_laid R.bytes t s.rows.now v b a c.args.cell (taken t v b a (sym c.admit.ensures.answer ∙ c.in_ok-a.was)))
