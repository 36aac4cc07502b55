use Rattle.std.proofs.Common.{sym, ap, ◌∙◌}
use Rattle.groups.specs.Meaning.{GroupMeaning, read_answer}
use Rattle.groups.proofs.AnyGroup.{back_taken}
use Rattle.groups.proofs.compare.write_then_read.Goals as goal

pub returns-clause-answer : goal.returns-clause-answer
returns-clause-answer g c =
    let m = g.G.Group.meaning c.args.group.now in
    let v = c.args.v in
    let b = c.args.b in
    c.read.ensures
    ∙ ap (λ (n : GroupMeaning). read_answer n v b) c.write.ensures.after
    ∙ back_taken m v b (g.R.CellRow.bytes c.args.cell) c.in_ok-write.field-0 (g.G.Group.lawful c.args.group.now) (sym c.write.ensures.answer ∙ c.in_ok-write.was)
