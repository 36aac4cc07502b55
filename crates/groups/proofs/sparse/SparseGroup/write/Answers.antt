use Rattle.std.proofs.Common.{◌*◌, ◌<◌, length, set, sym, ◌∙◌, subst, arith, length-set, rules}
use Rattle.groups.specs.declared.volumes.VolumeTable.{VolumeTable}
use Rattle.groups.specs.Records.{Single}
use Rattle.groups.proofs.RecordCells.{placed, records_laid, single_after, sparse_written}
use Rattle.groups.proofs.TableCalls.{taken}
use Rattle.groups.proofs.sparse.SparseGroup.write.Goals as goal

pub bounds-self-i : goal.bounds-self-i
bounds-self-i g c =
    let s = c.args.self.now in
    let e = taken s.table c.args.v c.args.b c.in_ok-a.a (sym c.admit.ensures.answer ∙ c.in_ok-a.was) in
    placed g.R.CellRow.bytes s.table s.records.now s.used c.args.v c.args.b c.args.cell s.ready s.single s.fits c.in_ok-a.a e c.place-i.result c.place-i.ensures

pub offset_bounds-self-i : goal.offset_bounds-self-i
offset_bounds-self-i g c = let h = bounds-self-i g c in search rules

pub invariant_of-self-2-clause-fits : goal.invariant_of-self-2-clause-fits
invariant_of-self-2-clause-fits g c =
    let s = c.args.self.now in
    let put = set s.records.now c.place-i.result (record { address = c.in_ok-a.a; cell = c.args.cell }) in
    subst (λ (u : VolumeTable). u.shape.volumes * u.shape.blocks < length put) (sym c.admit.ensures.after) (omega (arith, s.fits, length-set s.records.now c.place-i.result (record { address = c.in_ok-a.a; cell = c.args.cell })))

pub invariant_of-self-2-clause-single : goal.invariant_of-self-2-clause-single
invariant_of-self-2-clause-single g c =
    let s = c.args.self.now in
    let t = s.table in
    let a = c.in_ok-a.a in
    let i = c.place-i.result in
    let e = taken t c.args.v c.args.b a (sym c.admit.ensures.answer ∙ c.in_ok-a.was) in
    subst (λ (u : VolumeTable). Single u (set s.records.now i (record { address = a; cell = c.args.cell })) c.max-self.result) (sym c.admit.ensures.after) (single_after g.R.CellRow.bytes t s.records.now s.used c.args.v c.args.b c.args.cell s.ready s.single s.fits a e i c.max-self.result c.place-i.ensures c.max-self.ensures)

pub returns-clause-after : goal.returns-clause-after
returns-clause-after g c =
    let s = c.args.self.now in
    let R = g.R.CellRow in
    let t = s.table in
    let rs = s.records.now in
    let v = c.args.v in
    let b = c.args.b in
    let a = c.in_ok-a.a in
    let laid = records_laid R.bytes t rs s.used v b c.args.cell a c.place-i.result (taken t v b a (sym c.admit.ensures.answer ∙ c.in_ok-a.was)) c.place-i.ensures in
    sparse_written R.bytes t rs s.used v b c.args.cell s.single s.fits c.admit.new.self _ c.max-self.result c.admit.ensures.after laid.0 (c.max-self.ensures ∙ laid.1)
