use Rattle.std.proofs.Common.{ℕ, ◌≤◌, sym, subst}
use Rattle.frames.proofs.Kept.{bounded, read_written}
use Rattle.frames.proofs.writer.write.Goals as goal

pub returns : goal.returns
returns g c =
    let bytes = g.R.CellRow.bytes in
    let reads = g.R.CellRow.reads in
    let w = g.R.CellRow.width in
    let read = g.met.R.CellRow.read in
    let wide = g.met.R.CellRow.wide in
    let f = c.args.frame.now in
    let l = c.lay.ensures.size in
    record {
      size = l;
      bounds = subst (λ (n : ℕ). (5 ≤ n) × (n ≤ 136)) (sym l) (bounded bytes reads w read wide g.met.R.CellRow.most f);
      laid = c.lay.ensures.laid;
      back = read_written bytes reads w read wide f c.lay.result c.args.out.now c.lay.new.out l c.lay.ensures.laid;
    }
