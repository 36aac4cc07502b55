use Rattle.std.proofs.Common.{ℕ, ◌<◌, get_or, sym, subst, rules}
use Rattle.cells.specs.Numbers.{Bytes}
use Rattle.cells.specs.BigEndian.{bytes_from}
use Rattle.frames.specs.Format.{Exact}
use Rattle.frames.proofs.Exactness.{exact}
use Rattle.frames.proofs.Kept.{as_written}
use Rattle.frames.proofs.reader.read.Goals as goal

pub returns : goal.returns
returns g c =
    let bs = c.args.bytes.now in
    let w = g.R.CellRow.width in
    let reads = g.R.CellRow.reads in
    let each : (i : ℕ) → get_or bs i 0 < 256 = λ i. let f = c.type_inv.bytes i in search rules in
    let small : Bytes bs = bytes_from bs each in
    record {
      answer = c.parse.ensures;
      exact = subst (Exact w reads bs) (sym c.parse.ensures) (exact w reads bs small);
      written = as_written g.R.CellRow.bytes reads w g.met.R.CellRow.read g.met.R.CellRow.wide bs c.parse.result small c.parse.ensures;
    }
