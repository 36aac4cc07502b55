use Rattle.std.proofs.Common.{◌≡◌, ℕ, ◌<◌, length, get_or, Option, ap, ◌∙◌, rules}
use Rattle.std.specs.Option.{ok_or}
use Rattle.std.proofs.lemmas.Bool.{eqb-true}
use Rattle.cells.specs.Faults.{answered, not_a_cell}
use Rattle.cells.specs.declared.raw.RawBlock.{RawBlock}
use Rattle.cells.specs.Raws.{raw_at, raw_bytes, raw_reads}
use Rattle.cells.specs.BigEndian.{bytes_from}
use Rattle.cells.specs.RawBytes.{raw_back}
use Rattle.cells.proofs.CellOf.{read_or_not}
use Rattle.cells.proofs.raw.RawBlockCellRow.get.Goals as goal

pub returns : goal.returns
returns c =
    let bs = c.args.from.now in
    let small : (i : ℕ) → get_or bs i 0 < 256 = λ i. let f = c.type_inv.from i in search rules in
    let told : c.ok_or.result ≡ ok_or c.block_at.result not_a_cell = let n = c.not_a_cell.ensures in let v = c.ok_or.ensures.value in cc in
    ap (answered raw_bytes) (told ∙ ap (λ (o : Option RawBlock). ok_or o not_a_cell) c.block_at.ensures)
    ∙ read_or_not raw_bytes (raw_reads bs) (raw_at bs) bs (λ e. raw_back bs (bytes_from bs small) (eqb-true (length bs) 16 e))
