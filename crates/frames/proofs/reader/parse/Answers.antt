use Rattle.std.proofs.Common.{◌≡◌, ◌≤◌, length, drop, sym, ap, ◌∙◌, arith, rules}
use Rattle.std.proofs.lemmas.List.{take_rest}
use Rattle.cells.specs.Numbers.{field}
use Rattle.frames.specs.Kinds.{fields_as}
use Rattle.frames.proofs.KindOf.{cycle_is, decoded_by}
use Rattle.frames.proofs.reader.parse.Goals as goal

pub returns : goal.returns
returns g c =
    let bs = c.args.bytes.now in
    let w = g.R.CellRow.width in
    let reads = g.R.CellRow.reads in
    let l : 5 ≤ length bs = search rules in
    let n : c.from_be_bytes-cycle.result ≡ field 4 1 bs = cycle_is bs c.from_be_bytes-cycle.result l (omega arith) in
    c.read_fields.ensures
    ∙ ap (fields_as w reads c.in_ok-kind.kind c.from_be_bytes-cycle.result) (take_rest bs 5)
    ∙ ap (λ x. fields_as w reads c.in_ok-kind.kind x (drop 5 bs)) n
    ∙ sym (decoded_by w reads bs l c.in_ok-kind.kind c.in_ok-kind.ensures)
