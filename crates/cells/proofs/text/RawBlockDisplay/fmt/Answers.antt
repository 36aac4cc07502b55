use Rattle.std.proofs.Common.{◌^◌, ◌<◌, sym, ap, rules}
use Rattle.std.proofs.Output.{has_written_of_eq}
use Rattle.cells.specs.Texts.{block_text}
use Rattle.cells.specs.RawBytes.{raw_at-raw_bytes}
use Rattle.cells.proofs.text.RawBlockDisplay.fmt.Goals as goal

pub returns-clause-writes : goal.returns-clause-writes
returns-clause-writes g c plain ok =
    let r = c.args.self.now in
    let h : r.high < 256 ^ 8 = search rules in
    let l : r.low < 256 ^ 8 = search rules in
    has_written_of_eq _ _ (block_text r) _ _ (ap block_text (sym (raw_at-raw_bytes r h l))) (let w = c.write.ensures.writes in search rules)
