use Rattle.std.proofs.Common.{refl}
use Rattle.std.proofs.Output.{has_written_append}
use Rattle.report.specs.Tallies.{frames_text, rest_text}
use Rattle.report.proofs.tally.TallyDisplay.fmt.Goals as goal

pub returns-clause-writes : goal.returns-clause-writes
returns-clause-writes g c plain ok =
    let t = c.args.self.now in
    let first = c.in_ok-write.ensures.writes plain refl in
    let second = c.write-2.ensures.writes first.plain ok in
    has_written_append _ _ (frames_text t) _ (rest_text t) _ first second
