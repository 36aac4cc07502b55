use Rattle.std.proofs.Common.{◌≡◌}
use Rattle.carry_day.proofs.day.Day.write_quarter.Given as goal

abbrev pub invariant-loop-gauge : goal.invariant-loop-gauge
invariant-loop-gauge l = l.self.carried ≡ l.initial.self.carried
