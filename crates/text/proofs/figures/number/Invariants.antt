use Rattle.std.proofs.Common.{◌<◌}
use Rattle.text.proofs.Digits.{Half}
use Rattle.text.proofs.figures.number.Given as goal

abbrev pub invariant-loop-b : goal.invariant-loop-b
invariant-loop-b l = (l.n < l.top) × Half l.piece l.b-index l.n
