use Rattle.std.proofs.Common.{◌≡◌}
use Rattle.channel.specs.Steps.{ReadSoFar}
use Rattle.channel.proofs.rules.read_rules.Given as goal

abbrev pub invariant-loop-line : goal.invariant-loop-line
invariant-loop-line l = record {
  can : (goal.iterator-loop-line).can_next l.line-iterator;
  finite : (goal.iterator-loop-line).is_finite l.line-iterator;
  same : l.line-iterator.text.now ≡ l.rules;
  read : ReadSoFar l.rules l.line-iterator.at l.laid;
}
