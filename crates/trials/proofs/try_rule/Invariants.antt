use Rattle.std.proofs.Common.{◌≡◌}
use Rattle.ctl.specs.Formula.{negation}
use Rattle.rule.specs.Tree.{formula}
use Rattle.trials.proofs.try_rule.Given as goal

abbrev pub invariant-loop-k : goal.invariant-loop-k
invariant-loop-k l = formula l.trial.negation.now ≡ negation (formula l.trial.rule.now)
