use Rattle.trials.proofs.random.+random_rule.Given as goal

abbrev pub decreases-random_rule : goal.decreases-random_rule
decreases-random_rule l = l.layers
