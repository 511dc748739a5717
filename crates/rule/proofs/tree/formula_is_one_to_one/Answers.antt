use Rattle.rule.proofs.Trees.{one_to_one}
use Rattle.rule.proofs.tree.formula_is_one_to_one.Goals as goal

pub returns : goal.returns
returns c = one_to_one
