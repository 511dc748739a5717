use Rattle.rule.proofs.Formulas.{one_formula}
use Rattle.rule.proofs.claims.text_has_one_formula.Goals as goal

pub returns : goal.returns
returns c = one_formula
