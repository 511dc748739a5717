use Rattle.rule.proofs.Earned.{earned_is_unlawful, unlawful_earns}
use Rattle.rule.proofs.claims.refused_exactly_without_a_formula.Goals as goal

pub returns : goal.returns
returns c = λ text s. (λ z. earned_is_unlawful text z.0 z.1 s, unlawful_earns text s)
