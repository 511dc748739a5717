use Rattle.rule.proofs.Earned.{one_fault}
use Rattle.rule.proofs.claims.text_has_one_fault.Goals as goal

pub returns : goal.returns
returns c = one_fault
