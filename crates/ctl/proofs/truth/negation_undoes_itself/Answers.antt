use Rattle.ctl.proofs.Duality.{negation_twice}
use Rattle.ctl.proofs.truth.negation_undoes_itself.Goals as goal

pub returns : goal.returns
returns c = negation_twice
