use Rattle.guarantee.proofs.Answering.{answers_are_fixed}
use Rattle.guarantee.proofs.claims.answers_are_fixed.Goals as goal

pub returns : goal.returns
returns c = answers_are_fixed
