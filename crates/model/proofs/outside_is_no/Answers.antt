use Rattle.model.proofs.Answers.{outside_is_no}
use Rattle.model.proofs.outside_is_no.Goals as goal

pub returns : goal.returns
returns c = outside_is_no
