use Rattle.ctl.proofs.Judging.{for_ever}
use Rattle.ctl.proofs.truth.truth_is_for_ever.Goals as goal

pub returns : goal.returns
returns c = for_ever
