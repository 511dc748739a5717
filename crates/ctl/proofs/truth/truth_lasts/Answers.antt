use Rattle.ctl.proofs.Judging.{lasts}
use Rattle.ctl.proofs.truth.truth_lasts.Goals as goal

pub returns : goal.returns
returns c = lasts
