use Rattle.ctl.proofs.Judging.{exact}
use Rattle.ctl.proofs.truth.exact_from_the_count.Goals as goal

pub returns : goal.returns
returns c = exact
