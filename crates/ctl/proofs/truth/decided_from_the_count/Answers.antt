use Rattle.ctl.proofs.Judging.{decided_from_the_count}
use Rattle.ctl.proofs.truth.decided_from_the_count.Goals as goal

pub returns : goal.returns
returns c = decided_from_the_count
