use Rattle.ctl.proofs.Judging.{never_across}
use Rattle.ctl.proofs.truth.never_both_across_bounds.Goals as goal

pub returns : goal.returns
returns c = never_across
