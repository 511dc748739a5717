use Rattle.ctl.proofs.Listed.{by_lists}
use Rattle.ctl.proofs.truth.paths_are_lists.Goals as goal

pub returns : goal.returns
returns c = by_lists
