use Rattle.ctl.proofs.Counting.{visits_its_share}
use Rattle.ctl.proofs.setwise.search_takes_the_share.Goals as goal

pub returns : goal.returns
returns c = visits_its_share
