use Rattle.ctl.proofs.Deciding.{decides}
use Rattle.ctl.proofs.truth.decidable.Goals as goal

pub returns : goal.returns
returns c = decides
