use Rattle.ctl.proofs.Judging.{decides_once}
use Rattle.ctl.proofs.verdicts.one_deciding_bound.Goals as goal

pub returns : goal.returns
returns c = decides_once
