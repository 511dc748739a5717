use Rattle.ctl.proofs.Judging.{only_the_computed}
use Rattle.ctl.proofs.verdicts.one_verdict.Goals as goal

pub returns : goal.returns
returns c = only_the_computed
