use Rattle.guarantee.proofs.Running.{every_run_is_guaranteed}
use Rattle.guarantee.proofs.claims.every_run_is_guaranteed.Goals as goal

pub returns : goal.returns
returns c = every_run_is_guaranteed
