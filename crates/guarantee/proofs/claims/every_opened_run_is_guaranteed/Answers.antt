use Rattle.guarantee.proofs.Opening.{every_opened_run_is_guaranteed}
use Rattle.guarantee.proofs.claims.every_opened_run_is_guaranteed.Goals as goal

pub returns : goal.returns
returns c = every_opened_run_is_guaranteed
