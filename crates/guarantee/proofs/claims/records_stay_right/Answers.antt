use Rattle.guarantee.proofs.Opening.{records_stay_right}
use Rattle.guarantee.proofs.claims.records_stay_right.Goals as goal

pub returns : goal.returns
returns c = records_stay_right
