use Rattle.guarantee.proofs.Opening.{settle_ends}
use Rattle.guarantee.proofs.claims.settle_ends.Goals as goal

pub returns : goal.returns
returns c = settle_ends
