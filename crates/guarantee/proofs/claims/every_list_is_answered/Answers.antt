use Rattle.guarantee.proofs.Answering.{every_list_is_answered}
use Rattle.guarantee.proofs.claims.every_list_is_answered.Goals as goal

pub returns : goal.returns
returns c = every_list_is_answered
