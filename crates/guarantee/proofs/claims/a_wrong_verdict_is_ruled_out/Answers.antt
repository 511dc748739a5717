use Rattle.guarantee.proofs.Ruling.{a_wrong_verdict_is_ruled_out}
use Rattle.guarantee.proofs.claims.a_wrong_verdict_is_ruled_out.Goals as goal

pub returns : goal.returns
returns c = a_wrong_verdict_is_ruled_out
