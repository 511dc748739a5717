use Rattle.guarantee.proofs.Ruling.{hollow_rosters_are_ruled_out}
use Rattle.guarantee.proofs.claims.hollow_rosters_are_ruled_out.Goals as goal

pub returns : goal.returns
returns c = hollow_rosters_are_ruled_out
