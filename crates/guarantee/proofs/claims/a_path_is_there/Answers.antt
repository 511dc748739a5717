use Rattle.guarantee.proofs.Showing.{a_path_is_there}
use Rattle.guarantee.proofs.claims.a_path_is_there.Goals as goal

pub returns : goal.returns
returns c = a_path_is_there
