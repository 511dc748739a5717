use Rattle.ctl.proofs.Completing.{decided_in}
use Rattle.ctl.proofs.truth.decided_in_a_closed_set.Goals as goal

pub returns : goal.returns
returns c = λ m R closed f k s l hs h. decided_in m R closed f k s l (hs, h)
