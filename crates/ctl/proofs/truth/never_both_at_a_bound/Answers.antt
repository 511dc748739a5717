use Rattle.ctl.specs.Truth.{upto}
use Rattle.ctl.proofs.Duality.{never_both}
use Rattle.ctl.proofs.truth.never_both_at_a_bound.Goals as goal

pub returns : goal.returns
returns c = λ m f k s t n. never_both m (upto k) f s t n
