use Rattle.ctl.specs.Truth.{endless}
use Rattle.ctl.proofs.Duality.{never_both}
use Rattle.ctl.proofs.truth.never_both_for_ever.Goals as goal

pub returns : goal.returns
returns c = λ m f s t n. never_both m endless f s t n
