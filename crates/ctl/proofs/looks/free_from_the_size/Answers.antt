use Rattle.ctl.proofs.Looking.{free_rule}
use Rattle.ctl.proofs.looks.free_from_the_size.Goals as goal

pub returns : goal.returns
returns c = λ m R f k h. free_rule m R k h f
