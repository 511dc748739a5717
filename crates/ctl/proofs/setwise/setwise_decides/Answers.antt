use Rattle.ctl.proofs.Evaluating.{setwise_decides as inside}
use Rattle.ctl.proofs.setwise.setwise_decides.Goals as goal

pub returns : goal.returns
returns c = λ m law C closed f k s hs h. inside m law C closed k f s (hs, h)
