use Rattle.ctl.proofs.Simple.{no_room}
use Rattle.ctl.proofs.looks.no_room.Goals as goal

pub returns : goal.returns
returns c = no_room
