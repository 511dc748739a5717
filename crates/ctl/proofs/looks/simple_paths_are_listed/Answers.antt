use Rattle.ctl.proofs.Looking.{lists_simple_paths}
use Rattle.ctl.proofs.looks.simple_paths_are_listed.Goals as goal

pub returns : goal.returns
returns c = lists_simple_paths
