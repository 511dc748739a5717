use Rattle.std.proofs.Common.{◌≡◌, ◌+◌, length, arith}
use Rattle.text.proofs.Cuts.{ends_behind}
use Rattle.text.proofs.pieces.piece_end.Goals as goal

pub returns : goal.returns
returns c =
    let told = ends_behind c.args.delimiter c.args.text.now _ c.first_end.result (omega arith) c.first_end.ensures in
    grind arith
