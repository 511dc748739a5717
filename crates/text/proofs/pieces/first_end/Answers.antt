use Rattle.std.proofs.Common.{◌≡◌, ◌+◌, length, unwrap_or, sym, ◌∙◌, subst, arith, rules, tests}
use Rattle.std.specs.Prelude.{◌≢◌}
use Rattle.std.proofs.lemmas.Iterator.{IsFirst-from_position, YieldsList-from_slice}
use Rattle.text.specs.Pieces.{PieceEnd}
use Rattle.text.proofs.Cuts.{ends_at_first}
use Rattle.text.proofs.pieces.first_end.Goals as goal

pub returns : goal.returns
returns c =
    let d = c.args.delimiter in
    let text = c.args.text.now in
    let first = IsFirst-from_position _ _ _ (λ b. b ≡ d) (λ b. b ≢ d) c.position-ahead.ensures.ran (YieldsList-from_slice text c.iter.ensures.rest) (λ x q k. search (rules, tests)) (λ x q k. search (rules, tests)) in
    let ends = ends_at_first d text 0 c.position-ahead.result (omega arith) first in
    let z : 0 + unwrap_or c.position-ahead.result (length text) ≡ unwrap_or c.position-ahead.result (length text) = omega arith in
    subst (PieceEnd d text 0) (z ∙ sym c.unwrap_or.ensures) ends
