use Rattle.std.proofs.Common.{◌≡◌, ◌+◌, ◌<◌, length, get_or, refl, arith}
use Rattle.text.proofs.Digits.{empty_not, leading_not, no_figure, too_large, half_more, all_read}
use Rattle.text.proofs.figures.number.Goals as goal
use Rattle.text.proofs.figures.number.Goals.{in_default, in_default-2}

pub returns-in-empty : goal.returns-in-empty
returns-in-empty c = λ t l w. empty_not c.args.piece.now (omega arith) t (omega arith) w

pub returns-in-empty-2 : goal.returns-in-empty-2
returns-in-empty-2 c = λ t l w. leading_not c.args.piece.now (omega arith) (omega arith) t (omega arith) w

pub returns-then-not-is_ascii_digit : goal.returns-then-not-is_ascii_digit
returns-then-not-is_ascii_digit c = λ t l w. no_figure c.args.piece.now c.loop-b.b-index c.loop-b.n (get_or c.args.piece.now c.loop-b.b-index 0) (omega arith) refl (λ x y. let h = c.if-not-is_ascii_digit.ensures.cases in omega (arith, h)) c.loop-b.invariant.1 t (omega arith) w

pub returns-then-n-top : goal.returns-then-n-top
returns-then-n-top c =
    let i = c.loop-b.b-index in
    let figure = c.if-not-is_ascii_digit.ensures.cases in
    let more = half_more c.args.piece.now i c.loop-b.n (get_or c.args.piece.now i 0) (omega arith) refl (omega (arith, figure)) (omega (arith, figure)) c.loop-b.invariant.1 in
    λ t l w. too_large c.args.piece.now (i + 1) _ c.args.top more (omega arith) t (omega arith) l w

pub returns : goal.returns
returns c =
    let piece = c.args.piece.now in
    let plain : (0 < length piece) × (get_or piece 0 0 ≡ 48 → length piece ≡ 1) = elim c.if-piece-lt2.branch [ in_default w ↦ (omega arith, λ e. omega arith) | in_default-2 w ↦ (omega arith, λ e. omega arith) ] in
    (c.loop-b.invariant.0, all_read piece c.loop-b.b-index c.loop-b.n c.loop-b.invariant.1 (omega arith) (omega arith) plain.0 plain.1)
