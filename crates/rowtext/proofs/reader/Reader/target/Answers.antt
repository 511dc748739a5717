use Rattle.std.proofs.Common.{◌++◌, drop, sym, refl, ap, ◌∙◌, arith}
use Rattle.std.proofs.lemmas.Fmt.{decimal_injective}
use Rattle.rowtext.proofs.LineForms.{no_target}
use Rattle.text.proofs.Cuts.{piece_and_rest, rest_ends_here}
use Rattle.rowtext.proofs.reader.Reader.target.Goals as goal

pub returns-in-Some-clause-took : goal.returns-in-Some-clause-took
returns-in-Some-clause-took c =
    let text = c.args.self.now.text.now in
    let at = c.args.self.now.at in
    let end = c.piece_end-end.result in
    let ends = c.piece_end-end.ensures in
    let is = c.in-Some.ensures in
    (c.if-low-t.true, is.0, piece_and_rest text at end 44 ends ∙ ap (λ xs. xs ++ drop end text) is.1, rest_ends_here text at end 44 ends)

pub returns-in_default-clause-took : goal.returns-in_default-clause-took
returns-in_default-clause-took c =
    let text = c.args.self.now.text.now in
    let at = c.args.self.now.at in
    let end = c.piece_end-end.result in
    let ends = c.piece_end-end.ensures in
    let is = c.in-Some.ensures in
    let left = c.if-low-t.false in
    (refl, no_target text at end ends c.args.low (λ t l h w. omega (arith, left, l, decimal_injective c.in-Some.t t (omega arith) (omega arith) (sym is.1 ∙ w))))

pub returns-in_default-2-clause-took : goal.returns-in_default-2-clause-took
returns-in_default-2-clause-took c =
    let text = c.args.self.now.text.now in
    let at = c.args.self.now.at in
    let end = c.piece_end-end.result in
    let ends = c.piece_end-end.ensures in
    (refl, no_target text at end ends c.args.low (λ t l h w. c.in_default.ensures t h w))
