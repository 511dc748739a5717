use Rattle.std.proofs.Common.{◌≤◌, eqb, [], ◌∷◌, length, take, sym, ap, ◌∙◌, arith, drop}
use Rattle.std.specs.Cmp.Lexicographic.{pointwise}
use Rattle.std.proofs.lemmas.Bool.{false≢true}
use Rattle.std.proofs.lemmas.List.{length-take-le}
use Rattle.channel.specs.Files.{line_front}
use Rattle.channel.proofs.LastLine.{at_first, found, last_there, no_newline, stripped}
use Rattle.channel.proofs.parts.last_line.Goals as goal

pub returns-in_err-lines : goal.returns-in_err-lines
returns-in_err-lines c = rw c.from_residual.ensures (λ body n last. no_newline c.args.file.now body n c.in_err-lines.ensures.cases last)

pub returns-in_err-figures : goal.returns-in_err-figures
returns-in_err-figures c =
    let ends = stripped _ _ c.in_ok-lines.ensures.cases.0 c.in_ok-lines.ensures.cases.1 in
    rw c.from_residual-in_err-figures.ensures (λ body n last. false≢true (sym c.in_err-figures.ensures.cases ∙ ap (λ xs. pointwise eqb (take 1 xs) (64 ∷ [])) (last_there _ _ ends _ n body c.front_of_line-at.ensures last)))

pub returns-in_err-offset : goal.returns-in_err-offset
returns-in_err-offset c =
    let ends = stripped _ _ c.in_ok-lines.ensures.cases.0 c.in_ok-lines.ensures.cases.1 in
    rw c.from_residual-in_err-offset.ensures (λ body n last. c.in_err-offset.ensures n last.figures (c.in_ok-figures.ensures.cases.1 ∙ ap (drop 1) (last_there _ _ ends _ n body c.front_of_line-at.ensures last)))

pub returns : goal.returns
returns c =
    let file = c.args.file.now in
    let at = c.front_of_line-at.result in
    let f = c.front_of_line-at.ensures in
    let told = c.in_ok-offset.ensures in
    let ends = stripped _ _ c.in_ok-lines.ensures.cases.0 c.in_ok-lines.ensures.cases.1 in
    let h : at ≤ length file = omega (arith, f.within, c.in_ok-lines.ensures.cases.2) in
    let line = at_first _ c.in_ok-figures.figures.now c.in_ok-figures.ensures.cases.0 c.in_ok-figures.ensures.cases.1 ∙ ap (λ xs. 64 ∷ xs) told.1 in (
      h,
      record {
        whole = found _ _ ends at c.in_ok-offset.offset f.within line;
        begins = ap (line_front file) (length-take-le at file h) ∙ f.begins;
        figures = told.0;
      },
    )
