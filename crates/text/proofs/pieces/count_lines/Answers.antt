use Rattle.std.proofs.Common.{◌≡◌, arith, ap, cond, eqb, refl, rules}
use Rattle.std.specs.List.{count_by}
use Rattle.std.proofs.lemmas.List.Recursion.{is_count_by}
use Rattle.text.specs.Pieces.{newlines}
use Rattle.text.proofs.pieces.count_lines.Goals as goal

pub returns : goal.returns
returns c =
    let counted : c.count.result ≡ count_by (λ b. eqb b 10) c.args.text.now = search rules in
    let same = is_count_by newlines (λ b. eqb b 10) refl (λ x xs. ap (λ n. cond (eqb x 10) n (newlines xs)) (omega arith)) c.args.text.now in
    grind arith
