use Rattle.std.proofs.Common.{ap, ◌∙◌, inl, inr, ⊎_elim}
use Rattle.std.proofs.lemmas.Result.{err_from_is_err_and}
use Rattle.channel.proofs.Lined.{one_more, refused_there}
use Rattle.text.proofs.Cuts.{same_line}
use Rattle.channel.proofs.rules.read_rules.Goals as goal

pub loop-line-preserved : goal.loop-line-preserved
loop-line-preserved c =
    let so = c.loop-line.invariant in
    let is = same_line so.same c.in-Some.ensures.steps.1 in
    let told = c.in_ok-read_line.ensures in
    record {
      can = tt;
      finite = tt;
      same = ap (λ r. r.now) c.in-Some.ensures.steps.0 ∙ so.same;
      read = one_more c.args.rules.now _ _ _ c.in-Some.line so.read is told.0 told.1 told.2;
    }

pub returns-in_err-read_line : goal.returns-in_err-read_line
returns-in_err-read_line c =
    let p = err_from_is_err_and c.from_residual.result c.from_residual.ensures.1 in
    let so = c.loop-line.invariant in
    let is = same_line so.same c.in-Some.ensures.steps.1 in
    let told = c.in_err-read_line.ensures in
    rw (p.1, p.2) (⊎_elim inl (λ b. inr (refused_there c.args.rules.now _ _ _ c.in-Some.line so.read is c.args.offset _ _ told.0 b)) told.1)
