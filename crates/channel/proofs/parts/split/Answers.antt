use Rattle.std.proofs.Common.{◌≡◌, length, Option, Some, None, Result, Err, sym, ◌∙◌, subst, inl, inr, ⊎_elim, arith}
use Rattle.std.specs.Option.{ok_or}
use Rattle.std.proofs.lemmas.Bool.{eqb-true}
use Rattle.std.proofs.lemmas.Result.{err_from_is_err_and}
use Rattle.channel.proofs.LastLine.{fits_sized, not_sized, past_the_sign, no_front}
use Rattle.channel.specs.Faults.{bad_size, bad_last_line, bad_offset}
use Rattle.channel.specs.Steps.{LastOr}
use Rattle.channel.specs.declared.fault.FormFault.TheVariants.{LastLine}
use Rattle.channel.proofs.parts.split.Goals as goal
use Rattle.channel.proofs.parts.split.Goals.{then-offset-at-via-then-offset-at, then-offset-at-via-else-offset-at+then-not-is_line_front}

same_error : {T E : Type 0} (o : Option T) (e e' : E) → o ≡ None → ◌≡◌ {A = Result T E} (Err e) (ok_or o e') → e ≡ e'
same_error None e e' n h = cc
same_error (Some x) e e' n h = cc

pub returns-then-is_empty : goal.returns-then-is_empty
returns-then-is_empty c =
    let file = c.args.file.now in
    bad_size (not_sized file (⊎_elim (λ h. inl (eqb-true (length file) 0 (sym c.is_empty.ensures ∙ h))) (λ h. inr h.1) c.then-is_empty.either))

pub returns-in_err-at : goal.returns-in_err-at
returns-in_err-at c =
    let p = err_from_is_err_and c.from_residual.result c.from_residual.ensures.1 in
    let file = c.args.file.now in
    let e : c.in_err-at.field-0.0 ≡ LastLine = same_error c.last_line.result c.in_err-at.field-0.0 LastLine c.in_err-at.ensures.ok_part c.in_err-at.ensures.value in
    rw (p.1, p.2, e) (bad_last_line (fits_sized file (sym c.if-is_empty.false ∙ c.is_empty.ensures) (omega arith)) (subst (LastOr file) c.in_err-at.ensures.ok_part c.last_line.ensures))

pub returns-then-offset-at : goal.returns-then-offset-at
returns-then-offset-at c =
    let file = c.args.file.now in
    let told = subst (LastOr file) c.in_ok-at.ensures.ok_part c.last_line.ensures in
    bad_offset (fits_sized file (sym c.if-is_empty.false ∙ c.is_empty.ensures) (omega arith)) (elim c.then-offset-at.branch [ then-offset-at-via-then-offset-at w ↦ past_the_sign file c.in_ok-at.at c.in_ok-at.offset told.0 told.1 w.if-offset-at.true | then-offset-at-via-else-offset-at+then-not-is_line_front w ↦ no_front file c.in_ok-at.at c.in_ok-at.offset told.1 (sym w.if-not-is_line_front.ensures) ])
