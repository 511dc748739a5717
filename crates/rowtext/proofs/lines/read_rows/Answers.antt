use Rattle.std.proofs.Common.{◌≡◌, [], ◌∷◌, ◌++◌, vec_items, None, sym, refl, ap, ◌∙◌, subst, inl, inr, ⊎_elim, arith}
use Rattle.std.specs.Option.{option_or}
use Rattle.std.proofs.lemmas.List.{length-map}
use Rattle.std.proofs.lemmas.Slice.{pushed}
use Rattle.std.proofs.lemmas.Result.{err_from_is_err_and}
use Rattle.rowtext.proofs.Described.{described}
use Rattle.rowtext.proofs.TextForms.{ReadSoFar, all_read, broken_there, few_newlines, lawful_text, one_more, some_line}
use Rattle.rowtext.specs.Faults.{text_beyond}
use Rattle.rowtext.specs.Format.{line_of, lines_of}
use Rattle.text.proofs.Cuts.{same_line}
use Rattle.text.specs.Lines.{NextLine}
use Rattle.rowtext.proofs.lines.read_rows.Goals as goal

pub returns-in_err-row : goal.returns-in_err-row
returns-in_err-row c =
    let p = err_from_is_err_and c.from_residual-in_err-row.result c.from_residual-in_err-row.ensures.1 in
    let so = c.loop-line.invariant in
    let is = same_line so.same c.in-Some.ensures.steps.1 in
    rw (p.1, p.2) (⊎_elim inl (λ b. inr (inr ((lawful_text c.args.text.now _ (sym c.lawful_count.ensures ∙ c.in_ok-count.ensures.ok_part)).0, inl (broken_there c.args.text.now c.in_ok-count.count _ _ c.in-Some.line _ _ so.read is _ b)))) c.in_err-row.ensures)

pub loop-line-preserved : goal.loop-line-preserved
loop-line-preserved c =
    let so = c.loop-line.invariant in
    let row = c.in_ok-row.row in
    let is = same_line so.same c.in-Some.ensures.steps.1 in
    let more = one_more c.args.text.now c.in_ok-count.count _ _ c.in-Some.line _ _ so.read is row c.in_ok-row.late c.in_ok-row.ensures in
    let p : vec_items c.push.new.self ≡ vec_items c.loop-line.rows ++ row ∷ [] = pushed (row ∷ []) refl c.in_ok-push.was c.push.ensures.items in
    record {
      can = tt;
      finite = tt;
      same = ap (λ r. r.now) c.in-Some.ensures.steps.0 ∙ so.same;
      read = subst (λ b. ReadSoFar c.args.text.now c.in_ok-count.count c.next.new.self.at (vec_items c.push.new.self) b) (sym c.or-beyond.ensures) (subst (λ rows. ReadSoFar c.args.text.now c.in_ok-count.count c.next.new.self.at rows (option_or c.loop-line.beyond c.in_ok-row.late)) (sym p) more);
    }

pub returns-in-None-beyond : goal.returns-in-None-beyond
returns-in-None-beyond c =
    let text = c.args.text.now in
    let so = c.loop-line.invariant in
    let told = lawful_text text _ (sym c.lawful_count.ensures ∙ c.in_ok-count.ensures.ok_part) in
    let lawful = told.0 in
    let none = subst (λ t. NextLine t c.loop-line.line-iterator.at c.next.new.self.at None) so.same c.in-None.ensures.steps.1 in
    let read = all_read text c.in_ok-count.count _ _ _ lawful so.read none.0 in
    let rows = vec_items c.loop-line.rows in
    described text rows read.0 so.read.formed (omega (arith, read.1, few_newlines text lawful)) (omega (arith, some_line text lawful (lines_of rows) read.0, length-map rows line_of)) (ap (λ k. text_beyond k 0 (lines_of rows)) (sym (told.1 ∙ read.1)) ∙ sym so.read.beyond_is ∙ c.in-None-beyond.is)
