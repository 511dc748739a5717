use Rattle.std.proofs.Common.{◌≡◌, ◌+◌, [], ◌∷◌, ◌++◌, length, drop, vec_items, sym, ap, ◌∙◌, inr, arith}
use Rattle.std.proofs.lemmas.List.{append_assoc, length_push}
use Rattle.std.proofs.lemmas.Result.{err_from_is_err_and}
use Rattle.rowtext.proofs.LineForms.{broken_by_marks, broken_by_sign, broken_by_targets}
use Rattle.rowtext.specs.Faults.{targets_beyond}
use Rattle.rowtext.specs.Format.{sign}
use Rattle.text.proofs.Cuts.{went_on}
use Rattle.rowtext.proofs.reader.Reader.row.Goals as goal

pub returns-in_err-start : goal.returns-in_err-start
returns-in_err-start c =
    let p = err_from_is_err_and c.from_residual.result c.from_residual.ensures.1 in
    let took = c.in_err-start.ensures.took in
    rw (p.1, p.2) (inr (broken_by_sign _ _ _ took.0 took.1))

pub returns-in_err-marks : goal.returns-in_err-marks
returns-in_err-marks c =
    let p = err_from_is_err_and c.from_residual-in_err-marks.result c.from_residual-in_err-marks.ensures.1 in
    let signed = c.in_ok-start.ensures in
    let far = went_on _ _ _ _ (sign c.in_ok-start.start ∷ []) (ap (λ r. r.now) signed.same) c.args.self.now.within c.sign.new.self.within signed.took in
    rw (p.1, p.2) (broken_by_marks _ _ _ _ c.in_ok-start.start _ signed.took far c.in_err-marks.ensures.took)

pub returns-in_err-targets : goal.returns-in_err-targets
returns-in_err-targets c =
    let p = err_from_is_err_and c.from_residual-in_err-targets.result c.from_residual-in_err-targets.ensures.1 in
    let signed = c.in_ok-start.ensures in
    let marked = c.in_ok-marks.ensures in
    let ms = vec_items c.in_ok-marks.marks in
    let far = went_on _ _ _ _ (sign c.in_ok-start.start ∷ []) (ap (λ r. r.now) signed.same) c.args.self.now.within c.sign.new.self.within signed.took in
    let further = went_on _ _ _ _ (ms ++ 62 ∷ []) (ap (λ r. r.now) marked.same) c.sign.new.self.within c.marks.new.self.within (marked.took.0 ∙ sym (append_assoc ms (62 ∷ []) (drop c.marks.new.self.at c.marks.new.self.text.now))) in
    rw (p.1, p.2) (broken_by_targets c.args.self.now.at c.marks.new.self.at _ _ _ ms c.in_ok-start.start _ signed.took marked.took.0 marked.took.1 (omega (arith, far, further, length_push ms 62)) c.in_err-targets.ensures)

pub returns : goal.returns
returns c =
    let signed = c.in_ok-start.ensures in
    let marked = c.in_ok-marks.ensures in
    let aimed = c.in_ok-targets.ensures in
    let ms = vec_items c.in_ok-marks.marks in
    let ts = vec_items c.in_ok-targets.targets in
    let far = went_on _ _ _ _ (sign c.in_ok-start.start ∷ []) (ap (λ r. r.now) signed.same) c.args.self.now.within c.sign.new.self.within signed.took in
    let further = went_on _ _ _ _ (ms ++ 62 ∷ []) (ap (λ r. r.now) marked.same) c.sign.new.self.within c.marks.new.self.within (marked.took.0 ∙ sym (append_assoc ms (62 ∷ []) (drop c.marks.new.self.at c.marks.new.self.text.now))) in
    let here : c.marks.new.self.at ≡ c.args.self.now.at + 1 + length ms + 1 = omega (arith, far, further, length_push ms 62) in (
      record { marks = marked.took.1; targets = aimed.1; some = aimed.2 },
      signed.took ∙ ap (λ xs. sign c.in_ok-start.start ∷ xs) (marked.took.0 ∙ ap (λ xs. ms ++ 62 ∷ xs) aimed.0),
      aimed.3 ∙ ap (λ k. targets_beyond c.args.count k ts) here,
    )
