use Rattle.std.proofs.Common.{◌≡◌, ◌+◌, [], ◌∷◌, ◌++◌, length, drop, vec_items, decimal, sym, refl, ap, ◌∙◌, subst, inr, add-one, arith}
use Rattle.std.proofs.lemmas.List.{length_push, drop_all}
use Rattle.std.proofs.lemmas.Slice.{pushed}
use Rattle.std.proofs.lemmas.Result.{err_from_is_err_and}
use Rattle.rowtext.proofs.LineForms.{beyond_more, broken_targets_at, least_next_push, rising_push, targets_end, targets_more}
use Rattle.rowtext.specs.Faults.{comma_ended, least_next, targets_beyond}
use Rattle.rowtext.specs.Format.{Rising, targets_text}
use Rattle.text.proofs.Cuts.{delimiter_next, went_on}
use Rattle.rowtext.proofs.reader.Reader.targets.Goals as goal

pub returns-in_err-t : goal.returns-in_err-t
returns-in_err-t c =
    let p = err_from_is_err_and c.from_residual.result c.from_residual.ensures.1 in
    let inv = c.loop-targets.invariant in
    let ts = vec_items c.loop-targets.targets in
    let took = c.in_err-t.ensures.took in
    let far = went_on _ _ _ _ (comma_ended ts) (ap (λ r. r.now) inv.0) c.args.self.now.within c.loop-targets.self.within inv.1 in
    rw (p.1, p.2) (inr (broken_targets_at _ _ _ _ ts _ _ inv.1 inv.2 inv.3 far took.0 took.1))

pub returns-then-self : goal.returns-then-self
returns-then-self c =
    let inv = c.loop-targets.invariant in
    let ts = vec_items c.loop-targets.targets in
    let t = c.in_ok-t.t in
    let took = c.in_ok-t.ensures.took in
    let far = went_on _ _ _ _ (comma_ended ts) (ap (λ r. r.now) inv.0) c.args.self.now.within c.loop-targets.self.within inv.1 in
    let p : vec_items c.push.new.self ≡ ts ++ t ∷ [] = pushed (t ∷ []) refl c.in_ok-push.was c.push.ensures.items in (
      targets_end _ _ _ ts t inv.1 took.2 (drop_all c.target.new.self.at c.target.new.self.text.now (omega arith)) ∙ ap targets_text (sym p),
      subst (Rising 0 64) (sym p) (rising_push 0 64 ts t inv.2 (omega (arith, inv.3, took.0)) took.1),
      omega (arith, ap length p ∙ length_push ts t),
      c.or-beyond.ensures ∙ beyond_more _ _ _ t ts _ _ inv.4 far c.beyond_at.ensures ∙ ap (targets_beyond c.args.count c.args.self.now.at) (sym p),
    )

pub loop-targets-smaller : goal.loop-targets-smaller
loop-targets-smaller c =
    let took = c.in_ok-t.ensures.took in
    let same : c.target.new.self.text.now ≡ c.loop-targets.self.text.now = ap (λ r. r.now) c.in_ok-t.ensures.same in
    let far = went_on _ _ _ _ (decimal c.in_ok-t.t) same c.loop-targets.self.within c.target.new.self.within took.2 in
    omega (arith, far, ap length same)

pub loop-targets-preserved : goal.loop-targets-preserved
loop-targets-preserved c =
    let inv = c.loop-targets.invariant in
    let ts = vec_items c.loop-targets.targets in
    let t = c.in_ok-t.t in
    let told = c.in_ok-t.ensures in
    let took = told.took in
    let far = went_on _ _ _ _ (comma_ended ts) (ap (λ r. r.now) inv.0) c.args.self.now.within c.loop-targets.self.within inv.1 in
    let p : vec_items c.push.new.self ≡ ts ++ t ∷ [] = pushed (t ∷ []) refl c.in_ok-push.was c.push.ensures.items in (
      told.same ∙ inv.0,
      targets_more _ _ _ _ ts t inv.1 took.2 (delimiter_next 44 c.target.new.self.text.now c.target.new.self.at took.3 (omega arith)) ∙ ap (λ xs. comma_ended xs ++ drop (c.target.new.self.at + 1) c.target.new.self.text.now) (sym p),
      subst (Rising 0 64) (sym p) (rising_push 0 64 ts t inv.2 (omega (arith, inv.3, took.0)) took.1),
      add-one t ∙ sym (least_next_push 0 ts t) ∙ ap (least_next 0) (sym p),
      c.or-beyond.ensures ∙ beyond_more _ _ _ t ts _ _ inv.4 far c.beyond_at.ensures ∙ ap (targets_beyond c.args.count c.args.self.now.at) (sym p),
    )
