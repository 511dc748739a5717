use Rattle.std.proofs.Common.{◌≡◌, ◌+◌, ◌≤◌, ◌∙◌, subst, ⊎_elim, arith}
use Rattle.std.proofs.lemmas.Bool.{cases_lt}
use Rattle.ctl.proofs.Counted.{starts_counted}
use Rattle.rule.specs.Tree.{part_formula}
use Rattle.table.specs.Kept.{kept}
use Rattle.roster.specs.Showing.{StartShown}
use Rattle.roster.proofs.Showings.{turn, shown_here, no_witness_no_path}
use Rattle.roster.proofs.path.show.Goals as goal

pub witness-requires-clause-counts : goal.witness-requires-clause-counts
witness-requires-clause-counts c =
    let w =
    turn c.args.table.now (part_formula c.args.part.now) c.args.k c.starts-s-items.result c.into_iter-s-iterator.result.left _ _ c.loop-s.invariant.0 c.in-Some.s _ c.starts-s-items.ensures.shows c.starts-s-items.ensures.inside
    c.into_iter-s-iterator.ensures.into_iter_gives c.in-Some.is c.loop-s.invariant.1 c.next.ensures.steps c.loop-s.invariant.3
    in
    c.new-evaluation.ensures.counted c.in-Some.s ∙ starts_counted (kept c.args.table.now) c.in-Some.s w.1

pub returns-then-is_ok-clause-shown : goal.returns-then-is_ok-clause-shown
returns-then-is_ok-clause-shown c =
    let w =
    turn c.args.table.now (part_formula c.args.part.now) c.args.k c.starts-s-items.result c.into_iter-s-iterator.result.left _ _ c.loop-s.invariant.0 c.in-Some.s _ c.starts-s-items.ensures.shows c.starts-s-items.ensures.inside
    c.into_iter-s-iterator.ensures.into_iter_gives c.in-Some.is c.loop-s.invariant.1 c.next.ensures.steps c.loop-s.invariant.3
    in
    shown_here (kept c.args.table.now) (part_formula c.args.part.now) c.args.k c.in-Some.s c.args.out.now c.loop-s.out c.witness.new.out w.1 c.loop-s.invariant.2 w.2 (grind arith)

pub loop-s-preserved : goal.loop-s-preserved
loop-s-preserved c =
    let w =
    turn c.args.table.now (part_formula c.args.part.now) c.args.k c.starts-s-items.result c.into_iter-s-iterator.result.left _ _ c.loop-s.invariant.0 c.in-Some.s _ c.starts-s-items.ensures.shows c.starts-s-items.ensures.inside
    c.into_iter-s-iterator.ensures.into_iter_gives c.in-Some.is c.loop-s.invariant.1 c.next.ensures.steps c.loop-s.invariant.3
    in
    let last : StartShown (kept c.args.table.now) (part_formula c.args.part.now) c.args.k c.in-Some.s → ⊥ = λ p. grind (arith, no_witness_no_path) in
    let same : c.witness.new.out ≡ c.args.out.now = grind arith in
    (c.in-Some.s + 1, w.3, same, λ v b p. ⊎_elim (λ a. w.2 v a p) (λ (g : c.in-Some.s ≤ v). let e : v ≡ c.in-Some.s = omega arith in last (subst (StartShown (kept c.args.table.now) (part_formula c.args.part.now) c.args.k) e p)) (cases_lt v c.in-Some.s))
