-- A path is shown from the lowest start that has one.
use Rattle.std.proofs.Common.{◌≡◌, ℕ, suc, ◌<◌, ◌≤◌, Bool, true, List, take, sym, ap, ◌∙◌, subst, arith, ◌+◌, Option, Some, ⊎_elim}
use mathlib.Core.Bool.{false≢true}
use mathlib.Core.Path.{fun_ext}
use Rattle.std.proofs.lemmas.Bool.{cases_lt}
use Rattle.ctl.proofs.Guards.{starts_at_a_state}
use Rattle.ctl.specs.Cost.{parts_cost}
use Rattle.ctl.specs.Formula.{PathPart}
use Rattle.model.specs.Meaning.{Meaning, Starts}
use Rattle.witness.specs.Written.{Written, Refused}
use Rattle.witness.specs.declared.refusal.NoWitness.{NoWitness}
use Rattle.witness.specs.declared.refusal.NoWitness.TheVariants.{Room, Looks, Untrue}
use Rattle.sets.specs.Members.{TakesLowest, LeftFrom}
use Rattle.sets.specs.Sets.{member, LowestFrom}
use Rattle.sets.specs.declared.set.StateSet.{StateSet}
use Rattle.sets.proofs.Taking.{taken}
use Rattle.table.specs.Kept.{kept, Shows, OnlyStates}
use Rattle.table.specs.declared.kept.Table.{Table}
use Rattle.roster.specs.Showing.{StartShown, ShownAt, NoneShown}

module _ (m : Meaning) (x : PathPart) (k : ℕ) where
  pub shown_here : (s : ℕ) (before mid after : List ℕ) → Starts m s ≡ true → mid ≡ before → ((u : ℕ) → u < s → StartShown m x k u → ⊥)
      → Written m x k s mid after → ShownAt m x k before after
  shown_here s before mid after st same none w =
      let P : List ℕ → Type 0 = λ b. Written m x k s b after in
      (s, record { here = (st, (take (suc k) after, w.path)); least = none }, subst P same w)

  pub no_witness_no_path : (C D : ℕ → Bool) (s room limit : ℕ) (why : NoWitness) → ((u : ℕ) → C u ≡ D u) → k < room → parts_cost m D x k ≤ limit → Refused m C x k s room limit why
      → StartShown m x k s → ⊥
  no_witness_no_path C D s room limit Room e r c h p = omega arith
  no_witness_no_path C D s room limit Looks e r c h p =
      let same : parts_cost m C x k ≡ parts_cost m D x k = ap (λ S. parts_cost m S x k) (fun_ext e) in omega (arith, h.1, same)
  no_witness_no_path C D s room limit Untrue e r c h p = h.2 p.1.0 p.1.1

  pub no_path_anywhere : (s : ℕ) → m.count ≤ s → ((u : ℕ) → u < s → StartShown m x k u → ⊥) → NoneShown m x k
  no_path_anywhere s l none u p = let b : u < m.count = starts_at_a_state m u p.0 in none u (omega arith) p

-- what a turn of a loop over the starts comes to: a start, and none below it that has a path to show
pub turn : (t : Table) (x : PathPart) (k : ℕ) (S go before after : StateSet) (at u : ℕ) (r : Option ℕ) → Shows t S (Starts (kept t)) → OnlyStates t S → go ≡ S → r ≡ Some u
    → LeftFrom go at before → TakesLowest before r after → ((v : ℕ) → v < at → StartShown (kept t) x k v → ⊥)
    → (u < t.count) × (Starts (kept t) u ≡ true) × ((v : ℕ) → v < u → StartShown (kept t) x k v → ⊥) × LeftFrom go (u + 1) after
turn t x k S go before after at u r starts states same e left step none =
    let w = taken go before after at u r e left step in
    let E : LowestFrom (member S) at u = subst (λ y. LowestFrom (member y) at u) same w.1 in
    let l = states u E.passes in
    (l, sym (starts u l) ∙ E.passes, below E, w.2)
  where
    below : LowestFrom (member S) at u → (v : ℕ) → v < u → StartShown (kept t) x k v → ⊥
    below E v b p =
        ⊎_elim (λ a. none v a p) (λ (a : at ≤ v). false≢true (sym (E.none v a b) ∙ (starts v (starts_at_a_state (kept t) v p.0) ∙ p.0))) (cases_lt v at)
