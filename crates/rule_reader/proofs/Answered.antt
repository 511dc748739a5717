-- What the reading of a whole text answers: its formula, or the fault that it earns.
use Rattle.std.proofs.Common.{◌≡◌, ℕ, ◌⊎◌, List, [], Ok, Err, Result, refl, inl, inr, arith, MatchResult}
use Rattle.rule.specs.Faults.{Sized, Taken, Earns}
use Rattle.rule.specs.Grammar.{Spaces, Means}
use Rattle.rule.specs.Tree.{formula}
use Rattle.rule.proofs.Walk.{need}
use Rattle.rule_reader.specs.Halts.{Halts}
use Rattle.rule.specs.declared.fault.RuleFault.{RuleFault}
use Rattle.rule.specs.declared.fault.RuleFault.TheVariants.{Length, NoSign, Misplaced, Unfinished, Memory}
use Rattle.rule.specs.declared.tree.Rule.{Rule}
use Rattle.rule.proofs.Earned.{earned_is_unlawful}
use Rattle.rule_reader.proofs.Halting.{halts_from}
use Rattle.rule.proofs.Reaches.{stop_is_reach, stop_is_unlawful}
use Rattle.rule.proofs.Spacing.{rule_behind_spaces}
use Rattle.rule.proofs.Takes.{walk_spaces}

halt_is_earned : (text : List ℕ) (e : RuleFault) → Sized text → Halts (λ _. need []) text text e → (e ≡ Memory) ⊎ Earns text e
halt_is_earned text Length s h = absurd h
halt_is_earned text (NoSign p) s h = inr (s, stop_is_reach text p (omega (arith, h.1)) (h.0 []), h.1, h.2)
halt_is_earned text (Misplaced p) s h = inr (s, stop_is_reach text p (omega (arith, h.1)) (h.0 []), h.1, h.2)
halt_is_earned text (Unfinished p) s h = inr (s, stop_is_reach text p (omega (arith, h.1)) (h.0 []), h.1, stop_is_unlawful (h.0 []))
halt_is_earned text Memory s h = inl refl

-- a reader that starts behind the first spaces answers for the whole text
pub answer_is_exact : (r : Result Rule RuleFault) {text U s : List ℕ} → Sized text → U ≡ text → Spaces text s →
    MatchResult r (λ f. Means s (formula f)) (λ e. Halts (λ _. need []) s U e) →
    MatchResult r (λ f. Sized text × Means text (formula f)) (λ e. (e ≡ Memory) ⊎ Earns text e)
answer_is_exact (Ok f) sized same g h = (sized, rule_behind_spaces g h)
answer_is_exact (Err e) {text} {U} {s} sized same g h =
    halt_is_earned text e sized (halts_from e text s (λ _. need []) (λ _. need []) (λ σ. σ) same (λ σ. walk_spaces g (need [])) h)

pub exact_is_decisive : (r : Result Rule RuleFault) (text : List ℕ) →
    MatchResult r (λ f. Sized text × Means text (formula f)) (λ e. (e ≡ Memory) ⊎ Earns text e) →
    MatchResult r (λ _. Taken text) (λ e. (e ≡ Memory) ⊎ (Taken text → ⊥))
exact_is_decisive (Ok f) text h = (h.0, (formula f, h.1))
exact_is_decisive (Err e) text h = elim h [ inl m ↦ inl m | inr k ↦ inr (λ z. earned_is_unlawful text e k z.0 z.1) ]
