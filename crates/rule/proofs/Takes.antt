-- What the grammar has, the walk takes.
use Rattle.std.proofs.Common.{◌≡◌, ℕ, List, [], ◌∷◌, refl, ap, ◌∙◌}
use Rattle.ctl.specs.Formula.{Formula, PathPart}
use Rattle.rule.specs.Grammar.{Spaces, none, more, Reads, here, skip, IsUnit, by_letter, by_constant, by_not, by_group, by_path, IsPathPart, by_one, by_two, IsTerm, by_unit, by_and, IsRule, by_term, by_or, Means}
use Rattle.rule.specs.Signs.{sign_of}
use Rattle.rule.proofs.Walk.{Await, closing, joining, State, need, part, after, Move, to, step, done, stopped, moved, walk}
use Rattle.rule.specs.declared.sign.Sign.{Sign}
use Rattle.rule.specs.declared.sign.Sign.TheVariants.{Space}

step_space : (st : State) → step st Space ≡ to st
step_space (need σ) = refl
step_space (part σ) = refl
step_space (after σ) = refl

walk_sign : (b : ℕ) (t : List ℕ) {x : Sign} (st st' : State) → sign_of b ≡ x → step st x ≡ to st' → walk st (b ∷ t) ≡ walk st' t
walk_sign b t st st' e h = ap (λ (m : Move). moved m (stopped (b ∷ t)) (λ s. walk s t)) (ap (step st) e ∙ h)

pub walk_spaces : {s t : List ℕ} → Spaces s t → (st : State) → walk st s ≡ walk st t
walk_spaces none st = refl
walk_spaces (more {b = b} {s = s} e g) st = walk_sign b s st st e (step_space st) ∙ walk_spaces g st

pub walk_reads : {x : Sign} {s t : List ℕ} → Reads x s t → (st st' : State) → step st x ≡ to st' → walk st s ≡ walk st' t
walk_reads (here {b = b} {s = s} e g) st st' h = walk_sign b s st st' e h ∙ walk_spaces g st'
walk_reads (skip {b = b} {s = s} e r) st st' h = walk_sign b s st st e (step_space st) ∙ walk_reads r st st' h

mutual
  pub walk_unit : {s t : List ℕ} {f : Formula} → IsUnit s f t → (σ : List Await) → walk (need σ) s ≡ walk (after σ) t
  walk_unit (by_letter r) σ = walk_reads r (need σ) (after σ) refl
  walk_unit (by_constant r) σ = walk_reads r (need σ) (after σ) refl
  walk_unit (by_not r u) σ = walk_reads r (need σ) (need σ) refl ∙ walk_unit u σ
  walk_unit (by_group r u c) σ =
      walk_reads r (need σ) (need (closing ∷ σ)) refl ∙ walk_rule u (closing ∷ σ) ∙ walk_reads c (after (closing ∷ σ)) (after σ) refl
  walk_unit (by_path r p) σ = walk_reads r (need σ) (part σ) refl ∙ walk_part p σ

  pub walk_part : {s t : List ℕ} {x : PathPart} → IsPathPart s x t → (σ : List Await) → walk (part σ) s ≡ walk (after σ) t
  walk_part (by_one r u) σ = walk_reads r (part σ) (need σ) refl ∙ walk_unit u σ
  walk_part (by_two r u o v c) σ =
      walk_reads r (part σ) (need (joining ∷ σ)) refl ∙ walk_rule u (joining ∷ σ) ∙ walk_reads o (after (joining ∷ σ)) (need (closing ∷ σ)) refl
      ∙ walk_rule v (closing ∷ σ) ∙ walk_reads c (after (closing ∷ σ)) (after σ) refl

  pub walk_term : {s t : List ℕ} {f : Formula} → IsTerm s f t → (σ : List Await) → walk (need σ) s ≡ walk (after σ) t
  walk_term (by_unit u) σ = walk_unit u σ
  walk_term (by_and d r u) σ = walk_term d σ ∙ walk_reads r (after σ) (need σ) refl ∙ walk_unit u σ

  pub walk_rule : {s t : List ℕ} {f : Formula} → IsRule s f t → (σ : List Await) → walk (need σ) s ≡ walk (after σ) t
  walk_rule (by_term d) σ = walk_term d σ
  walk_rule (by_or d r e) σ = walk_rule d σ ∙ walk_reads r (after σ) (need σ) refl ∙ walk_term e σ

pub walk_whole : {s : List ℕ} {f : Formula} → Means s f → walk (need []) s ≡ done
walk_whole d = walk_rule d []
