-- A reading that has taken some signs stops where the reading of what follows stops.
use Rattle.std.proofs.Common.{◌≡◌, ℕ, List, [], ◌∷◌, Result, Err, IsErrAnd, refl, ap, ◌∙◌, subst}
use Rattle.std.proofs.lemmas.Result.{err_from_is_err_and}
use Rattle.ctl.specs.Formula.{Formula}
use Rattle.ctl.specs.declared.Binary.{Binary as BinaryOp}
use Rattle.ctl.specs.declared.Connective.{Connective as ConnectiveOp}
use Rattle.ctl.specs.declared.Connective.TheVariants.{And, Or}
use Rattle.ctl.specs.declared.Quantifier.{Quantifier as QuantifierOp}
use Rattle.ctl.specs.declared.Unary.{Unary as UnaryOp}
use Rattle.rule.specs.Grammar.{Reads, IsRule}
use Rattle.rule_reader.specs.Chains.{IsChain}
use Rattle.rule.proofs.Walk.{Await, closing, joining, State, need, part, after, walk}
use Rattle.rule_reader.specs.Halts.{Faulted, Stops, Halts}
use Rattle.rule.specs.declared.fault.RuleFault.{RuleFault}
use Rattle.rule.specs.declared.fault.RuleFault.TheVariants.{Length, NoSign, Misplaced, Unfinished, Memory}
use Rattle.rule.specs.declared.sign.Sign.TheVariants.{Not, Connective, Open, Quantifier, Unary, Binary}
use Rattle.rule.proofs.Takes.{walk_reads, walk_term, walk_rule}

-- what the exit of a `?` answers is the fault that it was given
pub refused : {A : Type 0} {e : RuleFault} (r : Result A RuleFault) → IsErrAnd r (λ x. x ≡ e) → r ≡ Err e
refused r h = let p = err_from_is_err_and r h in p.1 ∙ ap Err p.2

faulted_map : (P Q : ℕ → Type 0) (text : List ℕ) (e : RuleFault) → ((p : ℕ) → P p → Q p) → Faulted P text e → Faulted Q text e
faulted_map P Q text Length m h = h
faulted_map P Q text (NoSign p) m h = (m p h.0, h.1, h.2)
faulted_map P Q text (Misplaced p) m h = (m p h.0, h.1, h.2)
faulted_map P Q text (Unfinished p) m h = (m p h.0, h.1)
faulted_map P Q text Memory m h = tt

-- s leads from each state of one kind to u and a state of another
pub halts_from : (e : RuleFault) (s u : List ℕ) {T U : List ℕ} (k k' : List Await → State) (g : List Await → List Await) →
    U ≡ T → ((σ : List Await) → walk (k σ) s ≡ walk (k' (g σ)) u) → Halts k' u U e → Halts k s T e
halts_from e s u {T} {U} k k' g same w h =
    let here : Halts k' u T e = subst (λ (V : List ℕ). Halts k' u V e) same h in
    faulted_map (Stops k' u T) (Stops k s T) T e (λ p stops σ. w σ ∙ stops (g σ)) here

walk_chain : (op : ConnectiveOp) (s t : List ℕ) (f : Formula) → IsChain op s f t → (σ : List Await) → walk (need σ) s ≡ walk (after σ) t
walk_chain And s t f d σ = walk_term d σ
walk_chain Or s t f d σ = walk_rule d σ

module _ (e : RuleFault) {T U s u : List ℕ} (same : U ≡ T) where
  pub behind_not : Reads Not s u → Halts need u U e → Halts need s T e
  behind_not r = halts_from e s u need need (λ σ. σ) same (λ σ. walk_reads r (need σ) (need σ) refl)

  pub behind_quantifier : {q : QuantifierOp} → Reads (Quantifier q) s u → Halts part u U e → Halts need s T e
  behind_quantifier r = halts_from e s u need part (λ σ. σ) same (λ σ. walk_reads r (need σ) (part σ) refl)

  pub behind_unary : {op : UnaryOp} → Reads (Unary op) s u → Halts need u U e → Halts part s T e
  behind_unary r = halts_from e s u part need (λ σ. σ) same (λ σ. walk_reads r (part σ) (need σ) refl)

  pub in_group : Reads Open s u → Halts need u U e → Halts need s T e
  in_group r = halts_from e s u need need (λ σ. closing ∷ σ) same (λ σ. walk_reads r (need σ) (need (closing ∷ σ)) refl)

  pub in_pair : Reads Open s u → Halts need u U e → Halts part s T e
  in_pair r = halts_from e s u part need (λ σ. joining ∷ σ) same (λ σ. walk_reads r (part σ) (need (joining ∷ σ)) refl)

module _ (e : RuleFault) {T U s u v : List ℕ} {f : Formula} (same : U ≡ T) where
  pub behind_group : Reads Open s u → IsRule u f v → Halts (λ σ. after (closing ∷ σ)) v U e → Halts need s T e
  behind_group r d = halts_from e s v need (λ σ. after (closing ∷ σ)) (λ σ. σ) same
      (λ σ. walk_reads r (need σ) (need (closing ∷ σ)) refl ∙ walk_rule d (closing ∷ σ))

  pub behind_left : Reads Open s u → IsRule u f v → Halts (λ σ. after (joining ∷ σ)) v U e → Halts part s T e
  behind_left r d = halts_from e s v part (λ σ. after (joining ∷ σ)) (λ σ. σ) same
      (λ σ. walk_reads r (part σ) (need (joining ∷ σ)) refl ∙ walk_rule d (joining ∷ σ))

pub behind_connective : (e : RuleFault) {T U : List ℕ} (s : List ℕ) {u v : List ℕ} (op : ConnectiveOp) (f : Formula) → U ≡ T →
    IsChain op s f u → Reads (Connective op) u v → Halts need v U e → Halts need s T e
behind_connective e s {u} {v} op f same d r = halts_from e s v need need (λ σ. σ) same (λ σ. walk_chain op s u f d σ ∙ walk_reads r (after σ) (need σ) refl)

module _ (e : RuleFault) {T U s u v w : List ℕ} {f : Formula} {op : BinaryOp} (same : U ≡ T) where
  pub behind_binary : Reads Open s u → IsRule u f v → Reads (Binary op) v w → Halts need w U e → Halts part s T e
  behind_binary r d o = halts_from e s w part need (λ σ. closing ∷ σ) same
      (λ σ. walk_reads r (part σ) (need (joining ∷ σ)) refl ∙ walk_rule d (joining ∷ σ) ∙ walk_reads o (after (joining ∷ σ)) (need (closing ∷ σ)) refl)

  pub behind_right : {x : List ℕ} {g : Formula} → Reads Open s u → IsRule u f v → Reads (Binary op) v w → IsRule w g x → Halts (λ σ. after (closing ∷ σ)) x U e → Halts part s T e
  behind_right {x} r d o q = halts_from e s x part (λ σ. after (closing ∷ σ)) (λ σ. σ) same
      (λ σ. walk_reads r (part σ) (need (joining ∷ σ)) refl ∙ walk_rule d (joining ∷ σ) ∙ walk_reads o (after (joining ∷ σ)) (need (closing ∷ σ)) refl
      ∙ walk_rule q (closing ∷ σ))

-- a whole text: its rule is followed by something, or is itself cut short
pub behind_rule : (e : RuleFault) {T U s u : List ℕ} {f : Formula} → U ≡ T → IsRule s f u → Halts (λ _. after []) u U e → Halts (λ _. need []) s T e
behind_rule e {s = s} {u = u} same d = halts_from e s u (λ _. need []) (λ _. after []) (λ σ. σ) same (λ σ. walk_rule d [])
