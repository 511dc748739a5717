-- Whatever the walk has taken can be completed to a rule, and what it takes whole is one.
use Rattle.std.proofs.Common.{◌≡◌, ℕ, List, [], ◌∷◌, ◌++◌, sym, refl, subst}
use Rattle.ctl.specs.Formula.{Formula, PathPart}
use Rattle.ctl.specs.declared.Connective.{Connective as ConnectiveOp}
use Rattle.ctl.specs.declared.Connective.TheVariants.{And, Or}
use Rattle.ctl.specs.declared.Binary.{Binary as BinaryOp}
use Rattle.ctl.specs.declared.Binary.TheVariants.{Until}
use Rattle.rule.specs.Grammar.{Spaces, none, more, Reads, here, skip, IsUnit, by_letter, by_constant, by_not, by_group, by_path, IsPathPart, by_one, by_two, IsTerm, by_unit, by_and, IsRule, by_term, by_or, Lawful, Begins}
use Rattle.rule.specs.Signs.{sign_of}
use Rattle.rule.proofs.Walk.{Await, closing, joining, State, need, part, after, Move, stuck, to, join, close, step, done, stopped, moved, walk}
use Rattle.rule.specs.declared.sign.Sign.{Sign}
use Rattle.rule.specs.declared.sign.Sign.TheVariants.{Letter, Constant, Not, Connective, Open, Close, Quantifier, Unary, Binary, Space, Other}
use Rattle.rule.proofs.Spacing.{unit_behind_space, part_behind_space, rule_before_spaces}

-- ---- a unit, and then more of a rule

-- s begins with a rule, and t is what follows it
abbrev Rules : List ℕ → List ℕ → Type 0
Rules s t = (f : Formula) × IsRule s f t

-- what may follow a unit inside one rule
data More : List ℕ → List ℕ → Type 0 where
  stop : {s : List ℕ} → More s s
  go_on : {op : ConnectiveOp} {s t u : List ℕ} → Reads (Connective op) s t → Rules t u → More s u

and_term : {w u v t : List ℕ} {f g : Formula} → IsTerm v g t → IsTerm w f u → Reads (Connective And) u v → (h : Formula) × IsTerm w h t
and_term (by_unit u) d r = (_, by_and d r u)
and_term (by_and e q u) d r = let z = and_term e d r in (_, by_and z.1 q u)

and_rule : {w u v t : List ℕ} {f g : Formula} → IsRule v g t → IsTerm w f u → Reads (Connective And) u v → Rules w t
and_rule (by_term e) d r = let z = and_term e d r in (_, by_term z.1)
and_rule (by_or a q e) d r = let z = and_rule a d r in (_, by_or z.1 q e)

or_rule : {w u v t : List ℕ} {f g : Formula} → IsRule v g t → IsRule w f u → Reads (Connective Or) u v → Rules w t
or_rule (by_term e) d r = (_, by_or d r e)
or_rule (by_or a q e) d r = let z = or_rule a d r in (_, by_or z.1 q e)

unit_more : {w t u : List ℕ} {f : Formula} → More t u → IsUnit w f t → Rules w u
unit_more stop d = (_, by_term (by_unit d))
unit_more (go_on {op = And} r q) d = and_rule q.1 (by_unit d) r
unit_more (go_on {op = Or} r q) d = or_rule q.1 (by_term (by_unit d)) r

-- ---- what a state accepts

-- behind a unit, by the open brackets
data Closes : List Await → List ℕ → Type 0 where
  at_end : {w u : List ℕ} → More w u → Spaces u [] → Closes [] w
  by_close : {σ : List Await} {w u t : List ℕ} → More w u → Reads Close u t → Closes σ t → Closes (closing ∷ σ) w
  by_join : {σ : List Await} {op : BinaryOp} {w u v x t : List ℕ} → More w u → Reads (Binary op) u v → Rules v x → Reads Close x t → Closes σ t → Closes (joining ∷ σ) w

data Accepts : State → List ℕ → Type 0 where
  at_need : {σ : List Await} {w t : List ℕ} {f : Formula} → IsUnit w f t → Closes σ t → Accepts (need σ) w
  at_part : {σ : List Await} {w t : List ℕ} {x : PathPart} → IsPathPart w x t → Closes σ t → Accepts (part σ) w
  at_after : {σ : List Await} {w : List ℕ} → Closes σ w → Accepts (after σ) w

closes_behind_space : {σ : List Await} {b : ℕ} {w : List ℕ} → sign_of b ≡ Space → Closes σ w → Closes σ (b ∷ w)
closes_behind_space e (at_end stop k) = at_end stop (more e k)
closes_behind_space e (at_end (go_on r q) k) = at_end (go_on (skip e r) q) k
closes_behind_space e (by_close stop c k) = by_close stop (skip e c) k
closes_behind_space e (by_close (go_on r q) c k) = by_close (go_on (skip e r) q) c k
closes_behind_space e (by_join stop o q c k) = by_join stop (skip e o) q c k
closes_behind_space e (by_join (go_on r p) o q c k) = by_join (go_on (skip e r) p) o q c k

closes_behind_connective : {σ : List Await} {op : ConnectiveOp} {s w t : List ℕ} {f : Formula} → Reads (Connective op) w s → IsUnit s f t → Closes σ t → Closes σ w
closes_behind_connective r u (at_end m k) = at_end (go_on r (unit_more m u)) k
closes_behind_connective r u (by_close m c k) = by_close (go_on r (unit_more m u)) c k
closes_behind_connective r u (by_join m o q c k) = by_join (go_on r (unit_more m u)) o q c k

-- ---- a step back: what the state behind a sign accepts, the state before it accepts with the sign

abbrev AcceptsBehind : Move → List ℕ → Type 0
AcceptsBehind stuck w = ⊥
AcceptsBehind (to st) w = Accepts st w

back_need : (σ : List Await) (x : Sign) (b : ℕ) (w : List ℕ) → sign_of b ≡ x → AcceptsBehind (step (need σ) x) w → Accepts (need σ) (b ∷ w)
back_need σ (Letter c) b w e (at_after k) = at_need (by_letter (here e none)) k
back_need σ (Constant c) b w e (at_after k) = at_need (by_constant (here e none)) k
back_need σ Not b w e (at_need u k) = at_need (by_not (here e none) u) k
back_need σ (Connective op) b w e a = absurd a
back_need σ Open b w e (at_need u (by_close m c k)) = at_need (by_group (here e none) (unit_more m u).1 c) k
back_need σ Close b w e a = absurd a
back_need σ (Quantifier q) b w e (at_part p k) = at_need (by_path (here e none) p) k
back_need σ (Unary op) b w e a = absurd a
back_need σ (Binary op) b w e a = absurd a
back_need σ Space b w e (at_need u k) = at_need (unit_behind_space e u) k
back_need σ Other b w e a = absurd a

back_part : (σ : List Await) (x : Sign) (b : ℕ) (w : List ℕ) → sign_of b ≡ x → AcceptsBehind (step (part σ) x) w → Accepts (part σ) (b ∷ w)
back_part σ (Letter c) b w e a = absurd a
back_part σ (Constant c) b w e a = absurd a
back_part σ Not b w e a = absurd a
back_part σ (Connective op) b w e a = absurd a
back_part σ Open b w e (at_need u (by_join m o q c k)) = at_part (by_two (here e none) (unit_more m u).1 o q.1 c) k
back_part σ Close b w e a = absurd a
back_part σ (Quantifier q) b w e a = absurd a
back_part σ (Unary op) b w e (at_need u k) = at_part (by_one (here e none) u) k
back_part σ (Binary op) b w e a = absurd a
back_part σ Space b w e (at_part p k) = at_part (part_behind_space e p) k
back_part σ Other b w e a = absurd a

back_close : (σ : List Await) (b : ℕ) (w : List ℕ) → sign_of b ≡ Close → AcceptsBehind (close σ) w → Accepts (after σ) (b ∷ w)
back_close [] b w e a = absurd a
back_close (closing ∷ σ) b w e (at_after k) = at_after (by_close stop (here e none) k)
back_close (joining ∷ σ) b w e a = absurd a

back_join : (σ : List Await) (op : BinaryOp) (b : ℕ) (w : List ℕ) → sign_of b ≡ Binary op → AcceptsBehind (join σ) w → Accepts (after σ) (b ∷ w)
back_join [] op b w e a = absurd a
back_join (closing ∷ σ) op b w e a = absurd a
back_join (joining ∷ σ) op b w e (at_need u (by_close m c k)) = at_after (by_join stop (here e none) (unit_more m u) c k)

back_after : (σ : List Await) (x : Sign) (b : ℕ) (w : List ℕ) → sign_of b ≡ x → AcceptsBehind (step (after σ) x) w → Accepts (after σ) (b ∷ w)
back_after σ (Letter c) b w e a = absurd a
back_after σ (Constant c) b w e a = absurd a
back_after σ Not b w e a = absurd a
back_after σ (Connective op) b w e (at_need u k) = at_after (closes_behind_connective (here e none) u k)
back_after σ Open b w e a = absurd a
back_after σ Close b w e a = back_close σ b w e a
back_after σ (Quantifier q) b w e a = absurd a
back_after σ (Unary op) b w e a = absurd a
back_after σ (Binary op) b w e a = back_join σ op b w e a
back_after σ Space b w e (at_after k) = at_after (closes_behind_space e k)
back_after σ Other b w e a = absurd a

back : (st : State) (b : ℕ) (w : List ℕ) → AcceptsBehind (step st (sign_of b)) w → Accepts st (b ∷ w)
back (need σ) b w a = back_need σ (sign_of b) b w refl a
back (part σ) b w a = back_part σ (sign_of b) b w refl a
back (after σ) b w a = back_after σ (sign_of b) b w refl a

accepted : {w : List ℕ} → Accepts (need []) w → Lawful w
accepted (at_need u (at_end m k)) = let z = unit_more m u in (z.0, rule_before_spaces z.1 k)

-- ---- every state accepts something

closed : (σ : List Await) → (t : List ℕ) × Closes σ t
closed [] = ([], at_end stop none)
closed (closing ∷ σ) = let z = closed σ in (41 ∷ z.0, by_close stop (here refl none) z.1)
closed (joining ∷ σ) =
    let z = closed σ in
    (85 ∷ 97 ∷ 41 ∷ z.0, by_join {op = Until} stop (here refl none) (_, by_term (by_unit (by_letter (here refl none)))) (here refl none) z.1)

completed : (st : State) → (t : List ℕ) × Accepts st t
completed (need σ) = let z = closed σ in (97 ∷ z.0, at_need (by_letter (here refl none)) z.1)
completed (part σ) = let z = closed σ in (88 ∷ 97 ∷ z.0, at_part (by_one (here refl none) (by_letter (here refl none))) z.1)
completed (after σ) = let z = closed σ in (z.0, at_after z.1)

-- ---- a text in which no sign is out of place begins some rule

abbrev pub LiveBehind : Move → (State → Type 0) → Type 0
LiveBehind stuck k = ⊥
LiveBehind (to s) k = k s

-- no sign of s is out of place
abbrev pub Live : State → List ℕ → Type 0
Live st [] = Unit {0}
Live st (b ∷ s) = LiveBehind (step st (sign_of b)) (λ s'. Live s' s)

live_step : (s : List ℕ) → ((st : State) → Live st s → (t : List ℕ) × Accepts st (s ++ t)) → (b : ℕ) (st : State) (m : Move) → step st (sign_of b) ≡ m → LiveBehind m (λ s'. Live s' s) → (t : List ℕ) × Accepts st (b ∷ (s ++ t))
live_step s ih b st stuck e k = absurd k
live_step s ih b st (to s') e k = let z = ih s' k in (z.0, back st b (s ++ z.0) (subst (λ (m : Move). AcceptsBehind m (s ++ z.0)) (sym e) z.1))

live_accepts : (s : List ℕ) (st : State) → Live st s → (t : List ℕ) × Accepts st (s ++ t)
live_accepts [] st l = completed st
live_accepts (b ∷ s) st l = live_step s (live_accepts s) b st (step st (sign_of b)) refl l

pub live_begins : (s : List ℕ) → Live (need []) s → Begins s
live_begins s l = let z = live_accepts s (need []) l in (z.0, accepted z.1)

-- ---- what the walk takes whole is a rule

done_step : (s : List ℕ) → ((st : State) → walk st s ≡ done → Accepts st s) → (b : ℕ) (st : State) (m : Move) → step st (sign_of b) ≡ m → moved m (stopped (b ∷ s)) (λ s'. walk s' s) ≡ done → Accepts st (b ∷ s)
done_step s ih b st stuck e k = cc
done_step s ih b st (to s') e k = back st b s (subst (λ (m : Move). AcceptsBehind m s) (sym e) (ih s' k))

done_accepts : (s : List ℕ) (st : State) → walk st s ≡ done → Accepts st s
done_accepts [] (need σ) e = cc
done_accepts [] (part σ) e = cc
done_accepts [] (after []) e = at_after (at_end stop none)
done_accepts [] (after (a ∷ σ)) e = cc
done_accepts (b ∷ s) st e = done_step s (done_accepts s) b st (step st (sign_of b)) refl e

pub done_lawful : (s : List ℕ) → walk (need []) s ≡ done → Lawful s
done_lawful s e = accepted (done_accepts s (need []) e)
