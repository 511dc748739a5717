-- Where the walk stops is the text's reach.
use Rattle.std.proofs.Common.{◌≡◌, ℕ, zero, suc, ◌<◌, ◌≤◌, List, [], ◌∷◌, ◌++◌, length, take, drop, sym, ap, ◌∙◌, subst, append-nil, arith, length-drop}
use native.Mathlib.Decide.{dec_le}
use lib.Seq.{take-length}
use Rattle.rule.specs.Grammar.{Lawful, Begins, Reach}
use Rattle.rule.specs.Signs.{sign_of}
use Rattle.rule.proofs.Walk.{State, need, part, after, Move, stuck, to, step, Walk, done, stopped, moved, walk}
use Rattle.rule.proofs.Completions.{Live, LiveBehind, live_begins}
use Rattle.rule.proofs.Takes.{walk_whole}

abbrev rest_of : Walk → List ℕ
rest_of done = []
rest_of (stopped r) = r

-- ---- no more is left than there was

leaves_less : (s : List ℕ) → ((st : State) → length (rest_of (walk st s)) ≤ length s) → (b : ℕ) (m : Move) → length (rest_of (moved m (stopped (b ∷ s)) (λ s'. walk s' s))) ≤ length (b ∷ s)
leaves_less s ih b stuck = omega arith
leaves_less s ih b (to s') = omega (arith, ih s')

leaves_at_most : (s : List ℕ) (st : State) → length (rest_of (walk st s)) ≤ length s
leaves_at_most [] (need σ) = omega arith
leaves_at_most [] (part σ) = omega arith
leaves_at_most [] (after []) = omega arith
leaves_at_most [] (after (a ∷ σ)) = omega arith
leaves_at_most (b ∷ s) st = leaves_less s (leaves_at_most s) b (step st (sign_of b))

pub stops_within : (s r : List ℕ) (st : State) → walk st s ≡ stopped r → length r ≤ length s
stops_within s r st e = omega (arith, leaves_at_most s st, ap (λ (w : Walk). length (rest_of w)) e)

too_long : (b n : ℕ) (s : List ℕ) → stopped (b ∷ s) ≡ stopped (drop n s) → ⊥
too_long b n s e = omega (arith, ap (λ (w : Walk). length (rest_of w)) e, length-drop n s)

-- ---- before the stop no sign is out of place

module _ (s : List ℕ) (b n : ℕ) (ih : (st : State) → walk st s ≡ stopped (drop n s) → Live st (take n s)) where
  live_before_step : (m : Move) → moved m (stopped (b ∷ s)) (λ s'. walk s' s) ≡ stopped (drop n s) → LiveBehind m (λ s'. Live s' (take n s))
  live_before_step stuck e = absurd (too_long b n s e)
  live_before_step (to s') e = ih s' e

live_before : (s : List ℕ) (n : ℕ) (st : State) → n ≤ length s → walk st s ≡ stopped (drop n s) → Live st (take n s)
live_before [] zero st h e = tt
live_before [] (suc n) st h e = tt
live_before (b ∷ s) zero st h e = tt
live_before (b ∷ s) (suc n) st h e = live_before_step s b n (λ s' k. live_before s n s' (omega arith) k) (step st (sign_of b)) e

-- ---- with one byte more, no rule begins so

module _ (s t : List ℕ) (b m : ℕ) (ih : (n : ℕ) (st : State) → n < m → walk st s ≡ stopped (drop n s) → walk st (take m s ++ t) ≡ done → ⊥) where
  beyond_step : (n : ℕ) (v : Move) → n < suc m →
      moved v (stopped (b ∷ s)) (λ s'. walk s' s) ≡ stopped (drop n (b ∷ s)) →
      moved v (stopped (b ∷ (take m s ++ t))) (λ s'. walk s' (take m s ++ t)) ≡ done → ⊥
  beyond_step n stuck h e d = cc
  beyond_step zero (to s') h e d = let k : length (b ∷ s) ≤ length s = stops_within s (b ∷ s) s' e in omega arith
  beyond_step (suc n) (to s') h e d = ih n s' (omega arith) e d

beyond : (s t : List ℕ) (n m : ℕ) (st : State) → n < m → m ≤ length s → walk st s ≡ stopped (drop n s) → walk st (take m s ++ t) ≡ done → ⊥
beyond [] t n m st h k e d = omega arith
beyond (b ∷ s) t n zero st h k e d = omega arith
beyond (b ∷ s) t n (suc m) st h k e d = beyond_step s t b m (λ j s' l. beyond s t j m s' l (omega arith)) n (step st (sign_of b)) h e d

pub stop_is_reach : (text : List ℕ) (n : ℕ) → n ≤ length text → walk (need []) text ≡ stopped (drop n text) → Reach text n
stop_is_reach text n h e = record {
  within = h;
  begins = live_begins (take n text) (live_before text n (need []) h e);
  longest = λ m k b. elim (dec_le m n) [ yes l ↦ l | no l ↦ absurd (beyond text b.0 n m (need []) (omega arith) k e (walk_whole b.1.1)) ];
}

pub stop_is_unlawful : {text r : List ℕ} → walk (need []) text ≡ stopped r → Lawful text → ⊥
stop_is_unlawful e z = let w = walk_whole z.1 in cc

-- a rule's reach is its end
pub lawful_reaches_its_end : (text : List ℕ) (n : ℕ) → Lawful text → Reach text n → n < length text → ⊥
lawful_reaches_its_end text n z r h =
    let b : Begins (take (length text) text) = ([], subst Lawful (sym (append-nil (take (length text) text) ∙ take-length text)) z) in
    omega (arith, r.longest (length text) (omega arith) b)

-- a text has one reach
pub one_reach : (text : List ℕ) (n m : ℕ) → Reach text n → Reach text m → n ≡ m
one_reach text n m r q = omega (arith, r.longest m q.within q.begins, q.longest n r.within r.begins)
