-- Which fault a text earns: at most one, and one exactly if it is no rule.
use Rattle.std.proofs.Common.{◌≡◌, ℕ, suc, ◌<◌, ◌≤◌, ◌⊎◌, List, [], ◌∷◌, length, get_or, drop, refl, ap, ◌∙◌, subst, inl, inr, arith}
use native.Mathlib.Decide.{dec_le}
use Rattle.rule.specs.Faults.{Sized, Earns}
use Rattle.rule.specs.Grammar.{Lawful, Reach}
use Rattle.rule.specs.Signs.{sign_of}
use Rattle.rule.proofs.Walk.{State, need, part, after, Move, stuck, to, step, Walk, done, stopped, moved, walk}
use Rattle.rule.specs.declared.fault.RuleFault.{RuleFault}
use Rattle.rule.specs.declared.fault.RuleFault.TheVariants.{Length, NoSign, Misplaced, Unfinished, Memory}
use Rattle.rule.specs.declared.sign.Sign.{Sign}
use Rattle.rule.specs.declared.sign.Sign.TheVariants.{Letter, Constant, Not, Connective, Open, Close, Quantifier, Unary, Binary, Space, Other}
use Rattle.rule.proofs.Completions.{done_lawful}
use Rattle.rule.proofs.Reaches.{stop_is_reach, stop_is_unlawful, lawful_reaches_its_end, one_reach}

-- ---- a lawful text earns none

pub earned_is_unlawful : (text : List ℕ) (e : RuleFault) → Earns text e → Sized text → Lawful text → ⊥
earned_is_unlawful text Length h s z = h s
earned_is_unlawful text (NoSign p) h s z = lawful_reaches_its_end text p z h.1 h.2
earned_is_unlawful text (Misplaced p) h s z = lawful_reaches_its_end text p z h.1 h.2
earned_is_unlawful text (Unfinished p) h s z = h.3 z
earned_is_unlawful text Memory h s z = h

-- ---- an unlawful text earns one

stop_place : (s r : List ℕ) → ((st : State) → walk st s ≡ stopped r → (n : ℕ) × (n ≤ length s) × (r ≡ drop n s)) → (b : ℕ) (m : Move) → moved m (stopped (b ∷ s)) (λ s'. walk s' s) ≡ stopped r → (n : ℕ) × (n ≤ length (b ∷ s)) × (r ≡ drop n (b ∷ s))
stop_place s r ih b stuck e = (0, omega arith, cc)
stop_place s r ih b (to st) e = let z = ih st e in (suc z.0, omega (arith, z.1), z.2)

stops_at_a_place : (s r : List ℕ) (st : State) → walk st s ≡ stopped r → (n : ℕ) × (n ≤ length s) × (r ≡ drop n s)
stops_at_a_place [] r (need σ) e = (0, omega arith, cc)
stops_at_a_place [] r (part σ) e = (0, omega arith, cc)
stops_at_a_place [] r (after []) e = cc
stops_at_a_place [] r (after (a ∷ σ)) e = (0, omega arith, cc)
stops_at_a_place (b ∷ s) r st e = stop_place s r (stops_at_a_place s r) b (step st (sign_of b)) e

no_sign_or_sign : (x : Sign) → (x ≡ Other) ⊎ (x ≡ Other → ⊥)
no_sign_or_sign (Letter c) = inr (λ e. cc)
no_sign_or_sign (Constant b) = inr (λ e. cc)
no_sign_or_sign Not = inr (λ e. cc)
no_sign_or_sign (Connective op) = inr (λ e. cc)
no_sign_or_sign Open = inr (λ e. cc)
no_sign_or_sign Close = inr (λ e. cc)
no_sign_or_sign (Quantifier q) = inr (λ e. cc)
no_sign_or_sign (Unary op) = inr (λ e. cc)
no_sign_or_sign (Binary op) = inr (λ e. cc)
no_sign_or_sign Space = inr (λ e. cc)
no_sign_or_sign Other = inl refl

stop_earns : (text : List ℕ) (n : ℕ) → Sized text → n ≤ length text → walk (need []) text ≡ stopped (drop n text) → (e : RuleFault) × Earns text e
stop_earns text n s h w =
    let r = stop_is_reach text n h w in
    elim (dec_le (length text) n) [
      | yes l ↦ (Unfinished n, (s, r, omega arith, stop_is_unlawful w))
      | no l ↦ elim (no_sign_or_sign (sign_of (get_or text n 0))) [
        | inl o ↦ (NoSign n, (s, r, omega arith, o))
        | inr o ↦ (Misplaced n, (s, r, omega arith, o))
      ]
    ]

walk_earns : (text : List ℕ) → Sized text → (Lawful text → ⊥) → (w : Walk) → walk (need []) text ≡ w → (e : RuleFault) × Earns text e
walk_earns text s h done e = absurd (h (done_lawful text e))
walk_earns text s h (stopped r) e =
    let z = stops_at_a_place text r (need []) e in
    stop_earns text z.0 s z.1 (e ∙ ap stopped z.2)

pub unlawful_earns : (text : List ℕ) → Sized text → (Lawful text → ⊥) → (e : RuleFault) × Earns text e
unlawful_earns text s h = walk_earns text s h (walk (need []) text) refl

-- ---- at most one

at_one_place : (text : List ℕ) (n m : ℕ) → Reach text n → Reach text m → sign_of (get_or text n 0) ≡ Other → sign_of (get_or text m 0) ≡ Other
at_one_place text n m r q e = subst (λ (k : ℕ). sign_of (get_or text k 0) ≡ Other) (one_reach text n m r q) e

short_and_whole : {A : Type 0} (text : List ℕ) (n m : ℕ) → Reach text n → Reach text m → n < length text → m ≡ length text → A
short_and_whole text n m r q h k = absurd (omega (arith, one_reach text n m r q))

pub one_fault : (text : List ℕ) (e e' : RuleFault) → Earns text e → Earns text e' → e ≡ e'
one_fault text Length Length h k = refl
one_fault text Length (NoSign m) h k = absurd (h k.0)
one_fault text Length (Misplaced m) h k = absurd (h k.0)
one_fault text Length (Unfinished m) h k = absurd (h k.0)
one_fault text Length Memory h k = absurd k
one_fault text (NoSign n) Length h k = absurd (k h.0)
one_fault text (NoSign n) (NoSign m) h k = ap NoSign (one_reach text n m h.1 k.1)
one_fault text (NoSign n) (Misplaced m) h k = absurd (k.3 (at_one_place text n m h.1 k.1 h.3))
one_fault text (NoSign n) (Unfinished m) h k = short_and_whole text n m h.1 k.1 h.2 k.2
one_fault text (NoSign n) Memory h k = absurd k
one_fault text (Misplaced n) Length h k = absurd (k h.0)
one_fault text (Misplaced n) (NoSign m) h k = absurd (h.3 (at_one_place text m n k.1 h.1 k.3))
one_fault text (Misplaced n) (Misplaced m) h k = ap Misplaced (one_reach text n m h.1 k.1)
one_fault text (Misplaced n) (Unfinished m) h k = short_and_whole text n m h.1 k.1 h.2 k.2
one_fault text (Misplaced n) Memory h k = absurd k
one_fault text (Unfinished n) Length h k = absurd (k h.0)
one_fault text (Unfinished n) (NoSign m) h k = short_and_whole text m n k.1 h.1 k.2 h.2
one_fault text (Unfinished n) (Misplaced m) h k = short_and_whole text m n k.1 h.1 k.2 h.2
one_fault text (Unfinished n) (Unfinished m) h k = ap Unfinished (one_reach text n m h.1 k.1)
one_fault text (Unfinished n) Memory h k = absurd k
one_fault text Memory e h k = absurd h
