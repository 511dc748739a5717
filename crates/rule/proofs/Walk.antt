-- A walk over signs from left to right that knows only which brackets are open. It is a device of the proofs, by which the reach is
-- found; no definition of specs/ and no public contract names it.
use Rattle.std.proofs.Common.{ℕ, List, [], ◌∷◌}
use Rattle.rule.specs.Signs.{sign_of}
use Rattle.rule.specs.declared.sign.Sign.{Sign}
use Rattle.rule.specs.declared.sign.Sign.TheVariants.{Letter, Constant, Not, Connective, Open, Close, Quantifier, Unary, Binary, Space, Other}

-- what an open bracket awaits behind its first rule: ), or U or R
pub data Await : Type 0 where
  closing joining : Await

-- a unit is awaited, a path part is, or a unit has just ended; with the open brackets, the innermost first
pub data State : Type 0 where
  need part after : List Await → State

-- a sign cannot stand there, or leads to a state
pub data Move : Type 0 where
  stuck : Move
  to : State → Move

-- ) behind a unit
abbrev pub close : List Await → Move
close [] = stuck
close (closing ∷ σ) = to (after σ)
close (joining ∷ σ) = stuck

-- U or R behind a unit
abbrev pub join : List Await → Move
join [] = stuck
join (closing ∷ σ) = stuck
join (joining ∷ σ) = to (need (closing ∷ σ))

-- a sign where a unit is awaited
abbrev pub step_need : List Await → Sign → Move
step_need σ (Letter c) = to (after σ)
step_need σ (Constant b) = to (after σ)
step_need σ Not = to (need σ)
step_need σ (Connective op) = stuck
step_need σ Open = to (need (closing ∷ σ))
step_need σ Close = stuck
step_need σ (Quantifier q) = to (part σ)
step_need σ (Unary op) = stuck
step_need σ (Binary op) = stuck
step_need σ Space = to (need σ)
step_need σ Other = stuck

-- a sign where a path part is awaited
abbrev pub step_part : List Await → Sign → Move
step_part σ (Letter c) = stuck
step_part σ (Constant b) = stuck
step_part σ Not = stuck
step_part σ (Connective op) = stuck
step_part σ Open = to (need (joining ∷ σ))
step_part σ Close = stuck
step_part σ (Quantifier q) = stuck
step_part σ (Unary op) = to (need σ)
step_part σ (Binary op) = stuck
step_part σ Space = to (part σ)
step_part σ Other = stuck

-- a sign behind a unit
abbrev pub step_after : List Await → Sign → Move
step_after σ (Letter c) = stuck
step_after σ (Constant b) = stuck
step_after σ Not = stuck
step_after σ (Connective op) = to (need σ)
step_after σ Open = stuck
step_after σ Close = close σ
step_after σ (Quantifier q) = stuck
step_after σ (Unary op) = stuck
step_after σ (Binary op) = join σ
step_after σ Space = to (after σ)
step_after σ Other = stuck

-- a sign in any state
abbrev pub step : State → Sign → Move
step (need σ) x = step_need σ x
step (part σ) x = step_part σ x
step (after σ) x = step_after σ x

-- the whole text was taken, or what is left where the reading stopped
pub data Walk : Type 0 where
  done : Walk
  stopped : List ℕ → Walk

-- the text ends: only behind a unit with no bracket open is it whole
abbrev pub ended : State → Walk
ended (need σ) = stopped []
ended (part σ) = stopped []
ended (after []) = done
ended (after (a ∷ σ)) = stopped []

-- what becomes of a walk at a move
abbrev pub moved : Move → Walk → (State → Walk) → Walk
moved stuck w k = w
moved (to s) w k = k s

-- the walk over a text from a state
abbrev pub walk : State → List ℕ → Walk
walk s [] = ended s
walk s (b ∷ t) = moved (step s (sign_of b)) (stopped (b ∷ t)) (λ s'. walk s' t)
