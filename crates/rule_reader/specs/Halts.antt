-- Where a reader stops, said by the walk over signs. It is a device of the proofs: only the private contracts of the reader speak of
-- it, and no public contract does.
use Rattle.std.specs.Prelude.{◌≡◌, ℕ, ◌<◌, List, [], ◌∷◌, length, drop, Some, None, Option, ◌≢◌, slice_index}
use Rattle.ctl.specs.declared.Connective.TheVariants.{And, Or}
use Rattle.rule.proofs.Walk.{Await, State, stopped, walk}
use Rattle.rule.specs.Signs.{sign_of}
use Rattle.rule.specs.declared.fault.RuleFault.{RuleFault}
use Rattle.rule.specs.declared.fault.RuleFault.TheVariants.{Length, NoSign, Misplaced, Unfinished, Memory}
use Rattle.rule.specs.declared.sign.Sign.{Sign}
use Rattle.rule.specs.declared.sign.Sign.TheVariants.{Connective, Other}

-- the sign at the front of a text
abbrev pub first : List ℕ → Option Sign
first [] = None
first (b ∷ t) = Some (sign_of b)

-- x does not stand at the front
abbrev pub Clear : Sign → List ℕ → Type 0
Clear x t = first t ≡ Some x → ⊥

-- no rule goes on at the front
abbrev pub Ended : List ℕ → Type 0
Ended t = Clear (Connective And) t × Clear (Connective Or) t

-- e is the fault of a reader that stops at a place of which P holds
abbrev pub Faulted : (ℕ → Type 0) → List ℕ → RuleFault → Type 0
Faulted P text Length = ⊥
Faulted P text (NoSign p) = P p × (p < length text) × (sign_of (slice_index text p) ≡ Other)
Faulted P text (Misplaced p) = P p × (p < length text) × (sign_of (slice_index text p) ≢ Other)
Faulted P text (Unfinished p) = P p × (p ≡ length text)
Faulted P text Memory = Unit {0}

-- a reading of s from each of these states stops at p
abbrev pub Stops : (List Await → State) → List ℕ → List ℕ → ℕ → Type 0
Stops k s text p = (σ : List Await) → walk (k σ) s ≡ stopped (drop p text)

-- a reading of s from each of these states ends with the fault e
abbrev pub Halts : (List Await → State) → List ℕ → List ℕ → RuleFault → Type 0
Halts k s text e = Faulted (Stops k s text) text e
