-- What lay answers where memory may run out. Assumes nothing.
use Rattle.std.specs.Prelude.{◌≡◌, ℕ, ◌⊎◌, List, Err, Result}
use Rattle.guarantee.specs.States.{State, Lays}
use Rattle.guarantee.specs.declared.fault.RosterFault.{RosterFault}
use Rattle.guarantee.specs.declared.fault.RosterFault.TheVariants.{Rule, Memory}
use Rattle.rule.specs.declared.fault.RuleFault.{RuleFault}
use Rattle.rule.specs.declared.fault.RuleFault.TheVariants.{Length, NoSign, Misplaced, Unfinished, Memory as NoMemory}

-- as lay has it, or without memory, and then nothing changes
abbrev pub LaysOrWantsMemory : State → List ℕ → Result ℕ RosterFault → State → Type 0
LaysOrWantsMemory s text a s' = Lays s text a s' ⊎ ((a ≡ Err Memory) × (s' ≡ s))

-- the roster's refusal for a text's fault
abbrev pub refused_as : RuleFault → RosterFault
refused_as Length = Rule Length
refused_as (NoSign p) = Rule (NoSign p)
refused_as (Misplaced p) = Rule (Misplaced p)
refused_as (Unfinished p) = Rule (Unfinished p)
refused_as NoMemory = Memory
