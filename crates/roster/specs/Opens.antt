-- What open answers, and the roster that it leaves. Assumes nothing.
use Rattle.std.specs.Prelude.{◌≡◌, Some, None, Ok, Err, Option, Result}
use Rattle.model.specs.Meaning.{Meaning}
use Rattle.guarantee.specs.States.{State, open_fault, just_opened}
use Rattle.guarantee.specs.declared.fault.RosterFault.{RosterFault}

-- with its refusal, if there is one; else the roster is open on the model with no rule laid
abbrev pub OpensBy : Option RosterFault → State → Meaning → Result (Unit {0}) RosterFault → State → Type 0
OpensBy (Some e) s m a s' = (a ≡ Err e) × (s' ≡ s)
OpensBy None s m a s' = (a ≡ Ok tt) × (s' ≡ just_opened m)

-- open on a model answers a and leaves s'
abbrev pub Opens : State → Meaning → Result (Unit {0}) RosterFault → State → Type 0
Opens s m a s' = OpensBy (open_fault s m) s m a s'
