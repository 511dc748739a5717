-- What is claimed of rule texts; each claim is the contract of a function in `claims`.
use Rattle.std.specs.Prelude.{◌≡◌, ℕ, List}
use Rattle.ctl.specs.Formula.{Formula}
use Rattle.rule.specs.Faults.{Sized, Earns}
use Rattle.rule.specs.Grammar.{Means, Lawful}
use Rattle.rule.specs.declared.fault.RuleFault.{RuleFault}

-- a text has at most one formula
abbrev pub OneFormula : Type 0
OneFormula = (text : List ℕ) (f g : Formula) → Means text f → Means text g → f ≡ g

-- a text earns at most one fault
abbrev pub OneFault : Type 0
OneFault = (text : List ℕ) (e e' : RuleFault) → Earns text e → Earns text e' → e ≡ e'

-- a text of 1 to 255 bytes earns a fault exactly if it is no rule
abbrev pub RefusedExactly : Type 0
RefusedExactly = (text : List ℕ) → Sized text →
    (((e : RuleFault) × Earns text e) → Lawful text → ⊥) × ((Lawful text → ⊥) → (e : RuleFault) × Earns text e)
