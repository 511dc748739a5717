-- A row text has one answer, as a statement. Assumes nothing.
use Rattle.std.specs.Prelude.{◌≡◌, ℕ, List}
use Rattle.rowtext.specs.Faults.{Earns}
use Rattle.rowtext.specs.Format.{Line, Describes}
use Rattle.rowtext.specs.declared.fault.RowFault.{RowFault}

-- a text describes at most one list of lines, earns at most one fault, and never both
pub record OneAnswer (text : List ℕ) : Type 0 where
  pub one_meaning : (l l' : List Line) → Describes text l → Describes text l' → l ≡ l'
  pub not_both : (l : List Line) (e : RowFault) → Describes text l → Earns text e → ⊥
  pub one_fault : (e e' : RowFault) → Earns text e → Earns text e' → e ≡ e'

abbrev pub RowTextHasOneAnswer : Type 0
RowTextHasOneAnswer = (text : List ℕ) → OneAnswer text
