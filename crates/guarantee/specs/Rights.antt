-- Records that are right: what they say is the verdict. It is so on every roster that calls have led to. Assumes nothing.
use Rattle.std.specs.Prelude.{◌≡◌, ℕ, List, Some}
use Rattle.std.specs.List.{slice_get}
use Rattle.model.specs.Meaning.{Meaning}
use Rattle.ctl.specs.Decision.{verdict_at}
use Rattle.ctl.specs.Formula.{Formula}
use Rattle.ctl.specs.Verdict.{Decided}
use Rattle.ctl.specs.declared.Verdict.TheVariants.{Undecided}
use Rattle.guarantee.specs.States.{Entry}
use Rattle.guarantee.specs.declared.record.Found.{Found}
use Rattle.guarantee.specs.declared.record.Record.{Record}

-- each part of a record is the verdict at its bound
pub record Right (m : Meaning) (f : Formula) (r : Record) : Type 0 where
  pub low : (u : ℕ) → r.undecided ≡ Some u → verdict_at m f u ≡ Undecided
  pub high : (x : Found) → r.found ≡ Some x → (verdict_at m f x.bound ≡ x.verdict) × Decided x.verdict

-- so is the record of every rule laid
abbrev pub AllRight : Meaning → List Entry → Type 0
AllRight m es = (i : ℕ) (e : Entry) → slice_get es i ≡ Some e → Right m e.formula e.said
