-- What the private steps of the row reader ensure; no public contract names these.
use Rattle.std.specs.Prelude.{◌≡◌, ℕ, ◌+◌, ◌<◌, ◌≤◌, Bool, ◌⊎◌, List, [], ◌∷◌, ◌++◌, length, drop, Some, None, Ok, Err, vec_items, decimal, Option, Result, Vec, ◌≢◌}
use Rattle.std.specs.declared.alloc.Global.{Global}
use Rattle.text.specs.Pieces.{EndsHere}
use Rattle.rowtext.specs.Faults.{least_next, Stuck, comma_ended, NoTarget, Broken, targets_beyond, line_beyond}
use Rattle.rowtext.specs.Format.{most_rows, line_of, sign, Rising, WellFormed, targets_text, line_text}
use Rattle.rowtext.specs.declared.row.Row.{Row}
use Rattle.rowtext.specs.declared.fault.RowFault.{RowFault}
use Rattle.rowtext.specs.declared.fault.RowFault.TheVariants.{Sign, Marks, Target, Memory}

-- what stands at a place, if anything
abbrev pub Peeked : List ℕ → ℕ → Option ℕ → Type 0
Peeked text at None = drop at text ≡ []
Peeked text at (Some b) = (at < length text) × (drop at text ≡ b ∷ drop (at + 1) text)

-- in each step the reader stands at `at` before `rest`, and afterwards before `left`
abbrev pub SignOr : ℕ → List ℕ → List ℕ → Result Bool RowFault → Type 0
SignOr at rest left (Ok s) = rest ≡ sign s ∷ left
SignOr at rest left (Err e) = (e ≡ Sign at) × ((s : Bool) (more : List ℕ) → rest ≢ sign s ∷ more)

pub record MarksBroken (at : ℕ) (rest : List ℕ) (e : RowFault) : Type 0 where
  pub marks : List ℕ
  pub left : List ℕ
  pub whole : rest ≡ marks ++ left
  pub rising : Rising 97 123 marks
  pub stuck : Stuck (least_next 97 marks) left
  pub fault : e ≡ Marks (at + length marks)

-- letters and `>`
abbrev pub MarksOr : ℕ → List ℕ → List ℕ → Result (Vec ℕ Global) RowFault → Type 0
MarksOr at rest left (Ok ms) = (rest ≡ vec_items ms ++ 62 ∷ left) × Rising 97 123 (vec_items ms)
MarksOr at rest left (Err e) = (e ≡ Memory) ⊎ MarksBroken at rest e

-- one target from low on
abbrev pub TargetOr : ℕ → ℕ → List ℕ → List ℕ → Result ℕ RowFault → Type 0
TargetOr low at rest left (Ok t) = (low ≤ t) × (t < most_rows) × (rest ≡ decimal t ++ left) × EndsHere 44 left
TargetOr low at rest left (Err e) = (e ≡ Target at) × NoTarget low rest

pub record TargetsBroken (at : ℕ) (rest : List ℕ) (e : RowFault) : Type 0 where
  pub targets : List ℕ
  pub left : List ℕ
  pub whole : rest ≡ comma_ended targets ++ left
  pub rising : Rising 0 most_rows targets
  pub none : NoTarget (least_next 0 targets) left
  pub fault : e ≡ Target (at + length (comma_ended targets))

-- all targets, with the place of the first that is not below n
abbrev pub TargetsOr : ℕ → ℕ → List ℕ → Result ((Vec ℕ Global) × Option ℕ) RowFault → Type 0
TargetsOr n at rest (Ok r) = (rest ≡ targets_text (vec_items r.0)) × Rising 0 most_rows (vec_items r.0) × (0 < length (vec_items r.0)) × (r.1 ≡ targets_beyond n at (vec_items r.0))
TargetsOr n at rest (Err e) = (e ≡ Memory) ⊎ TargetsBroken at rest e

-- a whole line
abbrev pub LineOr : ℕ → ℕ → List ℕ → Result (Row × Option ℕ) RowFault → Type 0
LineOr n at line (Ok r) = WellFormed (line_of r.0) × (line ≡ line_text (line_of r.0)) × (r.1 ≡ line_beyond n at (line_of r.0))
LineOr n at line (Err e) = (e ≡ Memory) ⊎ Broken at line e
