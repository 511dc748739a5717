-- The row text: a line for each state, printed from what it says. Assumes nothing.
use Rattle.std.specs.Prelude.{◌≡◌, ℕ, suc, ◌<◌, ◌≤◌, Bool, true, false, List, [], ◌∷◌, ◌++◌, map, length, vec_items, decimal}
use Rattle.std.specs.List.{flat_map, AllByRecursion}
use Rattle.rowtext.specs.declared.row.Row.{Row}

-- a text has at most so many lines, and every target is below this
abbrev pub most_rows : ℕ
most_rows = 64

-- what a line says of its state: is it a start, which letters it carries, where it moves
pub record Line : Type 0 where
  pub start : Bool
  pub marks : List ℕ
  pub targets : List ℕ

-- what a row says, whatever memory holds it
abbrev pub line_of : Row → Line
line_of r = record { start = r.start; marks = vec_items r.marks; targets = vec_items r.targets }

abbrev pub lines_of : List Row → List Line
lines_of rows = map line_of rows

-- `*` for a start, `-` for another state
abbrev pub sign : Bool → ℕ
sign true = 42
sign false = 45

-- strictly rising, none below low, all below top
abbrev pub Rising : ℕ → ℕ → List ℕ → Type 0
Rising low top [] = Unit {0}
Rising low top (x ∷ xs) = (low ≤ x) × (x < top) × Rising (suc x) top xs

-- rising letters a to z, and rising targets, at least one
pub record WellFormed (l : Line) : Type 0 where
  pub marks : Rising 97 123 l.marks
  pub targets : Rising 0 most_rows l.targets
  pub some : 0 < length l.targets

-- targets joined by commas
abbrev pub targets_text : List ℕ → List ℕ
targets_text [] = []
targets_text (t ∷ []) = decimal t
targets_text (t ∷ u ∷ us) = decimal t ++ 44 ∷ targets_text (u ∷ us)

-- sign, letters, `>` and targets
abbrev pub line_text : Line → List ℕ
line_text l = sign l.start ∷ (l.marks ++ 62 ∷ targets_text l.targets)

-- a line with its byte 10
abbrev pub with_newline : Line → List ℕ
with_newline l = line_text l ++ 10 ∷ []

-- all lines, one after another
abbrev pub text_of : List Line → List ℕ
text_of ls = flat_map with_newline ls

-- every target of the line is below n
abbrev pub Below : ℕ → Line → Type 0
Below n l = AllByRecursion (λ t. t < n) l.targets

-- the text is lawful and describes these lines
pub record Describes (text : List ℕ) (ls : List Line) : Type 0 where
  pub whole : text ≡ text_of ls
  pub formed : AllByRecursion WellFormed ls
  pub some : 0 < length ls
  pub few : length ls ≤ most_rows
  pub below : AllByRecursion (Below (length ls)) ls
