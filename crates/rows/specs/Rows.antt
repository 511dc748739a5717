-- What rows mean as a model, and the invariant that makes it a total one. Assumes nothing.
use Rattle.std.specs.Prelude.{◌≡◌, ℕ, Bool, true, false, List, [], ◌∷◌, map, length, vec_items, ◌==◌, nat_lt, slice_index_or}
use Rattle.std.specs.List.{list_all, list_any}
use Rattle.model.specs.Meaning.{Meaning}
use Rattle.rowtext.specs.Faults.{Earns}
use Rattle.rowtext.specs.Format.{Line, Describes}
use Rattle.rowtext.specs.declared.fault.RowFault.{RowFault}
use Rattle.rowtext.specs.declared.row.Row.{Row}

-- one unmarked start state that moves to itself
abbrev pub resting : Line
resting = record { start = true; marks = []; targets = 0 ∷ [] }

-- some line is a start's
abbrev pub some_start : List Line → Bool
some_start ls = list_any (λ l. l.start) ls

-- the number stands in the list
abbrev pub has : List ℕ → ℕ → Bool
has xs x = list_any (λ y. y == x) xs

-- the model of these rows: row s tells of state s
abbrev pub rows_meaning : List Row → Meaning
rows_meaning rows = record {
  count = length rows;
  start = λ s. slice_index_or (map (λ r. r.start) rows) s false;
  moves = λ s t. slice_index_or (map (λ r. has (vec_items r.targets) t) rows) s false;
  mark = λ s c. slice_index_or (map (λ r. has (vec_items r.marks) c) rows) s false;
}

-- some target is below n
abbrev pub some_below : ℕ → List ℕ → Bool
some_below n ts = list_any (λ t. nat_lt t n) ts

-- each row has such a target
abbrev pub each_goes_on : ℕ → List Row → Bool
each_goes_on n rows = list_all (λ r. some_below n (vec_items r.targets)) rows

-- every row has a target below the count of rows
abbrev pub GoesOn : List Row → Type 0
GoesOn rows = each_goes_on (length rows) rows ≡ true

-- the text earns this fault, and describes nothing
pub record RefusedText (text : List ℕ) (e : RowFault) : Type 0 where
  pub earned : Earns text e
  pub nothing : (ls : List Line) → Describes text ls → ⊥
