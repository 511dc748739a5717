-- Pieces of a text up to a delimiter, and lines, which byte 10 ends. Assumes nothing.
use Rattle.std.specs.Prelude.{◌≡◌, ℕ, suc, ◌<◌, ◌≤◌, cond, List, [], ◌∷◌, length, ◌==◌, ◌≢◌, slice_index}

-- end is the first delimiter from `at` on, or the text's end
pub record PieceEnd (delimiter : ℕ) (text : List ℕ) (at end : ℕ) : Type 0 where
  pub onward : at ≤ end
  pub within : end ≤ length text
  pub free : (k : ℕ) → at ≤ k → k < end → slice_index text k ≢ delimiter
  pub stops : end < length text → slice_index text end ≡ delimiter

-- a delimiter comes next, or nothing
abbrev pub EndsHere : ℕ → List ℕ → Type 0
EndsHere delimiter [] = Unit {0}
EndsHere delimiter (b ∷ bs) = b ≡ delimiter

-- the delimiter occurs nowhere
abbrev pub Without : ℕ → List ℕ → Type 0
Without delimiter [] = Unit {0}
Without delimiter (b ∷ bs) = (b ≢ delimiter) × Without delimiter bs

-- how many bytes 10 there are
abbrev pub newlines : List ℕ → ℕ
newlines [] = 0
newlines (b ∷ bs) = cond (b == 10) (suc (newlines bs)) (newlines bs)
