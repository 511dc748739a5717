-- The lines of a text, one after another, each from its front to the byte 10 that ends it. Assumes nothing.
use Rattle.std.specs.Prelude.{◌≡◌, ℕ, ◌+◌, ◌<◌, List, length, Some, None, Option}
use Rattle.std.specs.declared.ops.Range.{Range}
use Rattle.text.specs.Pieces.{PieceEnd}

-- the line begins at `at` and ends at the next byte 10, and the next one begins at `behind`
pub record IsLine (text : List ℕ) (at behind : ℕ) (line : Range ℕ) : Type 0 where
  pub front : line.start ≡ at
  pub ends : PieceEnd 10 text at line.end
  pub ended : line.end < length text
  pub next : behind ≡ line.end + 1

-- the next line from `at` on, or none where no byte 10 is left
abbrev pub NextLine : List ℕ → ℕ → ℕ → Option (Range ℕ) → Type 0
NextLine text at behind (Some line) = IsLine text at behind line
NextLine text at behind None = PieceEnd 10 text at (length text) × (behind ≡ at)
