-- Numbers in figures: base ten, without leading zero. Assumes nothing.
use Rattle.std.specs.Prelude.{◌≡◌, ℕ, ◌<◌, List, Some, None, decimal, Option, ◌≢◌}

-- the number below top that the piece writes, or that there is none
abbrev pub FigureBelow : ℕ → List ℕ → Option ℕ → Type 0
FigureBelow top piece (Some n) = (n < top) × (piece ≡ decimal n)
FigureBelow top piece None = (n : ℕ) → n < top → piece ≢ decimal n
