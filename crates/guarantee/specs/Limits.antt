-- The sizes of a roster, all in one place. Assumes nothing.
use Rattle.std.specs.Prelude.{ℕ}

-- a model that a roster opens on has at most so many states
abbrev pub most_states : ℕ
most_states = 64

-- so many rules may be laid
abbrev pub most_rules : ℕ
most_rules = 16

-- the highest bound that may be tried
abbrev pub most_bound : ℕ
most_bound = 255
