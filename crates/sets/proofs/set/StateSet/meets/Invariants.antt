use Rattle.std.proofs.Common.{◌≡◌, ℕ, ◌<◌, ◌&&◌, false, get_or}
use Rattle.sets.specs.Sets.{bit}
use Rattle.sets.proofs.set.StateSet.meets.Given as goal

abbrev pub invariant-loop-i : goal.invariant-loop-i
invariant-loop-i l = (k : ℕ) → k < l.i → (j : ℕ) → j < 64 → (bit (get_or l.self.words k 0) j && bit (get_or l.other.words k 0) j) ≡ false
