use Rattle.std.proofs.Common.{◌≡◌, ℕ, ◌<◌, ◌≤◌, false}
use Rattle.sets.specs.Sets.{member}
use Rattle.sets.proofs.set.StateSet.those_below.Given as goal

abbrev pub invariant-loop-s : goal.invariant-loop-s
invariant-loop-s g l = ((t : ℕ) → t < l.s → goal.F-post g l.holds t (member l.out t)) × ((t : ℕ) → l.s ≤ t → member l.out t ≡ false)
