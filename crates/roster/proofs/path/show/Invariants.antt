use Rattle.std.proofs.Common.{◌≡◌, ℕ, ◌<◌}
use Rattle.rule.specs.Tree.{part_formula}
use Rattle.sets.specs.Members.{LeftFrom}
use Rattle.table.specs.Kept.{kept}
use Rattle.roster.proofs.path.show.Given as goal
use Rattle.roster.specs.Showing.{StartShown}

-- the starts below `at` have no path to show, and those from it on are left
abbrev pub invariant-loop-s : goal.invariant-loop-s
invariant-loop-s l =
    (at : ℕ) × LeftFrom l.initial.s-iterator.left at l.s-iterator.left
    × (l.out ≡ l.initial.out) × ((u : ℕ) → u < at → StartShown (kept l.table) (part_formula l.part) l.k u → ⊥)
