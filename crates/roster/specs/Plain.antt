-- Formulas as trees of the code, so that their equations are facts that a struct can keep. Assumes nothing.
use Rattle.std.specs.Prelude.{◌≡◌, Box}
use Rattle.std.specs.Ptr.{null_ptr}
use Rattle.std.specs.declared.alloc.Global.{Global}
use Rattle.ctl.specs.Formula.{Formula, PathPart, constant, literal, join, path, one, two, negation}
use Rattle.rule.specs.Tree.{formula}
use Rattle.rule.specs.declared.tree.PathPart.{PathPart as PartTree}
use Rattle.rule.specs.declared.tree.PathPart.TheVariants.{Constant, Literal, Join', Path', One, Two}
use Rattle.rule.specs.declared.tree.Rule.{Rule}

-- some place of a box
abbrev pub place : Box (Unit {0}) Global
place = record { ptr = null_ptr; alloc = record { memory = record { seal = tt } }; value = tt }

-- the tree of a formula, all its boxes at that place
abbrev mutual
  pub plain : Formula → Rule
  plain (constant b) = Constant b
  plain (literal b c) = Literal b c
  plain (join op f g) = Join' op place (plain f) place (plain g)
  plain (path q x) = Path' q place (plain_part x)

  pub plain_part : PathPart → PartTree
  plain_part (one op f) = One op (plain f)
  plain_part (two op f g) = Two op (plain f) (plain g)

-- the one tree has the negation of the other's formula
abbrev pub Negates : Rule → Rule → Type 0
Negates n f = plain (formula n) ≡ plain (negation (formula f))
