-- Trees with equal formulas are the same tree.
use Rattle.std.proofs.Common.{◌≡◌}
use Rattle.rule.specs.Tree.{formula, part_formula, Same, SamePart}
use Rattle.rule.specs.declared.tree.Rule.{Rule}
use Rattle.rule.specs.declared.tree.PathPart.{PathPart}
use Rattle.rule.specs.declared.tree.PathPart.TheVariants.{Constant, Literal, Join', Path', One, Two}

mutual
  pub one_to_one : (f g : Rule) → formula f ≡ formula g → Same f g
  one_to_one (Constant b) (Constant b') e = cc
  one_to_one (Constant b) (Literal b' c') e = cc
  one_to_one (Constant b) (Join' op' p' f' q' g') e = cc
  one_to_one (Constant b) (Path' q' p' x') e = cc
  one_to_one (Literal b c) (Constant b') e = cc
  one_to_one (Literal b c) (Literal b' c') e = (cc, cc)
  one_to_one (Literal b c) (Join' op' p' f' q' g') e = cc
  one_to_one (Literal b c) (Path' q' p' x') e = cc
  one_to_one (Join' op p f q g) (Constant b') e = cc
  one_to_one (Join' op p f q g) (Literal b' c') e = cc
  one_to_one (Join' op p f q g) (Join' op' p' f' q' g') e = (cc, one_to_one f f' cc, one_to_one g g' cc)
  one_to_one (Join' op p f q g) (Path' q' p' x') e = cc
  one_to_one (Path' q p x) (Constant b') e = cc
  one_to_one (Path' q p x) (Literal b' c') e = cc
  one_to_one (Path' q p x) (Join' op' p' f' q' g') e = cc
  one_to_one (Path' q p x) (Path' q' p' x') e = (cc, part_one_to_one x x' cc)

  part_one_to_one : (x y : PathPart) → part_formula x ≡ part_formula y → SamePart x y
  part_one_to_one (One op f) (One op' f') e = (cc, one_to_one f f' cc)
  part_one_to_one (One op f) (Two op' f' g') e = cc
  part_one_to_one (Two op f g) (One op' f') e = cc
  part_one_to_one (Two op f g) (Two op' f' g') e = (cc, one_to_one f f' cc, one_to_one g g' cc)
