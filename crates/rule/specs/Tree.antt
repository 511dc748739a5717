-- The formula that a tree of the code stands for, and when two trees are the same.
use Rattle.std.specs.Prelude.{◌≡◌}
use Rattle.ctl.specs.Formula.{Formula, PathPart as PartFormula, constant, literal, join, path, one, two}
use Rattle.rule.specs.declared.tree.Rule.{Rule}
use Rattle.rule.specs.declared.tree.PathPart.{PathPart}
use Rattle.rule.specs.declared.tree.PathPart.TheVariants.{Constant, Literal, Join', Path', One, Two}

-- the formula of a rule, and of a path part: case by case, wherever the boxes lie
abbrev mutual
  pub formula : Rule → Formula
  formula (Constant b) = constant b
  formula (Literal b c) = literal b c
  formula (Join' op p f q g) = join op (formula f) (formula g)
  formula (Path' q p x) = path q (part_formula x)

  pub part_formula : PathPart → PartFormula
  part_formula (One op f) = one op (formula f)
  part_formula (Two op f g) = two op (formula f) (formula g)

-- two trees have the same shape, operators, constants and letters; their boxes may lie anywhere
abbrev mutual
  pub Same : Rule → Rule → Type 0
  Same (Constant b) (Constant b') = b ≡ b'
  Same (Constant b) (Literal b' c') = ⊥
  Same (Constant b) (Join' op' p' f' q' g') = ⊥
  Same (Constant b) (Path' q' p' x') = ⊥
  Same (Literal b c) (Constant b') = ⊥
  Same (Literal b c) (Literal b' c') = (b ≡ b') × (c ≡ c')
  Same (Literal b c) (Join' op' p' f' q' g') = ⊥
  Same (Literal b c) (Path' q' p' x') = ⊥
  Same (Join' op p f q g) (Constant b') = ⊥
  Same (Join' op p f q g) (Literal b' c') = ⊥
  Same (Join' op p f q g) (Join' op' p' f' q' g') = (op ≡ op') × Same f f' × Same g g'
  Same (Join' op p f q g) (Path' q' p' x') = ⊥
  Same (Path' q p x) (Constant b') = ⊥
  Same (Path' q p x) (Literal b' c') = ⊥
  Same (Path' q p x) (Join' op' p' f' q' g') = ⊥
  Same (Path' q p x) (Path' q' p' x') = (q ≡ q') × SamePart x x'

  pub SamePart : PathPart → PathPart → Type 0
  SamePart (One op f) (One op' f') = (op ≡ op') × Same f f'
  SamePart (One op f) (Two op' f' g') = ⊥
  SamePart (Two op f g) (One op' f') = ⊥
  SamePart (Two op f g) (Two op' f' g') = (op ≡ op') × Same f f' × Same g g'

-- trees with equal formulas are the same tree
abbrev pub OneToOne : Type 0
OneToOne = (f g : Rule) → formula f ≡ formula g → Same f g
