-- A formula is known by its tree.
use Rattle.std.proofs.Common.{◌≡◌, sym, refl, ap, ◌∙◌, ap₂}
use Rattle.ctl.specs.Formula.{Formula, PathPart, constant, literal, join, path, one, two, negation}
use Rattle.rule.specs.Tree.{formula, part_formula}
use Rattle.rule.specs.declared.tree.Rule.{Rule}
use Rattle.roster.specs.Plain.{plain, plain_part, Negates}

mutual
  back : (f : Formula) → formula (plain f) ≡ f
  back (constant b) = refl
  back (literal b c) = refl
  back (join op f g) = ap₂ (join op) (back f) (back g)
  back (path q x) = ap (path q) (back_part x)

  back_part : (x : PathPart) → part_formula (plain_part x) ≡ x
  back_part (one op f) = ap (one op) (back f)
  back_part (two op f g) = ap₂ (two op) (back f) (back g)

-- trees that negate each other do so by their formulas
pub negates : (n f : Rule) → Negates n f → formula n ≡ negation (formula f)
negates n f e = sym (back (formula n)) ∙ ap formula e ∙ back (negation (formula f))
