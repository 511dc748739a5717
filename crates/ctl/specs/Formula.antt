-- Rules in negation normal form, and negation. Assumes nothing.
use Rattle.std.specs.Prelude.{ℕ, Bool, not}
use Rattle.ctl.specs.declared.Quantifier.{Quantifier}
use Rattle.ctl.specs.declared.Quantifier.TheVariants.{All, Exists}
use Rattle.ctl.specs.declared.Connective.{Connective}
use Rattle.ctl.specs.declared.Connective.TheVariants.{And, Or}
use Rattle.ctl.specs.declared.Unary.{Unary}
use Rattle.ctl.specs.declared.Unary.TheVariants.{Next, Eventually, Always}
use Rattle.ctl.specs.declared.Binary.{Binary}
use Rattle.ctl.specs.declared.Binary.TheVariants.{Until, Release}

mutual
  -- a rule: 0 or 1; a letter that a state carries (true) or lacks (false); two rules joined; a path part under A or E
  pub data Formula : Type 0 where
    constant : Bool → Formula
    literal : Bool → ℕ → Formula
    join : Connective → Formula → Formula → Formula
    path : Quantifier → PathPart → Formula

  -- what is asked along a path, of one rule or of two
  pub data PathPart : Type 0 where
    one : Unary → Formula → PathPart
    two : Binary → Formula → Formula → PathPart

abbrev pub opposite_quantifier : Quantifier → Quantifier
opposite_quantifier All = Exists
opposite_quantifier Exists = All

abbrev pub opposite_connective : Connective → Connective
opposite_connective And = Or
opposite_connective Or = And

abbrev pub opposite_unary : Unary → Unary
opposite_unary Next = Next
opposite_unary Eventually = Always
opposite_unary Always = Eventually

abbrev pub opposite_binary : Binary → Binary
opposite_binary Until = Release
opposite_binary Release = Until

-- the negation of a rule in normal form: each operator becomes its opposite and each part is negated; nothing is simplified
abbrev mutual
  pub negation : Formula → Formula
  negation (constant b) = constant (not b)
  negation (literal b c) = literal (not b) c
  negation (join op f g) = join (opposite_connective op) (negation f) (negation g)
  negation (path q x) = path (opposite_quantifier q) (negation_part x)

  pub negation_part : PathPart → PathPart
  negation_part (one op f) = one (opposite_unary op) (negation f)
  negation_part (two op f g) = two (opposite_binary op) (negation f) (negation g)
