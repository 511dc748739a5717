-- Terms and rules as one form: operands joined by a connective. Only private contracts speak of this.
use Rattle.std.specs.Prelude.{ℕ, List}
use Rattle.ctl.specs.Formula.{Formula}
use Rattle.ctl.specs.declared.Connective.{Connective}
use Rattle.ctl.specs.declared.Connective.TheVariants.{And, Or}
use Rattle.rule.specs.Grammar.{IsUnit, IsTerm, IsRule}
use Rattle.rule.specs.declared.sign.Sign.TheVariants.{Connective as ConnectiveSign}
use Rattle.rule_reader.specs.Halts.{Clear}

-- what the connective joins: units by &, terms by |
abbrev pub IsOperand : Connective → List ℕ → Formula → List ℕ → Type 0
IsOperand And s f t = IsUnit s f t
IsOperand Or s f t = IsTerm s f t

-- operands joined by the connective: a term by &, a rule by |
abbrev pub IsChain : Connective → List ℕ → Formula → List ℕ → Type 0
IsChain And s f t = IsTerm s f t
IsChain Or s f t = IsRule s f t

-- no operand goes on at the front: a unit never does, a term does at &
abbrev pub OperandEnded : Connective → List ℕ → Type 0
OperandEnded And t = Unit {0}
OperandEnded Or t = Clear (ConnectiveSign And) t
