-- How a chain of operands begins and goes on.
use Rattle.std.proofs.Common.{ℕ, List}
use Rattle.ctl.specs.Formula.{Formula, join}
use Rattle.ctl.specs.declared.Connective.{Connective}
use Rattle.ctl.specs.declared.Connective.TheVariants.{And, Or}
use Rattle.rule.specs.Grammar.{Reads, by_unit, by_and, by_term, by_or}
use Rattle.rule.specs.declared.sign.Sign.TheVariants.{Connective as ConnectiveSign}
use Rattle.rule_reader.specs.Chains.{IsOperand, IsChain}

pub chain_begins : (op : Connective) (s : List ℕ) (f : Formula) (t : List ℕ) → IsOperand op s f t → IsChain op s f t
chain_begins And s f t d = by_unit d
chain_begins Or s f t d = by_term d

pub chain_goes_on : (op : Connective) (s : List ℕ) (f g : Formula) (t : List ℕ) {u v : List ℕ} →
    IsChain op s f u → Reads (ConnectiveSign op) u v → IsOperand op v g t → IsChain op s (join op f g) t
chain_goes_on And s f g t d r e = by_and d r e
chain_goes_on Or s f g t d r e = by_or d r e
