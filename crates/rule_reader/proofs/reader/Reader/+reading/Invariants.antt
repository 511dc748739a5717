use Rattle.std.proofs.Common.{ℕ, ◌+◌, ◌-◌, ◌*◌, length}
use Rattle.ctl.specs.declared.Connective.{Connective}
use Rattle.ctl.specs.declared.Connective.TheVariants.{And, Or}
use Rattle.rule_reader.specs.Ahead.{bytes, ahead, Onward}
use Rattle.rule_reader.specs.Chains.{IsChain, OperandEnded}
use Rattle.rule.specs.Tree.{formula}
use Rattle.rule_reader.specs.declared.reader.Reader.{Reader}
use Rattle.rule_reader.proofs.reader.Reader.+reading.Given as goal

-- the bytes ahead, and then what calls what at one place: a rule its chain, a chain its operands, a term its units
abbrev measure : Reader → ℕ → ℕ
measure r rank = 6 * (length (bytes r) - r.at) + rank

abbrev operand_rank : Connective → ℕ
operand_rank And = 1
operand_rank Or = 3

abbrev pub decreases-path_part : goal.decreases-path_part
decreases-path_part l = measure l.self.now 0

abbrev pub decreases-unit : goal.decreases-unit
decreases-unit l = measure l.self.now 0

abbrev pub decreases-operand : goal.decreases-operand
decreases-operand l = measure l.self.now (operand_rank l.op)

abbrev pub decreases-chain : goal.decreases-chain
decreases-chain l = measure l.self.now (operand_rank l.op + 1)

abbrev pub decreases-rule : goal.decreases-rule
decreases-rule l = measure l.self.now 5

abbrev pub invariant-chain-loop-op : goal.invariant-chain-loop-op
invariant-chain-loop-op l = record {
  onward : Onward l.fn.self l.self;
  reads : IsChain l.op (ahead l.fn.self) (formula l.left) (ahead l.self);
  ended : OperandEnded l.op (ahead l.self);
}

abbrev pub decreases-chain-loop-op : goal.decreases-chain-loop-op
decreases-chain-loop-op l = length (bytes l.self) - l.self.at
