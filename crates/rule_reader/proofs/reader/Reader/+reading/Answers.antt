use Rattle.std.proofs.Common.{◌∙◌, rules}
use Rattle.rule.specs.Grammar.{by_letter, by_constant, by_not, by_group, by_path, by_one, by_two}
use Rattle.rule.specs.declared.sign.Sign.TheVariants.{Quantifier, Unary}
use Rattle.rule_reader.proofs.Chains.{chain_begins, chain_goes_on}
use Rattle.rule_reader.proofs.Halting.{refused, behind_not, behind_quantifier, behind_unary, in_group, in_pair, behind_group, behind_left, behind_connective, behind_binary, behind_right}
use Rattle.rule_reader.proofs.reader.Reader.+reading.Goals as goal

-- ---- units

pub unit-returns-in-Some-Letter-clause-reads : goal.unit-returns-in-Some-Letter-clause-reads
unit-returns-in-Some-Letter-clause-reads t c = by_letter (c.pass.ensures.reads _ cc)

pub unit-returns-in-Some-Constant-clause-reads : goal.unit-returns-in-Some-Constant-clause-reads
unit-returns-in-Some-Constant-clause-reads t c = by_constant (c.pass-in-Some-Constant.ensures.reads _ cc)

pub unit-returns-in_ok-rule-in-Some-Not-clause-reads : goal.unit-returns-in_ok-rule-in-Some-Not-clause-reads
unit-returns-in_ok-rule-in-Some-Not-clause-reads t c = rw c.negate.ensures (by_not (c.pass-in-Some-Not.ensures.reads _ cc) c.in_ok-rule-in-Some-Not.ensures.reads)

pub unit-returns-in_err-rule-in-Some-Not-clause-reads : goal.unit-returns-in_err-rule-in-Some-Not-clause-reads
unit-returns-in_err-rule-in-Some-Not-clause-reads t c = rw (refused _ c.from_residual.ensures.1) (behind_not _ c.pass-in-Some-Not.ensures.onward.same (c.pass-in-Some-Not.ensures.reads _ cc) c.in_err-rule-in-Some-Not.ensures.reads)

pub unit-returns-in_ok-close-in-Some-Open-clause-reads : goal.unit-returns-in_ok-close-in-Some-Open-clause-reads
unit-returns-in_ok-close-in-Some-Open-clause-reads t c = by_group (c.pass-in-Some-Open.ensures.reads _ cc) c.in_ok-group-in-Some-Open.ensures.reads.0 c.in_ok-close-in-Some-Open.ensures.reads

pub unit-returns-in_err-group-in-Some-Open-clause-reads : goal.unit-returns-in_err-group-in-Some-Open-clause-reads
unit-returns-in_err-group-in-Some-Open-clause-reads t c = rw (refused _ c.from_residual-in_err-group-in-Some-Open.ensures.1) (in_group _ c.pass-in-Some-Open.ensures.onward.same (c.pass-in-Some-Open.ensures.reads _ cc) c.in_err-group-in-Some-Open.ensures.reads)

pub unit-returns-in_err-close-in-Some-Open-clause-reads : goal.unit-returns-in_err-close-in-Some-Open-clause-reads
unit-returns-in_err-close-in-Some-Open-clause-reads t c = rw (refused _ c.from_residual-in_err-close-in-Some-Open.ensures.1) (behind_group _ (c.rule.ensures.onward.same ∙ c.pass-in-Some-Open.ensures.onward.same) (c.pass-in-Some-Open.ensures.reads _ cc) c.in_ok-group-in-Some-Open.ensures.reads.0 c.in_err-close-in-Some-Open.ensures.reads)

pub unit-returns-in_ok-quantified-in-Some-Quantifier-clause-reads : goal.unit-returns-in_ok-quantified-in-Some-Quantifier-clause-reads
unit-returns-in_ok-quantified-in-Some-Quantifier-clause-reads t c = rw c.in_ok-quantified-in-Some-Quantifier.ensures (by_path (c.pass-in-Some-Quantifier.ensures.reads (Quantifier c.in-Some-Quantifier.quantifier) cc) c.in_ok-asked-in-Some-Quantifier.ensures.reads)

pub unit-returns-in_err-asked-in-Some-Quantifier-clause-reads : goal.unit-returns-in_err-asked-in-Some-Quantifier-clause-reads
unit-returns-in_err-asked-in-Some-Quantifier-clause-reads t c = rw (refused _ c.from_residual-in_err-asked-in-Some-Quantifier.ensures.1) (behind_quantifier _ c.pass-in-Some-Quantifier.ensures.onward.same (c.pass-in-Some-Quantifier.ensures.reads (Quantifier c.in-Some-Quantifier.quantifier) cc) c.in_err-asked-in-Some-Quantifier.ensures.reads)

-- ---- path parts

pub path_part-returns-in_ok-rule-in-Some-Unary-clause-reads : goal.path_part-returns-in_ok-rule-in-Some-Unary-clause-reads
path_part-returns-in_ok-rule-in-Some-Unary-clause-reads t c = by_one (c.pass.ensures.reads (Unary c.in-Some-Unary.op) cc) c.in_ok-rule-in-Some-Unary.ensures.reads

pub path_part-returns-in_err-rule-in-Some-Unary-clause-reads : goal.path_part-returns-in_err-rule-in-Some-Unary-clause-reads
path_part-returns-in_err-rule-in-Some-Unary-clause-reads t c = rw (refused _ c.from_residual.ensures.1) (behind_unary _ c.pass.ensures.onward.same (c.pass.ensures.reads (Unary c.in-Some-Unary.op) cc) c.in_err-rule-in-Some-Unary.ensures.reads)

pub path_part-returns-in_ok-close-in-Some-Open-clause-reads : goal.path_part-returns-in_ok-close-in-Some-Open-clause-reads
path_part-returns-in_ok-close-in-Some-Open-clause-reads t c = by_two (c.pass-in-Some-Open.ensures.reads _ cc) c.in_ok-left-in-Some-Open.ensures.reads.0 c.in_ok-op-in-Some-Open.ensures.reads c.in_ok-right-in-Some-Open.ensures.reads.0 c.in_ok-close-in-Some-Open.ensures.reads

pub path_part-returns-in_err-left-in-Some-Open-clause-reads : goal.path_part-returns-in_err-left-in-Some-Open-clause-reads
path_part-returns-in_err-left-in-Some-Open-clause-reads t c = rw (refused _ c.from_residual-in_err-left-in-Some-Open.ensures.1) (in_pair _ c.pass-in-Some-Open.ensures.onward.same (c.pass-in-Some-Open.ensures.reads _ cc) c.in_err-left-in-Some-Open.ensures.reads)

pub path_part-returns-in_err-op-in-Some-Open-clause-reads : goal.path_part-returns-in_err-op-in-Some-Open-clause-reads
path_part-returns-in_err-op-in-Some-Open-clause-reads t c = rw (refused _ c.from_residual-in_err-op-in-Some-Open.ensures.1) (behind_left _ (c.rule.ensures.onward.same ∙ c.pass-in-Some-Open.ensures.onward.same) (c.pass-in-Some-Open.ensures.reads _ cc) c.in_ok-left-in-Some-Open.ensures.reads.0 c.in_err-op-in-Some-Open.ensures.reads)

pub path_part-returns-in_err-right-in-Some-Open-clause-reads : goal.path_part-returns-in_err-right-in-Some-Open-clause-reads
path_part-returns-in_err-right-in-Some-Open-clause-reads t c = rw (refused _ c.from_residual-in_err-right-in-Some-Open.ensures.1) (behind_binary _ (c.binary.ensures.onward.same ∙ c.rule.ensures.onward.same ∙ c.pass-in-Some-Open.ensures.onward.same) (c.pass-in-Some-Open.ensures.reads _ cc) c.in_ok-left-in-Some-Open.ensures.reads.0 c.in_ok-op-in-Some-Open.ensures.reads c.in_err-right-in-Some-Open.ensures.reads)

pub path_part-returns-in_err-close-in-Some-Open-clause-reads : goal.path_part-returns-in_err-close-in-Some-Open-clause-reads
path_part-returns-in_err-close-in-Some-Open-clause-reads t c = rw (refused _ c.from_residual-in_err-close-in-Some-Open.ensures.1) (behind_right _ (c.rule-in-Some-Open.ensures.onward.same ∙ c.binary.ensures.onward.same ∙ c.rule.ensures.onward.same ∙ c.pass-in-Some-Open.ensures.onward.same) (c.pass-in-Some-Open.ensures.reads _ cc) c.in_ok-left-in-Some-Open.ensures.reads.0 c.in_ok-op-in-Some-Open.ensures.reads c.in_ok-right-in-Some-Open.ensures.reads.0 c.in_err-close-in-Some-Open.ensures.reads)

-- ---- chains

pub chain-loop-op-init : goal.chain-loop-op-init
chain-loop-op-init t c = record { onward = c.operand.ensures.onward; reads = chain_begins _ _ _ _ c.in_ok-left.ensures.reads.0; ended = c.in_ok-left.ensures.reads.1 }

pub chain-loop-op-preserved : goal.chain-loop-op-preserved
chain-loop-op-preserved t c = record {
  onward = search rules;
  reads = rw c.in_ok-left-2.ensures (chain_goes_on c.args.op _ _ _ _ c.loop-op.invariant.reads (c.pass.ensures.reads _ (search rules)) c.in_ok-right.ensures.reads.0);
  ended = c.in_ok-right.ensures.reads.1;
}

pub chain-returns-in_err-right-clause-reads : goal.chain-returns-in_err-right-clause-reads
chain-returns-in_err-right-clause-reads t c = rw (refused _ c.from_residual-in_err-right.ensures.1) (behind_connective _ _ c.args.op _ (c.pass.ensures.onward.same ∙ c.loop-op.invariant.onward.same) c.loop-op.invariant.reads (c.pass.ensures.reads _ (search rules)) c.in_err-right.ensures.reads)
