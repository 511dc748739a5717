use Rattle.rule_reader.proofs.Halting.{refused, behind_rule}
use Rattle.rule_reader.proofs.reader.Reader.whole.Goals as goal

pub returns-in_err-end : goal.returns-in_err-end
returns-in_err-end c = record { reads = rw (refused _ c.from_residual-in_err-end.ensures.1) (behind_rule _ c.rule.ensures.onward.same c.in_ok-rule.ensures.reads.0 c.in_err-end.ensures) }
