use Rattle.std.proofs.Common.{arith}
use Rattle.rule_reader.proofs.Answered.{answer_is_exact, exact_is_decisive}
use Rattle.rule_reader.proofs.read_rule.Goals as goal

pub returns : goal.returns
returns c =
    let exact = answer_is_exact c.whole.result (grind arith, omega arith) c.new.ensures.same c.new.ensures.spaces c.whole.ensures.reads in
    record { reads = exact; exactly = exact_is_decisive c.whole.result _ exact }
