use Rattle.sets.specs.Sets.{state_limit, member}
use Rattle.sets.proofs.Sizes.{size_without}
use Rattle.sets.proofs.members.MembersIterator.next.Goals as goal

pub returns-clause-goes : goal.returns-clause-goes
returns-clause-goes c =
    let less = size_without (member c.args.self.now.left) (member c.without-self.result) c.in_ok-t.t state_limit c.in_ok-t.ensures.0 c.in_ok-t.ensures.1.passes c.without-self.ensures in
    record { on = λ _. (tt, tt, less); keeps = tt; rests = λ _. tt }
