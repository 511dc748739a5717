use Rattle.std.proofs.Common.{sym, ◌∙◌, rules, tests, arith}
use Rattle.std.specs.List.{range_with_len}
use Rattle.std.proofs.lemmas.Iterator.{YieldsList-from_range}
use Rattle.std.proofs.lemmas.Iterator.Consumers.{YieldsList-from_filter, count_from_yields_List}
use Rattle.std.proofs.lemmas.List.Sums.{length-filter}
use Rattle.sets.specs.Sets.{member}
use Rattle.sets.proofs.Sizes.{size_as_count}
use Rattle.sets.proofs.set.StateSet.size.Goals as goal

pub returns : goal.returns
returns c =
    let p = member c.args.self.now in
    let n = c.args.count in
    count_from_yields_List c.filter.result _ c.count.ensures.ran (YieldsList-from_filter _ p (YieldsList-from_range 0 n n c.filter.ensures.source (omega arith)) c.filter.ensures.closure (λ x r q k. search (rules, tests)))
    ∙ (length-filter p (range_with_len 0 n) ∙ sym (size_as_count p n))
