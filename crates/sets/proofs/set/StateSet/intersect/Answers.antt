use Rattle.std.proofs.Common.{◌&&◌, refl, rules, arith}
use Rattle.sets.specs.Sets.{word_count}
use Rattle.sets.proofs.Words.{each_word}
use Rattle.sets.proofs.set.StateSet.intersect.Goals as goal

pub returns : goal.returns
returns c =
    each_word ◌&&◌ refl word_count c.by_words.result.words c.args.self.words c.args.other.words (omega arith) (omega arith) (omega arith)
    (λ k h i l. search rules)
