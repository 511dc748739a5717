use Rattle.std.proofs.Common.{◌≡◌, ◌+◌, ◌*◌, ◌/◌, ◌%◌, ◌<◌, ◌&&◌, get_or, refl, ap₂, ◌∙◌, ⊎_elim, arith}
use Rattle.std.proofs.lemmas.Bool.{true≢false, false≢true, and_left, cases_lt}
use Rattle.sets.specs.Sets.{word_count, bit}
use Rattle.sets.proofs.Words.{past}
use Rattle.sets.proofs.set.StateSet.meets.Goals as goal

pub returns-then-words_meet : goal.returns-then-words_meet
returns-then-words_meet c =
    let x = c.args.self.now.words in
    let y = c.args.other.now.words in
    let r = c.if-words_meet.ensures.some refl in
    let s = c.loop-i.i * 64 + r.0 in
    let low : s % 64 ≡ r.0 = omega (arith, r.1) in
    let high : s / 64 ≡ c.loop-i.i = omega (arith, r.1) in (
      λ e. absurd (true≢false e),
      λ e. (s, ap₂ (λ w j. bit (get_or x w 0) j && bit (get_or y w 0) j) high low ∙ r.2),
    )

pub returns : goal.returns
returns c =
    let x = c.args.self.now.words in
    let y = c.args.other.now.words in (
      λ e s. ⊎_elim (λ l. c.loop-i.invariant (s / 64) (omega arith) (s % 64) (omega arith)) (λ g. and_left _ _ (past x s (omega arith))) (cases_lt (s / 64) word_count),
      λ e. absurd (false≢true e),
    )
