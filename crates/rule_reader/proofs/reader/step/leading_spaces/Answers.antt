use Rattle.std.proofs.Common.{◌≡◌, rules}
use borrow.Author.Tests.{tests}
use Rattle.std.proofs.lemmas.Iterator.{IsFirst-from_position, YieldsList-from_slice}
use Rattle.rule.specs.Signs.{sign_of}
use Rattle.rule.specs.declared.sign.Sign.TheVariants.{Space}
use Rattle.rule_reader.proofs.Places.{spaces_end}
use Rattle.rule_reader.proofs.reader.step.leading_spaces.Goals as goal

pub returns : goal.returns
returns c =
    let first = IsFirst-from_position _ _ c.position.result (λ b. sign_of b ≡ Space → ⊥) (λ b. sign_of b ≡ Space) c.position.ensures.ran (YieldsList-from_slice c.args.text.now cc) (λ x q k. search (rules, tests)) (λ x q k. search (rules, tests)) in
    let end = spaces_end c.args.text.now c.position.result first in
    record { within = search rules; spaces = rw c.unwrap_or.ensures end.0; solid = rw c.unwrap_or.ensures end.1 }
