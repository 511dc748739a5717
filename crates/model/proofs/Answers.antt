-- What the guards of the answers give.
use Rattle.std.proofs.lemmas.Bool.{and_left, and_right, le-ltb}
use Rattle.model.specs.Claims.{OutsideIsNo, AnswersFixTheMeaning}

pub outside_is_no : OutsideIsNo
outside_is_no m = record {
  start = λ s h. and_left _ _ (le-ltb s m.count h);
  from = λ s t h. and_left _ _ (le-ltb s m.count h);
  to = λ s t h. and_right _ _ (and_left _ _ (le-ltb t m.count h));
  state = λ s c h. and_left _ _ (le-ltb s m.count h);
  mark = λ s c e. and_right _ _ (and_left _ _ e);
}

pub answers_fix_the_meaning : AnswersFixTheMeaning
answers_fix_the_meaning m n a =
    λ i. record { count = a.count i; start = λ s. a.start s i; moves = λ s t. a.moves s t i; mark = λ s c. a.mark s c i }
