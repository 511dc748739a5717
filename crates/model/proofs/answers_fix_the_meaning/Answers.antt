use Rattle.model.proofs.Answers.{answers_fix_the_meaning}
use Rattle.model.proofs.answers_fix_the_meaning.Goals as goal

pub returns : goal.returns
returns c = answers_fix_the_meaning
