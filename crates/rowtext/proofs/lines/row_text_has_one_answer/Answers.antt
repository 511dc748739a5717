use Rattle.rowtext.proofs.OneText.{one_answer}
use Rattle.rowtext.proofs.lines.row_text_has_one_answer.Goals as goal

pub returns : goal.returns
returns c = one_answer
