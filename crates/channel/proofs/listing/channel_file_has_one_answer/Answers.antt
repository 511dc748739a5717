use Rattle.channel.proofs.OneFile.{one_answer_of_a_file}
use Rattle.channel.proofs.listing.channel_file_has_one_answer.Goals as goal

pub returns : goal.returns
returns c = one_answer_of_a_file
