use Rattle.rule_reader.proofs.Places.{reads_at_place}
use Rattle.rule_reader.proofs.reader.Reader.pass.Goals as goal

pub returns-clause-reads : goal.returns-clause-reads
returns-clause-reads c = λ x e. reads_at_place c.args.self.now.text.now _ _ c.requires c.leading_spaces.ensures.spaces e
