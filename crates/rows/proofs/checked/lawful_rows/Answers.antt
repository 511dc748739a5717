use Rattle.rows.proofs.GoingOn.{read_lawful}
use Rattle.rows.proofs.checked.lawful_rows.Goals as goal

pub returns : goal.returns
returns c = read_lawful c.args.text.now c.read_rows.result c.read_rows.ensures
