use Rattle.std.proofs.Common.{◌≡◌, vec_items}
use Rattle.rowtext.proofs.TextForms.{ReadSoFar}
use Rattle.rowtext.proofs.lines.read_rows.Given as goal

abbrev pub invariant-loop-line : goal.invariant-loop-line
invariant-loop-line l = record {
  can : (goal.iterator-loop-line).can_next l.line-iterator;
  finite : (goal.iterator-loop-line).is_finite l.line-iterator;
  same : l.line-iterator.text.now ≡ l.text;
  read : ReadSoFar l.text l.count l.line-iterator.at (vec_items l.rows) l.beyond;
}
