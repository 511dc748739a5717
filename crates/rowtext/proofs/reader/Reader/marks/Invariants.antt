use Rattle.std.proofs.Common.{◌≡◌, ◌+◌, ◌-◌, ◌++◌, length, drop, vec_items}
use Rattle.rowtext.specs.Faults.{least_next}
use Rattle.rowtext.specs.Format.{Rising}
use Rattle.rowtext.proofs.reader.Reader.marks.Given as goal

abbrev pub invariant-loop-b : goal.invariant-loop-b
invariant-loop-b l = (l.self.text ≡ l.initial.self.text) × (drop l.initial.self.at l.initial.self.text.now ≡ vec_items l.marks ++ drop l.self.at l.self.text.now) × Rising 97 123 (vec_items l.marks) × (l.low ≡ least_next 97 (vec_items l.marks)) × (l.self.at ≡ l.initial.self.at + length (vec_items l.marks))

abbrev pub decreases-loop-b : goal.decreases-loop-b
decreases-loop-b l = length l.self.text.now - l.self.at
