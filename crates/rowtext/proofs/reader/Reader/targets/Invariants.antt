use Rattle.std.proofs.Common.{◌≡◌, ◌-◌, ◌++◌, length, drop, vec_items}
use Rattle.rowtext.specs.Faults.{comma_ended, least_next, targets_beyond}
use Rattle.rowtext.specs.Format.{Rising}
use Rattle.rowtext.proofs.reader.Reader.targets.Given as goal

abbrev pub invariant-loop-targets : goal.invariant-loop-targets
invariant-loop-targets l = (l.self.text ≡ l.initial.self.text) × (drop l.initial.self.at l.initial.self.text.now ≡ comma_ended (vec_items l.targets) ++ drop l.self.at l.self.text.now) × Rising 0 64 (vec_items l.targets) × (l.low ≡ least_next 0 (vec_items l.targets)) × (l.beyond ≡ targets_beyond l.count l.initial.self.at (vec_items l.targets))

abbrev pub decreases-loop-targets : goal.decreases-loop-targets
decreases-loop-targets l = length l.self.text.now - l.self.at
