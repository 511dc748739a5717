-- What a reader has before it. Only the private contracts of its methods speak of this.
use Rattle.std.specs.Prelude.{◌≡◌, ℕ, ◌≤◌, List, drop}
use Rattle.rule.proofs.Walk.{Await, State}
use Rattle.rule.specs.declared.fault.RuleFault.{RuleFault}
use Rattle.rule_reader.specs.Halts.{Halts}
use Rattle.rule_reader.specs.declared.reader.Reader.{Reader}

-- the whole text that it reads
abbrev pub bytes : Reader → List ℕ
bytes r = r.text.now

-- the text from its place on
abbrev pub ahead : Reader → List ℕ
ahead r = drop r.at r.text.now

-- a reader, later: it reads the same text, from the same place or from one further on
pub record Onward (r s : Reader) : Type 0 where
  pub same : bytes s ≡ bytes r
  pub further : r.at ≤ s.at

-- a reading of what is ahead, from each of these states, ends with the fault e
abbrev pub HaltsAhead : (List Await → State) → Reader → RuleFault → Type 0
HaltsAhead k r e = Halts k (ahead r) (bytes r) e
