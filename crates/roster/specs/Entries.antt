-- What the rules kept by a roster stand for. Assumes nothing.
use Rattle.std.specs.Prelude.{List, map}
use Rattle.guarantee.specs.States.{Entry}
use Rattle.rule.specs.Tree.{formula}
use Rattle.roster.specs.declared.laid.Laid.{Laid}

-- the formula of a rule laid, with its record
abbrev pub entry_of : Laid → Entry
entry_of x = record { formula = formula x.trees.rule; said = x.said }

-- so of each rule, by their numbers
abbrev pub entries_of : List Laid → List Entry
entries_of xs = map entry_of xs
