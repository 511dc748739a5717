-- The number and the place of each refusal. Assumes nothing.
use Rattle.std.specs.Prelude.{ℕ, Some, None, Option}
use Rattle.rule.specs.Faults.{number as rule_number, place as rule_place}
use Rattle.guarantee.specs.declared.fault.RosterFault.{RosterFault}
use Rattle.guarantee.specs.declared.fault.RosterFault.TheVariants.{Opened, Size, NoStart, Blank, Full, Rule, NotLaid, Bound, NoVerdict, Root, Room, Looks, Memory}

-- the number of a refusal; want of memory has none
abbrev pub number : RosterFault → Option ℕ
number Opened = Some 1
number Size = Some 2
number NoStart = Some 3
number Blank = Some 4
number Full = Some 5
number (Rule e) = rule_number e
number NotLaid = Some 10
number Bound = Some 11
number NoVerdict = Some 12
number Root = Some 13
number Room = Some 14
number Looks = Some 15
number Memory = None

-- the place that a refusal points at: that of the rule text's fault, and else 0
abbrev pub place : RosterFault → ℕ
place Opened = 0
place Size = 0
place NoStart = 0
place Blank = 0
place Full = 0
place (Rule e) = rule_place e
place NotLaid = 0
place Bound = 0
place NoVerdict = 0
place Root = 0
place Room = 0
place Looks = 0
place Memory = 0
