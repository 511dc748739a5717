-- The rules part of a channel file: a rule to a line, at most sixteen, and how a line is refused. Assumes nothing.
use Rattle.std.specs.Prelude.{◌≡◌, ℕ, ◌+◌, ◌<◌, ◌≤◌, List, [], ◌∷◌, ◌++◌, length, Some, Option}
use Rattle.std.specs.List.{flat_map, AllByRecursion}
use Rattle.rule.specs.Faults as rule
use Rattle.rule.specs.Grammar.{Lawful}
use Rattle.text.specs.Pieces.{Without}
use Rattle.channel.specs.declared.cause.Cause.{Cause}
use Rattle.channel.specs.declared.cause.Cause.TheVariants.{TooMany, Rule}

-- a file has at most so many rules
abbrev pub most_rules : ℕ
most_rules = 16

-- a line with its byte 10
abbrev pub with_newline : List ℕ → List ℕ
with_newline line = line ++ 10 ∷ []

-- a line that is a rule of 1 to 255 bytes
pub record RuleLine (line : List ℕ) : Type 0 where
  pub one_line : Without 10 line
  pub sized : rule.Sized line
  pub lawful : Lawful line

-- the rules part is these lines, each a rule
pub record RuleLines (part : List ℕ) (lines : List (List ℕ)) : Type 0 where
  pub whole : part ≡ flat_map with_newline lines
  pub each : AllByRecursion RuleLine lines
  pub few : length lines ≤ most_rules

-- the number of a line's fault; want of memory has none
abbrev pub cause_number : Cause → Option ℕ
cause_number TooMany = Some 5
cause_number (Rule e) = rule.number e

-- the place of a line's fault, counted from the line's front
abbrev pub cause_place : Cause → ℕ
cause_place TooMany = 0
cause_place (Rule e) = rule.place e

-- a line behind so many others is refused for this
abbrev pub LineEarns : ℕ → List ℕ → Cause → Type 0
LineEarns laid line TooMany = most_rules ≤ laid
LineEarns laid line (Rule e) = (laid < most_rules) × rule.Earns line e

-- rule lines, then the first line that is refused; the rules part stands at the offset
pub record RulesEarn (offset : ℕ) (part : List ℕ) (front : ℕ) (cause : Cause) : Type 0 where
  pub before : List (List ℕ)
  pub line : List ℕ
  pub after : List ℕ
  pub whole : part ≡ flat_map with_newline before ++ (line ++ 10 ∷ after)
  pub each : AllByRecursion RuleLine before
  pub few : length before ≤ most_rules
  pub one_line : Without 10 line
  pub front_is : front ≡ offset + length (flat_map with_newline before)
  pub earned : LineEarns (length before) line cause
