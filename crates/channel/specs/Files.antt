-- How a channel file is laid out: rows, then rules, a rule to a line, then `@` and the offset of the rules. Assumes nothing.
use Rattle.std.specs.Prelude.{◌≡◌, ℕ, ◌-◌, ◌<◌, ◌≤◌, Bool, true, ◌&&◌, ◌||◌, List, [], ◌∷◌, ◌++◌, length, take, drop, decimal, ◌==◌, nat_le, slice_index}
use Rattle.rowtext.specs.Format.{Line, Describes}
use Rattle.rows.specs.Rows.{some_start}
use Rattle.channel.specs.RuleLines.{RuleLines}

-- a file has at most so many bytes
abbrev pub most_bytes : ℕ
most_bytes = 16384

-- a file has 1 to 16,384 bytes
abbrev pub sized : List ℕ → Bool
sized file = nat_le 1 (length file) && nat_le (length file) most_bytes

-- a line begins at this place: it is 0, or byte 10 stands before it
abbrev pub line_front : List ℕ → ℕ → Bool
line_front file at = at == 0 || slice_index file (at - 1) == 10

-- the last line is `@` and the offset n, of one to five figures; body is what stands before it
pub record Last (file body : List ℕ) (n : ℕ) : Type 0 where
  pub whole : file ≡ body ++ 64 ∷ (decimal n ++ 10 ∷ [])
  pub begins : line_front file (length body) ≡ true
  pub figures : n < 100000

-- rows and rules part at the offset, which is no later than the `@` and at a line's front
pub record Cut (file rows rules : List ℕ) (n : ℕ) : Type 0 where
  pub body : List ℕ
  pub last : Last file body n
  pub before : n ≤ length body
  pub begins : line_front file n ≡ true
  pub rows_are : rows ≡ take n body
  pub rules_are : rules ≡ drop n body

-- a lawful file: its rows describe so many states, of which one is a start, and it has so many rules
pub record LawfulFile (file : List ℕ) (states rules : ℕ) : Type 0 where
  pub sized_is : sized file ≡ true
  pub rows_part : List ℕ
  pub rules_part : List ℕ
  pub offset : ℕ
  pub cut : Cut file rows_part rules_part offset
  pub lines : List Line
  pub described : Describes rows_part lines
  pub started : some_start lines ≡ true
  pub rule_lines : List (List ℕ)
  pub laid : RuleLines rules_part rule_lines
  pub states_are : states ≡ length lines
  pub rules_are : rules ≡ length rule_lines
