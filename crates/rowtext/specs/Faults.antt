-- How a row text breaks its format first: each fault, its number, its place, and when a text earns it. Assumes nothing.
use Rattle.std.specs.Prelude.{◌≡◌, ℕ, suc, ◌+◌, ◌-◌, ◌<◌, ◌≤◌, Bool, true, false, cond, ◌&&◌, ◌⊎◌, List, [], ◌∷◌, ◌++◌, length, Some, None, Ok, Err, vec_items, decimal, Option, Result, Vec, ◌==◌, ◌≢◌, nat_le, slice_index}
use Rattle.std.specs.List.{flat_map, AllByRecursion}
use Rattle.std.specs.Option.{option_or}
use Rattle.std.specs.declared.alloc.Global.{Global}
use Rattle.text.specs.Pieces.{Without, newlines}
use Rattle.rowtext.specs.Format.{most_rows, Line, lines_of, sign, Rising, WellFormed, with_newline, text_of, Describes}
use Rattle.rowtext.specs.declared.row.Row.{Row}
use Rattle.rowtext.specs.declared.fault.RowFault.{RowFault}
use Rattle.rowtext.specs.declared.fault.RowFault.TheVariants.{Lines, Sign, Marks, Target, Beyond, Memory}

-- the number of a fault; want of memory has none
abbrev pub number : RowFault → Option ℕ
number Lines = Some 16
number (Sign p) = Some 17
number (Marks p) = Some 18
number (Target p) = Some 19
number (Beyond p) = Some 20
number Memory = None

-- the place of a fault in the text
abbrev pub place : RowFault → ℕ
place Lines = 0
place (Sign p) = p
place (Marks p) = p
place (Target p) = p
place (Beyond p) = p
place Memory = 0

-- ended by byte 10, and so with one line at least, and with at most 64
abbrev pub has_lines : List ℕ → Bool
has_lines text = slice_index text (length text - 1) == 10 && nat_le (newlines text) most_rows

-- the lowest letter or target that may follow
abbrev pub least_next : ℕ → List ℕ → ℕ
least_next low [] = low
least_next low (x ∷ xs) = least_next (suc x) xs

-- neither `>` nor a letter that may follow
abbrev pub Stuck : ℕ → List ℕ → Type 0
Stuck low [] = Unit {0}
Stuck low (b ∷ bs) = (b ≢ 62) × (low ≤ b → b < 123 → ⊥)

-- targets with a comma after each
abbrev pub with_comma : ℕ → List ℕ
with_comma t = decimal t ++ 44 ∷ []

abbrev pub comma_ended : List ℕ → List ℕ
comma_ended ts = flat_map with_comma ts

-- no target that may follow, whole up to a comma or the line's end
abbrev pub NoTarget : ℕ → List ℕ → Type 0
NoTarget low rest = (t : ℕ) (more : List ℕ) → low ≤ t → t < most_rows → (rest ≢ decimal t) × (rest ≢ decimal t ++ 44 ∷ more)

-- a line that begins at `at` breaks the form first so
pub data Broken (at : ℕ) (line : List ℕ) : RowFault → Type 0 where
  no_sign : ((s : Bool) (left : List ℕ) → line ≢ sign s ∷ left) → Broken at line (Sign at)
  bad_mark : (s : Bool) (ms left : List ℕ) → line ≡ sign s ∷ (ms ++ left) → Rising 97 123 ms → Stuck (least_next 97 ms) left → Broken at line (Marks (at + 1 + length ms))
  bad_target : (s : Bool) (ms ts left : List ℕ) → line ≡ sign s ∷ (ms ++ 62 ∷ (comma_ended ts ++ left)) → Rising 97 123 ms → Rising 0 most_rows ts → NoTarget (least_next 0 ts) left → Broken at line (Target (at + 1 + length ms + 1 + length (comma_ended ts)))

-- well-formed lines, then the first line that is not
pub record FirstBroken (text : List ℕ) (e : RowFault) : Type 0 where
  pub before : List Line
  pub line : List ℕ
  pub after : List ℕ
  pub whole : text ≡ text_of before ++ (line ++ 10 ∷ after)
  pub formed : AllByRecursion WellFormed before
  pub one_line : Without 10 line
  pub broken : Broken (length (text_of before)) line e

-- the place of the first target not below n, where the first target stands at `at`
abbrev pub targets_beyond : ℕ → ℕ → List ℕ → Option ℕ
targets_beyond n at [] = None
targets_beyond n at (t ∷ ts) = cond (nat_le n t) (Some at) (targets_beyond n (at + length (with_comma t)) ts)

-- the same in a line that begins at `at`
abbrev pub line_beyond : ℕ → ℕ → Line → Option ℕ
line_beyond n at l = targets_beyond n (at + 1 + length l.marks + 1) l.targets

-- the same in lines of which the first begins at `at`
abbrev pub text_beyond : ℕ → ℕ → List Line → Option ℕ
text_beyond n at [] = None
text_beyond n at (l ∷ ls) = option_or (line_beyond n at l) (text_beyond n (at + length (with_newline l)) ls)

-- every line is well-formed, and a target is not below the count of lines
pub record FirstBeyond (text : List ℕ) (e : RowFault) : Type 0 where
  pub lines : List Line
  pub place : ℕ
  pub whole : text ≡ text_of lines
  pub formed : AllByRecursion WellFormed lines
  pub beyond : text_beyond (length lines) 0 lines ≡ Some place
  pub fault : e ≡ Beyond place

-- the text is refused with this fault: its lines are miscounted, or a line is broken, or a target leads nowhere
abbrev pub Earns : List ℕ → RowFault → Type 0
Earns text e = ((e ≡ Lines) × (has_lines text ≡ false)) ⊎ ((has_lines text ≡ true) × (FirstBroken text e ⊎ FirstBeyond text e))

-- reading gives the rows that the text describes, or want of memory, or the fault that the text earns
abbrev pub Reads : List ℕ → Result (Vec Row Global) RowFault → Type 0
Reads text (Ok rows) = Describes text (lines_of (vec_items rows))
Reads text (Err e) = (e ≡ Memory) ⊎ Earns text e
