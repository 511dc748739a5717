-- How a channel file is refused: each fault, its number, its layer, its place, and when a file earns it. Assumes nothing.
use Rattle.std.specs.Prelude.{◌≡◌, ℕ, ◌+◌, true, false, ◌&&◌, List, length, Some, None, codes, Option, nat_le}
use Rattle.rows.specs.Rows.{some_start}
use Rattle.rowtext.specs.Faults as row
use Rattle.rowtext.specs.Format.{Line, Describes}
use Rattle.rowtext.specs.declared.fault.RowFault.{RowFault}
use Rattle.channel.specs.Files.{sized, line_front, Last, Cut}
use Rattle.channel.specs.RuleLines.{cause_number, cause_place, RulesEarn}
use Rattle.channel.specs.declared.line.LineFault.{LineFault}
use Rattle.channel.specs.declared.fault.FileFault.{FileFault}
use Rattle.channel.specs.declared.fault.FileFault.TheVariants.{Buffer, Form, Rows, NoStart, Rules, Memory}
use Rattle.channel.specs.declared.fault.FormFault.TheVariants.{Size, LastLine, Offset}
use Rattle.channel.specs.declared.fault.Layer.{Layer}
use Rattle.channel.specs.declared.fault.Layer.TheVariants as Of

-- the number of a fault; want of memory has none
abbrev pub number : FileFault → Option ℕ
number Buffer = Some 26
number (Form Size) = Some 27
number (Form LastLine) = Some 28
number (Form Offset) = Some 29
number (Rows e) = row.number e
number NoStart = Some 3
number (Rules e) = cause_number e.cause
number Memory = None

-- the part of the work that refuses
abbrev pub layer : FileFault → Layer
layer Buffer = Of.File
layer (Form e) = Of.File
layer (Rows e) = Of.Rows
layer NoStart = Of.Roster
layer (Rules e) = Of.Rule
layer Memory = Of.File

abbrev pub word : Layer → List ℕ
word Of.File = codes "file"
word Of.Rows = codes "rows"
word Of.Roster = codes "roster"
word Of.Rule = codes "rule"

-- the place of a fault in the file; the rows begin at its front, so their places are the file's, and a rule's is counted from its line
abbrev pub place : FileFault → ℕ
place Buffer = 0
place (Form e) = 0
place (Rows e) = row.place e
place NoStart = 0
place (Rules e) = e.front + cause_place e.cause
place Memory = 0

-- the last line is lawful, but its offset is past the `@` or at no line's front
pub record BadOffset (file : List ℕ) : Type 0 where
  pub body : List ℕ
  pub n : ℕ
  pub last : Last file body n
  pub bad : (nat_le n (length body) && line_front file n) ≡ false

-- rows, starts and rule lines, in this order, are refused first with this fault; the rules stand at the offset n
pub data ContentEarns (n : ℕ) (rows rules : List ℕ) : FileFault → Type 0 where
  bad_rows : (e : RowFault) → row.Earns rows e → ContentEarns n rows rules (Rows e)
  no_start : (lines : List Line) → Describes rows lines → some_start lines ≡ false → ContentEarns n rows rules NoStart
  bad_rules : (lines : List Line) (e : LineFault) → Describes rows lines → some_start lines ≡ true → RulesEarn n rules e.front e.cause → ContentEarns n rows rules (Rules e)

-- the file is refused with this fault: the first question that it answers no
pub data FileEarns (file : List ℕ) : FileFault → Type 0 where
  bad_size : sized file ≡ false → FileEarns file (Form Size)
  bad_last_line : sized file ≡ true → ((body : List ℕ) (n : ℕ) → Last file body n → ⊥) → FileEarns file (Form LastLine)
  bad_offset : sized file ≡ true → BadOffset file → FileEarns file (Form Offset)
  bad_content : (rows rules : List ℕ) (n : ℕ) (e : FileFault) → sized file ≡ true → Cut file rows rules n → ContentEarns n rows rules e → FileEarns file e
