-- The line that a listing writes, and what it leaves of the buffer. Assumes nothing.
use Rattle.std.specs.Prelude.{◌≡◌, ℕ, ◌⊎◌, List, ◌++◌, length, drop, Some, None, Ok, Err, codes, decimal, Option, Result}
use Rattle.channel.specs.Faults.{number, layer, word, place, FileEarns}
use Rattle.channel.specs.Files.{LawfulFile}
use Rattle.channel.specs.declared.fault.FileFault.{FileFault}
use Rattle.channel.specs.declared.fault.FileFault.TheVariants.{Buffer}
use Rattle.channel.specs.declared.listing.Refusal.{Refusal}

-- a buffer has at least so many bytes
abbrev pub least_buffer : ℕ
least_buffer = 1024

-- `states N rules M`
abbrev pub header : ℕ → ℕ → List ℕ
header states rules = codes "states " ++ (decimal states ++ (codes " rules " ++ (decimal rules ++ codes "\n")))

-- `refused NUMBER LAYER PLACE`
abbrev pub refused_line : ℕ → FileFault → List ℕ
refused_line n e = codes "refused " ++ (decimal n ++ (codes " " ++ (word (layer e) ++ (codes " " ++ (decimal (place e) ++ codes "\n")))))

-- a line of n bytes stands at the buffer's front, and the rest keeps its bytes
abbrev pub Writes : List ℕ → List ℕ → List ℕ → ℕ → Type 0
Writes line before after n = (n ≡ length line) × (after ≡ line ++ drop n before)

-- a fault with a number has its line written; want of memory writes nothing
abbrev pub Told : FileFault → List ℕ → List ℕ → ℕ → Option ℕ → Type 0
Told e before after n (Some k) = Writes (refused_line k e) before after n
Told e before after n None = (n ≡ 0) × (after ≡ before)

-- the file is lawful, and its line is written
pub record Lists (file before after : List ℕ) (n : ℕ) : Type 0 where
  pub states : ℕ
  pub rules : ℕ
  pub lawful : LawfulFile file states rules
  pub writes : Writes (header states rules) before after n

-- the fault is the one that the file earns, or want of memory, and its line is written if it has a number
pub record Refused (file before after : List ℕ) (r : Refusal) : Type 0 where
  pub earned : (number r.fault ≡ None) ⊎ FileEarns file r.fault
  pub told : Told r.fault before after r.length (number r.fault)

-- what the call leaves and answers where the buffer suffices
abbrev pub Listed : List ℕ → List ℕ → List ℕ → Result ℕ Refusal → Type 0
Listed file before after (Ok n) = Lists file before after n
Listed file before after (Err r) = Refused file before after r

-- a buffer that is too short is refused, and nothing is written
abbrev pub SmallBuffer : List ℕ → List ℕ → Result ℕ Refusal → Type 0
SmallBuffer before after r = (r ≡ Err (record { fault = Buffer; length = 0 })) × (after ≡ before)

-- how long the line is that was written, whatever it says
abbrev pub line_length : Result ℕ Refusal → ℕ
line_length (Ok n) = n
line_length (Err r) = r.length
