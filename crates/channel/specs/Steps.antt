-- What the private steps of the listing ensure; no public contract names these.
use Rattle.std.specs.Prelude.{◌≡◌, ℕ, ◌-◌, ◌<◌, ◌≤◌, true, ◌⊎◌, List, ◌++◌, length, take, drop, Some, None, Ok, Err, string_bytes, Option, Result, String, ◌≢◌, slice_index}
use Rattle.std.specs.List.{flat_map, AllByRecursion}
use Rattle.std.specs.declared.alloc.Global.{Global}
use Rattle.rule.specs.Faults.{Sized}
use Rattle.rule.specs.Grammar.{Lawful}
use Rattle.channel.specs.Faults.{number, FileEarns}
use Rattle.channel.specs.Files.{sized, line_front, Last, Cut, LawfulFile}
use Rattle.channel.specs.Listing.{header, least_buffer, Told}
use Rattle.channel.specs.RuleLines.{most_rules, with_newline, RuleLine, RuleLines, cause_number, LineEarns, RulesEarn}
use Rattle.channel.specs.declared.line.LineFault.{LineFault}
use Rattle.channel.specs.declared.fault.FileFault.{FileFault}
use Rattle.channel.specs.declared.fault.FileFault.TheVariants.{Form, Memory}
use Rattle.channel.specs.declared.fault.FormFault.{FormFault}
use Rattle.channel.specs.declared.listing.Refusal.{Refusal}
use Rattle.channel.specs.declared.parts.Parts.{Parts}
use Rattle.channel.specs.declared.summary.Summary.{Summary}

-- the line that ends at `end` begins at `at`
pub record LineBegins (file : List ℕ) (end at : ℕ) : Type 0 where
  pub within : at ≤ end
  pub begins : line_front file at ≡ true
  pub free : (k : ℕ) → at ≤ k → k < end → slice_index file k ≢ 10

-- the place of the `@` and the offset
abbrev pub LastOr : List ℕ → Option (ℕ × ℕ) → Type 0
LastOr file (Some r) = (r.0 ≤ length file) × Last file (take r.0 file) r.1
LastOr file None = (body : List ℕ) (n : ℕ) → Last file body n → ⊥

abbrev pub PartsOr : List ℕ → Result Parts FormFault → Type 0
PartsOr file (Ok p) = (sized file ≡ true) × Cut file p.rows.now p.rules.now (length p.rows.now)
PartsOr file (Err e) = FileEarns file (Form e)

-- nothing, or ended by byte 10
abbrev pub Closed : List ℕ → Type 0
Closed part = 0 < length part → slice_index part (length part - 1) ≡ 10

-- one rule line
abbrev pub LineOr : ℕ → ℕ → List ℕ → Result (Unit {0}) LineFault → Type 0
LineOr front laid line (Ok r) = (laid < most_rules) × Sized line × Lawful line
LineOr front laid line (Err e) = (e.front ≡ front) × ((cause_number e.cause ≡ None) ⊎ LineEarns laid line e.cause)

-- so many rule lines are read, up to `at`
pub record ReadSoFar (part : List ℕ) (at laid : ℕ) : Type 0 where
  pub lines : List (List ℕ)
  pub whole : part ≡ flat_map with_newline lines ++ drop at part
  pub each : AllByRecursion RuleLine lines
  pub laid_are : laid ≡ length lines
  pub few : laid ≤ most_rules
  pub within : at ≤ length part

-- all of them
abbrev pub RulesOr : ℕ → List ℕ → Result ℕ LineFault → Type 0
RulesOr offset part (Ok n) = (lines : List (List ℕ)) × RuleLines part lines × (n ≡ length lines)
RulesOr offset part (Err e) = (cause_number e.cause ≡ None) ⊎ RulesEarn offset part e.front e.cause

-- the fault is the one that the file earns, or want of memory
abbrev pub Deserved : List ℕ → FileFault → Type 0
Deserved file e = (number e ≡ None) ⊎ FileEarns file e

abbrev pub SummaryOr : List ℕ → Result Summary FileFault → Type 0
SummaryOr file (Ok s) = LawfulFile file s.states s.rules
SummaryOr file (Err e) = Deserved file e

-- these bytes are the line, and a buffer has room for them
pub record LineText (line bytes : List ℕ) : Type 0 where
  pub same : bytes ≡ line
  pub fits : length bytes ≤ least_buffer

pub record HeaderOf (file bytes : List ℕ) : Type 0 where
  pub states : ℕ
  pub rules : ℕ
  pub lawful : LawfulFile file states rules
  pub bytes_are : bytes ≡ header states rules
  pub fits : length bytes ≤ least_buffer

abbrev pub TextOr : List ℕ → Result (String Global) FileFault → Type 0
TextOr file (Ok s) = HeaderOf file (string_bytes s)
TextOr file (Err e) = Deserved file e

-- the refusal is of this fault, or for want of memory
abbrev pub Refuses : FileFault → List ℕ → List ℕ → Refusal → Type 0
Refuses e before after r = Told r.fault before after r.length (number r.fault) × ((r.fault ≡ e) ⊎ (r.fault ≡ Memory))
