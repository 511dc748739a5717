-- The fault that a rule text earns, with its number and its place.
use Rattle.std.specs.Prelude.{◌≡◌, ℕ, ◌<◌, ◌≤◌, List, length, Some, None, Option, ◌≢◌, slice_index}
use Rattle.rule.specs.Grammar.{Lawful, Reach}
use Rattle.rule.specs.Signs.{sign_of}
use Rattle.rule.specs.declared.fault.RuleFault.{RuleFault}
use Rattle.rule.specs.declared.fault.RuleFault.TheVariants.{Length, NoSign, Misplaced, Unfinished, Memory}
use Rattle.rule.specs.declared.sign.Sign.TheVariants.{Other}

-- the number of a refusal; want of memory has none
abbrev pub number : RuleFault → Option ℕ
number Length = Some 6
number (NoSign p) = Some 7
number (Misplaced p) = Some 8
number (Unfinished p) = Some 9
number Memory = None

-- the place that a refusal points at
abbrev pub place : RuleFault → ℕ
place Length = 0
place (NoSign p) = p
place (Misplaced p) = p
place (Unfinished p) = p
place Memory = 0

-- the text has 1 to 255 bytes
abbrev pub Sized : List ℕ → Type 0
Sized text = (1 ≤ length text) × (length text ≤ 255)

-- the text is to be taken: it has 1 to 255 bytes and is a rule
abbrev pub Taken : List ℕ → Type 0
Taken text = Sized text × Lawful text

-- the first question that the text fails: has it 1 to 255 bytes; if its reach is short of its end, is the byte there a sign;
-- is the reach its end; is it a rule. No text earns want of memory.
abbrev pub Earns : List ℕ → RuleFault → Type 0
Earns text Length = Sized text → ⊥
Earns text (NoSign p) = Sized text × Reach text p × (p < length text) × (sign_of (slice_index text p) ≡ Other)
Earns text (Misplaced p) = Sized text × Reach text p × (p < length text) × (sign_of (slice_index text p) ≢ Other)
Earns text (Unfinished p) = Sized text × Reach text p × (p ≡ length text) × (Lawful text → ⊥)
Earns text Memory = ⊥
