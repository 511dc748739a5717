-- What a roster is, what each call answers on it, and what it is afterwards. Assumes nothing.
use Rattle.std.specs.Prelude.{◌≡◌, ℕ, zero, suc, ◌+◌, ◌<◌, Bool, true, false, cond, List, [], ◌∷◌, ◌++◌, length, drop, Some, None, Ok, Err, Option, Result, nat_le, nat_lt, slice_set}
use Rattle.std.specs.List.{slice_get}
use Rattle.model.specs.Meaning.{Meaning, Starts, guarded}
use Rattle.ctl.specs.Decision.{any_below, verdict_at}
use Rattle.ctl.specs.Formula.{Formula, constant, literal, join, path, negation}
use Rattle.ctl.specs.KPath.{Witness}
use Rattle.ctl.specs.Truth.{upto, True}
use Rattle.ctl.specs.declared.Quantifier.{Quantifier}
use Rattle.ctl.specs.declared.Quantifier.TheVariants.{All, Exists}
use Rattle.ctl.specs.declared.Verdict.{Verdict}
use Rattle.ctl.specs.declared.Verdict.TheVariants.{Holds, Fails, Undecided}
use Rattle.rule.specs.Faults.{Sized, Earns}
use Rattle.rule.specs.Grammar.{Means}
use Rattle.rule.specs.declared.fault.RuleFault.{RuleFault}
use Rattle.guarantee.specs.Limits.{most_states, most_rules, most_bound}
use Rattle.guarantee.specs.Looks.{looks_at}
use Rattle.guarantee.specs.Records.{no_record, known_at, found_by, noted}
use Rattle.guarantee.specs.declared.answer.Settled.{Settled}
use Rattle.guarantee.specs.declared.answer.Tried.{Tried}
use Rattle.guarantee.specs.declared.fault.RosterFault.{RosterFault}
use Rattle.guarantee.specs.declared.fault.RosterFault.TheVariants.{Opened, Size, NoStart, Blank, Full, Rule, NotLaid, Bound, NoVerdict, Root, Room, Looks}
use Rattle.guarantee.specs.declared.record.Record.{Record}

-- a rule as it is laid, with its record
pub record Entry : Type 0 where
  pub formula : Formula
  pub said : Record

-- a roster: blank, or open on a model, of which it keeps the answers, with the rules laid, by their numbers
pub data State : Type 0 where
  blank : State
  opened : Meaning → List Entry → State

-- ---- open

-- has the model a state and no more than a roster takes, and is one of them a start?
abbrev pub model_fault : Meaning → Option RosterFault
model_fault m =
    cond (nat_le 1 m.count)
    (cond (nat_le m.count most_states) (cond (any_below (Starts m) m.count) None (Some NoStart)) (Some Size))
    (Some Size)

-- open's refusal, if it is refused
abbrev pub open_fault : State → Meaning → Option RosterFault
open_fault blank m = model_fault m
open_fault (opened n es) m = Some Opened

-- the roster on a model with no rule laid
abbrev pub just_opened : Meaning → State
just_opened m = opened (guarded m) []

-- a refusal leaves the roster as it was
abbrev pub opened_by : Option RosterFault → State → Meaning → State
opened_by (Some e) s m = s
opened_by None s m = just_opened m

-- the roster after open
abbrev pub open_after : State → Meaning → State
open_after s m = opened_by (open_fault s m) s m

-- ---- lay

-- a rule laid anew
abbrev pub fresh_entry : Formula → Entry
fresh_entry f = record { formula = f; said = no_record }

-- lay's refusal before the text is read
abbrev pub lay_fault : State → Option RosterFault
lay_fault blank = Some Blank
lay_fault (opened m es) = cond (nat_lt (length es) most_rules) None (Some Full)

-- what the grammar has of a text: a rule's formula, or the fault that the text earns; want of memory is neither
abbrev pub ReadsAs : List ℕ → Result Formula RuleFault → Type 0
ReadsAs text (Ok f) = Sized text × Means text f
ReadsAs text (Err e) = Earns text e

-- the number of the rule that is laid next
abbrev pub next_number : State → ℕ
next_number blank = 0
next_number (opened m es) = length es

-- the answer, once the text is read
abbrev pub lay_answer : State → Result Formula RuleFault → Result ℕ RosterFault
lay_answer s (Ok f) = Ok (next_number s)
lay_answer s (Err e) = Err (Rule e)

-- a rule is added with an empty record
abbrev pub with_rule : State → Formula → State
with_rule blank f = blank
with_rule (opened m es) f = opened m (es ++ (fresh_entry f ∷ []))

-- the roster, once the text is read
abbrev pub lay_after : State → Result Formula RuleFault → State
lay_after s (Ok f) = with_rule s f
lay_after s (Err e) = s

-- with its refusal before it reads, if there is one; else it answers by what it reads
abbrev pub LaysBy : Option RosterFault → State → List ℕ → Result ℕ RosterFault → State → Type 0
LaysBy (Some e) s text a s' = (a ≡ Err e) × (s' ≡ s)
LaysBy None s text a s' = (r : Result Formula RuleFault) × ReadsAs text r × (a ≡ lay_answer s r) × (s' ≡ lay_after s r)

-- lay of a text answers a and leaves s'
abbrev pub Lays : State → List ℕ → Result ℕ RosterFault → State → Type 0
Lays s text a s' = LaysBy (lay_fault s) s text a s'

-- ---- try

-- from the record with no looks, and else by evaluation, if its cost is within the limit
abbrev pub judged : Meaning → Formula → ℕ → ℕ → Option Verdict → Result Tried RosterFault
judged m f k limit (Some v) = Ok (record { verdict = v; looks = 0 })
judged m f k limit None =
    cond (nat_le (looks_at m f k) limit) (Ok (record { verdict = verdict_at m f k; looks = looks_at m f k })) (Err Looks)

-- is the rule laid, is the bound one that may be tried?
abbrev pub try_entry : Meaning → Option Entry → ℕ → ℕ → Result Tried RosterFault
try_entry m None k limit = Err NotLaid
try_entry m (Some e) k limit = cond (nat_le k most_bound) (judged m e.formula k limit (known_at e.said k)) (Err Bound)

-- what a try of rule i at bound k with this limit answers
abbrev pub try_answer : State → ℕ → ℕ → ℕ → Result Tried RosterFault
try_answer blank i k limit = Err Blank
try_answer (opened m es) i k limit = try_entry m (slice_get es i) k limit

-- the entry with bound k noted as v
abbrev pub with_note : Entry → ℕ → Verdict → Entry
with_note e k v = record { formula = e.formula; said = noted e.said k v }

-- one record takes what was evaluated; what the record answered or what was refused changes nothing
abbrev pub noted_in : List Entry → ℕ → ℕ → Entry → Option Verdict → Result Tried RosterFault → List Entry
noted_in es i k e (Some v) a = es
noted_in es i k e None (Ok t) = slice_set es i (with_note e k t.verdict)
noted_in es i k e None (Err x) = es

-- the entries after a try of rule i at bound k with the answer a
abbrev pub entries_after : List Entry → ℕ → ℕ → Option Entry → Result Tried RosterFault → List Entry
entries_after es i k None a = es
entries_after es i k (Some e) a = noted_in es i k e (known_at e.said k) a

-- the roster after a try
abbrev pub try_after : State → ℕ → ℕ → ℕ → State
try_after blank i k limit = blank
try_after (opened m es) i k limit = opened m (entries_after es i k (slice_get es i) (try_entry m (slice_get es i) k limit))

-- ---- settle

-- what a settle leaves and what it answers
pub record Settling : Type 0 where
  pub entries : List Entry
  pub answer : Settled

-- a verdict ends it; else it goes on
abbrev pub settle_by : Verdict → Settling → (Unit {0} → Settling) → Settling
settle_by Holds done more = done
settle_by Fails done more = done
settle_by Undecided done more = more tt

-- after one try at bound k: its looks are added, or it is passed over
abbrev pub settle_on : List Entry → ℕ → ℕ → ℕ → Result Tried RosterFault → (ℕ → ℕ → Settling) → Settling
settle_on es k looks passed (Ok t) more =
    settle_by t.verdict (record { entries = es; answer = record { verdict = t.verdict; bound = k; looks = looks + t.looks; passed = passed } })
    (λ _. more (looks + t.looks) passed)
settle_on es k looks passed (Err e) more = more looks (suc passed)

-- so many tries of rule i are left, at bounds k, k + 1 and so on; out of bounds it would answer undecided
abbrev pub settle_from : Meaning → ℕ → ℕ → ℕ → List Entry → ℕ → ℕ → ℕ → Settling
settle_from m i limit zero es k looks passed =
    record { entries = es; answer = record { verdict = Undecided; bound = m.count; looks = looks; passed = passed } }
settle_from m i limit (suc left) es k looks passed =
    settle_on (entries_after es i k (slice_get es i) (try_entry m (slice_get es i) k limit)) k looks passed (try_entry m (slice_get es i) k limit)
    (λ n p. settle_from m i limit left (entries_after es i k (slice_get es i) (try_entry m (slice_get es i) k limit)) (suc k) n p)

-- from bound 0 up to the count of states
abbrev pub whole_settle : Meaning → List Entry → ℕ → ℕ → Settling
whole_settle m es i limit = settle_from m i limit (suc m.count) es 0 0 0

-- is the rule laid?
abbrev pub settle_entry : Meaning → List Entry → ℕ → ℕ → Option Entry → Result Settled RosterFault
settle_entry m es i limit None = Err NotLaid
settle_entry m es i limit (Some e) = Ok (whole_settle m es i limit).answer

-- what a settle of rule i with this limit answers
abbrev pub settle_answer : State → ℕ → ℕ → Result Settled RosterFault
settle_answer blank i limit = Err Blank
settle_answer (opened m es) i limit = settle_entry m es i limit (slice_get es i)

-- the entries after a settle; of no rule, as they were
abbrev pub settle_entries : Meaning → List Entry → ℕ → ℕ → Option Entry → List Entry
settle_entries m es i limit None = es
settle_entries m es i limit (Some e) = (whole_settle m es i limit).entries

-- the roster after a settle
abbrev pub settle_after : State → ℕ → ℕ → State
settle_after blank i limit = blank
settle_after (opened m es) i limit = opened m (settle_entries m es i limit (slice_get es i))

-- ---- standing

-- the record, if the rule is laid
abbrev pub standing_entry : Option Entry → Result Record RosterFault
standing_entry None = Err NotLaid
standing_entry (Some e) = Ok e.said

-- what standing answers of rule i
abbrev pub standing_answer : State → ℕ → Result Record RosterFault
standing_answer blank i = Err Blank
standing_answer (opened m es) i = standing_entry (slice_get es i)

-- ---- path

-- E can show that a rule holds, A that it fails
abbrev pub quantifier_shows : Quantifier → Verdict → Bool
quantifier_shows Exists Holds = true
quantifier_shows Exists Fails = false
quantifier_shows Exists Undecided = false
quantifier_shows All Holds = false
quantifier_shows All Fails = true
quantifier_shows All Undecided = false

-- is the root of the rule E for holds, A for fails?
abbrev pub root_shows : Formula → Verdict → Bool
root_shows (constant b) v = false
root_shows (literal b c) v = false
root_shows (join op f g) v = false
root_shows (path q x) v = quantifier_shows q v

-- is a verdict recorded at or below the bound, does the root show it, has the buffer room, is the cost within the limit?
abbrev pub witness_fault : Meaning → Formula → ℕ → ℕ → ℕ → Option Verdict → Option RosterFault
witness_fault m f k limit room None = Some NoVerdict
witness_fault m f k limit room (Some v) =
    cond (root_shows f v) (cond (nat_le (suc k) room) (cond (nat_le (looks_at m f k) limit) None (Some Looks)) (Some Room)) (Some Root)

-- is the rule laid, is the bound one that may be tried?
abbrev pub entry_path_fault : Meaning → Option Entry → ℕ → ℕ → ℕ → Option RosterFault
entry_path_fault m None k limit room = Some NotLaid
entry_path_fault m (Some e) k limit room =
    cond (nat_le k most_bound) (witness_fault m e.formula k limit room (found_by e.said.found k)) (Some Bound)

-- path's refusal, if it is refused
abbrev pub path_fault : State → ℕ → ℕ → ℕ → ℕ → Option RosterFault
path_fault blank i k limit room = Some Blank
path_fault (opened m es) i k limit room = entry_path_fault m (slice_get es i) k limit room

-- s is the lowest number with P
pub record Lowest (P : ℕ → Type 0) (s : ℕ) : Type 0 where
  pub here : P s
  pub least : (t : ℕ) → t < s → P t → ⊥

-- l is a witness for the path part under the E at the root of f, from the lowest state with P
abbrev pub ShownFrom : Meaning → (ℕ → Type 0) → Formula → ℕ → List ℕ → Type 0
ShownFrom m P (constant b) k l = ⊥
ShownFrom m P (literal b c) k l = ⊥
ShownFrom m P (join op f g) k l = ⊥
ShownFrom m P (path All x) k l = ⊥
ShownFrom m P (path Exists x) k l = (s : ℕ) × Lowest P s × Witness m x k s l

-- l shows the verdict: for holds from the lowest start, for fails from the lowest start at which the negation is true at k
abbrev pub Shows : Meaning → Formula → ℕ → Verdict → List ℕ → Type 0
Shows m f k Holds l = ShownFrom m (λ s. Starts m s ≡ true) f k l
Shows m f k Fails l = ShownFrom m (λ s. (Starts m s ≡ true) × True m (negation f) (upto k) s) (negation f) k l
Shows m f k Undecided l = ⊥

-- l shows the verdict that was found
abbrev pub ShowsFound : Meaning → Formula → ℕ → Option Verdict → List ℕ → Type 0
ShowsFound m f k None l = ⊥
ShowsFound m f k (Some v) l = Shows m f k v l

-- l shows the verdict that the entry has at or below k
abbrev pub EntryShows : Meaning → Option Entry → ℕ → List ℕ → Type 0
EntryShows m None k l = ⊥
EntryShows m (Some e) k l = ShowsFound m e.formula k (found_by e.said.found k) l

-- l shows the verdict that is recorded of rule i at or below k
abbrev pub ShowsRecorded : State → ℕ → ℕ → List ℕ → Type 0
ShowsRecorded blank i k l = ⊥
ShowsRecorded (opened m es) i k l = EntryShows m (slice_get es i) k l

-- a refusal leaves the buffer; else k + 1 states are written from its front and the rest keeps its bytes
abbrev pub WritesBy : Option RosterFault → State → ℕ → ℕ → List ℕ → Result ℕ RosterFault → List ℕ → Type 0
WritesBy (Some e) s i k buffer a buffer' = (a ≡ Err e) × (buffer' ≡ buffer)
WritesBy None s i k buffer a buffer' =
    (a ≡ Ok (suc k)) × ((l : List ℕ) × ShowsRecorded s i k l × (buffer' ≡ l ++ drop (suc k) buffer))

-- path answers a and leaves buffer'; it changes no roster
abbrev pub Writes : State → ℕ → ℕ → ℕ → List ℕ → Result ℕ RosterFault → List ℕ → Type 0
Writes s i k limit buffer a buffer' = WritesBy (path_fault s i k limit (length buffer)) s i k buffer a buffer'
