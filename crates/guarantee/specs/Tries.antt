-- How the guarantee reads a call with its answer: what was laid, which tries were made, what was told. A new call on an open
-- roster is added here. Assumes nothing.
use Rattle.std.specs.Prelude.{◌≡◌, ℕ, suc, ◌+◌, List, [], ◌∷◌, Some, None, Ok, Err, Option, Result}
use Rattle.ctl.specs.Verdict.{Decided}
use Rattle.ctl.specs.declared.Verdict.{Verdict}
use Rattle.ctl.specs.declared.Verdict.TheVariants.{Undecided}
use Rattle.guarantee.specs.Calls.{Call, lay, try, settle, standing, path, Answer, to_lay, to_try, to_settle, to_standing, to_path}
use Rattle.guarantee.specs.Faults.{number}
use Rattle.guarantee.specs.declared.answer.Settled.{Settled}
use Rattle.guarantee.specs.declared.answer.Tried.{Tried}
use Rattle.guarantee.specs.declared.fault.RosterFault.{RosterFault}
use Rattle.guarantee.specs.declared.record.Found.{Found}
use Rattle.guarantee.specs.declared.record.Record.{Record}

-- both, where both are there
abbrev pub both_there : {A B C : Type 0} → (A → B → C) → Option A → Option B → Option C
both_there f None b = None
both_there f (Some a) None = None
both_there f (Some a) (Some b) = Some (f a b)

-- ---- what was laid

-- a text that was taken, and the number that it was given
pub record Laid : Type 0 where
  pub number : ℕ
  pub text : List ℕ

-- the text that a call brings
abbrev pub text_in : Call → Option (List ℕ)
text_in (lay text) = Some text
text_in (try i k limit) = None
text_in (settle i limit) = None
text_in (standing i) = None
text_in (path i k limit buffer) = None

-- the number that an answer gives to a rule
abbrev pub number_in : Answer → Option ℕ
number_in (to_lay (Ok n)) = Some n
number_in (to_lay (Err e)) = None
number_in (to_try a) = None
number_in (to_settle a) = None
number_in (to_standing a) = None
number_in (to_path a buffer) = None

-- the rule that a call with this answer laid, if it laid one
abbrev pub laid : Call → Answer → Option Laid
laid c a = both_there (λ t n. record { number = n; text = t }) (text_in c) (number_in a)

-- ---- which tries were made

-- a try of the rule of a number at a bound with a limit, and its answer or refusal
pub record Try : Type 0 where
  pub rule : ℕ
  pub bound : ℕ
  pub limit : ℕ
  pub outcome : Result Tried RosterFault

-- the refusal is for want of looks
abbrev pub WantsLooks : RosterFault → Type 0
WantsLooks e = number e ≡ Some 15

-- tries of rule i at bounds k, k + 1 and so on: each undecided, or refused for want of looks, the last with its verdict.
-- The answer tells that verdict and its bound, the looks of all together, and how many were refused.
pub data Climbs (i limit : ℕ) : ℕ → Settled → List Try → Type 0 where
  decides : {k n : ℕ} {v : Verdict} → Decided v
      → Climbs i limit k (record { verdict = v; bound = k; looks = n; passed = 0 })
      (record { rule = i; bound = k; limit = limit; outcome = Ok (record { verdict = v; looks = n }) } ∷ [])
  goes_on : {k n b looks passed : ℕ} {v : Verdict} {ts : List Try}
      → Climbs i limit (suc k) (record { verdict = v; bound = b; looks = looks; passed = passed }) ts
      → Climbs i limit k (record { verdict = v; bound = b; looks = n + looks; passed = passed })
      (record { rule = i; bound = k; limit = limit; outcome = Ok (record { verdict = Undecided; looks = n }) } ∷ ts)
  passes_over : {k b looks passed : ℕ} {v : Verdict} {e : RosterFault} {ts : List Try} → WantsLooks e
      → Climbs i limit (suc k) (record { verdict = v; bound = b; looks = looks; passed = passed }) ts
      → Climbs i limit k (record { verdict = v; bound = b; looks = looks; passed = suc passed })
      (record { rule = i; bound = k; limit = limit; outcome = Err e } ∷ ts)

-- the tries that a call with its answer stands for: a try for itself, a settle for tries from bound 0 up; and each call has
-- an answer of its own kind
pub data StandsFor : Call → Answer → List Try → Type 0 where
  lay_none : {text : List ℕ} {a : Result ℕ RosterFault} → StandsFor (lay text) (to_lay a) []
  try_itself : {i k limit : ℕ} {a : Result Tried RosterFault}
      → StandsFor (try i k limit) (to_try a) (record { rule = i; bound = k; limit = limit; outcome = a } ∷ [])
  settle_climbs : {i limit : ℕ} {a : Settled} {ts : List Try} → Climbs i limit 0 a ts → StandsFor (settle i limit) (to_settle (Ok a)) ts
  settle_refused : {i limit : ℕ} {e : RosterFault} → StandsFor (settle i limit) (to_settle (Err e)) []
  standing_none : {i : ℕ} {a : Result Record RosterFault} → StandsFor (standing i) (to_standing a) []
  path_none : {i k limit : ℕ} {buffer buffer' : List ℕ} {a : Result ℕ RosterFault} → StandsFor (path i k limit buffer) (to_path a buffer') []

-- ---- what was told

-- a verdict on the rule of a number
pub record Told : Type 0 where
  pub rule : ℕ
  pub verdict : Verdict

-- the rule number that a call names
abbrev pub rule_in : Call → Option ℕ
rule_in (lay text) = None
rule_in (try i k limit) = Some i
rule_in (settle i limit) = Some i
rule_in (standing i) = Some i
rule_in (path i k limit buffer) = Some i

-- the verdict of a record, if it has one
abbrev pub verdict_recorded : Option Found → Option Verdict
verdict_recorded None = None
verdict_recorded (Some x) = Some x.verdict

-- the verdict that an answer tells
abbrev pub verdict_in : Answer → Option Verdict
verdict_in (to_lay a) = None
verdict_in (to_try (Ok t)) = Some t.verdict
verdict_in (to_try (Err e)) = None
verdict_in (to_settle (Ok t)) = Some t.verdict
verdict_in (to_settle (Err e)) = None
verdict_in (to_standing (Ok r)) = verdict_recorded r.found
verdict_in (to_standing (Err e)) = None
verdict_in (to_path a buffer) = None

-- the verdict that a call with this answer told, if it told one
abbrev pub told : Call → Answer → Option Told
told c a = both_there (λ i v. record { rule = i; verdict = v }) (rule_in c) (verdict_in a)
