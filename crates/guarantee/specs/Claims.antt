-- What is proved of rosters as such; each statement is the contract of a function. Assumes nothing.
use Rattle.std.specs.Prelude.{◌≡◌, ℕ, ◌<◌, ◌≤◌, true, List, [], ◌∷◌, Some, None, Ok, Err, Result, ◌≢◌}
use Rattle.std.specs.List.{slice_get}
use Rattle.model.specs.Meaning.{Meaning, Starts, Total}
use Rattle.ctl.specs.Formula.{Formula, literal}
use Rattle.ctl.specs.States.{decided_from}
use Rattle.ctl.specs.Verdict.{Decided, VerdictIs}
use Rattle.ctl.specs.Worked.{single}
use Rattle.ctl.specs.declared.Verdict.{Verdict}
use Rattle.ctl.specs.declared.Verdict.TheVariants.{Holds, Undecided}
use Rattle.rule.specs.Grammar.{Means}
use Rattle.guarantee.specs.Calls.{Call, lay, try, settle, Answer, to_lay, to_try, to_settle, to_path}
use Rattle.guarantee.specs.Law.{Guarantee}
use Rattle.guarantee.specs.Limits.{most_states, most_bound}
use Rattle.guarantee.specs.Looks.{looks_at}
use Rattle.guarantee.specs.Rights.{AllRight}
use Rattle.guarantee.specs.Runs.{Step, Run}
use Rattle.guarantee.specs.States.{State, blank, opened, Entry, open_fault, just_opened, settle_answer, path_fault, ShowsRecorded}
use Rattle.guarantee.specs.declared.answer.Settled.{Settled}
use Rattle.guarantee.specs.declared.fault.RosterFault.{RosterFault}

-- every list of calls on an open roster with no rule laid has the guarantee, on every total model that a roster opens on
abbrev pub EveryRunIsGuaranteed : Type 0
EveryRunIsGuaranteed = (m : Meaning) → Total m → m.count ≤ most_states
    → (calls : List Call) (answers : List Answer) (s : State) → Run (opened m []) calls answers s → Guarantee m calls answers

-- so has every list of calls on a roster that open did not refuse, about the model that it was opened on
abbrev pub EveryOpenedRunIsGuaranteed : Type 0
EveryOpenedRunIsGuaranteed = (m : Meaning) → Total m → open_fault blank m ≡ None
    → (calls : List Call) (answers : List Answer) (s : State) → Run (just_opened m) calls answers s → Guarantee m calls answers

-- ---- answers that the guarantee rules out

-- a rule is laid, and then a call is answered so
abbrev pub RuledOut : Meaning → Formula → Call → Answer → Type 0
RuledOut m f c a = (text : List ℕ) → Means text f → Guarantee m (lay text ∷ c ∷ []) (to_lay (Ok 0) ∷ a ∷ []) → ⊥

-- on every model and for every rule: refusing a try at the count of states or leaving it undecided, refusing one with looks to
-- spare, changing a verdict, settling on nothing, a try answered as no try, a first rule with another number than 0, a call with
-- no answer
pub record RulesOut (m : Meaning) (f : Formula) : Type 0 where
  pub refusing : (limit : ℕ) (e : RosterFault) → decided_from m ≤ most_bound → RuledOut m f (try 0 (decided_from m) limit) (to_try (Err e))
  pub undecided : (limit n : ℕ) → decided_from m ≤ most_bound
      → RuledOut m f (try 0 (decided_from m) limit) (to_try (Ok (record { verdict = Undecided; looks = n })))
  pub looks_to_spare : (k limit : ℕ) (e : RosterFault) → k ≤ most_bound → looks_at m f k ≤ limit → RuledOut m f (try 0 k limit) (to_try (Err e))
  pub changing : (k n limit limit' looks looks' : ℕ) (v w : Verdict) → k ≤ n → Decided v → (w ≢ v) → (text : List ℕ) → Means text f
      → Guarantee m (lay text ∷ try 0 k limit ∷ try 0 n limit' ∷ [])
      (to_lay (Ok 0) ∷ to_try (Ok (record { verdict = v; looks = looks })) ∷ to_try (Ok (record { verdict = w; looks = looks' })) ∷ []) → ⊥
  pub settling_on_nothing : (limit b n p : ℕ)
      → RuledOut m f (settle 0 limit) (to_settle (Ok (record { verdict = Undecided; bound = b; looks = n; passed = p })))
  pub another_kind : (k limit n : ℕ) → RuledOut m f (try 0 k limit) (to_lay (Ok n))
  pub another_number : (text : List ℕ) (n : ℕ) → 0 < n → Guarantee m (lay text ∷ []) (to_lay (Ok n) ∷ []) → ⊥
  pub no_answer : (c : Call) → Guarantee m (c ∷ []) [] → ⊥

abbrev pub HollowRostersAreRuledOut : Type 0
HollowRostersAreRuledOut = (m : Meaning) (f : Formula) → RulesOut m f

-- on one state with no letter, the rule a is never answered with holds
abbrev pub AWrongVerdictIsRuledOut : Type 0
AWrongVerdictIsRuledOut = (k limit n : ℕ) → RuledOut single (literal true 97) (try 0 k limit) (to_try (Ok (record { verdict = Holds; looks = n })))

-- ---- what the states of a roster keep

-- after every call the roster is open on its model and its records are right
abbrev pub RecordsStayRight : Type 0
RecordsStayRight = (m : Meaning) → Total m → m.count ≤ most_states → (es : List Entry) → AllRight m es
    → (c : Call) (a : Answer) (s : State) → Step (opened m es) c a s → (es' : List Entry) × (s ≡ opened m es') × AllRight m es'

-- a settle of a laid rule answers its verdict, at a bound no later than where all is decided
pub record Settles (m : Meaning) (es : List Entry) (i limit : ℕ) (e : Entry) : Type 0 where
  pub answer : Settled
  pub is : settle_answer (opened m es) i limit ≡ Ok answer
  pub decided : Decided answer.verdict
  pub verdict : VerdictIs m e.formula answer.bound answer.verdict
  pub early : answer.bound ≤ decided_from m

abbrev pub SettleEnds : Type 0
SettleEnds = (m : Meaning) → Total m → m.count ≤ most_states → (es : List Entry) → AllRight m es
    → (i limit : ℕ) (e : Entry) → slice_get es i ≡ Some e → Settles m es i limit e

-- where path is not refused there is a path to write, if some state is a start
abbrev pub APathIsThere : Type 0
APathIsThere = (m : Meaning) → Total m → (s : ℕ) → Starts m s ≡ true → (es : List Entry) → AllRight m es
    → (i k limit room : ℕ) → path_fault (opened m es) i k limit room ≡ None → (l : List ℕ) × ShowsRecorded (opened m es) i k l

-- ---- that the calls have answers, and which

-- every list of calls on a roster that open did not refuse has answers
abbrev pub EveryListIsAnswered : Type 0
EveryListIsAnswered = (m : Meaning) → Total m → open_fault blank m ≡ None
    → (calls : List Call) → (answers : List Answer) × (s : State) × Run (just_opened m) calls answers s

-- the same answer, but that the states which path writes are left open
pub data Alike : Answer → Answer → Type 0 where
  equal : {a : Answer} → Alike a a
  paths : {r : Result ℕ RosterFault} {buffer buffer' : List ℕ} → Alike (to_path r buffer) (to_path r buffer')

-- a call on a roster has one answer and leaves one roster
abbrev pub AnswersAreFixed : Type 0
AnswersAreFixed = (s : State) (c : Call) (a b : Answer) (t u : State) → Step s c a t → Step s c b u → Alike a b × (t ≡ u)
