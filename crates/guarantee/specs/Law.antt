-- The guarantee: what may be relied on after any list of calls, in terms of calls and answers only. Assumes nothing.
use Rattle.std.specs.Prelude.{◌≡◌, ℕ, ◌<◌, ◌≤◌, List, [], ◌∷◌, ◌++◌, map, length, Some, None, Ok, Err, Option, Result}
use mathlib.Core.List.{Memᴰ}
use Rattle.model.specs.Meaning.{Meaning}
use Rattle.ctl.specs.Formula.{Formula}
use Rattle.ctl.specs.States.{decided_from}
use Rattle.ctl.specs.Verdict.{Decided, DecidingBound, Means}
use Rattle.ctl.specs.declared.Verdict.{Verdict}
use Rattle.ctl.specs.declared.Verdict.TheVariants.{Undecided}
use Rattle.rule.specs.Grammar.{Means as GrammarMeans, Lawful}
use Rattle.guarantee.specs.Calls.{Call, Answer}
use Rattle.guarantee.specs.Limits.{most_bound}
use Rattle.guarantee.specs.Looks.{looks_at}
use Rattle.guarantee.specs.Tries.{Laid, laid, Try, WantsLooks, StandsFor, Told, told}
use Rattle.guarantee.specs.declared.answer.Tried.{Tried}
use Rattle.guarantee.specs.declared.fault.RosterFault.{RosterFault}

-- a call with its answer and the tries that they stand for
pub record Event : Type 0 where
  pub call : Call
  pub answer : Answer
  pub tries : List Try
  pub made : StandsFor call answer tries

-- one thing or none, as a list
abbrev pub listed : {A : Type 0} → Option A → List A
listed None = []
listed (Some x) = x ∷ []

-- the texts that were laid, in their order
abbrev pub laid_in : List Event → List Laid
laid_in [] = []
laid_in (x ∷ xs) = listed (laid x.call x.answer) ++ laid_in xs

-- f is the rule under number r: the formula that the grammar has of a text that was laid with the answer r
pub record RuleUnder (events : List Event) (r : ℕ) (f : Formula) : Type 0 where
  pub text : List ℕ
  pub answered : Memᴰ (record { number = r; text = text }) (laid_in events)
  pub means : GrammarMeans text f

-- P of each event, with the events before it
abbrev pub Each : (List Event → Event → Type 0) → List Event → List Event → Type 0
Each P before [] = Unit {0}
Each P before (x ∷ xs) = P before x × Each P (before ++ (x ∷ [])) xs

-- a text that is laid is a rule, and its number is the count of the rules laid before
abbrev pub Numbered : List Event → Event → Type 0
Numbered before x = (l : Laid) → laid x.call x.answer ≡ Some l → (l.number ≡ length (laid_in before)) × Lawful l.text

-- a verdict that is told is of a rule laid before, and it is what it says over endless paths
abbrev pub Truthful : Meaning → List Event → Event → Type 0
Truthful m before x = (t : Told) → told x.call x.answer ≡ Some t
    → (f : Formula) × RuleUnder before t.rule f × Means m f t.verdict

-- an answered try below the bound d said undecided, any other said v
abbrev pub Said : ℕ → Verdict → ℕ → Result Tried RosterFault → Type 0
Said d v k (Ok t) = (k < d → t.verdict ≡ Undecided) × (d ≤ k → t.verdict ≡ v)
Said d v k (Err e) = Unit {0}

-- the rule f, under number r, has exactly one deciding bound, fixed by model and rule alone and at most the count of states;
-- the answered tries of r said undecided below it, and from there on one verdict
pub record DecidedOnce (m : Meaning) (events : List Event) (r : ℕ) (f : Formula) : Type 0 where
  pub bound : ℕ
  pub verdict : Verdict
  pub deciding : DecidingBound m f bound verdict
  pub only : (n : ℕ) (v : Verdict) → DecidingBound m f n v → (n ≡ bound) × (v ≡ verdict)
  pub early : bound ≤ decided_from m
  pub said : (x : Event) (t : Try) → Memᴰ x events → Memᴰ t x.tries → t.rule ≡ r → Said bound verdict t.bound t.outcome

-- the rule's try is refused only for want of looks, its cost being above the limit; from the count of states up it is
-- answered, and with a verdict
abbrev pub RefusedForLooks : Meaning → Formula → ℕ → ℕ → Result Tried RosterFault → Type 0
RefusedForLooks m f k limit (Ok t) = decided_from m ≤ k → Decided t.verdict
RefusedForLooks m f k limit (Err e) = WantsLooks e × (limit < looks_at m f k) × (k < decided_from m)

-- so it is for each try of a rule laid before, at each bound that may be tried, whatever its limit
abbrev pub Answering : Meaning → List Event → Event → Type 0
Answering m before x = (t : Try) (f : Formula) → Memᴰ t x.tries → RuleUnder before t.rule f → t.bound ≤ most_bound
    → RefusedForLooks m f t.bound t.limit t.outcome

-- what is promised of calls on a roster just opened on a model with the meaning m
pub record Guarantee (m : Meaning) (calls : List Call) (answers : List Answer) : Type 0 where
  -- each call has its answer
  pub events : List Event
  pub calls_are : map (λ x. x.call) events ≡ calls
  pub answers_are : map (λ x. x.answer) events ≡ answers
  -- rules are numbered from 0
  pub numbered : Each Numbered [] events
  -- a verdict told is true for ever
  pub truthful : Each (Truthful m) [] events
  -- a rule has one deciding bound
  pub decided : (r : ℕ) (f : Formula) → RuleUnder events r f → DecidedOnce m events r f
  -- a try is refused only for want of looks
  pub answering : Each (Answering m) [] events
