-- Every run on an open roster with no rule laid has the guarantee.
use Rattle.std.proofs.Common.{◌≡◌, ℕ, ◌<◌, ◌≤◌, ◌⊎◌, List, [], ◌∷◌, ◌++◌, map, Some, None, Ok, Err, Option, Result, sym, refl, ap, ◌∙◌, subst, inl, inr, append_assoc, append-nil, arith}
use Rattle.std.proofs.lemmas.Option.{same_Some, none-some}
use mathlib.Core.List.Memᴰ
use mathlib.Core.List.{Memᴰ}
use native.Mathlib.Decide.{dec_le}
use Rattle.std.specs.List.{slice_get}
use Rattle.model.specs.Meaning.{Meaning, Total}
use Rattle.ctl.proofs.Judging as judging
use Rattle.ctl.proofs.Looking.{free_where_decided}
use Rattle.ctl.specs.Formula.{Formula}
use Rattle.ctl.specs.States.{decided_from}
use Rattle.ctl.specs.Verdict.{Decided}
use Rattle.ctl.specs.declared.Verdict.TheVariants.{Undecided}
use Rattle.guarantee.specs.Calls.{Call, Answer}
use Rattle.guarantee.specs.Claims.{EveryRunIsGuaranteed}
use Rattle.guarantee.specs.Faults.{number}
use Rattle.guarantee.specs.Law.{Event, listed, laid_in, RuleUnder, Each, Numbered, Truthful, Said, DecidedOnce, RefusedForLooks, Answering}
use Rattle.guarantee.specs.Limits.{most_states, most_bound}
use Rattle.guarantee.specs.Rights.{AllRight}
use Rattle.guarantee.specs.Runs.{Step, Run, none, next}
use Rattle.guarantee.specs.States.{State, opened, Entry}
use Rattle.guarantee.specs.Tries.{Laid, laid, Try, Told, told}
use Rattle.guarantee.specs.declared.answer.Tried.{Tried}
use Rattle.guarantee.specs.declared.fault.RosterFault.{RosterFault}
use Rattle.guarantee.proofs.Numbering.{Kept, Grown, as_many, kept_on, rule_at, at_the_rule, laid_in_both}
use Rattle.guarantee.proofs.Stepping.{FairOf, Fair, TrueTold, Stepped, steps}
use Rattle.guarantee.proofs.Trying.{Judges, formulas}

-- ---- each event of a run, with those before it

-- what is known at an event
record Seen (m : Meaning) (before : List Event) (x : Event) : Type 0 where
  pub rules : List Formula
  pub kept : Kept 0 (laid_in before) rules
  pub after : List Formula
  pub grown : Grown (laid x.call x.answer) rules after
  pub truth : (t : Told) → told x.call x.answer ≡ Some t → TrueTold m rules t
  pub fair : (t : Try) → Memᴰ t x.tries → Fair m rules t

-- the events of a run that goes on after others
record Along (m : Meaning) (before : List Event) (cs : List Call) (as' : List Answer) : Type 0 where
  pub events : List Event
  pub calls_are : map (λ x. x.call) events ≡ cs
  pub answers_are : map (λ x. x.answer) events ≡ as'
  pub seen : Each (Seen m) before events
  pub rules : List Formula
  pub kept : Kept 0 (laid_in (before ++ events)) rules

-- what P gives, each event with P gives
pub each_so : (P Q : List Event → Event → Type 0) → ((before : List Event) (x : Event) → P before x → Q before x) → (before xs : List Event) → Each P before xs → Each Q before xs
each_so P Q h before [] e = tt
each_so P Q h before (x ∷ xs) e = (h before x e.0, each_so P Q h (before ++ (x ∷ [])) xs e.1)

-- an event of the list has P, with events before it whose texts were laid in the whole
pub record Stood (P : List Event → Event → Type 0) (all : List Event) (x : Event) : Type 0 where
  pub before : List Event
  pub inside : (l : Laid) → Memᴰ l (laid_in before) → Memᴰ l (laid_in all)
  pub here : P before x

each_at : (P : List Event → Event → Type 0) (before xs : List Event) → Each P before xs → (x : Event) → Memᴰ x xs → Stood P (before ++ xs) x
each_at P before [] e x z = absurd (Memᴰ.not-nil z)
each_at P before (y ∷ ys) e x z =
    go (Memᴰ.cases_cons z)
    (λ z'. subst (λ l. Stood P l x) (append_assoc before (y ∷ []) ys) (each_at P (before ++ (y ∷ [])) ys e.1 x z'))
  where
    go : (x ≡ y) ⊎ Memᴰ x ys → (Memᴰ x ys → Stood P (before ++ (y ∷ ys)) x) → Stood P (before ++ (y ∷ ys)) x
    go (inl q) later = record {
      before = before;
      inside = λ l w. subst (λ ls. Memᴰ l ls) (sym (laid_in_both before (y ∷ ys))) (Memᴰ.append_left (laid_in (y ∷ ys)) w);
      here = subst (P before) (sym q) e.0;
    }
    go (inr z) later = later z

module _ (m : Meaning) (law : Total m) (small : m.count ≤ most_states) where
  along : (before : List Event) (es : List Entry) {s u : State} {cs : List Call} {as' : List Answer} → s ≡ opened m es → AllRight m es
      → Kept 0 (laid_in before) (formulas es) → Run s cs as' u → Along m before cs as'
  along before es q h k none = record {
    events = [];
    calls_are = refl;
    answers_are = refl;
    seen = tt;
    rules = formulas es;
    kept = subst (λ xs. Kept 0 (laid_in xs) (formulas es)) (sym (append-nil before)) k;
  }
  along before es q h k (next {t} {c} {a} {cs} {as'} st r) =
      let d : Stepped m es c a t = steps m law small es h (subst (λ s. Step s c a t) q st) in
      let x : Event = record { call = c; answer = a; tries = d.made; made = d.stand_for } in
      let kept_so : Kept 0 (laid_in (before ++ (x ∷ []))) (formulas d.entries) =
      subst (λ ls. Kept 0 ls (formulas d.entries)) (sym (laid_in_both before (x ∷ []) ∙ ap (λ l. laid_in before ++ l) (append-nil (listed (laid c a)))))
      (kept_on (laid_in before) (formulas es) (formulas d.entries) (laid c a) k d.grown) in
      let rest : Along m (before ++ (x ∷ [])) cs as' = along (before ++ (x ∷ [])) d.entries d.state d.right kept_so r in
      record {
        events = x ∷ rest.events;
        calls_are = ap (λ l. c ∷ l) rest.calls_are;
        answers_are = ap (λ l. a ∷ l) rest.answers_are;
        seen = (
          record { rules = formulas es; kept = k; after = formulas d.entries; grown = d.grown; truth = d.truth; fair = d.fair },
          rest.seen,
        );
        rules = rest.rules;
        kept = subst (λ xs. Kept 0 (laid_in xs) rest.rules) (append_assoc before (x ∷ []) rest.events) rest.kept;
      }

  -- ---- the four promises

  numbers : (before : List Event) (x : Event) → Seen m before x → Numbered before x
  numbers before x d = λ l e.
      let g = subst (λ o. Grown o d.rules d.after) e d.grown in
      (g.2 ∙ sym (as_many 0 (laid_in before) d.rules d.kept), (g.0, g.3))

  truths : (before : List Event) (x : Event) → Seen m before x → Truthful m before x
  truths before x d t e =
      let w = d.truth t e in
      (w.0, rule_at before d.rules d.kept t.rule w.0 w.1, w.2)

  for_looks : (f : Formula) (k limit : ℕ) (a : Result Tried RosterFault) → k ≤ most_bound → Judges m f k limit a → RefusedForLooks m f k limit a
  for_looks f k limit (Ok t) l j = λ c. subst Decided j (judging.decided_on m law f k c)
  for_looks f k limit (Err e) l j = (ap number (j l).0, (j l).1, lower (dec_le (decided_from m) k))
    where
      lower : Dec (decided_from m ≤ k) → k < decided_from m
      lower (yes c) = absurd (omega (arith, (j l).1, free_where_decided m f k c))
      lower (no c) = omega arith

  answers : (before : List Event) (x : Event) → Seen m before x → Answering m before x
  answers before x d t f z u l =
      for_looks f t.bound t.limit t.outcome l
      (subst (λ o. FairOf m o t.bound t.limit t.outcome) (at_the_rule before d.rules d.kept t.rule f u) (d.fair t z))

  said : (f : Formula) (k limit : ℕ) (a : Result Tried RosterFault) → Judges m f k limit a
      → Said (judging.decides_once m law f).bound (judging.decides_once m law f).verdict k a
  said f k limit (Ok t) j =
      let d = judging.decides_once m law f in (
        (λ l. sym j ∙ sym ((judging.only_the_computed m f k Undecided).0 (d.deciding.below k l))),
        (λ l. sym j ∙ sym ((judging.only_the_computed m f k d.verdict).0 (d.stays k l))),
      )
  said f k limit (Err e) j = tt

  -- a try at an event of the run, of a rule that is laid somewhere in it
  said_at : (events : List Event) (rules : List Formula) → Kept 0 (laid_in events) rules → (f : Formula) (t : Try) → slice_get rules t.rule ≡ Some f
      → (x : Event) (d : Stood (Seen m) events x) → Memᴰ t x.tries
      → Said (judging.decides_once m law f).bound (judging.decides_once m law f).verdict t.bound t.outcome
  said_at events rules k f t at_t x d z = go (slice_get d.here.rules t.rule) refl t.outcome (d.here.fair t z)
    where
      go : (o : Option Formula) → slice_get d.here.rules t.rule ≡ o → (a : Result Tried RosterFault) → FairOf m o t.bound t.limit a
          → Said (judging.decides_once m law f).bound (judging.decides_once m law f).verdict t.bound a
      go None q (Ok y) w = absurd w
      go None q (Err y) w = tt
      go (Some g) q a w =
          let u = rule_at d.before d.here.rules d.here.kept t.rule g q in
          let v : RuleUnder events t.rule g = record { text = u.text; answered = d.inside (record { number = t.rule; text = u.text }) u.answered; means = u.means } in
          let e : g ≡ f = same_Some _ _ (sym (at_the_rule events rules k t.rule g v) ∙ at_t) in
          said f t.bound t.limit a (subst (λ h. Judges m h t.bound t.limit a) e w)

  once : (events : List Event) (rules : List Formula) → Kept 0 (laid_in events) rules → Each (Seen m) [] events → (r : ℕ) (f : Formula) → RuleUnder events r f
      → DecidedOnce m events r f
  once events rules k e r f u =
      let d = judging.decides_once m law f in
      let at_r : slice_get rules r ≡ Some f = at_the_rule events rules k r f u in
      record {
        bound = d.bound;
        verdict = d.verdict;
        deciding = d.deciding;
        only = d.only;
        early = d.early;
        said = λ x t zx zt q. said_at events rules k f t (ap (λ i. slice_get rules i) q ∙ at_r) x (each_at (Seen m) [] events e x zx) zt;
      }

pub every_run_is_guaranteed : EveryRunIsGuaranteed
every_run_is_guaranteed m law small calls answers_told s r =
    let d = along m law small [] [] refl (λ i e q. absurd (none-some _ q)) tt r in
    record {
      events = d.events;
      calls_are = d.calls_are;
      answers_are = d.answers_are;
      numbered = each_so (Seen m) Numbered (numbers m law small) [] d.events d.seen;
      truthful = each_so (Seen m) (Truthful m) (truths m law small) [] d.events d.seen;
      decided = once m law small d.events d.rules d.kept d.seen;
      answering = each_so (Seen m) (Answering m) (answers m law small) [] d.events d.seen;
    }
