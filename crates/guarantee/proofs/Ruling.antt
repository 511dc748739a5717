-- Hollow rosters and a wrong verdict do not have the guarantee.
use Rattle.std.proofs.Common.{◌≡◌, ℕ, ◌<◌, ◌≤◌, true, List, [], ◌∷◌, ◌++◌, map, Some, Ok, Err, Result, sym, refl, ap, ◌∙◌, subst, ap₂, arith}
use mathlib.Core.Bool.{false≢true}
use mathlib.Core.List.Memᴰ
use mathlib.Core.List.{Memᴰ, nil≢cons as not_empty, head-eq_of_cons-eq as same_head, tail-eq_of_cons-eq as same_tail}
use Rattle.model.specs.Meaning.{Meaning}
use Rattle.ctl.specs.Formula.{Formula, literal}
use Rattle.ctl.specs.States.{decided_from}
use Rattle.ctl.specs.Verdict.{Decided}
use Rattle.ctl.specs.Verdict as verdicts
use Rattle.ctl.specs.Worked.{single}
use Rattle.ctl.specs.declared.Verdict.TheVariants.{Holds, Undecided}
use Rattle.rule.specs.Grammar.{Means}
use Rattle.rule.proofs.Formulas.{one_formula}
use Rattle.guarantee.specs.Calls.{Call, lay, try, settle, Answer, to_lay, to_try, to_settle}
use Rattle.guarantee.specs.Claims.{HollowRostersAreRuledOut, AWrongVerdictIsRuledOut}
use Rattle.guarantee.specs.Law.{Event, listed, laid_in, RuleUnder, Each, Numbered, Truthful, Said, DecidedOnce, RefusedForLooks, Answering, Guarantee}
use Rattle.guarantee.specs.Limits.{most_bound}
use Rattle.guarantee.specs.Tries.{laid, Try, StandsFor, try_itself, settle_climbs, Climbs, Told, told}
use Rattle.guarantee.specs.declared.answer.Settled.{Settled}
use Rattle.guarantee.specs.declared.answer.Tried.{Tried}
use Rattle.guarantee.specs.declared.fault.RosterFault.{RosterFault}
use Rattle.guarantee.proofs.Settling.{ends_decided}

-- ---- what calls with their answers stand for

a_try_is_itself : {i k limit : ℕ} {a : Result Tried RosterFault} {ts : List Try} → StandsFor (try i k limit) (to_try a) ts
    → ts ≡ record { rule = i; bound = k; limit = limit; outcome = a } ∷ []
a_try_is_itself try_itself = refl

no_other_kind : {i k limit : ℕ} {a : Result ℕ RosterFault} {ts : List Try} → StandsFor (try i k limit) (to_lay a) ts → ⊥
no_other_kind z = elim z [ ]

a_settle_climbs : {i limit : ℕ} {a : Settled} {ts : List Try} → StandsFor (settle i limit) (to_settle (Ok a)) ts → Climbs i limit 0 a ts
a_settle_climbs (settle_climbs c) = c

-- ---- two calls, the first a lay that answers 0

-- what the law says of the second call
record Second (m : Meaning) (f : Formula) (c : Call) (a : Answer) : Type 0 where
  pub before : List Event
  pub under : RuleUnder before 0 f
  pub only : (g : Formula) → RuleUnder before 0 g → g ≡ f
  pub tries : List Try
  pub made : StandsFor c a tries
  pub truthful : (t : Told) → told c a ≡ Some t → (g : Formula) × RuleUnder before t.rule g × verdicts.Means m g t.verdict
  pub answering : Answering m before (record { call = c; answer = a; tries = tries; made = made })

module _ (m : Meaning) (f : Formula) (text : List ℕ) (means : Means text f) where
  -- the rule of a text laid with the answer 0
  first_under : (x : Event) (rest : List Event) → x.call ≡ lay text → x.answer ≡ to_lay (Ok 0) → RuleUnder (x ∷ rest) 0 f
  first_under x rest ec ea = record {
    text = text;
    answered = subst (λ o. Memᴰ (record { number = 0; text = text }) (listed o ++ laid_in rest)) (sym (ap₂ laid ec ea)) (Memᴰ.head refl);
    means = means;
  }

  first_only : (x : Event) → x.call ≡ lay text → x.answer ≡ to_lay (Ok 0) → (g : Formula) → RuleUnder (x ∷ []) 0 g → g ≡ f
  first_only x ec ea g u =
      let z = subst (λ o. Memᴰ (record { number = 0; text = u.text }) (listed o ++ [])) (ap₂ laid ec ea) u.answered in
      let e : u.text ≡ text = ap (λ l. l.text) (Memᴰ.eq_of_singleton z) in
      one_formula text g f (subst (λ t. Means t g) e u.means) means

  second : (c : Call) (a : Answer) → Guarantee m (lay text ∷ c ∷ []) (to_lay (Ok 0) ∷ a ∷ []) → Second m f c a
  second c a g = go g.events g.calls_are g.answers_are g.truthful g.answering
    where
      go : (xs : List Event) → map (λ x. x.call) xs ≡ lay text ∷ c ∷ [] → map (λ x. x.answer) xs ≡ to_lay (Ok 0) ∷ a ∷ []
          → Each (Truthful m) [] xs → Each (Answering m) [] xs → Second m f c a
      go [] ec ea t s = absurd (not_empty ec)
      go (x ∷ []) ec ea t s = absurd (not_empty (same_tail ec))
      go (x ∷ y ∷ zs) ec ea t s =
          let ex : x.call ≡ lay text = same_head ec in
          let ax : x.answer ≡ to_lay (Ok 0) = same_head ea in
          let ey : y.call ≡ c = same_head (same_tail ec) in
          let ay : y.answer ≡ a = same_head (same_tail ea) in
          record {
            before = x ∷ [];
            under = first_under x [] ex ax;
            only = first_only x ex ax;
            tries = y.tries;
            made = subst (λ b. StandsFor c b y.tries) ay (subst (λ d. StandsFor d y.answer y.tries) ey y.made);
            truthful = λ w e. t.1.0 w (ap₂ told ey ay ∙ e);
            answering = s.1.0;
          }

  -- the law at a try that is the second call
  at_a_try : (k limit : ℕ) (a : Result Tried RosterFault) → k ≤ most_bound → Guarantee m (lay text ∷ try 0 k limit ∷ []) (to_lay (Ok 0) ∷ to_try a ∷ [])
      → RefusedForLooks m f k limit a
  at_a_try k limit a le g =
      let s = second (try 0 k limit) (to_try a) g in
      let t : Try = record { rule = 0; bound = k; limit = limit; outcome = a } in
      s.answering t f (subst (λ ts. Memᴰ t ts) (sym (a_try_is_itself s.made)) (Memᴰ.head refl)) s.under le

  -- a try among the tries of an event that is that try
  itself_among : (y : Event) (k limit : ℕ) (a : Result Tried RosterFault) → y.call ≡ try 0 k limit → y.answer ≡ to_try a
      → Memᴰ (record { rule = 0; bound = k; limit = limit; outcome = a }) y.tries
  itself_among y k limit a ec ea =
      let made : StandsFor (try 0 k limit) (to_try a) y.tries =
      subst (λ b. StandsFor (try 0 k limit) b y.tries) ea (subst (λ d. StandsFor d y.answer y.tries) ec y.made) in
      subst (λ ts. Memᴰ (record { rule = 0; bound = k; limit = limit; outcome = a }) ts) (sym (a_try_is_itself made)) (Memᴰ.head refl)

  -- two tries of the rule, the later at no lower bound: a verdict does not change
  verdict_kept : (k n limit limit' : ℕ) (t u : Tried) → k ≤ n → Decided t.verdict
      → Guarantee m (lay text ∷ try 0 k limit ∷ try 0 n limit' ∷ []) (to_lay (Ok 0) ∷ to_try (Ok t) ∷ to_try (Ok u) ∷ []) → u.verdict ≡ t.verdict
  verdict_kept k n limit limit' t u le y g = go g.events g.calls_are g.answers_are g.decided
    where
      kept : (events : List Event) (d : DecidedOnce m events 0 f) → Said d.bound d.verdict k (Ok t) → Said d.bound d.verdict n (Ok u)
          → u.verdict ≡ t.verdict
      kept events d a b =
          let no : k < d.bound → ⊥ = λ l. subst Decided (a.0 l) y in
          b.1 (omega arith) ∙ sym (a.1 (omega arith))

      go : (xs : List Event) → map (λ x. x.call) xs ≡ lay text ∷ try 0 k limit ∷ try 0 n limit' ∷ []
          → map (λ x. x.answer) xs ≡ to_lay (Ok 0) ∷ to_try (Ok t) ∷ to_try (Ok u) ∷ []
          → ((r : ℕ) (h : Formula) → RuleUnder xs r h → DecidedOnce m xs r h) → u.verdict ≡ t.verdict
      go [] ec ea d = absurd (not_empty ec)
      go (x ∷ []) ec ea d = absurd (not_empty (same_tail ec))
      go (x ∷ y ∷ []) ec ea d = absurd (not_empty (same_tail (same_tail ec)))
      go (x ∷ y ∷ z ∷ zs) ec ea d =
          let o = d 0 f (first_under x (y ∷ z ∷ zs) (same_head ec) (same_head ea)) in
          let ey = same_tail ec in
          let ay = same_tail ea in
          kept (x ∷ y ∷ z ∷ zs) o
          (o.said y (record { rule = 0; bound = k; limit = limit; outcome = Ok t }) (Memᴰ.tail (Memᴰ.head refl))
          (itself_among y k limit (Ok t) (same_head ey) (same_head ay)) refl)
          (o.said z (record { rule = 0; bound = n; limit = limit'; outcome = Ok u }) (Memᴰ.tail (Memᴰ.tail (Memᴰ.head refl)))
          (itself_among z n limit' (Ok u) (same_head (same_tail ey)) (same_head (same_tail ay))) refl)

pub hollow_rosters_are_ruled_out : HollowRostersAreRuledOut
hollow_rosters_are_ruled_out m f = record {
  refusing = λ limit e le text t g. absurd (omega (arith, (at_a_try m f text t (decided_from m) limit (Err e) le g).2));
  undecided = λ limit n le text t g.
      at_a_try m f text t (decided_from m) limit (Ok (record { verdict = Undecided; looks = n })) le g (omega arith);
  looks_to_spare = λ k limit e le cheap text t g. absurd (omega (arith, cheap, (at_a_try m f text t k limit (Err e) le g).1));
  changing = λ k n limit limit' looks looks' v w le y other text t g.
      other (verdict_kept m f text t k n limit limit' (record { verdict = v; looks = looks }) (record { verdict = w; looks = looks' }) le y g);
  settling_on_nothing = λ limit b n p text t g.
      ends_decided (a_settle_climbs (second m f text t (settle 0 limit) (to_settle (Ok (record { verdict = Undecided; bound = b; looks = n; passed = p }))) g).made);
  another_kind = λ k limit n text t g. no_other_kind (second m f text t (try 0 k limit) (to_lay (Ok n)) g).made;
  another_number = λ text n lt g. numbered_from_0 text n lt g.events g.calls_are g.answers_are g.numbered;
  no_answer = λ c g. answered c g.events g.calls_are g.answers_are;
}
  where
    numbered_from_0 : (text : List ℕ) (n : ℕ) → 0 < n → (xs : List Event) → map (λ x. x.call) xs ≡ lay text ∷ [] → map (λ x. x.answer) xs ≡ to_lay (Ok n) ∷ []
        → Each Numbered [] xs → ⊥
    numbered_from_0 text n lt [] ec ea e = not_empty ec
    numbered_from_0 text n lt (x ∷ xs) ec ea e =
        absurd (omega (arith, (e.0 (record { number = n; text = text }) (ap₂ laid (same_head ec) (same_head ea))).0))

    answered : (c : Call) (xs : List Event) → map (λ x. x.call) xs ≡ c ∷ [] → map (λ x. x.answer) xs ≡ [] → ⊥
    answered c [] ec ea = not_empty ec
    answered c (x ∷ xs) ec ea = not_empty (sym ea)

pub a_wrong_verdict_is_ruled_out : AWrongVerdictIsRuledOut
a_wrong_verdict_is_ruled_out k limit n text t g =
    let s = second single (literal true 97) text t (try 0 k limit) (to_try (Ok (record { verdict = Holds; looks = n }))) g in
    let w = s.truthful (record { rule = 0; verdict = Holds }) refl in
    false≢true (subst (λ h. verdicts.Means single h Holds) (s.only w.0 w.1) w.2 0 refl)
