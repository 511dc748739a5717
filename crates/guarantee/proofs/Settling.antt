-- A settle is the tries that it makes: from bound 0 up to one that gives a verdict, which comes by the count of states.
use Rattle.std.proofs.Common.{◌≡◌, ℕ, zero, suc, ◌+◌, ◌<◌, ◌≤◌, ◌⊎◌, List, [], ◌∷◌, Some, Ok, Err, Result, sym, refl, ap, ◌∙◌, subst, ap₂, inl, inr, zero-add, arith}
use mathlib.Core.List.Memᴰ
use mathlib.Core.List.{Memᴰ}
use native.Mathlib.Decide.{dec_lt}
use Rattle.std.specs.List.{slice_get}
use Rattle.model.specs.Meaning.{Meaning, Total}
use Rattle.ctl.proofs.Judging.{decided_on}
use Rattle.ctl.proofs.Looking.{free_where_decided}
use Rattle.ctl.specs.Decision.{verdict_at}
use Rattle.ctl.specs.Formula.{Formula}
use Rattle.ctl.specs.States.{decided_from}
use Rattle.ctl.specs.Verdict.{Decided}
use Rattle.ctl.specs.declared.Verdict.{Verdict}
use Rattle.ctl.specs.declared.Verdict.TheVariants.{Holds, Fails, Undecided}
use Rattle.guarantee.specs.Faults.{number}
use Rattle.guarantee.specs.Limits.{most_states}
use Rattle.guarantee.specs.Rights.{AllRight}
use Rattle.guarantee.specs.States.{Entry, Settling, try_entry, entries_after, settle_by, settle_on, settle_from, whole_settle}
use Rattle.guarantee.specs.Tries.{Try, Climbs, decides, goes_on, passes_over, WantsLooks}
use Rattle.guarantee.specs.declared.answer.Settled.{Settled}
use Rattle.guarantee.specs.declared.answer.Tried.{Tried}
use Rattle.guarantee.specs.declared.fault.RosterFault.{RosterFault}
use Rattle.guarantee.proofs.Trying.{Judges, formulas, try_is_right, entries_after_are_right, try_keeps_formulas, entry_at}

-- by the count of states every rule is decided
pub decided_by_the_count : (m : Meaning) → decided_from m ≤ m.count
decided_by_the_count m = omega arith

-- tries from a bound up end with a verdict
pub ends_decided : {i limit k : ℕ} {a : Settled} {ts : List Try} → Climbs i limit k a ts → Decided a.verdict
ends_decided (decides y) = y
ends_decided (goes_on c) = ends_decided c
ends_decided (passes_over w c) = ends_decided c

-- what the tries of rule i from bound k on make of the entries, when looks and passed count those before
pub record Climbed (m : Meaning) (i : ℕ) (f : Formula) (limit : ℕ) (es : List Entry) (k looks passed : ℕ) (r : Settling) : Type 0 where
  pub right : AllRight m r.entries
  pub same : formulas r.entries ≡ formulas es
  pub verdict_is : Verdict
  pub bound_is : ℕ
  pub own_looks : ℕ
  pub own_passed : ℕ
  pub answer_is : r.answer ≡ record { verdict = verdict_is; bound = bound_is; looks = looks + own_looks; passed = passed + own_passed }
  pub made : List Try
  pub climbs : Climbs i limit k (record { verdict = verdict_is; bound = bound_is; looks = own_looks; passed = own_passed }) made
  pub fair : (t : Try) → Memᴰ t made → (t.rule ≡ i) × Judges m f t.bound t.limit t.outcome
  pub true_of : verdict_at m f bound_is ≡ verdict_is
  pub reached : bound_is ≤ decided_from m

module _ (m : Meaning) (law : Total m) (small : m.count ≤ most_states) (i : ℕ) (f : Formula) (limit : ℕ) where
  abbrev FairTry : Try → Type 0
  FairTry t = (t.rule ≡ i) × Judges m f t.bound t.limit t.outcome

  -- one more fair try before others that are
  fair_first : (x : Try) (ts : List Try) → FairTry x → ((t : Try) → Memᴰ t ts → FairTry t) → (t : Try) → Memᴰ t (x ∷ ts) → FairTry t
  fair_first x ts h rest t z = go (Memᴰ.cases_cons z)
    where
      go : (t ≡ x) ⊎ Memᴰ t ts → FairTry t
      go (inl e) = subst FairTry (sym e) h
      go (inr z) = rest t z

  -- a try that gives a verdict ends it
  last : (es es' : List Entry) (k looks passed n : ℕ) (v : Verdict) → Decided v → AllRight m es' → formulas es' ≡ formulas es → verdict_at m f k ≡ v
      → k ≤ decided_from m
      → Climbed m i f limit es k looks passed (record { entries = es'; answer = record { verdict = v; bound = k; looks = looks + n; passed = passed } })
  last es es' k looks passed n v y h q e le = record {
    right = h;
    same = q;
    verdict_is = v;
    bound_is = k;
    own_looks = n;
    own_passed = 0;
    answer_is = ap (λ p. record { verdict = v; bound = k; looks = looks + n; passed = p }) (omega arith);
    made = record { rule = i; bound = k; limit = limit; outcome = Ok (record { verdict = v; looks = n }) } ∷ [];
    climbs = decides y;
    fair = fair_first (record { rule = i; bound = k; limit = limit; outcome = Ok (record { verdict = v; looks = n }) }) [] (refl, e) (λ t z. absurd (Memᴰ.not-nil z));
    true_of = e;
    reached = le;
  }

  -- an undecided try, and then the others
  after_undecided : (es es' : List Entry) (k looks passed n : ℕ) (r : Settling) → formulas es' ≡ formulas es → verdict_at m f k ≡ Undecided
      → Climbed m i f limit es' (suc k) (looks + n) passed r → Climbed m i f limit es k looks passed r
  after_undecided es es' k looks passed n r q e c = record {
    right = c.right;
    same = c.same ∙ q;
    verdict_is = c.verdict_is;
    bound_is = c.bound_is;
    own_looks = n + c.own_looks;
    own_passed = c.own_passed;
    answer_is = c.answer_is
        ∙ ap (λ l. record { verdict = c.verdict_is; bound = c.bound_is; looks = l; passed = passed + c.own_passed }) (omega arith);
    made = record { rule = i; bound = k; limit = limit; outcome = Ok (record { verdict = Undecided; looks = n }) } ∷ c.made;
    climbs = goes_on c.climbs;
    fair = fair_first (record { rule = i; bound = k; limit = limit; outcome = Ok (record { verdict = Undecided; looks = n }) }) c.made (refl, e) c.fair;
    true_of = c.true_of;
    reached = c.reached;
  }

  -- a try that wants looks, and then the others
  after_passing : (es es' : List Entry) (k looks passed : ℕ) (x : RosterFault) (r : Settling) → formulas es' ≡ formulas es → WantsLooks x
      → Judges m f k limit (Err x) → Climbed m i f limit es' (suc k) looks (suc passed) r → Climbed m i f limit es k looks passed r
  after_passing es es' k looks passed x r q w j c = record {
    right = c.right;
    same = c.same ∙ q;
    verdict_is = c.verdict_is;
    bound_is = c.bound_is;
    own_looks = c.own_looks;
    own_passed = suc c.own_passed;
    answer_is = c.answer_is
        ∙ ap (λ p. record { verdict = c.verdict_is; bound = c.bound_is; looks = looks + c.own_looks; passed = p }) (omega arith);
    made = record { rule = i; bound = k; limit = limit; outcome = Err x } ∷ c.made;
    climbs = passes_over w c.climbs;
    fair = fair_first (record { rule = i; bound = k; limit = limit; outcome = Err x }) c.made (refl, j) c.fair;
    true_of = c.true_of;
    reached = c.reached;
  }

  -- by its own answer a try ends the settle, or others follow it
  one_try : (es es' : List Entry) (k looks passed : ℕ) (a : Result Tried RosterFault) → AllRight m es' → formulas es' ≡ formulas es → Judges m f k limit a
      → k ≤ decided_from m → (more : ℕ → ℕ → Settling)
      → ((looks' passed' : ℕ) → k < decided_from m → Climbed m i f limit es' (suc k) looks' passed' (more looks' passed'))
      → (k < decided_from m) ⊎ (k ≡ decided_from m)
      → Climbed m i f limit es k looks passed (settle_on es' k looks passed a more)
  one_try es es' k looks passed (Ok t) h q j le more rec way = by t.verdict refl way
    where
      by : (w : Verdict) → t.verdict ≡ w → (k < decided_from m) ⊎ (k ≡ decided_from m)
          → Climbed m i f limit es k looks passed
          (settle_by w (record { entries = es'; answer = record { verdict = w; bound = k; looks = looks + t.looks; passed = passed } }) (λ _. more (looks + t.looks) passed))
      by Holds e way = last es es' k looks passed t.looks Holds tt h q (j ∙ e) le
      by Fails e way = last es es' k looks passed t.looks Fails tt h q (j ∙ e) le
      by Undecided e (inl lt) = after_undecided es es' k looks passed t.looks (more (looks + t.looks) passed) q (j ∙ e) (rec (looks + t.looks) passed lt)
      by Undecided e (inr z) = absurd (subst Decided (j ∙ e) (decided_on m law f k (omega arith)))
  one_try es es' k looks passed (Err x) h q j le more rec (inl lt) =
      after_passing es es' k looks passed x (more looks (suc passed)) q (ap number (j (omega (arith, decided_by_the_count m))).0) j (rec looks (suc passed) lt)
  one_try es es' k looks passed (Err x) h q j le more rec (inr z) =
      absurd (omega (arith, (j (omega (arith, decided_by_the_count m))).1, free_where_decided m f k (omega arith)))

  pub settles : (left : ℕ) (es : List Entry) (k looks passed : ℕ) → AllRight m es → slice_get (formulas es) i ≡ Some f → k ≤ decided_from m → k + left ≡ suc m.count
      → Climbed m i f limit es k looks passed (settle_from m i limit left es k looks passed)
  settles zero es k looks passed h at_i le len = absurd (omega (arith, decided_by_the_count m))
  settles (suc left) es k looks passed h at_i le len =
      let e = entry_at es i f at_i in
      let a = try_entry m (Some e.0) k limit in
      let j : Judges m e.0.formula k limit a = try_is_right m law e.0 k limit (h i e.0 e.1) in
      let es' = entries_after es i k (Some e.0) a in
      let h' : AllRight m es' = entries_after_are_right m law es i k limit e.0 a h e.1 j in
      let q' : formulas es' ≡ formulas es = try_keeps_formulas es i k e.0 a e.1 in
      let more : ℕ → ℕ → Settling = λ n p. settle_from m i limit left es' (suc k) n p in
      subst (λ o. Climbed m i f limit es k looks passed
      (settle_on (entries_after es i k o (try_entry m o k limit)) k looks passed (try_entry m o k limit)
      (λ n p. settle_from m i limit left (entries_after es i k o (try_entry m o k limit)) (suc k) n p))) (sym e.1)
      (one_try es es' k looks passed a h' q' (subst (λ g. Judges m g k limit a) e.2 j) le more
      (λ n p lt. settles left es' (suc k) n p h' (ap (λ fs. slice_get fs i) q' ∙ at_i) (omega arith) (omega arith)) (split (dec_lt k (decided_from m))))
    where
      split : Dec (k < decided_from m) → (k < decided_from m) ⊎ (k ≡ decided_from m)
      split (yes l) = inl l
      split (no n) = inr (omega arith)

  -- all of it, from bound 0
  pub settles_from_0 : (es : List Entry) → AllRight m es → slice_get (formulas es) i ≡ Some f → Climbed m i f limit es 0 0 0 (whole_settle m es i limit)
  settles_from_0 es h at_i = settles (suc m.count) es 0 0 0 h at_i (omega arith) (omega arith)

-- with nothing counted before, the answer tells the looks and the refusals of these tries
pub counts_its_own : {m : Meaning} {i : ℕ} {f : Formula} {limit : ℕ} {es : List Entry} {r : Settling} (c : Climbed m i f limit es 0 0 0 r)
    → r.answer ≡ record { verdict = c.verdict_is; bound = c.bound_is; looks = c.own_looks; passed = c.own_passed }
counts_its_own c = c.answer_is
    ∙ ap₂ (λ l p. record { verdict = c.verdict_is; bound = c.bound_is; looks = l; passed = p }) (zero-add c.own_looks) (zero-add c.own_passed)
