-- One call on an open roster: the records stay right, a rule is laid under the next number, verdicts told are true, tries are fair.
use Rattle.std.proofs.Common.{◌≡◌, ℕ, ◌≤◌, List, [], ◌∷◌, ◌++◌, Some, None, Ok, Err, Option, Result, sym, refl, ap, ◌∙◌, subst}
use Rattle.std.proofs.lemmas.Option.{same_Some, none-some}
use mathlib.Core.List.Memᴰ
use mathlib.Core.List.{Memᴰ, map-append}
use lib.ListN.{length-map}
use Rattle.std.specs.List.{slice_get}
use Rattle.model.specs.Meaning.{Meaning, Total}
use Rattle.ctl.proofs.Judging as judging
use Rattle.ctl.specs.Decision.{verdict_at}
use Rattle.ctl.specs.Formula.{Formula}
use Rattle.ctl.specs.Verdict.{Means}
use Rattle.ctl.specs.declared.Verdict.{Verdict}
use Rattle.rule.specs.declared.fault.RuleFault.{RuleFault}
use Rattle.guarantee.specs.Calls.{Call, lay, try, settle, standing, path, Answer, to_lay, to_try, to_settle, to_standing, to_path}
use Rattle.guarantee.specs.Limits.{most_states}
use Rattle.guarantee.specs.Rights.{AllRight}
use Rattle.guarantee.specs.Runs.{Step, lays, tries, settles, stands, writes}
use Rattle.guarantee.specs.States.{State, opened, Entry, fresh_entry, lay_fault, LaysBy, ReadsAs, lay_answer, lay_after, try_entry, entries_after, whole_settle, settle_entry, settle_entries, standing_entry}
use Rattle.guarantee.specs.Tries.{both_there, laid, Try, StandsFor, lay_none, try_itself, settle_climbs, settle_refused, standing_none, path_none, Told, verdict_recorded, told}
use Rattle.guarantee.specs.declared.answer.Tried.{Tried}
use Rattle.guarantee.specs.declared.fault.RosterFault.{RosterFault}
use Rattle.guarantee.specs.declared.record.Found.{Found}
use Rattle.guarantee.proofs.Numbering.{Grown}
use Rattle.guarantee.proofs.Settling.{settles_from_0, counts_its_own}
use Rattle.guarantee.proofs.Trying.{Judges, formulas, try_is_right, added_is_right, entries_after_are_right, try_keeps_formulas, formula_at, no_formula_at}

-- a try of a laid rule is judged; a try of another number is not answered
abbrev pub FairOf : Meaning → Option Formula → ℕ → ℕ → Result Tried RosterFault → Type 0
FairOf m None k limit (Ok t) = ⊥
FairOf m None k limit (Err e) = Unit {0}
FairOf m (Some f) k limit a = Judges m f k limit a

abbrev pub Fair : Meaning → List Formula → Try → Type 0
Fair m fs t = FairOf m (slice_get fs t.rule) t.bound t.limit t.outcome

-- the verdict told is that of a laid rule, for ever
abbrev pub TrueTold : Meaning → List Formula → Told → Type 0
TrueTold m fs t = (f : Formula) × (slice_get fs t.rule ≡ Some f) × Means m f t.verdict

pub record Stepped (m : Meaning) (es : List Entry) (c : Call) (a : Answer) (s' : State) : Type 0 where
  pub entries : List Entry
  pub state : s' ≡ opened m entries
  pub right : AllRight m entries
  pub grown : Grown (laid c a) (formulas es) (formulas entries)
  pub truth : (t : Told) → told c a ≡ Some t → TrueTold m (formulas es) t
  pub made : List Try
  pub stand_for : StandsFor c a made
  pub fair : (t : Try) → Memᴰ t made → Fair m (formulas es) t

module _ (m : Meaning) (law : Total m) (es : List Entry) (h : AllRight m es) where
  nothing_made : (t : Try) → Memᴰ t [] → Fair m (formulas es) t
  nothing_made t z = absurd (Memᴰ.not-nil z)

  nothing_told : (t : Told) → ◌≡◌ {A = Option Told} None (Some t) → TrueTold m (formulas es) t
  nothing_told t e = absurd (none-some _ e)

  -- the verdict at a bound, told of rule i
  verdict_told : (i k : ℕ) (f : Formula) (v : Verdict) → slice_get (formulas es) i ≡ Some f → verdict_at m f k ≡ v → (t : Told)
      → ◌≡◌ {A = Option Told} (Some (record { rule = i; verdict = v })) (Some t) → TrueTold m (formulas es) t
  verdict_told i k f v q e t z =
      subst (TrueTold m (formulas es)) (same_Some _ _ z) (f, q, judging.means m law f k v ((judging.only_the_computed m f k v).1 (sym e)))

  -- a call that lays nothing, makes no try and leaves the roster as it was
  stays : (c : Call) (a : Answer) (s' : State) → s' ≡ opened m es → laid c a ≡ None → ((t : Told) → told c a ≡ Some t → TrueTold m (formulas es) t)
      → StandsFor c a [] → Stepped m es c a s'
  stays c a s' e nothing truth made =
      record { entries = es; state = e; right = h; grown = rw nothing refl; truth = truth; made = []; stand_for = made; fair = nothing_made }

  -- ---- lay
  lay_refused : (text : List ℕ) (e : RosterFault) (a : Result ℕ RosterFault) (s' : State) → a ≡ Err e → s' ≡ opened m es → Stepped m es (lay text) (to_lay a) s'
  lay_refused text e a s' ea es' =
      subst (λ a. Stepped m es (lay text) (to_lay a) s') (sym ea) (stays (lay text) (to_lay (Err e)) s' es' refl nothing_told lay_none)

  lay_read : (text : List ℕ) (r : Result Formula RuleFault) → ReadsAs text r → (a : Result ℕ RosterFault) (s' : State)
      → a ≡ lay_answer (opened m es) r → s' ≡ lay_after (opened m es) r → Stepped m es (lay text) (to_lay a) s'
  lay_read text (Ok f) reads a s' ea es' = subst (λ a. Stepped m es (lay text) (to_lay a) s') (sym ea) (record {
    entries = es ++ (fresh_entry f ∷ []);
    state = es';
    right = added_is_right m law es f h;
    grown = (f, map-append (λ e. e.formula) es (fresh_entry f ∷ []), sym (length-map es (λ e. e.formula)), reads.1);
    truth = nothing_told;
    made = [];
    stand_for = lay_none;
    fair = nothing_made;
  })
  lay_read text (Err e) reads a s' ea es' = lay_refused text _ a s' ea es'

  lay_step : (text : List ℕ) (a : Result ℕ RosterFault) (s' : State) (o : Option RosterFault) → LaysBy o (opened m es) text a s' → Stepped m es (lay text) (to_lay a) s'
  lay_step text a s' (Some e) (ea, es') = lay_refused text e a s' ea es'
  lay_step text a s' None (r, reads, ea, es') = lay_read text r reads a s' ea es'

  -- ---- try
  answer_told : (i k limit : ℕ) (f : Formula) (a : Result Tried RosterFault) → slice_get (formulas es) i ≡ Some f → Judges m f k limit a
      → (t : Told) → told (try i k limit) (to_try a) ≡ Some t → TrueTold m (formulas es) t
  answer_told i k limit f (Ok x) q j t e = verdict_told i k f x.verdict q j t e
  answer_told i k limit f (Err x) q j t e = absurd (none-some _ e)

  try_step : (i k limit : ℕ) (o : Option Entry) → slice_get es i ≡ o → (s' : State) → s' ≡ opened m (entries_after es i k o (try_entry m o k limit))
      → Stepped m es (try i k limit) (to_try (try_entry m o k limit)) s'
  try_step i k limit None q s' e = record {
    entries = es;
    state = e;
    right = h;
    grown = refl;
    truth = nothing_told;
    made = record { rule = i; bound = k; limit = limit; outcome = try_entry m None k limit } ∷ [];
    stand_for = try_itself;
    fair = λ t z. subst (Fair m (formulas es)) (sym (Memᴰ.eq_of_singleton z)) (subst (λ o. FairOf m o k limit (try_entry m None k limit)) (sym (no_formula_at es i q)) tt);
  }
  try_step i k limit (Some x) q s' e =
      let a = try_entry m (Some x) k limit in
      let j : Judges m x.formula k limit a = try_is_right m law x k limit (h i x q) in
      record {
        entries = entries_after es i k (Some x) a;
        state = e;
        right = entries_after_are_right m law es i k limit x a h q j;
        grown = try_keeps_formulas es i k x a q;
        truth = answer_told i k limit x.formula a (formula_at es i x q) j;
        made = record { rule = i; bound = k; limit = limit; outcome = a } ∷ [];
        stand_for = try_itself;
        fair = λ t z. subst (Fair m (formulas es)) (sym (Memᴰ.eq_of_singleton z)) (subst (λ o. FairOf m o k limit a) (sym (formula_at es i x q)) j);
      }

  -- ---- settle
  settle_step : m.count ≤ most_states → (i limit : ℕ) (o : Option Entry) → slice_get es i ≡ o → (s' : State) → s' ≡ opened m (settle_entries m es i limit o)
      → Stepped m es (settle i limit) (to_settle (settle_entry m es i limit o)) s'
  settle_step small i limit None q s' e = stays (settle i limit) (to_settle (settle_entry m es i limit None)) s' e refl nothing_told settle_refused
  settle_step small i limit (Some x) q s' e =
      let f = x.formula in
      let at_i : slice_get (formulas es) i ≡ Some f = formula_at es i x q in
      let c = settles_from_0 m law small i f limit es h at_i in
      subst (λ a. Stepped m es (settle i limit) (to_settle (Ok a)) s') (sym (counts_its_own c)) (record {
        entries = (whole_settle m es i limit).entries;
        state = e;
        right = c.right;
        grown = c.same;
        truth = verdict_told i c.bound_is f c.verdict_is at_i c.true_of;
        made = c.made;
        stand_for = settle_climbs c.climbs;
        fair = λ t z.
            let w = c.fair t z in
            subst (λ o. FairOf m o t.bound t.limit t.outcome) (sym (ap (λ j. slice_get (formulas es) j) w.0 ∙ at_i)) w.1;
      })

  -- ---- standing
  record_told : (i : ℕ) (x : Entry) → slice_get es i ≡ Some x → (o : Option Found) → x.said.found ≡ o → (t : Told)
      → both_there (λ i v. record { rule = i; verdict = v }) (Some i) (verdict_recorded o) ≡ Some t → TrueTold m (formulas es) t
  record_told i x q None w t e = absurd (none-some _ e)
  record_told i x q (Some y) w t e = verdict_told i y.bound x.formula y.verdict (formula_at es i x q) ((h i x q).high y w).0 t e

  standing_told : (i : ℕ) (o : Option Entry) → slice_get es i ≡ o → (t : Told) → told (standing i) (to_standing (standing_entry o)) ≡ Some t → TrueTold m (formulas es) t
  standing_told i None q t e = absurd (none-some _ e)
  standing_told i (Some x) q t e = record_told i x q x.said.found refl t e

  standing_step : (i : ℕ) (s' : State) → s' ≡ opened m es → Stepped m es (standing i) (to_standing (standing_entry (slice_get es i))) s'
  standing_step i s' e =
      stays (standing i) (to_standing (standing_entry (slice_get es i))) s' e refl (standing_told i (slice_get es i) refl) standing_none

  -- ---- path
  path_step : (i k limit : ℕ) (buffer buffer' : List ℕ) (a : Result ℕ RosterFault) (s' : State) → s' ≡ opened m es → Stepped m es (path i k limit buffer) (to_path a buffer') s'
  path_step i k limit buffer buffer' a s' e = stays (path i k limit buffer) (to_path a buffer') s' e refl nothing_told path_none

pub steps : (m : Meaning) → Total m → m.count ≤ most_states → (es : List Entry) → AllRight m es → {c : Call} {a : Answer} {s' : State}
    → Step (opened m es) c a s' → Stepped m es c a s'
steps m law small es h (lays {text} {a} {s'} x) = lay_step m law es h text a s' (lay_fault (opened m es)) x
steps m law small es h (tries {i} {k} {limit} {a} {s'} ea e) =
    subst (λ a. Stepped m es (try i k limit) (to_try a) s') (sym ea) (try_step m law es h i k limit (slice_get es i) refl s' e)
steps m law small es h (settles {i} {limit} {a} {s'} ea e) =
    subst (λ a. Stepped m es (settle i limit) (to_settle a) s') (sym ea) (settle_step m law es h small i limit (slice_get es i) refl s' e)
steps m law small es h (stands {i} {a} {s'} ea e) =
    subst (λ a. Stepped m es (standing i) (to_standing a) s') (sym ea) (standing_step m law es h i s' e)
steps m law small es h (writes {i} {k} {limit} {buffer} {buffer'} {a} {s'} w e) = path_step m law es h i k limit buffer buffer' a s' e
