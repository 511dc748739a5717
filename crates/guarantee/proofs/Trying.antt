-- One try: its answer is the verdict or want of looks, the records stay right, and the rules stay as they are.
use Rattle.std.proofs.Common.{◌≡◌, ℕ, ◌<◌, ◌≤◌, Bool, true, false, cond, leb, ◌⊎◌, List, [], ◌∷◌, ◌++◌, map, set, Some, None, Ok, Err, Option, Result, sym, refl, ap, ◌∙◌, subst, inl, inr, arith}
use Rattle.std.proofs.lemmas.Option.{same_Some, none-some, slice_get-map, get_or_from_slice_get}
use Rattle.std.proofs.lemmas.Bool.{leb-false}
use Rattle.std.proofs.Math.Seq.{map-set_same}
use Rattle.std.specs.List.{slice_get}
use Rattle.std.specs.Option.{option_map}
use Rattle.model.specs.Meaning.{Meaning, Total}
use Rattle.ctl.specs.Decision.{verdict_at}
use Rattle.ctl.specs.Formula.{Formula}
use Rattle.ctl.specs.declared.Verdict.{Verdict}
use Rattle.guarantee.specs.Limits.{most_bound}
use Rattle.guarantee.specs.Looks.{looks_at}
use Rattle.guarantee.specs.Records.{known_at}
use Rattle.guarantee.specs.Rights.{Right, AllRight}
use Rattle.guarantee.specs.States.{Entry, fresh_entry, judged, try_entry, with_note, noted_in, entries_after}
use Rattle.guarantee.specs.declared.answer.Tried.{Tried}
use Rattle.guarantee.specs.declared.fault.RosterFault.{RosterFault}
use Rattle.guarantee.specs.declared.fault.RosterFault.TheVariants.{Looks, Bound}
use Rattle.guarantee.proofs.Listing.{nth_set, nth_last}
use Rattle.guarantee.proofs.Recording.{no_record_is_right, known_is_right, noted_is_right}

-- what the answer to a try of rule f at bound k may be
abbrev pub Judges : Meaning → Formula → ℕ → ℕ → Result Tried RosterFault → Type 0
Judges m f k limit (Ok t) = verdict_at m f k ≡ t.verdict
Judges m f k limit (Err e) = k ≤ most_bound → (e ≡ Looks) × (limit < looks_at m f k)

-- the rules laid, by their numbers
abbrev pub formulas : List Entry → List Formula
formulas es = map (λ e. e.formula) es

module _ (m : Meaning) (law : Total m) where
  judged_is_right : (f : Formula) (k limit : ℕ) (o : Option Verdict) → ((v : Verdict) → o ≡ Some v → verdict_at m f k ≡ v) → Judges m f k limit (judged m f k limit o)
  judged_is_right f k limit (Some v) h = h v refl
  judged_is_right f k limit None h = go (leb (looks_at m f k) limit) refl
    where
      go : (b : Bool) → leb (looks_at m f k) limit ≡ b
          → Judges m f k limit (cond b (Ok (record { verdict = verdict_at m f k; looks = looks_at m f k })) (Err Looks))
      go true l = refl
      go false l = λ _. (refl, leb-false (looks_at m f k) limit l)

  pub try_is_right : (e : Entry) (k limit : ℕ) → Right m e.formula e.said → Judges m e.formula k limit (try_entry m (Some e) k limit)
  try_is_right e k limit h = go (leb k most_bound) refl
    where
      go : (b : Bool) → leb k most_bound ≡ b → Judges m e.formula k limit (cond b (judged m e.formula k limit (known_at e.said k)) (Err Bound))
      go true l = judged_is_right e.formula k limit (known_at e.said k) (λ v q. known_is_right m law e.formula k e.said v h q)
      go false l = λ z. absurd (omega (arith, leb-false k most_bound l))

  -- one entry changed, or one added
  changed_is_right : (es es' : List Entry) (y : Entry) → ((j : ℕ) (z : Entry) → slice_get es' j ≡ Some z → (z ≡ y) ⊎ (slice_get es j ≡ Some z))
      → AllRight m es → Right m y.formula y.said → AllRight m es'
  changed_is_right es es' y from h r = λ j z e. go z (from j z e) (h j z)
    where
      go : (z : Entry) {Q : Type 0} → (z ≡ y) ⊎ Q → (Q → Right m z.formula z.said) → Right m z.formula z.said
      go z (inl q) g = subst (λ w. Right m w.formula w.said) (sym q) r
      go z (inr q) g = g q

  pub added_is_right : (es : List Entry) (f : Formula) → AllRight m es → AllRight m (es ++ (fresh_entry f ∷ []))
  added_is_right es f h = changed_is_right es (es ++ (fresh_entry f ∷ [])) (fresh_entry f) (λ j z e. nth_last es (fresh_entry f) j z e) h (no_record_is_right m f)

  noted_in_is_right : (es : List Entry) (i k limit : ℕ) (e : Entry) (o : Option Verdict) (a : Result Tried RosterFault) → AllRight m es → slice_get es i ≡ Some e
      → Judges m e.formula k limit a → AllRight m (noted_in es i k e o a)
  noted_in_is_right es i k limit e (Some w) a h q j = h
  noted_in_is_right es i k limit e None (Ok t) h q j =
      changed_is_right es (set es i (with_note e k t.verdict)) (with_note e k t.verdict) (λ j z x. nth_set es i j (with_note e k t.verdict) z x) h
      (noted_is_right m law e.formula k e.said t.verdict (h i e q) j)
  noted_in_is_right es i k limit e None (Err x) h q j = h

  pub entries_after_are_right : (es : List Entry) (i k limit : ℕ) (e : Entry) (a : Result Tried RosterFault) → AllRight m es → slice_get es i ≡ Some e
      → Judges m e.formula k limit a → AllRight m (entries_after es i k (Some e) a)
  entries_after_are_right es i k limit e a h q j = noted_in_is_right es i k limit e (known_at e.said k) a h q j

set_keeps_formulas : (es : List Entry) (i k : ℕ) (e : Entry) (v : Verdict) → slice_get es i ≡ Some e → formulas (set es i (with_note e k v)) ≡ formulas es
set_keeps_formulas es i k e v q = map-set_same (λ e. e.formula) es i (with_note e k v) e (ap (λ x. x.formula) (sym (get_or_from_slice_get es i e e q)))

noted_in_keeps_formulas : (es : List Entry) (i k : ℕ) (e : Entry) (o : Option Verdict) (a : Result Tried RosterFault) → slice_get es i ≡ Some e
    → formulas (noted_in es i k e o a) ≡ formulas es
noted_in_keeps_formulas es i k e (Some w) a q = refl
noted_in_keeps_formulas es i k e None (Ok t) q = set_keeps_formulas es i k e t.verdict q
noted_in_keeps_formulas es i k e None (Err x) q = refl

pub try_keeps_formulas : (es : List Entry) (i k : ℕ) (e : Entry) (a : Result Tried RosterFault) → slice_get es i ≡ Some e
    → formulas (entries_after es i k (Some e) a) ≡ formulas es
try_keeps_formulas es i k e a q = noted_in_keeps_formulas es i k e (known_at e.said k) a q

pub formula_at : (es : List Entry) (i : ℕ) (e : Entry) → slice_get es i ≡ Some e → slice_get (formulas es) i ≡ Some e.formula
formula_at es i e q = slice_get-map (λ e. e.formula) es i ∙ ap (option_map (λ e. e.formula)) q

pub entry_at : (es : List Entry) (i : ℕ) (f : Formula) → slice_get (formulas es) i ≡ Some f → (e : Entry) × (slice_get es i ≡ Some e) × (e.formula ≡ f)
entry_at es i f q = go (slice_get es i) refl (sym (slice_get-map (λ e. e.formula) es i) ∙ q)
  where
    go : (o : Option Entry) → slice_get es i ≡ o → option_map (λ e. e.formula) o ≡ Some f → (e : Entry) × (slice_get es i ≡ Some e) × (e.formula ≡ f)
    go None here z = absurd (none-some _ z)
    go (Some e) here z = (e, here, same_Some _ _ z)

pub no_formula_at : (es : List Entry) (i : ℕ) → slice_get es i ≡ None → slice_get (formulas es) i ≡ None
no_formula_at es i q = slice_get-map (λ e. e.formula) es i ∙ ap (option_map (λ e. e.formula)) q
