-- A record that is right answers with the verdict, and stays right when an evaluated verdict is noted.
use Rattle.std.proofs.Common.{◌≡◌, ℕ, true, false, cond, leb, Some, None, Option, sym, refl, ◌∙◌, subst}
use Rattle.std.proofs.lemmas.Option.{same_Some, none-some, cond_some}
use Rattle.std.proofs.lemmas.Bool.{leb-true}
use Rattle.model.specs.Meaning.{Meaning, Total}
use Rattle.ctl.proofs.Judging.{computed_stays, undecided_before, only_the_computed}
use Rattle.ctl.specs.Decision.{verdict_at}
use Rattle.ctl.specs.Formula.{Formula}
use Rattle.ctl.specs.Verdict.{Decided, VerdictIs}
use Rattle.ctl.specs.declared.Verdict.{Verdict}
use Rattle.ctl.specs.declared.Verdict.TheVariants.{Holds, Fails, Undecided}
use Rattle.guarantee.specs.Records.{no_record, known_at, found_by, undecided_by, first_of, highest_of, lowest_of, noted}
use Rattle.guarantee.specs.Rights.{Right}
use Rattle.guarantee.specs.declared.record.Found.{Found}
use Rattle.guarantee.specs.declared.record.Record.{Record}

pub no_record_is_right : (m : Meaning) (f : Formula) → Right m f no_record
no_record_is_right m f = record { low = λ u e. absurd (none-some _ e); high = λ x e. absurd (none-some _ e) }

-- what the two parts of a record say
abbrev Low : Meaning → Formula → Option ℕ → Type 0
Low m f o = (u : ℕ) → o ≡ Some u → verdict_at m f u ≡ Undecided

abbrev SettlesAt : Meaning → Formula → Found → Type 0
SettlesAt m f x = (verdict_at m f x.bound ≡ x.verdict) × Decided x.verdict

abbrev High : Meaning → Formula → Option Found → Type 0
High m f o = (x : Found) → o ≡ Some x → SettlesAt m f x

module _ (m : Meaning) (law : Total m) (f : Formula) (k : ℕ) where
  undecided_is_right : (o : Option ℕ) (v : Verdict) → Low m f o → undecided_by o k ≡ Some v → verdict_at m f k ≡ v
  undecided_is_right None v h e = absurd (none-some _ e)
  undecided_is_right (Some u) v h e =
      let w = cond_some (leb k u) Undecided v e in undecided_before m law f k u (leb-true k u w.0) (h u refl) ∙ w.1

  found_verdict : (o : Option Found) (v : Verdict) → High m f o → found_by o k ≡ Some v → verdict_at m f k ≡ v
  found_verdict None v h e = absurd (none-some _ e)
  found_verdict (Some x) v h e =
      let w = cond_some (leb x.bound k) x.verdict v e in
      computed_stays m law f x.verdict (h x refl).1 x.bound k (leb-true x.bound k w.0) (h x refl).0 ∙ w.1

  -- a verdict recorded at or below k is the verdict at k
  pub found_is_right : (r : Record) (v : Verdict) → Right m f r → found_by r.found k ≡ Some v → VerdictIs m f k v
  found_is_right r v h e = (only_the_computed m f k v).1 (sym (found_verdict r.found v h.high e))

  -- what a record says of k is the verdict at k
  pub known_is_right : (r : Record) (v : Verdict) → Right m f r → known_at r k ≡ Some v → verdict_at m f k ≡ v
  known_is_right r v h e = go (found_by r.found k) refl e
    where
      go : (o : Option Verdict) → found_by r.found k ≡ o → first_of o (undecided_by r.undecided k) ≡ Some v → verdict_at m f k ≡ v
      go None q e = undecided_is_right r.undecided v h.low e
      go (Some w) q e = found_verdict r.found w h.high q ∙ same_Some _ _ e

  highest_is_right : (o : Option ℕ) → Low m f o → verdict_at m f k ≡ Undecided → verdict_at m f (highest_of o k) ≡ Undecided
  highest_is_right None h e = e
  highest_is_right (Some u) h e = elim (leb u k) as (λ b. verdict_at m f (cond b k u) ≡ Undecided) [ true ↦ e | false ↦ h u refl ]

  lowest_is_right : (o : Option Found) (w : Verdict) → Decided w → High m f o → verdict_at m f k ≡ w → SettlesAt m f (lowest_of o k w)
  lowest_is_right None w y h e = (e, y)
  lowest_is_right (Some x) w y h e =
      elim (leb x.bound k) as (λ b. SettlesAt m f (cond b x (record { bound = k; verdict = w }))) [ true ↦ h x refl | false ↦ (e, y) ]

  pub noted_is_right : (r : Record) (w : Verdict) → Right m f r → verdict_at m f k ≡ w → Right m f (noted r k w)
  noted_is_right r Holds h e = record {
    low = h.low;
    high = λ x q. subst (SettlesAt m f) (same_Some _ _ q) (lowest_is_right r.found Holds tt h.high e);
  }
  noted_is_right r Fails h e = record {
    low = h.low;
    high = λ x q. subst (SettlesAt m f) (same_Some _ _ q) (lowest_is_right r.found Fails tt h.high e);
  }
  noted_is_right r Undecided h e = record {
    low = λ u q. subst (λ y. verdict_at m f y ≡ Undecided) (same_Some _ _ q) (highest_is_right r.undecided h.low e);
    high = h.high;
  }
