-- Where path is not refused, a path that shows the recorded verdict is there.
use Rattle.std.proofs.Common.{◌≡◌, ℕ, ◌<◌, true, leb, List, Some, None, Option, sym, refl, inl, inr}
use Rattle.std.proofs.lemmas.Option.{none-some}
use mathlib.Core.Bool.{false≢true, Bool-discrete}
use mathlib.Core.Logic.Dec
use Rattle.std.specs.List.{slice_get}
use Rattle.model.specs.Meaning.{Meaning, Starts, Total}
use Rattle.ctl.proofs.Deciding.{dec}
use Rattle.ctl.proofs.Guards.{starts_at_a_state}
use Rattle.ctl.proofs.Listed.{by_lists}
use Rattle.ctl.proofs.Tests.{Least, least}
use Rattle.ctl.specs.Formula.{Formula, PathPart, constant, literal, join, path, negation, negation_part}
use Rattle.ctl.specs.Truth.{upto, True}
use Rattle.ctl.specs.Verdict.{VerdictIs}
use Rattle.ctl.specs.declared.Quantifier.TheVariants.{All, Exists}
use Rattle.ctl.specs.declared.Verdict.{Verdict}
use Rattle.ctl.specs.declared.Verdict.TheVariants.{Holds, Fails, Undecided}
use Rattle.guarantee.specs.Claims.{APathIsThere}
use Rattle.guarantee.specs.Limits.{most_bound}
use Rattle.guarantee.specs.Records.{found_by}
use Rattle.guarantee.specs.Rights.{Right}
use Rattle.guarantee.specs.States.{Entry, root_shows, witness_fault, entry_path_fault, Lowest, ShownFrom, Shows, ShowsFound, EntryShows}
use Rattle.guarantee.proofs.Recording.{found_is_right}
use Rattle.guarantee.proofs.Opening.{test_passed}

-- the lowest state with P, where some state has it
lowest_there : (P : ℕ → Type 0) (n s : ℕ) → s < n → P s → ((i : ℕ) → Dec (P i)) → (l : ℕ) × Lowest P l
lowest_there P n s h p d = go (least P n (λ i _. d i))
  where
    go : Least P n → (l : ℕ) × Lowest P l
    go (inl none) = absurd (none s h p)
    go (inr (k, lt, y, before)) = (k, record { here = y; least = before })

module _ (m : Meaning) (law : Total m) (start : ℕ) (starts : Starts m start ≡ true) (k : ℕ) where
  -- the lowest start with P has a witness, if E of the part is true there
  witness_there : (P : ℕ → Type 0) (x : PathPart) (s : ℕ) → s < m.count → P s → ((i : ℕ) → Dec (P i)) → ((i : ℕ) → P i → True m (path Exists x) (upto k) i)
      → (l : List ℕ) × ShownFrom m P (path Exists x) k l
  witness_there P x s h p d holds =
      let low = lowest_there P m.count s h p d in
      let w = (by_lists m x k low.0).some.0 (holds low.0 low.1.here) in
      (w.0, (low.0, low.1, w.1))

  shown_holding : (x : PathPart) → VerdictIs m (path Exists x) k Holds → (l : List ℕ) × Shows m (path Exists x) k Holds l
  shown_holding x v = witness_there (λ s. Starts m s ≡ true) x start (starts_at_a_state m start starts) starts (λ s. Bool-discrete (Starts m s) true) v

  shown_failing : (x : PathPart) → VerdictIs m (path All x) k Fails → (l : List ℕ) × Shows m (path All x) k Fails l
  shown_failing x (s, h, t) =
      witness_there (λ s. (Starts m s ≡ true) × True m (negation (path All x)) (upto k) s) (negation_part x) s (starts_at_a_state m s h) (h, t) decided (λ i p. p.1)
    where
      decided : (i : ℕ) → Dec ((Starts m i ≡ true) × True m (negation (path All x)) (upto k) i)
      decided i = Dec.and (Bool-discrete (Starts m i) true) (dec m (negation (path All x)) k i)

  shown : (f : Formula) (v : Verdict) → root_shows f v ≡ true → VerdictIs m f k v → (l : List ℕ) × Shows m f k v l
  shown (constant b) v r h = absurd (false≢true r)
  shown (literal b c) v r h = absurd (false≢true r)
  shown (join op f g) v r h = absurd (false≢true r)
  shown (path Exists x) Holds r h = shown_holding x h
  shown (path Exists x) Fails r h = absurd (false≢true r)
  shown (path Exists x) Undecided r h = absurd (false≢true r)
  shown (path All x) Holds r h = absurd (false≢true r)
  shown (path All x) Fails r h = shown_failing x h
  shown (path All x) Undecided r h = absurd (false≢true r)

  module _ (limit room : ℕ) where
    shown_found : (f : Formula) (o : Option Verdict) → ((v : Verdict) → o ≡ Some v → VerdictIs m f k v) → witness_fault m f k limit room o ≡ None
        → (l : List ℕ) × ShowsFound m f k o l
    shown_found f None h e = absurd (none-some _ (sym e))
    shown_found f (Some v) h e = shown f v (test_passed (root_shows f v) _ _ e).0 (h v refl)

    shown_entry : (o : Option Entry) → ((e : Entry) → o ≡ Some e → Right m e.formula e.said) → entry_path_fault m o k limit room ≡ None
        → (l : List ℕ) × EntryShows m o k l
    shown_entry None h e = absurd (none-some _ (sym e))
    shown_entry (Some x) h e =
        shown_found x.formula (found_by x.said.found k) (λ v q. found_is_right m law x.formula k x.said v (h x refl) q)
        (test_passed (leb k most_bound) _ _ e).1

pub a_path_is_there : APathIsThere
a_path_is_there m law s h es r i k limit room e = shown_entry m law s h k limit room (slice_get es i) (λ x q. r i x q) e
