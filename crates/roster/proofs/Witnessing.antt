-- A path that is written shows the verdict recorded.
use Rattle.std.proofs.Common.{◌≡◌, ℕ, suc, ◌+◌, ◌<◌, ◌≤◌, true, leb, ◌⊎◌, List, ◌++◌, length, take, drop, Some, None, Ok, Err, Result, vec_items, Option, sym, refl, ap, ◌∙◌, subst, inl, inr, add-one, arith, take-append-drop}
use mathlib.Core.Bool.{false≢true}
use mathlib.Core.HLevel.{⊥_prop}
use mathlib.Core.Logic.{∥∥₁_elim, ∥∥₁_map}
use Rattle.std.proofs.lemmas.Bool.{cases_lt}
use Rattle.std.specs.List.{slice_get}
use Rattle.std.specs.Option.{option_map}
use Rattle.std.specs.Result.{IsOk, OnErr}
use Rattle.std.proofs.lemmas.Option.{slice_get-map, none-some}
use Rattle.model.specs.Meaning.{Meaning, Starts}
use Rattle.ctl.proofs.Listed.{by_lists}
use Rattle.ctl.proofs.Tests.{decides_any, decides_yes}
use Rattle.ctl.specs.Formula.{Formula, PathPart, constant, literal, join, path, negation, negation_part}
use Rattle.ctl.specs.KPath.{Witness}
use Rattle.ctl.specs.Truth.{upto, True}
use Rattle.ctl.specs.declared.Quantifier.TheVariants.{All, Exists}
use Rattle.ctl.specs.declared.Verdict.{Verdict}
use Rattle.ctl.specs.declared.Verdict.TheVariants.{Holds, Fails, Undecided}
use Rattle.rule.specs.Tree.{formula}
use Rattle.table.proofs.Answering.{kept_total}
use Rattle.guarantee.proofs.Opening.{test_passed}
use Rattle.guarantee.proofs.Showing.{a_path_is_there}
use Rattle.guarantee.specs.Limits.{most_bound}
use Rattle.guarantee.specs.Records.{found_by}
use Rattle.guarantee.specs.States.{opened, Entry, root_shows, witness_fault, entry_path_fault, Lowest, Shows, ShowsFound, EntryShows, ShowsRecorded, WritesBy, Writes}
use Rattle.guarantee.specs.declared.fault.RosterFault.{RosterFault}
use Rattle.roster.specs.Books.{model_in, laid_in}
use Rattle.roster.specs.Entries.{entry_of}
use Rattle.roster.specs.Showing.{StartShown, showing, RootShown, NoRootShown}
use Rattle.roster.specs.declared.book.Book.{Book}
use Rattle.roster.specs.declared.laid.Laid.{Laid}

-- ---- what is written

-- the lowest start with a witness is the lowest state with P, if that is a start and has one
lowest_with_witness : (m : Meaning) (x : PathPart) (k : ℕ) (P : ℕ → Type 0) (s : ℕ) → Lowest (StartShown m x k) s → P s
    → ((u : ℕ) → P u → Starts m u ≡ true) → ∥ ((l : List ℕ) × ((u : ℕ) × Lowest P u × Witness m x k u l)) ∥₁ → Lowest P s
lowest_with_witness m x k P s low here starts there = record { here = here; least = λ t l p. ∥∥₁_elim there ⊥_prop (λ h. at t l p h.0 h.1.0 h.1.1 h.1.2) }
  where
    at : (t : ℕ) → t < s → P t → (w : List ℕ) (u : ℕ) → Lowest P u → Witness m x k u w → ⊥
    at t l p w u lowest witness = go (cases_lt t u)
      where
        go : (t < u) ⊎ (u ≤ t) → ⊥
        go (inl before) = lowest.least t before p
        go (inr behind) = low.least u (omega arith) (starts u lowest.here, (w, witness))

-- what a buffer holds after so many bytes at its front were written
front_and_rest : (n : ℕ) (before after : List ℕ) → drop n after ≡ drop n before → after ≡ take n after ++ drop n before
front_and_rest n before after e = sym (take-append-drop n after) ∙ ap (λ l. take n after ++ l) e

module _ (m : Meaning) (k : ℕ) (before after : List ℕ) where
  -- the front of the buffer shows the verdict, and the rest is as it was
  abbrev ShownInFront : Formula → Verdict → Type 0
  ShownInFront f v = Shows m f k v (take (suc k) after) × (after ≡ take (suc k) after ++ drop (suc k) before)

  shown_in_front : (f : Formula) (v : Verdict) → root_shows f v ≡ true → ∥ ((l : List ℕ) × Shows m f k v l) ∥₁
      → RootShown m (showing f) k before after → ShownInFront f v
  shown_in_front (constant b) v r there h = absurd (false≢true r)
  shown_in_front (literal b c) v r there h = absurd (false≢true r)
  shown_in_front (join op f g) v r there h = absurd (false≢true r)
  shown_in_front (path Exists x) Holds r there (s, low, w) = (
    (s, lowest_with_witness m x k (λ u. Starts m u ≡ true) s low low.here.0 (λ u p. p) there, w.path),
    front_and_rest (suc k) before after w.rest,
  )
  shown_in_front (path Exists x) Fails r there h = absurd (false≢true r)
  shown_in_front (path Exists x) Undecided r there h = absurd (false≢true r)
  shown_in_front (path All x) Holds r there h = absurd (false≢true r)
  shown_in_front (path All x) Fails r there (s, low, w) =
      let true_here = (by_lists m (negation_part x) k s).some.1 low.here.1 in (
        (s, lowest_with_witness m (negation_part x) k (λ u. (Starts m u ≡ true) × True m (negation (path All x)) (upto k) u) s low (low.here.0, true_here) (λ u p. p.0) there, w.path),
        front_and_rest (suc k) before after w.rest,
      )
  shown_in_front (path All x) Undecided r there h = absurd (false≢true r)

  -- where a path is there, one is found
  found_one : (f : Formula) (v : Verdict) → root_shows f v ≡ true → ∥ ((l : List ℕ) × Shows m f k v l) ∥₁ → NoRootShown m (showing f) k → ⊥
  found_one (constant b) v r there none = false≢true r
  found_one (literal b c) v r there none = false≢true r
  found_one (join op f g) v r there none = false≢true r
  found_one (path Exists x) Holds r there none = ∥∥₁_elim there ⊥_prop (λ h. none h.1.0 (h.1.1.here, (h.0, h.1.2)))
  found_one (path Exists x) Fails r there none = false≢true r
  found_one (path Exists x) Undecided r there none = false≢true r
  found_one (path All x) Holds r there none = false≢true r
  found_one (path All x) Fails r there none = ∥∥₁_elim there ⊥_prop (λ h. none h.1.0 (h.1.1.here.0, (h.0, h.1.2)))
  found_one (path All x) Undecided r there none = false≢true r

-- where path is not refused, a verdict is recorded and the root shows it
unrefused : (m : Meaning) (x : Entry) (k limit room : ℕ) → entry_path_fault m (Some x) k limit room ≡ None
    → (v : Verdict) × (found_by x.said.found k ≡ Some v) × (root_shows x.formula v ≡ true)
unrefused m x k limit room e = go (found_by x.said.found k) refl (test_passed (leb k most_bound) _ _ e).1
  where
    go : (o : Option Verdict) → found_by x.said.found k ≡ o → witness_fault m x.formula k limit room o ≡ None
        → (v : Verdict) × (found_by x.said.found k ≡ Some v) × (root_shows x.formula v ≡ true)
    go None found h = absurd (none-some _ (sym h))
    go (Some v) found h = (v, found, (test_passed (root_shows x.formula v) _ _ h).0)

module _ (b : Book) (i k limit : ℕ) (x : Laid) (before after : List ℕ) (here : slice_get (vec_items b.records.items) i ≡ Some x)
    (e : entry_path_fault (model_in b) (Some (entry_of x)) k limit (length before) ≡ None) where
  entry : slice_get (laid_in b) i ≡ Some (entry_of x)
  entry = slice_get-map entry_of (vec_items b.records.items) i ∙ ap (option_map entry_of) here

  unrefused_there : entry_path_fault (model_in b) (slice_get (laid_in b) i) k limit (length before) ≡ None
  unrefused_there = ap (λ o. entry_path_fault (model_in b) o k limit (length before)) entry ∙ e

  abbrev Entered : List ℕ → Option Entry → Type 0
  Entered l o = EntryShows (model_in b) o k l

  abbrev Found : List ℕ → Option Verdict → Type 0
  Found l o = ShowsFound (model_in b) (formula x.trees.rule) k o l

  -- a path that shows the verdict recorded is there
  recorded_is_there : (v : Verdict) → found_by x.said.found k ≡ Some v → ∥ ((l : List ℕ) × Shows (model_in b) (formula x.trees.rule) k v l) ∥₁
  recorded_is_there v found =
      let start = (decides_any (Starts (model_in b)) (λ s. Starts (model_in b) s ≡ true) b.table.count (λ s _. decides_yes (Starts (model_in b) s))).0 b.started in
      ∥∥₁_map b.right
      (λ right.
      let (l, shows) = a_path_is_there (model_in b) (kept_total b.table) start.0 start.2 (laid_in b) right i k limit (length before) unrefused_there in
      (l, subst (Found l) found (subst (Entered l) entry shows)))

  -- so one is found
  pub one_is_found : {E : Type 0} (r : Result (Unit {0}) E) → OnErr r (NoRootShown (model_in b) (showing (formula x.trees.rule)) k) → IsOk r
  one_is_found (Ok u) none = refl
  one_is_found (Err _) none =
      let (v, found, root) = unrefused (model_in b) (entry_of x) k limit (length before) e in
      absurd (found_one (model_in b) k before after (formula x.trees.rule) v root (recorded_is_there v found) none)

  -- and what is written shows the verdict
  pub path_written : (n : ℕ) → n ≡ k → RootShown (model_in b) (showing (formula x.trees.rule)) k before after
      → Writes (opened (model_in b) (laid_in b)) i k limit before (Ok (n + 1)) after
  path_written n same shown =
      let (v, found, root) = unrefused (model_in b) (entry_of x) k limit (length before) e in
      let front : ShownInFront (model_in b) k before after (formula x.trees.rule) v =
      shown_in_front (model_in b) k before after (formula x.trees.rule) v root (recorded_is_there v found) shown
      in
      let l : List ℕ = take (suc k) after in
      let back : ShowsRecorded (opened (model_in b) (laid_in b)) i k l = subst (Entered l) (sym entry) (subst (Found l) (sym found) front.0) in
      let By : Option RosterFault → Type 0 = λ o. WritesBy o (opened (model_in b) (laid_in b)) i k before (Ok (n + 1)) after in
      subst By (sym unrefused_there) (ap Ok (add-one n ∙ ap suc same), (l, back, front.1))
