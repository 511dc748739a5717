-- What a model must be for a roster to open on it, and what is refused.
use Rattle.std.proofs.Common.{◌≡◌, Bool, true, false, cond, leb, List, [], Some, None, Ok, Err, Option, sym, refl, ap, ◌∙◌, subst, inl, inr, arith}
use Rattle.std.proofs.lemmas.Option.{none-some}
use mathlib.Core.Bool.{false≢true}
use Rattle.std.proofs.lemmas.Bool.{le-leb, lt-leb}
use Rattle.model.specs.Meaning.{Meaning, Starts, Total, guarded}
use Rattle.ctl.proofs.Agreement.{any_same}
use Rattle.ctl.specs.Decision.{and_then, any_below}
use Rattle.sets.specs.Sets.{member}
use Rattle.sets.specs.declared.set.StateSet.{StateSet}
use Rattle.table.specs.Kept.{kept, Shows, Unkept}
use Rattle.table.specs.declared.kept.Table.{Table}
use Rattle.guarantee.proofs.Guarding.{guarded_is_alike}
use Rattle.guarantee.specs.Limits.{most_states}
use Rattle.guarantee.specs.States.{State, blank, opened, Entry, model_fault, just_opened}
use Rattle.guarantee.specs.declared.fault.RosterFault.{RosterFault}
use Rattle.guarantee.specs.declared.fault.RosterFault.TheVariants.{Size, NoStart}
use Rattle.roster.specs.Books.{book_state}
use Rattle.roster.specs.Opens.{Opens}
use Rattle.roster.specs.declared.book.Book.{Book}

and_true : (b : Bool) → and_then b (λ _. true) ≡ b
and_true true = refl
and_true false = refl

-- a start among all states is a start
pub start_anywhere : (t : Table) (x : StateSet) → Shows t x (λ _. true)
    → any_below (λ s. and_then (Starts (kept t) s) (λ _. member x s)) t.count ≡ any_below (Starts (kept t)) t.count
start_anywhere t x h =
    any_same t.count (λ s. and_then (Starts (kept t) s) (λ _. member x s)) (Starts (kept t))
    (λ s l. ap (λ b. and_then (Starts (kept t) s) (λ _. b)) (h s l) ∙ and_true (Starts (kept t) s))

-- of a total model only the count of states is refused
unkept_is_size : (m : Meaning) → Total m → Unkept m → model_fault m ≡ Some Size
unkept_is_size m law (inl e) = let none : leb 1 m.count ≡ false = lt-leb 1 m.count (omega arith) in rw none refl
unkept_is_size m law (inr (inl l)) =
    let some : leb 1 m.count ≡ true = le-leb 1 m.count (omega arith) in
    let large : leb m.count most_states ≡ false = lt-leb m.count most_states (omega arith) in
    rw (some, large) refl
unkept_is_size m law (inr (inr (s, l, nowhere))) = absurd (false≢true (sym (nowhere (law s l).0) ∙ (law s l).1))

-- a kept model is of a size that a roster takes
kept_is_sized : (t : Table) (m : Meaning) → kept t ≡ guarded m → model_fault m ≡ cond (any_below (Starts (kept t)) t.count) None (Some NoStart)
kept_is_sized t m e =
    let same : t.count ≡ m.count = ap (λ (n : Meaning). n.count) e in
    let some : leb 1 m.count ≡ true = le-leb 1 m.count (omega (arith, t.some)) in
    let small : leb m.count most_states ≡ true = le-leb m.count most_states (omega (arith, t.small)) in
    let starts : any_below (Starts (kept t)) t.count ≡ any_below (Starts m) m.count =
    ap (λ (n : Meaning). any_below (Starts n) n.count) e ∙ any_same m.count (Starts (guarded m)) (Starts m) (λ s _. (guarded_is_alike m).start s)
    in
    rw (some, small, starts) refl

by_fault : (m : Meaning) (f : RosterFault) → model_fault m ≡ Some f → Opens blank m (Err f) blank
by_fault m f e = rw e (refl, refl)

pub open_sized : (o : Option Book) (m : Meaning) → o ≡ None → Total m → Unkept m → Opens (book_state o) m (Err Size) (book_state o)
open_sized None m e law u = by_fault m Size (unkept_is_size m law u)
open_sized (Some x) m e law u = absurd (none-some _ (sym e))

module _ (o : Option Book) (m : Meaning) (t : Table) (b : o ≡ None) (e : kept t ≡ guarded m) where
  pub open_startless : any_below (Starts (kept t)) t.count ≡ false → Opens (book_state o) m (Err NoStart) (book_state o)
  open_startless h =
      let P : State → Type 0 = λ s. Opens s m (Err NoStart) s in
      subst P (sym (ap book_state b)) (by_fault m NoStart (kept_is_sized t m e ∙ ap (λ (x : Bool). cond x None (Some NoStart)) h))

  pub open_begins : (es : List Entry) → any_below (Starts (kept t)) t.count ≡ true → es ≡ [] → Opens (book_state o) m (Ok tt) (opened (kept t) es)
  open_begins es h n =
      let P : State → Type 0 = λ s. Opens s m (Ok tt) (opened (kept t) es) in
      let fine : model_fault m ≡ None = kept_is_sized t m e ∙ ap (λ (x : Bool). cond x None (Some NoStart)) h in
      let so : opened (kept t) es ≡ just_opened m = cc (e, n) in
      subst P (sym (ap book_state b)) (rw fine (refl, so))
