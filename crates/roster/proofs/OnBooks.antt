-- What a call does with the book is what it does with the roster, and what a try's three clauses say of the whole state. The
-- check finds this by itself for the calls of today; the calls that are to be public rest on it.
use Rattle.std.proofs.Common.{◌≡◌, ℕ, List, Some, None, Err, Option, Result, sym, refl, ap, ◌∙◌, subst, ap₂, inl}
use Rattle.std.specs.List.{slice_get}
use Rattle.model.specs.Meaning.{Meaning}
use Rattle.guarantee.specs.States.{opened, try_entry, entries_after, try_answer, try_after, settle_entry, settle_entries, settle_answer, settle_after}
use Rattle.guarantee.specs.declared.answer.Settled.{Settled}
use Rattle.guarantee.specs.declared.answer.Tried.{Tried}
use Rattle.guarantee.specs.declared.fault.RosterFault.{RosterFault}
use Rattle.guarantee.specs.declared.fault.RosterFault.TheVariants.{Blank}
use Rattle.roster.specs.Entries.{entries_of}
use Rattle.roster.specs.Lays.{LaysOrWantsMemory}
use Rattle.roster.specs.Books.{model_in, laid_in, book_state}
use Rattle.roster.specs.declared.book.Book.{Book}
use Rattle.roster.specs.declared.laid.Laid.{Laid}

module _ (o : Option Book) (i k limit : ℕ) where
  pub tries_on_none : o ≡ None → (Err Blank ≡ try_answer (book_state o) i k limit) × (book_state o ≡ try_after (book_state o) i k limit)
  tries_on_none e = (
    ap (λ x. try_answer (book_state x) i k limit) (sym e),
    ap book_state e ∙ ap (λ x. try_after (book_state x) i k limit) (sym e),
  )

  pub tries_on_book : (b b' : Book) (r : Result Tried RosterFault) → o ≡ Some b → r ≡ try_entry (model_in b) (slice_get (laid_in b) i) k limit
      → laid_in b' ≡ entries_after (laid_in b) i k (slice_get (laid_in b) i) r → model_in b' ≡ model_in b
      → (r ≡ try_answer (book_state o) i k limit) × (book_state (Some b') ≡ try_after (book_state o) i k limit)
  tries_on_book b b' r e a t m = (
    a ∙ ap (λ x. try_answer (book_state x) i k limit) (sym e),
    ap₂ opened m (t ∙ ap (entries_after (laid_in b) i k (slice_get (laid_in b) i)) a) ∙ ap (λ x. try_after (book_state x) i k limit) (sym e),
  )

module _ (o : Option Book) (i limit : ℕ) where
  pub settles_on_none : o ≡ None → (Err Blank ≡ settle_answer (book_state o) i limit) × (book_state o ≡ settle_after (book_state o) i limit)
  settles_on_none e = (
    ap (λ x. settle_answer (book_state x) i limit) (sym e),
    ap book_state e ∙ ap (λ x. settle_after (book_state x) i limit) (sym e),
  )

  pub settles_on_book : (b b' : Book) (r : Result Settled RosterFault) → o ≡ Some b
      → r ≡ settle_entry (model_in b) (laid_in b) i limit (slice_get (laid_in b) i)
      → laid_in b' ≡ settle_entries (model_in b) (laid_in b) i limit (slice_get (laid_in b) i) → model_in b' ≡ model_in b
      → (r ≡ settle_answer (book_state o) i limit) × (book_state (Some b') ≡ settle_after (book_state o) i limit)
  settles_on_book b b' r e a t m = (
    a ∙ ap (λ x. settle_answer (book_state x) i limit) (sym e),
    ap₂ opened m t ∙ ap (λ x. settle_after (book_state x) i limit) (sym e),
  )

module _ (o : Option Book) (text : List ℕ) where
  pub lays_on_none : o ≡ None → LaysOrWantsMemory (book_state o) text (Err Blank) (book_state o)
  lays_on_none e =
      let P : Option Book → Type 0 = λ x. LaysOrWantsMemory (book_state x) text (Err Blank) (book_state x) in subst P (sym e) (inl (refl, refl))

  pub lays_on_book : (b b' : Book) (r : Result ℕ RosterFault) → o ≡ Some b
      → LaysOrWantsMemory (opened (model_in b) (laid_in b)) text r (opened (model_in b') (laid_in b'))
      → LaysOrWantsMemory (book_state o) text r (book_state (Some b'))
  lays_on_book b b' r e h = let P : Option Book → Type 0 = λ x. LaysOrWantsMemory (book_state x) text r (book_state (Some b')) in subst P (sym e) h

-- the answer and the entries after it are those of a try
pub record Attempted (m : Meaning) (xs ys : List Laid) (i k limit : ℕ) (r : Result Tried RosterFault) : Type 0 where
  pub answer : r ≡ try_entry m (slice_get (entries_of xs) i) k limit
  pub after : entries_of ys ≡ entries_after (entries_of xs) i k (slice_get (entries_of xs) i) r

-- so are the entries, by the answer that the try has
pub attempted_entries : (m : Meaning) (xs ys : List Laid) (i k limit : ℕ) (r : Result Tried RosterFault) → Attempted m xs ys i k limit r
    → entries_of ys ≡ entries_after (entries_of xs) i k (slice_get (entries_of xs) i) (try_entry m (slice_get (entries_of xs) i) k limit)
attempted_entries m xs ys i k limit r a = a.after ∙ ap (entries_after (entries_of xs) i k (slice_get (entries_of xs) i)) a.answer

-- and the state
pub attempted_state : {m : Meaning} {xs ys : List Laid} {i k limit : ℕ} {r : Result Tried RosterFault} → Attempted m xs ys i k limit r
    → opened m (entries_of ys) ≡ try_after (opened m (entries_of xs)) i k limit
attempted_state {m} {xs} {ys} {i} {k} {limit} {r} a = ap (opened m) (attempted_entries m xs ys i k limit r a)
