-- What a try and a lay keep of a book: its records stay right.
use Rattle.std.proofs.Common.{◌≡◌, ℕ, List, [], ◌∷◌, ◌++◌, Some, None, Ok, Err, Option, Result, sym, refl, ap, ◌∙◌, subst, MatchResult}
use Rattle.std.specs.List.{slice_get}
use Rattle.std.specs.declared.alloc.AllocError.{AllocError}
use Rattle.model.specs.Meaning.{Meaning, Total}
use Rattle.guarantee.proofs.Trying.{try_is_right, added_is_right, entries_after_are_right}
use Rattle.guarantee.specs.Records.{no_record}
use Rattle.guarantee.specs.Rights.{AllRight}
use Rattle.guarantee.specs.States.{Entry, try_entry, entries_after}
use Rattle.guarantee.specs.declared.answer.Tried.{Tried}
use Rattle.guarantee.specs.declared.fault.RosterFault.{RosterFault}
use Rattle.roster.proofs.Places.{entries_added}
use Rattle.rule.specs.Tree.{formula}
use Rattle.roster.specs.Entries.{entries_of}
use Rattle.roster.specs.declared.laid.Laid.{Laid}

module _ (m : Meaning) (law : Total m) (i k limit : ℕ) where
  right_after : (es : List Entry) (o : Option Entry) → slice_get es i ≡ o → AllRight m es → AllRight m (entries_after es i k o (try_entry m o k limit))
  right_after es None q h = h
  right_after es (Some e) q h = entries_after_are_right m law es i k limit e (try_entry m (Some e) k limit) h q (try_is_right m law e k limit (h i e q))

  pub a_try_keeps_right : (es es' : List Entry) (a : Result Tried RosterFault) → a ≡ try_entry m (slice_get es i) k limit
      → es' ≡ entries_after es i k (slice_get es i) a → AllRight m es → AllRight m es'
  a_try_keeps_right es es' a answer after h =
      let P : List Entry → Type 0 = λ l. AllRight m l in
      subst P (sym (after ∙ ap (entries_after es i k (slice_get es i)) answer)) (right_after es (slice_get es i) refl h)

-- a rule added, or none for want of memory
module _ (xs ys : List Laid) (x : Laid) where
  pub an_addition_keeps_right : (m : Meaning) → Total m → (r : Result (Unit {0}) AllocError) → x.said ≡ no_record → AllRight m (entries_of xs)
      → MatchResult r (λ _. ys ≡ xs ++ (x ∷ [])) (λ _. ys ≡ xs) → AllRight m (entries_of ys)
  an_addition_keeps_right m law (Ok u) fresh h e =
      let P : List Entry → Type 0 = λ es. AllRight m es in
      subst P (sym (entries_added xs ys x fresh e)) (added_is_right m law (entries_of xs) (formula x.trees.rule) h)
  an_addition_keeps_right m law (Err u) fresh h e = let P : List Entry → Type 0 = λ es. AllRight m es in subst P (sym (ap entries_of e)) h
