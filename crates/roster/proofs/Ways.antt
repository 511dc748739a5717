-- A try that evaluates, and the record that takes it.
use Rattle.std.proofs.Common.{◌≡◌, ℕ, ◌≤◌, List, get_or, set, Some, None, Ok, ap, ◌∙◌}
use Rattle.std.proofs.lemmas.Bool.{le-leb}
use Rattle.std.proofs.lemmas.List.{map-set}
use Rattle.std.proofs.lemmas.Option.{slice_get-map, get_or_from_slice_get}
use Rattle.std.specs.List.{slice_get}
use Rattle.std.specs.Option.{option_map}
use Rattle.model.specs.Meaning.{Meaning}
use Rattle.rule.specs.Tree.{formula}
use Rattle.guarantee.specs.Limits.{most_bound}
use Rattle.guarantee.specs.Records.{known_at, noted}
use Rattle.guarantee.specs.States.{judged, try_entry, entries_after}
use Rattle.guarantee.specs.declared.answer.Tried.{Tried}
use Rattle.roster.specs.Entries.{entry_of, entries_of}
use Rattle.roster.specs.declared.laid.Laid.{Laid}

module _ (xs : List Laid) (i k : ℕ) (x : Laid) (t : Tried) (here : slice_get xs i ≡ Some x) (kn : known_at x.said k ≡ None) where
  entry : slice_get (entries_of xs) i ≡ Some (entry_of x)
  entry = slice_get-map entry_of xs i ∙ ap (option_map entry_of) here

  pub evaluated : (m : Meaning) (limit : ℕ) → k ≤ most_bound → Ok t ≡ judged m (formula x.trees.rule) k limit None
      → Ok t ≡ try_entry m (slice_get (entries_of xs) i) k limit
  evaluated m limit l j =
      let e = entry in
      rw (e, le-leb k most_bound l, kn) j

  pub noted_entries : (ys : List Laid) → ((d : Laid) → ys ≡ set xs i (record { trees = (get_or xs i d).trees; said = noted (get_or xs i d).said k t.verdict }))
      → entries_of ys ≡ entries_after (entries_of xs) i k (slice_get (entries_of xs) i) (Ok t)
  noted_entries ys s =
      let y : Laid = record { trees = x.trees; said = noted x.said k t.verdict } in
      let same : ys ≡ set xs i y =
      s x ∙ ap (λ (z : Laid). set xs i (record { trees = z.trees; said = noted z.said k t.verdict })) (get_or_from_slice_get xs i x x here)
      in
      let e = entry in
      rw (e, kn) (ap entries_of same ∙ map-set entry_of xs i y)
