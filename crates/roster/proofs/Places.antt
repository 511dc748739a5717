-- A rule laid or changed among others, and the entries that they stand for.
use Rattle.std.proofs.Common.{◌≡◌, List, [], ◌∷◌, ◌++◌, ap, ◌∙◌}
use Rattle.std.proofs.lemmas.List.{map-append}
use Rattle.rule.specs.Tree.{formula}
use Rattle.guarantee.specs.Records.{no_record}
use Rattle.guarantee.specs.States.{fresh_entry}
use Rattle.roster.specs.Entries.{entry_of, entries_of}
use Rattle.roster.specs.declared.laid.Laid.{Laid}

-- a rule added with an empty record
pub entries_added : (xs ys : List Laid) (x : Laid) → x.said ≡ no_record → ys ≡ xs ++ (x ∷ [])
    → entries_of ys ≡ entries_of xs ++ (fresh_entry (formula x.trees.rule) ∷ [])
entries_added xs ys x fresh e =
    ap entries_of e ∙ map-append entry_of xs (x ∷ []) ∙ ap (λ r. entries_of xs ++ (record { formula = formula x.trees.rule; said = r } ∷ [])) fresh
