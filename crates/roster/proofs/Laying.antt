-- What lay answers, in two cases.
use Rattle.std.proofs.Common.{◌≡◌, ℕ, ◌<◌, true, ltb, ◌⊎◌, List, [], ◌∷◌, ◌++◌, length, Ok, Err, sym, refl, ap, ◌∙◌, inl, inr, arith}
use Rattle.std.proofs.lemmas.List.{length-map}
use Rattle.std.proofs.lemmas.Bool.{lt-ltb}
use Rattle.model.specs.Meaning.{Meaning}
use Rattle.rule.specs.Faults.{Earns}
use Rattle.rule.specs.Tree.{formula}
use Rattle.rule.specs.declared.fault.RuleFault.{RuleFault}
use Rattle.guarantee.specs.Limits.{most_rules}
use Rattle.guarantee.specs.Records.{no_record}
use Rattle.guarantee.specs.States.{opened, ReadsAs}
use Rattle.guarantee.specs.declared.fault.RosterFault.{RosterFault}
use Rattle.guarantee.specs.declared.fault.RosterFault.TheVariants.{Rule, Memory}
use Rattle.roster.proofs.Places.{entries_added}
use Rattle.roster.specs.Entries.{entry_of, entries_of}
use Rattle.roster.specs.Lays.{LaysOrWantsMemory}
use Rattle.roster.specs.declared.laid.Laid.{Laid}

module _ (m : Meaning) (xs : List Laid) (text : List ℕ) where
  as_many : length (entries_of xs) ≡ length xs
  as_many = length-map xs entry_of

  module _ (l : length xs < most_rules) where
    room : ltb (length (entries_of xs)) most_rules ≡ true
    room = lt-ltb (length (entries_of xs)) most_rules (omega (arith, as_many))

    pub lay_refused : (e : RosterFault) → (e ≡ Memory) ⊎ ((x : RuleFault) × (e ≡ Rule x) × Earns text x)
        → LaysOrWantsMemory (opened m (entries_of xs)) text (Err e) (opened m (entries_of xs))
    lay_refused e (inl q) = inr (ap (λ x. Err x) q, refl)
    lay_refused e (inr (x, q, earns)) = let t = room in inl (rw t (Err x, earns, ap (λ y. Err y) q, refl))

    pub lay_taken : (ys : List Laid) (x : Laid) (n : ℕ) → ys ≡ xs ++ (x ∷ []) → n ≡ length xs → ReadsAs text (Ok (formula x.trees.rule)) → x.said ≡ no_record
        → LaysOrWantsMemory (opened m (entries_of xs)) text (Ok n) (opened m (entries_of ys))
    lay_taken ys x n ey en reads fresh =
        let t = room in
        inl (rw t (Ok (formula x.trees.rule), reads, ap (λ k. Ok k) (en ∙ sym as_many), ap (opened m) (entries_added xs ys x fresh ey)))
