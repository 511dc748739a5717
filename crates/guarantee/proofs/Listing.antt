-- What stands at a place of a list that one element was put into.
use Rattle.std.proofs.Common.{◌≡◌, ℕ, zero, suc, ◌⊎◌, List, [], ◌∷◌, ◌++◌, set, Some, sym, inl, inr}
use Rattle.std.proofs.lemmas.Option.{same_Some, none-some}
use Rattle.std.specs.List.{slice_get}

pub nth_set : {X : Type 0} (xs : List X) (i j : ℕ) (y z : X) → slice_get (set xs i y) j ≡ Some z → (z ≡ y) ⊎ (slice_get xs j ≡ Some z)
nth_set [] i j y z e = inr e
nth_set (x ∷ xs) zero zero y z e = inl (sym (same_Some _ _ e))
nth_set (x ∷ xs) zero (suc j) y z e = inr e
nth_set (x ∷ xs) (suc i) zero y z e = inr e
nth_set (x ∷ xs) (suc i) (suc j) y z e = nth_set xs i j y z e

pub nth_last : {X : Type 0} (xs : List X) (y : X) (j : ℕ) (z : X) → slice_get (xs ++ (y ∷ [])) j ≡ Some z → (z ≡ y) ⊎ (slice_get xs j ≡ Some z)
nth_last [] y zero z e = inl (sym (same_Some _ _ e))
nth_last [] y (suc j) z e = absurd (none-some _ e)
nth_last (x ∷ xs) y zero z e = inr e
nth_last (x ∷ xs) y (suc j) z e = nth_last xs y j z e
