-- What `contains` answers is what the definition of a row's marks and targets says. The check finds this by itself for the
-- questions of today; it is kept for other makes of model over lists.
use Rattle.std.proofs.Common.{◌≡◌, ℕ, Bool, eqb, List, refl}
use Rattle.std.specs.List.{IsAnyAnswer}
use Rattle.std.proofs.lemmas.List.Elements.{contains_decides}
use Rattle.std.proofs.lemmas.Bool.Decides.{same_from_decides, Decides-by_or, Decides-eqb}
use Rattle.rows.specs.Rows.{has}

pub has_contains : (xs : List ℕ) (x : ℕ) (r : Bool) → IsAnyAnswer (λ y t. eqb y x ≡ t) xs r → r ≡ has xs x
has_contains xs x r h =
    same_from_decides r (has xs x) (contains_decides eqb Decides-eqb xs x r h) (Decides-by_or (λ y. eqb y x) (λ y. y ≡ x) (λ ys. has ys x) (λ y. Decides-eqb y x) refl (λ _ _. refl) xs)
