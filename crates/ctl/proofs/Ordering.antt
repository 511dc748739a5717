-- The dictionary order is a strict total order.
use Rattle.std.proofs.Common.{◌≡◌, ℕ, ◌<◌, ◌⊎◌, List, [], ◌∷◌, ◌++◌, sym, refl, ◌∙◌, ap₂, inl, inr, arith}
use Rattle.std.proofs.lemmas.Bool.{cases_order}
use Rattle.ctl.specs.Claims.{OrdersLists}
use Rattle.ctl.specs.Dictionary.{Before}

irreflexive : (a : List ℕ) → Before a a → ⊥
irreflexive [] h = h
irreflexive (x ∷ a) (inl l) = absurd (omega arith)
irreflexive (x ∷ a) (inr h) = irreflexive a h.1

transitive : (a b c : List ℕ) → Before a b → Before b c → Before a c
transitive [] [] c h g = absurd h
transitive [] (y ∷ b) [] h g = absurd g
transitive [] (y ∷ b) (z ∷ c) h g = tt
transitive (x ∷ a) [] c h g = absurd h
transitive (x ∷ a) (y ∷ b) [] h g = absurd g
transitive (x ∷ a) (y ∷ b) (z ∷ c) (inl h) (inl g) = inl (omega arith)
transitive (x ∷ a) (y ∷ b) (z ∷ c) (inl h) (inr g) = inl (let e = g.0 in omega arith)
transitive (x ∷ a) (y ∷ b) (z ∷ c) (inr h) (inl g) = inl (let e = h.0 in omega arith)
transitive (x ∷ a) (y ∷ b) (z ∷ c) (inr h) (inr g) = inr (h.0 ∙ g.0, transitive a b c h.1 g.1)

total : (a b : List ℕ) → (a ≡ b) ⊎ (Before a b ⊎ Before b a)
total [] [] = inl refl
total [] (y ∷ b) = inr (inl tt)
total (x ∷ a) [] = inr (inr tt)
total (x ∷ a) (y ∷ b) = go (cases_order x y) (total a b)
  where
    go : (x ≡ y) ⊎ ((x < y) ⊎ (y < x)) → (a ≡ b) ⊎ (Before a b ⊎ Before b a) → (x ∷ a ≡ y ∷ b) ⊎ (Before (x ∷ a) (y ∷ b) ⊎ Before (y ∷ b) (x ∷ a))
    go (inl e) (inl r) = inl (ap₂ ◌∷◌ e r)
    go (inl e) (inr (inl r)) = inr (inl (inr (e, r)))
    go (inl e) (inr (inr r)) = inr (inr (inr (sym e, r)))
    go (inr (inl l)) r = inr (inl (inl l))
    go (inr (inr l)) r = inr (inr (inl l))

extensions : (a : List ℕ) (x : ℕ) (xs : List ℕ) → Before a (a ++ (x ∷ xs))
extensions [] x xs = tt
extensions (y ∷ a) x xs = inr (refl, extensions a x xs)

pub orders_lists : OrdersLists
orders_lists = record { irreflexive = irreflexive; transitive = transitive; total = total; extensions = extensions }
