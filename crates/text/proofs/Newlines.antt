-- How the count of newlines goes along a text.
use Rattle.std.proofs.Common.{◌≡◌, ℕ, suc, ◌≤◌, cond, List, [], ◌∷◌, ◌++◌, length, drop, refl, ap, ◌∙◌}
use Rattle.std.proofs.lemmas.Bool.{ne_eqb}
use Rattle.std.proofs.lemmas.List.{at_drop_all}
use Rattle.text.specs.Pieces.{Without, newlines}

pub no_newline_past_the_end : (text : List ℕ) (i : ℕ) → length text ≤ i → newlines (drop i text) ≡ 0
no_newline_past_the_end text i h = at_drop_all newlines text i h

pub newlines_behind : (xs ys : List ℕ) → Without 10 xs → newlines (xs ++ ys) ≡ newlines ys
newlines_behind [] ys f = refl
newlines_behind (x ∷ xs) ys f = ap (λ t. cond t (suc (newlines (xs ++ ys))) (newlines (xs ++ ys))) (ne_eqb x 10 f.0) ∙ newlines_behind xs ys f.1
