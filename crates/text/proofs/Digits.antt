-- Figures read one by one: what has been read so far, and what that says of the whole piece.
use Rattle.std.proofs.Common.{◌≡◌, ℕ, zero, suc, ◌+◌, ◌-◌, ◌*◌, ◌<◌, ◌≤◌, List, [], ◌∷◌, length, get_or, drop, decimal, sym, ap, ◌∙◌, subst, arith, rules}
use Rattle.std.proofs.lemmas.List.{drop_more, drop_all}
use Rattle.std.proofs.lemmas.Str.Parse.{IsNumeralModel, numerals_by_fold}
use Rattle.std.proofs.lemmas.Fmt.{digits_decimal, digits_value-decimal, decimal-digits_value, decimal_nonempty, first_decimal, decimal_digit}

abbrev pub Figures : List ℕ → Type 0
Figures [] = Unit {0}
Figures (c ∷ cs) = (48 ≤ c) × (c ≤ 57) × Figures cs

abbrev pub read_on : ℕ → List ℕ → ℕ
read_on n [] = n
read_on n (c ∷ cs) = read_on (n * 10 + (c - 48)) cs

pub own : IsNumeralModel Figures (read_on 0)
own = numerals_by_fold _ (search rules) read_on (search rules)

read_on_ge : (n : ℕ) (ds : List ℕ) → n ≤ read_on n ds
read_on_ge n [] = omega arith
read_on_ge n (c ∷ cs) = omega (arith, read_on_ge (n * 10 + (c - 48)) cs)

-- what is left to read at i, with n read so far
pub record Half (piece : List ℕ) (i n : ℕ) : Type 0 where
  pub reads : read_on n (drop i piece) ≡ read_on 0 piece
  pub to : Figures (drop i piece) → Figures piece
  pub from : Figures piece → Figures (drop i piece)

pub half_more : (piece : List ℕ) (i n b : ℕ) → i < length piece → get_or piece i 0 ≡ b → 48 ≤ b → b ≤ 57 → Half piece i n → Half piece (i + 1) (n * 10 + (b - 48))
half_more piece i n b h e low high so =
    let d : drop i piece ≡ b ∷ drop (i + 1) piece = drop_more piece i 0 h ∙ ap (λ x. x ∷ drop (i + 1) piece) e in
    record {
      reads = sym (ap (read_on n) d) ∙ so.reads;
      to = λ f. so.to (subst Figures (sym d) (low, high, f));
      from = λ f. (subst Figures d (so.from f)).2;
    }

pub no_figure : (piece : List ℕ) (i n b : ℕ) → i < length piece → get_or piece i 0 ≡ b → (48 ≤ b → b ≤ 57 → ⊥) → Half piece i n → (t : ℕ) → t < 100000 → piece ≡ decimal t → ⊥
no_figure piece i n b h e bad so t small w =
    let d : drop i piece ≡ b ∷ drop (i + 1) piece = drop_more piece i 0 h ∙ ap (λ x. x ∷ drop (i + 1) piece) e in
    let f = subst Figures d (so.from (subst Figures (sym w) (digits_decimal own t (omega arith)))) in
    bad f.0 f.1

pub too_large : (piece : List ℕ) (i n top : ℕ) → Half piece i n → top ≤ n → (t : ℕ) → t < 100000 → t < top → piece ≡ decimal t → ⊥
too_large piece i n top so h t small below w =
    let v : read_on 0 piece ≡ t = ap (read_on 0) w ∙ digits_value-decimal own t (omega arith) in
    omega (arith, v, so.reads, read_on_ge n (drop i piece))

pub all_read : (piece : List ℕ) (i n : ℕ) → Half piece i n → length piece ≤ i → n < 100000 → 0 < length piece → (get_or piece 0 0 ≡ 48 → length piece ≡ 1) → piece ≡ decimal n
all_read piece i n so h small some plain =
    let d = drop_all i piece h in
    let f : Figures piece = so.to (subst Figures (sym d) tt) in
    let v : read_on 0 piece ≡ n = sym so.reads ∙ ap (read_on n) d in
    sym (ap decimal (sym v) ∙ decimal-digits_value own piece f some plain (omega arith))

pub empty_not : (piece : List ℕ) → length piece ≡ 0 → (t : ℕ) → t < 100000 → piece ≡ decimal t → ⊥
empty_not piece e t small w = omega (arith, decimal_nonempty t (omega arith), ap length w)

pub leading_not : (piece : List ℕ) → get_or piece 0 0 ≡ 48 → 1 < length piece → (t : ℕ) → t < 100000 → piece ≡ decimal t → ⊥
leading_not piece e h zero small w = omega (arith, ap length (w ∙ decimal_digit 0 (omega arith)))
leading_not piece e h (suc t) small w = omega (arith, first_decimal (suc t) (omega arith) (omega arith), e, ap (λ xs. get_or xs 0 0) w)
