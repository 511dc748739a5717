-- The texts laid in a run and the rules of a roster go together, number by number.
use Rattle.std.proofs.Common.{◌≡◌, ℕ, zero, suc, ◌+◌, ◌⊎◌, List, [], ◌∷◌, ◌++◌, length, Some, None, Option, sym, refl, ap, ◌∙◌, subst, inl, inr, append_assoc, append-nil, arith}
use Rattle.std.proofs.lemmas.Option.{same_Some, none-some}
use mathlib.Core.List.Memᴰ
use mathlib.Core.List.{Memᴰ}
use Rattle.std.specs.List.{slice_get}
use Rattle.ctl.specs.Formula.{Formula}
use Rattle.rule.proofs.Formulas.{one_formula}
use Rattle.rule.specs.Grammar.{Means}
use Rattle.guarantee.specs.Law.{Event, listed, laid_in, RuleUnder}
use Rattle.guarantee.specs.Tries.{Laid, laid}

-- from number n on: each text has its number, and means its rule
abbrev pub Kept : ℕ → List Laid → List Formula → Type 0
Kept n [] [] = Unit {0}
Kept n [] (f ∷ fs) = ⊥
Kept n (l ∷ ls) [] = ⊥
Kept n (l ∷ ls) (f ∷ fs) = (l.number ≡ n) × Means l.text f × Kept (suc n) ls fs

-- what a call lays: nothing, or a rule under the next number
abbrev pub Grown : Option Laid → List Formula → List Formula → Type 0
Grown None fs gs = gs ≡ fs
Grown (Some l) fs gs = (f : Formula) × (gs ≡ fs ++ (f ∷ [])) × (l.number ≡ length fs) × Means l.text f

pub as_many : (n : ℕ) (ls : List Laid) (fs : List Formula) → Kept n ls fs → length ls ≡ length fs
as_many n [] [] h = refl
as_many n [] (f ∷ fs) h = absurd h
as_many n (l ∷ ls) [] h = absurd h
as_many n (l ∷ ls) (f ∷ fs) h = ap suc (as_many (suc n) ls fs h.2)

kept_and_one : (n : ℕ) (ls : List Laid) (fs : List Formula) (l : Laid) (f : Formula) → Kept n ls fs → l.number ≡ n + length fs → Means l.text f
    → Kept n (ls ++ (l ∷ [])) (fs ++ (f ∷ []))
kept_and_one n [] [] l f h e t = (omega arith, t, tt)
kept_and_one n [] (g ∷ fs) l f h e t = absurd h
kept_and_one n (x ∷ ls) [] l f h e t = absurd h
kept_and_one n (x ∷ ls) (g ∷ fs) l f h e t = (h.0, h.1, kept_and_one (suc n) ls fs l f h.2 (omega arith) t)

pub kept_on : (ls : List Laid) (fs gs : List Formula) (o : Option Laid) → Kept 0 ls fs → Grown o fs gs → Kept 0 (ls ++ listed o) gs
kept_on ls fs gs None h e = subst (λ xs. Kept 0 xs gs) (sym (append-nil ls)) (subst (Kept 0 ls) (sym e) h)
kept_on ls fs gs (Some l) h (f, e, n, t) = subst (Kept 0 (ls ++ (l ∷ []))) (sym e) (kept_and_one 0 ls fs l f h (omega arith) t)

-- the rule at a place was laid under its number
laid_at : (n : ℕ) (ls : List Laid) (fs : List Formula) → Kept n ls fs → (j : ℕ) (f : Formula) → slice_get fs j ≡ Some f
    → (text : List ℕ) × Memᴰ (record { number = n + j; text = text }) ls × Means text f
laid_at n [] [] h j f e = absurd (none-some _ e)
laid_at n [] (g ∷ fs) h j f e = absurd h
laid_at n (l ∷ ls) [] h j f e = absurd h
laid_at n (l ∷ ls) (g ∷ fs) h zero f e =
    let z : n + 0 ≡ l.number = omega (arith, h.0) in
    (l.text, Memᴰ.head (ap (λ i. record { number = i; text = l.text }) z), subst (Means l.text) (same_Some _ _ e) h.1)
laid_at n (l ∷ ls) (g ∷ fs) h (suc j) f e =
    let r = laid_at (suc n) ls fs h.2 j f e in
    let z : suc n + j ≡ n + suc j = omega arith in
    (r.0, subst (λ i. Memᴰ (record { number = i; text = r.0 }) (l ∷ ls)) z (Memᴰ.tail r.1), r.2)

-- a text laid under a number means the rule at that place
at_its_number : (n : ℕ) (ls : List Laid) (fs : List Formula) → Kept n ls fs → (x : Laid) (f : Formula) → Memᴰ x ls → Means x.text f
    → (j : ℕ) × (x.number ≡ n + j) × (slice_get fs j ≡ Some f)
at_its_number n [] fs h x f z t = absurd (Memᴰ.not-nil z)
at_its_number n (l ∷ ls) [] h x f z t = absurd h
at_its_number n (l ∷ ls) (g ∷ fs) h x f z t = go (Memᴰ.cases_cons z) (λ z'. at_its_number (suc n) ls fs h.2 x f z' t)
  where
    go : (x ≡ l) ⊎ Memᴰ x ls → (Memᴰ x ls → (j : ℕ) × (x.number ≡ suc n + j) × (slice_get fs j ≡ Some f))
        → (j : ℕ) × (x.number ≡ n + j) × (slice_get (g ∷ fs) j ≡ Some f)
    go (inl e) later =
        let q : x.number ≡ l.number = ap (λ y. y.number) e in
        (0, omega (arith, h.0), ap (λ y. Some y) (one_formula l.text g f h.1 (subst (λ y. Means y.text f) e t)))
    go (inr z) later = let r = later z in (suc r.0, omega (arith, r.1), r.2)

pub rule_at : (events : List Event) (fs : List Formula) → Kept 0 (laid_in events) fs → (r : ℕ) (f : Formula) → slice_get fs r ≡ Some f → RuleUnder events r f
rule_at events fs h r f e =
    let x = laid_at 0 (laid_in events) fs h r f e in
    let z : 0 + r ≡ r = omega arith in
    record { text = x.0; answered = subst (λ i. Memᴰ (record { number = i; text = x.0 }) (laid_in events)) z x.1; means = x.2 }

pub at_the_rule : (events : List Event) (fs : List Formula) → Kept 0 (laid_in events) fs → (r : ℕ) (f : Formula) → RuleUnder events r f → slice_get fs r ≡ Some f
at_the_rule events fs h r f u =
    let x = at_its_number 0 (laid_in events) fs h (record { number = r; text = u.text }) f u.answered u.means in
    let z : x.0 ≡ r = omega (arith, x.1) in
    subst (λ i. slice_get fs i ≡ Some f) z x.2

pub laid_in_both : (xs ys : List Event) → laid_in (xs ++ ys) ≡ laid_in xs ++ laid_in ys
laid_in_both [] ys = refl
laid_in_both (x ∷ xs) ys = ap (λ l. listed (laid x.call x.answer) ++ l) (laid_in_both xs ys) ∙ sym (append_assoc (listed (laid x.call x.answer)) (laid_in xs) (laid_in ys))
