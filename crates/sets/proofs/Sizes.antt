-- How many members a set has.
use Rattle.std.proofs.Common.{◌≡◌, ℕ, zero, suc, ◌+◌, ◌<◌, ◌≤◌, Bool, true, not, ◌&&◌, cond, eqb, sym, refl, ap, subst, ◌∙◌, ⊎_elim, arith}
use Rattle.std.specs.List.{range_with_len, count_by}
use Rattle.std.proofs.lemmas.Bool.Decides.{nat_tests}
use Rattle.std.proofs.lemmas.Bool.{cases_eq, and_parts}
use Rattle.std.proofs.lemmas.List.Sums.{sum_by-cons}
use Rattle.ctl.specs.States.{size_below}
use Rattle.ctl.proofs.Pigeonhole.{size_inside}

-- one more number counted at the end of a range
count_more : (p : ℕ → Bool) (a n : ℕ) → count_by p (range_with_len a (suc n)) ≡ cond (p (a + n)) 1 0 + count_by p (range_with_len a n)
count_more p a zero = let e : a + 0 ≡ a = omega arith in let s = ap {B = ℕ} (λ x. cond (p x) 1 0) e in omega (arith, s)
count_more p a (suc n) =
    let f : ℕ → ℕ = λ x. cond (p x) 1 0 in
    let e : a + 1 + n ≡ a + suc n = omega arith in
    omega (arith, sum_by-cons f a (range_with_len (a + 1) (suc n)), sum_by-cons f a (range_with_len (a + 1) n), count_more p (a + 1) n, ap f e)

pub size_as_count : (p : ℕ → Bool) (n : ℕ) → size_below p n ≡ count_by p (range_with_len 0 n)
size_as_count p zero = refl
size_as_count p (suc n) =
    let e : 0 + n ≡ n = omega arith in
    let more = subst (λ k. count_by p (range_with_len 0 (suc n)) ≡ cond (p k) 1 0 + count_by p (range_with_len 0 n)) e (count_more p 0 n) in
    let r = size_as_count p n in
    grind (arith, nat_tests)

-- a set less one member
pub size_without : (N M : ℕ → Bool) (t n : ℕ) → t < n → N t ≡ true → ((i : ℕ) → M i ≡ (N i && not (eqb i t))) → size_below M n < size_below N n
size_without N M t zero l e h = absurd (omega arith)
size_without N M t (suc n) l e h = ⊎_elim
    (λ q. let here : N n ≡ true = ap N q ∙ e in let out = h n in let i = inside in grind (arith, nat_tests))
    (λ ne. let same = h n in let r = size_without N M t n (omega arith) e h in grind (arith, nat_tests))
    (cases_eq n t)
  where
    inside : size_below M n ≤ size_below N n
    inside = size_inside M N n (λ s y. (and_parts (N s) (not (eqb s t)) (sym (h s) ∙ y)).0)
