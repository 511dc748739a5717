-- The lowest set bit at or above a place.
use Rattle.std.proofs.Common.{◌≡◌, ℕ, ◌+◌, ◌-◌, ◌/◌, ◌%◌, ◌^◌, ◌<◌, ◌≤◌, true, false, eqb, sym, ap, ◌∙◌, ⊎_elim, w64, arith, shr-shr}
use lib.Pow.{shr_le}
use lib.Count.{count_trailing_zeros}
use Rattle.std.proofs.lemmas.Bool.{cases_lt, both_ways}
use Rattle.std.proofs.lemmas.Nat.Bits.{bit_at_above, bit_at-trailing_zeros}
use Rattle.sets.specs.Sets.{bit, LowestFrom}
use Rattle.sets.proofs.Bits.{no_bit}

-- bit i of a shifted number is a higher bit
bit_shr : (n f i : ℕ) → bit (n / 2 ^ f) i ≡ bit n (f + i)
bit_shr n f i = ap (λ x. eqb (x % 2) 1) (shr-shr n f i)

-- a bit from f on is a bit of the number shifted by f
bit_from : (n f i : ℕ) → f ≤ i → bit n i ≡ bit (n / 2 ^ f) (i - f)
bit_from n f i l = let e : f + (i - f) ≡ i = omega arith in sym (bit_shr n f (i - f) ∙ ap (bit n) e)

pub from_on : (n f : ℕ) → n < 2 ^ 64 → (n / 2 ^ f ≡ 0 → ⊥) → let t = f + count_trailing_zeros 64 (n / 2 ^ f) in (t < 64) × LowestFrom (bit n) f t
from_on n f h ne =
    let u = count_trailing_zeros 64 (n / 2 ^ f) in
    let r = bit_at-trailing_zeros w64 (n / 2 ^ f) (omega arith) (omega (arith, shr_le n f)) in
    let here : bit n (f + u) ≡ true = sym (bit_shr n f u) ∙ ap (λ d. eqb d 1) r.1 in (
      ⊎_elim (λ l. l) (λ g. absurd (both_ways (bit n (f + u)) (ap (λ d. eqb d 1) (bit_at_above n 64 (f + u) h g)) here)) (cases_lt (f + u) 64),
      record { above = omega arith; passes = here; none = λ i l b. bit_from n f i l ∙ ap (λ d. eqb d 1) (r.2 (i - f) (omega arith)) },
    )

pub from_none : (n f : ℕ) → n / 2 ^ f ≡ 0 → (i : ℕ) → f ≤ i → bit n i ≡ false
from_none n f z i l = bit_from n f i l ∙ (ap (λ x. bit x (i - f)) z ∙ no_bit (i - f))
