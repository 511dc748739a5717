-- Bits of numbers under the operations on words.
use Rattle.std.proofs.Common.{◌≡◌, ℕ, ◌^◌, ◌<◌, false, not, ◌&&◌, ◌||◌, eqb, ap, ◌∙◌, w64, arith}
use lib.Bits.{bit_and, bit_or}
use Rattle.std.specs.Int.{bit_not}
use Rattle.std.proofs.lemmas.Bool.Decides.{nat_tests}
use Rattle.std.proofs.lemmas.Nat.Bits.{bit_at-lt, bit_at-zero, bit_at_and, bit_at_or, bit_at_not}
use Rattle.sets.specs.Sets.{bit}

pub bit_of_and : (a b i : ℕ) → bit (bit_and a b) i ≡ (bit a i && bit b i)
bit_of_and a b i = let e = bit_at_and a b i in let x = bit_at-lt a i in let y = bit_at-lt b i in grind (arith, nat_tests)

pub bit_of_or : (a b i : ℕ) → bit (bit_or a b) i ≡ (bit a i || bit b i)
bit_of_or a b i = let e = bit_at_or a b i in let x = bit_at-lt a i in let y = bit_at-lt b i in grind (arith, nat_tests)

bit_of_not : (b i : ℕ) → b < 2 ^ 64 → i < 64 → bit (bit_not w64 b) i ≡ not (bit b i)
bit_of_not b i h l = let e = bit_at_not w64 b i h l in let y = bit_at-lt b i in grind (arith, nat_tests)

-- what a has and b has not
pub bit_of_and_not : (a b i : ℕ) → b < 2 ^ 64 → i < 64 → bit (bit_and a (bit_not w64 b)) i ≡ (bit a i && not (bit b i))
bit_of_and_not a b i h l = bit_of_and a (bit_not w64 b) i ∙ ap (λ x. bit a i && x) (bit_of_not b i h l)

pub no_bit : (i : ℕ) → bit 0 i ≡ false
no_bit i = ap (λ d. eqb d 1) (bit_at-zero i)
