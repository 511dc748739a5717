-- Words of bits, at any place.
use Rattle.std.proofs.Common.{◌≡◌, ℕ, ◌*◌, ◌/◌, ◌%◌, ◌^◌, ◌<◌, ◌≤◌, Bool, true, false, not, ◌&&◌, ◌||◌, eqb, List, length, get_or, set, sym, refl, ap, ◌∙◌, Some, None, Option, MatchOption, ⊎_elim, w64, arith}
use lib.Bits.{bit_and, bit_or}
use Rattle.std.specs.Int.{bit_not}
use Rattle.std.specs.Option.{is_some}
use Rattle.std.proofs.lemmas.List.{get_or-set_same, get_or-set_other, get_or_past}
use Rattle.std.proofs.lemmas.Nat.Bits.{bit_at_set_same, bit_at_set_other, bit_at_clear_same, bit_at_clear_other}
use Rattle.std.proofs.Math.Bool.{and-true}
use Rattle.std.proofs.lemmas.Bool.{cases_eq, cases_lt, and_right, eq-eqb, false≢true, ne_eqb}
use Rattle.sets.specs.Sets.{bit, LowestFrom}
use Rattle.sets.proofs.Bits.{no_bit}

pub past : (ws : List ℕ) (s : ℕ) → length ws ≤ s / 64 → bit (get_or ws (s / 64) 0) (s % 64) ≡ false
past ws s h = ap (λ x. bit x (s % 64)) (get_or_past ws (s / 64) 0 h) ∙ no_bit (s % 64)

-- words made one by one from two others
pub each_word : (on : Bool → Bool → Bool) → on false false ≡ false → (n : ℕ) (out a b : List ℕ) → length out ≡ n → length a ≡ n → length b ≡ n
    → ((k : ℕ) → k < n → (i : ℕ) → i < 64 → bit (get_or out k 0) i ≡ on (bit (get_or a k 0) i) (bit (get_or b k 0) i))
    → (s : ℕ) → bit (get_or out (s / 64) 0) (s % 64) ≡ on (bit (get_or a (s / 64) 0) (s % 64)) (bit (get_or b (s / 64) 0) (s % 64))
each_word on none n out a b lo la lb h s = ⊎_elim
    (λ l. h (s / 64) l (s % 64) (omega arith))
    (λ g. past out s (omega arith) ∙ sym (rw (past a s (omega arith), past b s (omega arith)) none))
    (cases_lt (s / 64) n)

-- one word written
one_word : (ws : List ℕ) (s v t : ℕ) (r : Bool) → s / 64 < length ws → (t / 64 ≡ s / 64 → bit v (t % 64) ≡ r) → ((t ≡ s → ⊥) → bit (get_or ws (t / 64) 0) (t % 64) ≡ r)
    → bit (get_or (set ws (s / 64) v) (t / 64) 0) (t % 64) ≡ r
one_word ws s v t r h here there = ⊎_elim
    (λ q. ap (λ x. bit (get_or (set ws (s / 64) v) x 0) (t % 64)) q ∙ (ap (λ x. bit x (t % 64)) (get_or-set_same ws (s / 64) v 0 h) ∙ here q))
    (λ ne. ap (λ x. bit x (t % 64)) (get_or-set_other ws (s / 64) (t / 64) v 0 ne) ∙ there (λ e. ne (ap (λ x. x / 64) e)))
    (cases_eq (t / 64) (s / 64))

-- one bit written into one word
pub write_bit : (ws : List ℕ) (s t : ℕ) → s / 64 < length ws
    → bit (get_or (set ws (s / 64) (bit_or (get_or ws (s / 64) 0) (1 * 2 ^ (s % 64) % 2 ^ 64))) (t / 64) 0) (t % 64) ≡ (eqb t s || bit (get_or ws (t / 64) 0) (t % 64))
write_bit ws s t h = one_word ws s _ t _ h
    (λ q. ⊎_elim
    (λ e. let r : t ≡ s = omega arith in ap (bit (bit_or (get_or ws (s / 64) 0) (1 * 2 ^ (s % 64) % 2 ^ 64))) e ∙ (ap (λ d. eqb d 1) (bit_at_set_same w64 (get_or ws (s / 64) 0) (s % 64) (omega arith)) ∙ sym (rw (eq-eqb t s r))))
    (λ ne. ap (λ d. eqb d 1) (bit_at_set_other w64 (get_or ws (s / 64) 0) (s % 64) (omega arith) (t % 64) ne) ∙ rw (ne_eqb t s (λ e. ne (ap (λ x. x % 64) e)), q))
    (cases_eq (t % 64) (s % 64)))
    (λ ne. rw (ne_eqb t s ne))

-- one bit taken out of one word
pub drop_bit : (ws : List ℕ) (s t : ℕ) → s / 64 < length ws
    → bit (get_or (set ws (s / 64) (bit_and (get_or ws (s / 64) 0) (bit_not w64 (1 * 2 ^ (s % 64) % 2 ^ 64)))) (t / 64) 0) (t % 64) ≡ (bit (get_or ws (t / 64) 0) (t % 64) && not (eqb t s))
drop_bit ws s t h = one_word ws s _ t _ h
    (λ q. ⊎_elim
    (λ e. let r : t ≡ s = omega arith in ap (bit (bit_and (get_or ws (s / 64) 0) (bit_not w64 (1 * 2 ^ (s % 64) % 2 ^ 64)))) e ∙ (ap (λ d. eqb d 1) (bit_at_clear_same w64 (get_or ws (s / 64) 0) (s % 64) (omega arith)) ∙ sym (rw (eq-eqb t s r) (and_right _ false refl))))
    (λ ne. ap (λ d. eqb d 1) (bit_at_clear_other w64 (get_or ws (s / 64) 0) (s % 64) (omega arith) (t % 64) (omega arith) ne) ∙ rw (ne_eqb t s (λ e. ne (ap (λ x. x % 64) e)), q) (sym (and-true _)))
    (cases_eq (t % 64) (s % 64)))
    (λ ne. rw (ne_eqb t s ne) (sym (and-true _)))

-- a word that has a lowest bit has a bit
pub bit_there : (w : ℕ) (low : Option ℕ) → is_some low ≡ true → MatchOption low ((i : ℕ) → 0 ≤ i → i < 64 → bit w i ≡ false) (λ t. (t < 64) × LowestFrom (bit w) 0 t)
    → (t : ℕ) × (t < 64) × (bit w t ≡ true)
bit_there w None e h = absurd (false≢true e)
bit_there w (Some t) e h = (t, h.0, h.1.passes)
