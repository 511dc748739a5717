-- What stands at a place of a text, and what is read from there.
use Rattle.std.proofs.Common.{◌≡◌, ℕ, ◌+◌, ◌<◌, ◌≤◌, List, [], ◌∷◌, length, get_or, drop, take, ◌-◌, Some, None, Option, MatchOption, zero, suc, arith, ap, add-one, drop_of_length-le, drop-cons}
use Rattle.std.proofs.lemmas.List.{take_rest, drop-drop}
use Rattle.std.specs.List.{AllWithin, HoldsAt}
use Rattle.std.specs.Option.{unwrap_or}
use Rattle.rule.specs.Grammar.{Spaces, none, more, Reads, here}
use Rattle.rule.specs.Signs.{sign_of}
use Rattle.rule_reader.specs.Halts.{first, Clear}
use Rattle.rule.specs.declared.sign.Sign.{Sign}
use Rattle.rule.specs.declared.sign.Sign.TheVariants.{Space}

place_and_behind : (text : List ℕ) (n : ℕ) → n < length text → drop n text ≡ get_or text n 0 ∷ drop (n + 1) text
place_and_behind text n h = rw (add-one, drop-cons text n 0)

first_at_place : (text : List ℕ) (n : ℕ) → n < length text → first (drop n text) ≡ Some (sign_of (get_or text n 0))
first_at_place text n h = ap first (place_and_behind text n h)

first_at_end : (text : List ℕ) (n : ℕ) → length text ≤ n → first (drop n text) ≡ None
first_at_end text n h = ap first (drop_of_length-le text h)

-- s begins with n spaces
spaces_up_to : (s : List ℕ) (n : ℕ) → n ≤ length s → AllWithin (λ b. sign_of b ≡ Space) s 0 n → Spaces s (drop n s)
spaces_up_to s zero h a = none
spaces_up_to [] (suc n) h a = none
spaces_up_to (b ∷ s) (suc n) h a = more (a 0 0 (omega arith) (omega arith)) (spaces_up_to s n (omega arith) (λ k d l u. a (suc k) d (omega arith) (omega arith)))

-- the first place of s that is no space, or its end
pub spaces_end : (s : List ℕ) (place : Option ℕ) →
    MatchOption place (AllWithin (λ b. sign_of b ≡ Space) s 0 (length s)) (λ n. (n < length s) × HoldsAt (λ b. sign_of b ≡ Space → ⊥) s n × AllWithin (λ b. sign_of b ≡ Space) s 0 n) →
    let n = unwrap_or place (length s) in Spaces s (drop n s) × Clear Space (drop n s)
spaces_end s None a = (spaces_up_to s (length s) (omega arith) a, λ e. let f = first_at_end s (length s) (omega arith) in cc)
spaces_end s (Some n) a = (spaces_up_to s n (omega arith) a.2, λ e. let f = first_at_place s n a.0 in a.1 0 cc)

-- a sign that stands at place n, with k spaces behind it
pub reads_at_place : {x : Sign} (text : List ℕ) (n k : ℕ) → n < length text →
    (let behind = take (length text - (n + 1)) (drop (n + 1) text) in Spaces behind (drop k behind)) →
    first (drop n text) ≡ Some x → Reads x (drop n text) (drop (n + 1 + k) text)
reads_at_place {x} text n k h g e =
    let is : sign_of (get_or text n 0) ≡ x = cc (first_at_place text n h) in
    let spaces : Spaces (drop (n + 1) text) (drop (n + 1 + k) text) = rw (take_rest text (n + 1), drop-drop k (n + 1) text) at g in
    rw (place_and_behind text n h) (here is spaces)
