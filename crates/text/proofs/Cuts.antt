-- Texts cut at a delimiter: a piece is cut in one way, and what is left begins where the piece ended.
use Rattle.std.proofs.Common.{◌≡◌, ℕ, suc, ◌+◌, ◌-◌, ◌<◌, ◌≤◌, List, [], ◌∷◌, ◌++◌, length, get_or, take, drop, decimal, sym, refl, ap, ◌∙◌, subst, Some, None, Option, MatchOption, unwrap_or, ⊎_elim, arith}
use Rattle.std.proofs.lemmas.Fmt.{digits_decimal}
use Rattle.std.proofs.lemmas.List.{drop_more, drop_all, drop-drop, take-append-drop, length-take-le, length-drop, get_or-take, get_or-drop, length-append, append_cancel_left}
use Rattle.std.specs.List.{AllWithin, HoldsAt, between}
use Rattle.std.proofs.lemmas.Slice.{between_to_end}
use Rattle.std.specs.Prelude.{◌≢◌}
use Rattle.std.proofs.str.Laws.{order}
use Rattle.text.proofs.Digits.{Figures, own}
use Rattle.std.specs.declared.ops.Range.{Range}
use Rattle.text.specs.Lines.{IsLine}
use Rattle.text.specs.Pieces.{PieceEnd, EndsHere, Without}

without_by_places : (d : ℕ) (xs : List ℕ) → ((k : ℕ) → k < length xs → get_or xs k 0 ≡ d → ⊥) → Without d xs
without_by_places d [] h = tt
without_by_places d (x ∷ xs) h = (λ e. h 0 (omega arith) e, without_by_places d xs (λ k l e. h (suc k) (omega arith) e))

pub without_append : (d : ℕ) (xs ys : List ℕ) → Without d xs → Without d ys → Without d (xs ++ ys)
without_append d [] ys f g = g
without_append d (x ∷ xs) ys f g = (f.0, without_append d xs ys f.1 g)

figures_without : (d : ℕ) (xs : List ℕ) → d < 48 → Figures xs → Without d xs
figures_without d [] h f = tt
figures_without d (x ∷ xs) h f = (λ e. omega (arith, f.0, e), figures_without d xs h f.2)

-- a number holds no byte below the figures, as a comma or a newline
pub decimal_without : (d n : ℕ) → d < 48 → n < 100000 → Without d (decimal n)
decimal_without d n h small = figures_without d (decimal n) h (digits_decimal own n (omega arith))

-- a list is cut at its first delimiter in one way
pub one_cut : (d : ℕ) (xs ys xs' ys' : List ℕ) → Without d xs → Without d xs' → EndsHere d ys → EndsHere d ys' → xs ++ ys ≡ xs' ++ ys' → xs ≡ xs'
one_cut d [] ys [] ys' f f' o o' e = refl
one_cut d [] [] (x' ∷ xs') ys' f f' o o' e = absurd (cc)
one_cut d [] (y ∷ ys) (x' ∷ xs') ys' f f' o o' e = let s : y ≡ x' = cc in absurd (f'.0 (sym s ∙ o))
one_cut d (x ∷ xs) ys [] [] f f' o o' e = absurd (cc)
one_cut d (x ∷ xs) ys [] (y' ∷ ys') f f' o o' e = let s : x ≡ y' = cc in absurd (f.0 (s ∙ o'))
one_cut d (x ∷ xs) ys (x' ∷ xs') ys' f f' o o' e =
    let s : x ≡ x' = cc in
    let t : xs ++ ys ≡ xs' ++ ys' = cc in
    let u = one_cut d xs ys xs' ys' f.1 f'.1 o o' t in cc

-- a piece and what follows its delimiter are cut in one way
pub one_end : (d : ℕ) (a b a' b' : List ℕ) → Without d a → Without d a' → a ++ d ∷ b ≡ a' ++ d ∷ b' → (a ≡ a') × (b ≡ b')
one_end d a b a' b' f f' e =
    let p = one_cut d a (d ∷ b) a' (d ∷ b') f f' refl refl e in
    let r : d ∷ b ≡ d ∷ b' = append_cancel_left a (d ∷ b) (d ∷ b') (e ∙ ap (λ xs. xs ++ d ∷ b') (sym p)) in
    (p, cc)

module _ (text : List ℕ) (at end : ℕ) (d : ℕ) (ends : PieceEnd d text at end) where
  pub piece_without : Without d (take (end - at) (drop at text))
  piece_without =
      let long : length (take (end - at) (drop at text)) ≡ end - at = length-take-le (end - at) (drop at text) (omega (arith, length-drop at text, ends.onward, ends.within)) in
      without_by_places d _ (λ k h e. ends.free (at + k) (omega arith) (omega arith) (sym (get_or-take (end - at) (drop at text) k 0 (omega arith) ∙ get_or-drop at text k 0) ∙ e))

  pub piece_and_rest : drop at text ≡ take (end - at) (drop at text) ++ drop end text
  piece_and_rest =
      let n : at + (end - at) ≡ end = omega (arith, ends.onward) in
      sym (ap (λ xs. take (end - at) (drop at text) ++ xs) (sym (drop-drop (end - at) at text ∙ ap (λ k. drop k text) n)) ∙ take-append-drop (end - at) (drop at text))

  pub rest_ends_here : EndsHere d (drop end text)
  rest_ends_here = ⊎_elim (λ h. subst (EndsHere d) (sym (drop_more text end 0 h)) (ends.stops h)) (λ h. subst (EndsHere d) (sym (drop_all end text h)) tt) (order end (length text))

pub delimiter_next : (d : ℕ) (text : List ℕ) (at : ℕ) → EndsHere d (drop at text) → at < length text → drop at text ≡ d ∷ drop (at + 1) text
delimiter_next d text at o h =
    let more = drop_more text at 0 h in
    more ∙ ap (λ b. b ∷ drop (at + 1) text) (subst (EndsHere d) more o)

-- how far a reader went whose text has kept its bytes
pub went_on : (text text' : List ℕ) (at at' : ℕ) (xs : List ℕ) → text' ≡ text → at ≤ length text → at' ≤ length text' → drop at text ≡ xs ++ drop at' text' → at' ≡ at + length xs
went_on text text' at at' xs same h h' e = omega (arith, length-drop at text, length-drop at' text', ap length same, ap length e ∙ length-append xs (drop at' text'))

-- the first delimiter ahead is where the piece ends, or else the text's end
pub ends_at_first : (d : ℕ) (text : List ℕ) (at : ℕ) (ahead : Option ℕ) → at ≤ length text → MatchOption ahead (AllWithin (λ b. b ≢ d) (drop at text) 0 (length (drop at text))) (λ n. (n < length (drop at text)) × HoldsAt (λ b. b ≡ d) (drop at text) n × AllWithin (λ b. b ≢ d) (drop at text) 0 n) → PieceEnd d text at (at + unwrap_or ahead (length (drop at text)))
ends_at_first d text at (Some n) l h = record {
  onward = omega arith;
  within = omega (arith, h.0, length-drop at text);
  free = λ k a b e. let j : at + (k - at) ≡ k = omega arith in h.2 (k - at) 0 (omega arith) (omega arith) (get_or-drop at text (k - at) 0 ∙ ap (λ i. get_or text i 0) j ∙ e);
  stops = λ _. sym (get_or-drop at text n 0) ∙ h.1 0;
}
ends_at_first d text at None l h = record {
  onward = omega arith;
  within = omega (arith, length-drop at text);
  free = λ k a b e. let j : at + (k - at) ≡ k = omega arith in h (k - at) 0 (omega arith) (omega (arith, length-drop at text)) (get_or-drop at text (k - at) 0 ∙ ap (λ i. get_or text i 0) j ∙ e);
  stops = λ k. absurd (omega (arith, length-drop at text));
}

-- where a piece ends in what is left of a text from `at` on
pub ends_behind : (d : ℕ) (text : List ℕ) (at n : ℕ) → at ≤ length text → PieceEnd d (between at (length text) text) 0 n → PieceEnd d text at (at + n)
ends_behind d text at n l ends =
    let left = between_to_end text at (length text) (omega arith) in
    let e = subst (λ xs. PieceEnd d xs 0 n) left ends in
    record {
      onward = omega arith;
      within = omega (arith, e.within, length-drop at text);
      free = λ k a b f. let j : at + (k - at) ≡ k = omega arith in e.free (k - at) (omega arith) (omega arith) (get_or-drop at text (k - at) 0 ∙ ap (λ i. get_or text i 0) j ∙ f);
      stops = λ h. sym (get_or-drop at text n 0) ∙ e.stops (omega (arith, length-drop at text));
    }

-- a line of a text is one of the same text
pub same_line : {text text' : List ℕ} {at behind : ℕ} {line : Range ℕ} → text' ≡ text → IsLine text' at behind line → IsLine text at behind line
same_line {at = at} {behind = behind} {line = line} e is = subst (λ t. IsLine t at behind line) e is
