-- The last line of a channel file is found in one way, and so is the cut between rows and rules.
use Rattle.std.proofs.Common.{◌≡◌, ℕ, zero, suc, ◌+◌, ◌-◌, ◌<◌, ◌≤◌, true, false, eqb, leb, ◌⊎◌, List, [], ◌∷◌, ◌++◌, length, get_or, take, drop, decimal, sym, refl, ap, ◌∙◌, subst, inl, inr, ⊎_elim, arith}
use Rattle.std.proofs.str.Laws.{order}
use Rattle.std.specs.Cmp.Lexicographic.{pointwise, same_text}
use Rattle.std.specs.List.{between}
use Rattle.std.proofs.lemmas.Slice.{between_to_end}
use Rattle.std.proofs.lemmas.Bool.{and_left, and_right, false≢true, or_cases, eq-eqb, eqb-true, and_from, and_parts, le-leb, lt-leb}
use Rattle.std.proofs.lemmas.List.{take-append-drop, append_assoc, length-append, length-take-le, take-append-le, append_cancel_right, get_or_append_left, get_or-append_right, take_at, drop_at, length-drop, get_or-drop}
use Rattle.std.proofs.lemmas.Fmt.{digits_decimal, decimal_injective}
use Rattle.text.proofs.Digits.{Figures, own}
use Rattle.channel.specs.Faults.{BadOffset}
use Rattle.channel.specs.Files.{line_front, most_bytes, sized, Last, Cut}
use Rattle.channel.specs.Steps.{Closed, LineBegins}

no_break : (xs : List ℕ) → Figures xs → (k : ℕ) → k < length xs → get_or xs k 0 ≡ 10 → ⊥
no_break [] f k h e = omega arith
no_break (x ∷ xs) f zero h e = omega (arith, f.0, e)
no_break (x ∷ xs) f (suc k) h e = no_break xs f.2 k (omega arith) e

-- the front that is not 0 follows a byte 10
after_break : (file : List ℕ) (at : ℕ) → line_front file at ≡ true → 0 < at → get_or file (at - 1) 0 ≡ 10
after_break file at e h = ⊎_elim (λ z. absurd (omega (arith, eqb-true at 0 z))) (λ y. eqb-true (get_or file (at - 1) 0) 10 y) (or_cases (eqb at 0) (eqb (get_or file (at - 1) 0) 10) e)

module _ (file body : List ℕ) (n : ℕ) (last : Last file body n) where
  pub long : length file ≡ length body + 1 + length (decimal n) + 1
  long = omega (arith, ap length last.whole, length-append body (64 ∷ (decimal n ++ 10 ∷ [])), length-append (decimal n) (10 ∷ []))

  -- within the last line there is no byte 10
  inside : (k : ℕ) → length body ≤ k → k < length file - 1 → get_or file k 0 ≡ 10 → ⊥
  inside k h l e =
      let there : get_or file k 0 ≡ get_or (64 ∷ (decimal n ++ 10 ∷ [])) (k - length body) 0 = ap (λ xs. get_or xs k 0) last.whole ∙ get_or-append_right body (64 ∷ (decimal n ++ 10 ∷ [])) (length body) k 0 refl h in
      let figs = digits_decimal own n (omega (arith, last.figures)) in
      ⊎_elim
      (λ z. let j : k - length body ≡ suc (k - length body - 1) = omega arith in
      no_break (decimal n) figs (k - length body - 1) (omega (arith, long)) (sym (get_or_append_left (decimal n) (10 ∷ []) 0 (k - length body - 1) (omega (arith, long))) ∙ sym (ap (λ i. get_or (64 ∷ (decimal n ++ 10 ∷ [])) i 0) j) ∙ sym there ∙ e))
      (λ z. let j : k - length body ≡ 0 = omega arith in omega (arith, e, there, ap (λ i. get_or (64 ∷ (decimal n ++ 10 ∷ [])) i 0) j))
      (order 0 (k - length body))

  pub one_front : (at : ℕ) → LineBegins file (length file - 1) at → at ≡ length body
  one_front at f =
      ⊎_elim
      (λ less. absurd (f.free (length body - 1) (omega arith) (omega (arith, long)) (after_break file (length body) last.begins (omega arith))))
      (λ more. ⊎_elim (λ past. absurd (inside (at - 1) (omega arith) (omega (arith, f.within)) (after_break file at f.begins (omega arith)))) (λ same. omega arith) (order (length body) at))
      (order at (length body))

  pub figures_there : take (length file - 1 - (length body + 1)) (drop (length body + 1) file) ≡ decimal n
  figures_there =
      let d : drop (length body + 1) file ≡ decimal n ++ 10 ∷ [] = ap (drop (length body + 1)) (last.whole ∙ sym (append_assoc body (64 ∷ []) (decimal n ++ 10 ∷ []))) ∙ drop_at (body ++ 64 ∷ []) (decimal n ++ 10 ∷ []) (length body + 1) (omega (arith, length-append body (64 ∷ []))) in
      ap (take (length file - 1 - (length body + 1))) d ∙ take_at (decimal n) (10 ∷ []) (length file - 1 - (length body + 1)) (omega (arith, long))

-- a file whose last byte is a newline, without it
pub stripped : (file lines : List ℕ) → pointwise eqb (drop (length file - 1) file) (10 ∷ []) ≡ true → lines ≡ take (length file - 1) file → file ≡ lines ++ 10 ∷ []
stripped file lines t e = sym (take-append-drop (length file - 1) file) ∙ ap (λ xs. take (length file - 1) file ++ xs) (same_text (drop (length file - 1) file) (10 ∷ []) (sym t)) ∙ ap (λ xs. xs ++ 10 ∷ []) (sym e)

-- a line that begins with `@`, and what follows it
pub at_first : (line figures : List ℕ) → pointwise eqb (take 1 line) (64 ∷ []) ≡ true → figures ≡ drop 1 line → line ≡ 64 ∷ figures
at_first [] figures t e = absurd (false≢true t)
at_first (x ∷ xs) figures t e = ap (λ y. y ∷ xs) (eqb-true x 64 (and_parts (eqb x 64) true t).0) ∙ ap (λ ys. 64 ∷ ys) (sym e)

module _ (file lines : List ℕ) (ends : file ≡ lines ++ 10 ∷ []) where
  long_lines : length lines ≡ length file - 1
  long_lines = omega (arith, ap length ends, length-append lines (10 ∷ []))

  -- what was found is the last line
  pub found : (at n : ℕ) → at ≤ length lines → between at (length lines) lines ≡ 64 ∷ decimal n → file ≡ take at file ++ 64 ∷ (decimal n ++ 10 ∷ [])
  found at n h left =
      let front : take at lines ≡ take at file = sym (take-append-le at lines (10 ∷ []) h) ∙ ap (take at) (sym ends) in
      ends ∙ ap (λ xs. xs ++ 10 ∷ []) (sym (take-append-drop at lines) ∙ ap (λ xs. take at lines ++ xs) (sym (between_to_end lines at (length lines) (omega arith)) ∙ left) ∙ ap (λ xs. xs ++ 64 ∷ decimal n) front) ∙ append_assoc (take at file) (64 ∷ decimal n) (10 ∷ [])

  -- the last line, where it is lawful
  pub last_there : (at n : ℕ) (body : List ℕ) → LineBegins file (length lines) at → Last file body n → between at (length lines) lines ≡ 64 ∷ decimal n
  last_there at n body f last =
      let k : at ≡ length body = one_front file body n last at (subst (λ j. LineBegins file j at) long_lines f) in
      let whole : lines ≡ body ++ 64 ∷ decimal n = append_cancel_right lines (body ++ 64 ∷ decimal n) (10 ∷ []) (sym ends ∙ last.whole ∙ sym (append_assoc body (64 ∷ decimal n) (10 ∷ []))) in
      between_to_end lines at (length lines) (omega arith) ∙ ap (drop at) whole ∙ drop_at body (64 ∷ decimal n) at (sym k)

-- a lawful last line is not told from a file without a newline at its end
pub no_newline : (file body : List ℕ) (n : ℕ) → pointwise eqb (drop (length file - 1) file) (10 ∷ []) ≡ false → Last file body n → ⊥
no_newline file body n t last =
    let line = 64 ∷ decimal n in
    let whole : file ≡ (body ++ line) ++ 10 ∷ [] = last.whole ∙ sym (append_assoc body line (10 ∷ [])) in
    let d : drop (length file - 1) file ≡ 10 ∷ [] = ap (drop (length file - 1)) whole ∙ drop_at (body ++ line) (10 ∷ []) (length file - 1) (omega (arith, ap length whole, length-append (body ++ line) (10 ∷ []))) in
    false≢true (sym t ∙ ap (λ xs. pointwise eqb xs (10 ∷ [])) d)

pub fits_sized : (file : List ℕ) → false ≡ eqb (length file) 0 → length file ≤ most_bytes → sized file ≡ true
fits_sized file e few =
    let some : length file ≡ 0 → ⊥ = λ z. false≢true (e ∙ eq-eqb (length file) 0 z) in
    and_from (leb 1 (length file)) (leb (length file) most_bytes) (le-leb 1 (length file) (omega arith)) (le-leb (length file) most_bytes few)

pub not_sized : (file : List ℕ) → (length file ≡ 0) ⊎ (16384 < length file) → sized file ≡ false
not_sized file (inl none) = and_left (leb 1 (length file)) (leb (length file) most_bytes) (lt-leb 1 (length file) (omega arith))
not_sized file (inr many) = and_right (leb 1 (length file)) (leb (length file) most_bytes) (lt-leb (length file) most_bytes many)

pub past_the_sign : (file : List ℕ) (at n : ℕ) → at ≤ length file → Last file (take at file) n → at < n → BadOffset file
past_the_sign file at n within last h =
    let body = take at file in
    record { body = body; n = n; last = last; bad = and_left (leb n (length body)) (line_front file n) (lt-leb n (length body) (omega (arith, length-take-le at file within))) }

pub no_front : (file : List ℕ) (at n : ℕ) → Last file (take at file) n → line_front file n ≡ false → BadOffset file
no_front file at n last f = record { body = take at file; n = n; last = last; bad = and_right (leb n (length (take at file))) (line_front file n) f }

last_begins : (file body : List ℕ) (n : ℕ) → Last file body n → LineBegins file (length file - 1) (length body)
last_begins file body n last = record { within = omega (arith, long file body n last); begins = last.begins; free = inside file body n last }

pub one_last : (file body body' : List ℕ) (n n' : ℕ) → Last file body n → Last file body' n' → (body ≡ body') × (n ≡ n')
one_last file body body' n n' l l' =
    let k : length body ≡ length body' = one_front file body' n' l' (length body) (last_begins file body n l) in
    let a : take (length body) file ≡ body = ap (take (length body)) l.whole ∙ take_at body (64 ∷ (decimal n ++ 10 ∷ [])) (length body) refl in
    let b : take (length body') file ≡ body' = ap (take (length body')) l'.whole ∙ take_at body' (64 ∷ (decimal n' ++ 10 ∷ [])) (length body') refl in (
      sym a ∙ ap (λ j. take j file) k ∙ b,
      decimal_injective n n' (omega (arith, l.figures)) (omega (arith, l'.figures)) (sym (figures_there file body n l) ∙ ap (λ j. take (length file - 1 - (j + 1)) (drop (j + 1) file)) k ∙ figures_there file body' n' l'),
    )

pub one_cut : (file rows rules rows' rules' : List ℕ) (n n' : ℕ) → Cut file rows rules n → Cut file rows' rules' n' → (rows ≡ rows') × (rules ≡ rules')
one_cut file rows rules rows' rules' n n' c c' =
    let p = one_last file c.body c'.body n n' c.last c'.last in
    let b = p.0 in
    let m = p.1 in
    (c.rows_are ∙ (λ i. take (m i) (b i)) ∙ sym c'.rows_are, c.rules_are ∙ (λ i. drop (m i) (b i)) ∙ sym c'.rules_are)

-- what stands before the `@` is nothing, or ended by byte 10, and so are the rules
pub rules_closed : (file rows rules : List ℕ) (n : ℕ) → Cut file rows rules n → Closed rules
rules_closed file rows rules n c some =
    let body = c.body in
    let long : length rules ≡ length body - n = ap length c.rules_are ∙ length-drop n body in
    let k : n + (length rules - 1) ≡ length body - 1 = omega arith in
    let there : get_or rules (length rules - 1) 0 ≡ get_or body (length body - 1) 0 = ap (λ xs. get_or xs (length rules - 1) 0) c.rules_are ∙ get_or-drop n body (length rules - 1) 0 ∙ ap (λ j. get_or body j 0) k in
    let before : get_or file (length body - 1) 0 ≡ get_or body (length body - 1) 0 = ap (λ xs. get_or xs (length body - 1) 0) c.last.whole ∙ get_or_append_left body (64 ∷ (decimal n ++ 10 ∷ [])) 0 (length body - 1) (omega arith) in
    there ∙ sym before ∙ after_break file (length body) c.last.begins (omega arith)
