-- Texts that are written line by line, each line with its byte 10: they are read in one way.
use Rattle.std.proofs.Common.{◌≡◌, ℕ, suc, ◌<◌, ◌⊎◌, List, [], ◌∷◌, ◌++◌, length, sym, refl, ap, ◌∙◌, inl, inr, ⊎_elim, arith}
use Rattle.std.specs.List.{flat_map, AllByRecursion}
use Rattle.std.proofs.lemmas.List.{append_assoc, length-append}
use Rattle.text.proofs.Cuts.{one_end}
use Rattle.text.specs.Pieces.{Without}

-- what is written of each, with its byte 10
abbrev pub written : {X : Type 0} → (X → List ℕ) → List X → List ℕ
written f xs = flat_map (λ x. f x ++ 10 ∷ []) xs

-- the line is written of one of n, before which k stand
pub record Stands {X : Type 0} (W : X → Type 0) (f : X → List ℕ) (k n : ℕ) (line : List ℕ) : Type 0 where
  pub it : X
  pub formed : W it
  pub is : f it ≡ line
  pub fewer : k < n

onward : {X : Type 0} (W : X → Type 0) (f : X → List ℕ) (k n : ℕ) (line : List ℕ) → Stands W f k n line → Stands W f (suc k) (suc n) line
onward W f k n line s = record { it = s.it; formed = s.formed; is = s.is; fewer = omega (arith, s.fewer) }

not_empty : (a b : List ℕ) → [] ≡ a ++ 10 ∷ b → ⊥
not_empty a b e = omega (arith, ap length e, length-append a (10 ∷ b))

pub written_more : {X : Type 0} (f : X → List ℕ) (x : X) (xs : List X) (left : List ℕ) → written f (x ∷ xs) ++ left ≡ f x ++ 10 ∷ (written f xs ++ left)
written_more f x xs left = append_assoc (f x ++ 10 ∷ []) (written f xs) left ∙ append_assoc (f x) (10 ∷ []) (written f xs ++ left)

pub written_first : {X : Type 0} (f : X → List ℕ) (x : X) (xs : List X) → written f (x ∷ xs) ≡ f x ++ 10 ∷ written f xs
written_first f x xs = append_assoc (f x) (10 ∷ []) (written f xs)

module _ {X : Type 0} (W : X → Type 0) (f : X → List ℕ) (bare : (x : X) → W x → Without 10 (f x)) where
  -- where lines are of one thing each, texts are of one list
  pub one_list : ((x y : X) → W x → W y → f x ≡ f y → x ≡ y) → (xs ys : List X) → AllByRecursion W xs → AllByRecursion W ys → written f xs ≡ written f ys → xs ≡ ys
  one_list one [] [] w v e = refl
  one_list one [] (y ∷ ys) w v e = absurd (not_empty (f y) (written f ys) (e ∙ written_first f y ys))
  one_list one (x ∷ xs) [] w v e = absurd (not_empty (f x) (written f xs) (sym e ∙ written_first f x xs))
  one_list one (x ∷ xs) (y ∷ ys) w v e =
      let p = one_end 10 (f x) (written f xs) (f y) (written f ys) (bare x w.0) (bare y v.0) (sym (written_first f x xs) ∙ e ∙ written_first f y ys) in
      let a = one x y w.0 v.0 p.0 in
      let b = one_list one xs ys w.1 v.1 p.1 in
      λ i. a i ∷ b i

  -- a line of a text stands in its list
  pub line_stands : (xs ys : List X) (line after : List ℕ) → AllByRecursion W xs → AllByRecursion W ys → Without 10 line → written f xs ≡ written f ys ++ (line ++ 10 ∷ after) → Stands W f (length ys) (length xs) line
  line_stands [] [] line after w v h e = absurd (not_empty line after e)
  line_stands [] (y ∷ ys) line after w v h e = absurd (not_empty (f y) (written f ys ++ (line ++ 10 ∷ after)) (e ∙ written_more f y ys (line ++ 10 ∷ after)))
  line_stands (x ∷ xs) [] line after w v h e =
      let p = one_end 10 (f x) (written f xs) line after (bare x w.0) h (sym (written_first f x xs) ∙ e) in
      record { it = x; formed = w.0; is = p.0; fewer = omega arith }
  line_stands (x ∷ xs) (y ∷ ys) line after w v h e =
      let p = one_end 10 (f x) (written f xs) (f y) (written f ys ++ (line ++ 10 ∷ after)) (bare x w.0) (bare y v.0) (sym (written_first f x xs) ∙ e ∙ written_more f y ys (line ++ 10 ∷ after)) in
      onward W f (length ys) (length xs) line (line_stands xs ys line after w.1 v.1 h p.1)

  -- two lines of a text: they are one, or one of them stands before the other
  pub lines_part : (xs ys : List X) (line after line' after' : List ℕ) → AllByRecursion W xs → AllByRecursion W ys → Without 10 line → Without 10 line' → written f xs ++ (line ++ 10 ∷ after) ≡ written f ys ++ (line' ++ 10 ∷ after') → ((length xs ≡ length ys) × (length (written f xs) ≡ length (written f ys)) × (line ≡ line')) ⊎ (Stands W f (length xs) (length ys) line ⊎ Stands W f (length ys) (length xs) line')
  lines_part [] [] line after line' after' w v h h' e = inl (refl, refl, (one_end 10 line after line' after' h h' e).0)
  lines_part [] (y ∷ ys) line after line' after' w v h h' e =
      let p = one_end 10 line after (f y) (written f ys ++ (line' ++ 10 ∷ after')) h (bare y v.0) (e ∙ written_more f y ys (line' ++ 10 ∷ after')) in
      inr (inl (record { it = y; formed = v.0; is = sym p.0; fewer = omega arith }))
  lines_part (x ∷ xs) [] line after line' after' w v h h' e =
      let p = one_end 10 (f x) (written f xs ++ (line ++ 10 ∷ after)) line' after' (bare x w.0) h' (sym (written_more f x xs (line ++ 10 ∷ after)) ∙ e) in
      inr (inr (record { it = x; formed = w.0; is = p.0; fewer = omega arith }))
  lines_part (x ∷ xs) (y ∷ ys) line after line' after' w v h h' e =
      let p = one_end 10 (f x) (written f xs ++ (line ++ 10 ∷ after)) (f y) (written f ys ++ (line' ++ 10 ∷ after')) (bare x w.0) (bare y v.0) (sym (written_more f x xs (line ++ 10 ∷ after)) ∙ e ∙ written_more f y ys (line' ++ 10 ∷ after')) in
      ⊎_elim
      (λ s. inl (
        omega (arith, s.0),
        omega (arith, s.1, ap length p.0, length-append (f x ++ 10 ∷ []) (written f xs), length-append (f y ++ 10 ∷ []) (written f ys), length-append (f x) (10 ∷ []), length-append (f y) (10 ∷ [])),
        s.2,
      ))
      (λ s. inr (⊎_elim (λ t. inl (onward W f (length xs) (length ys) line t)) (λ t. inr (onward W f (length ys) (length xs) line' t)) s))
      (lines_part xs ys line after line' after' w.1 v.1 h h' p.1)
