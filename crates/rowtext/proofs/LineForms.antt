-- One line: what each reading step adds to what has been read, and how a step that fails breaks the line.
use Rattle.std.proofs.Common.{◌≡◌, ℕ, suc, ◌+◌, ◌-◌, ◌<◌, ◌≤◌, Bool, true, false, cond, leb, ◌⊎◌, List, [], ◌∷◌, ◌++◌, length, take, drop, Some, None, Option, decimal, sym, refl, ap, ◌∙◌, subst, inl, inr, ⊎_elim, arith}
use Rattle.std.proofs.lemmas.List.{flat_map_more, append_assoc, append-nil, length-append}
use Rattle.rowtext.specs.Faults.{Broken, NoTarget, Stuck, bad_mark, bad_target, comma_ended, least_next, no_sign, targets_beyond, with_comma}
use Rattle.rowtext.specs.Format.{Rising, most_rows, sign, targets_text}
use Rattle.rowtext.specs.Steps.{MarksBroken, TargetsBroken}
use Rattle.text.proofs.Cuts.{decimal_without, one_cut, piece_and_rest, piece_without, rest_ends_here}
use Rattle.text.specs.Pieces.{PieceEnd, Without}
use Rattle.rowtext.specs.declared.fault.RowFault.{RowFault}
use Rattle.std.specs.Option.{option_or}
use Rattle.rowtext.specs.declared.fault.RowFault.TheVariants.{Sign, Marks, Target, Memory}

pub rising_push : (low top : ℕ) (xs : List ℕ) (x : ℕ) → Rising low top xs → least_next low xs ≤ x → x < top → Rising low top (xs ++ x ∷ [])
rising_push low top [] x c l h = (l, h, tt)
rising_push low top (y ∷ xs) x c l h = (c.0, c.1, rising_push (suc y) top xs x c.2 l h)

pub least_next_push : (low : ℕ) (xs : List ℕ) (x : ℕ) → least_next low (xs ++ x ∷ []) ≡ suc x
least_next_push low [] x = refl
least_next_push low (y ∷ xs) x = least_next_push (suc y) xs x

module _ (text : List ℕ) (at end : ℕ) (ends : PieceEnd 44 text at end) where
  pub no_target : (low : ℕ) → ((t : ℕ) → low ≤ t → t < most_rows → take (end - at) (drop at text) ≡ decimal t → ⊥) → NoTarget low (drop at text)
  no_target low none t more l h =
      let free : Without 44 (decimal t) = decimal_without 44 t (omega arith) (omega arith) in (
        λ e. none t l h (one_cut 44 _ (drop end text) _ [] (piece_without text at end 44 ends) free (rest_ends_here text at end 44 ends) tt (sym (piece_and_rest text at end 44 ends) ∙ e ∙ sym (append-nil _))),
        λ e. none t l h (one_cut 44 _ (drop end text) _ (44 ∷ more) (piece_without text at end 44 ends) free (rest_ends_here text at end 44 ends) refl (sym (piece_and_rest text at end 44 ends) ∙ e)),
      )

-- one more mark
pub mark_more : (rest ms left left' : List ℕ) (b : ℕ) → rest ≡ ms ++ left → left ≡ b ∷ left' → rest ≡ (ms ++ b ∷ []) ++ left'
mark_more rest ms left left' b e f = e ∙ ap (λ xs. ms ++ xs) f ∙ sym (append_assoc ms (b ∷ []) left')

pub marks_stuck : (at0 at : ℕ) (rest left left' ms : List ℕ) (low b : ℕ) → rest ≡ ms ++ left → left ≡ b ∷ left' → Rising 97 123 ms → low ≡ least_next 97 ms → at ≡ at0 + length ms → (b ≡ 62 → ⊥) → (low ≤ b → b < 123 → ⊥) → MarksBroken at0 rest (Marks at)
marks_stuck at0 at rest left left' ms low b e f c l p x y = record {
  marks = ms;
  left = left;
  whole = e;
  rising = c;
  stuck = subst (Stuck (least_next 97 ms)) (sym f) (x, λ h k. y (omega (arith, l, h)) k);
  fault = ap Marks p;
}

pub least_next_above : (low top : ℕ) (xs : List ℕ) → Rising low top xs → low ≤ least_next low xs
least_next_above low top [] c = omega arith
least_next_above low top (x ∷ xs) c = omega (arith, c.0, least_next_above (suc x) top xs c.2)

pub targets_more : (rest left left' left'' : List ℕ) (ts : List ℕ) (t : ℕ) → rest ≡ comma_ended ts ++ left → left ≡ decimal t ++ left' → left' ≡ 44 ∷ left'' → rest ≡ comma_ended (ts ++ t ∷ []) ++ left''
targets_more rest left left' left'' ts t e f g =
    e ∙ ap (λ xs. comma_ended ts ++ xs) (f ∙ ap (λ xs. decimal t ++ xs) g ∙ sym (append_assoc (decimal t) (44 ∷ []) left'')) ∙ sym (append_assoc (comma_ended ts) (with_comma t) left'') ∙ ap (λ xs. xs ++ left'') (flat_map_more with_comma [] ts t)

targets_snoc : (ts : List ℕ) (t : ℕ) → targets_text (ts ++ t ∷ []) ≡ comma_ended ts ++ decimal t
targets_snoc [] t = refl
targets_snoc (x ∷ []) t = sym (append_assoc (decimal x) (44 ∷ []) (decimal t)) ∙ ap (λ xs. xs ++ decimal t) (sym (append-nil (with_comma x)))
targets_snoc (x ∷ y ∷ ts) t = ap (λ xs. decimal x ++ 44 ∷ xs) (targets_snoc (y ∷ ts) t) ∙ sym (append_assoc (decimal x) (44 ∷ []) (comma_ended (y ∷ ts) ++ decimal t)) ∙ sym (append_assoc (with_comma x) (comma_ended (y ∷ ts)) (decimal t))

pub targets_end : (rest left left' : List ℕ) (ts : List ℕ) (t : ℕ) → rest ≡ comma_ended ts ++ left → left ≡ decimal t ++ left' → left' ≡ [] → rest ≡ targets_text (ts ++ t ∷ [])
targets_end rest left left' ts t e f g =
    e ∙ ap (λ xs. comma_ended ts ++ xs) (f ∙ ap (λ xs. decimal t ++ xs) g ∙ append-nil (decimal t)) ∙ sym (targets_snoc ts t)

pub broken_targets_at : (at0 at : ℕ) (rest left ts : List ℕ) (low : ℕ) (e : RowFault) → rest ≡ comma_ended ts ++ left → Rising 0 most_rows ts → low ≡ least_next 0 ts → at ≡ at0 + length (comma_ended ts) → (e ≡ Target at) → NoTarget low left → TargetsBroken at0 rest e
broken_targets_at at0 at rest left ts low e w c l p f n = record {
  targets = ts;
  left = left;
  whole = w;
  rising = c;
  none = subst (λ k. NoTarget k left) l n;
  fault = f ∙ ap Target p;
}

pub broken_by_sign : (at : ℕ) (line : List ℕ) (e : RowFault) → e ≡ Sign at → ((s : Bool) (left : List ℕ) → line ≡ sign s ∷ left → ⊥) → Broken at line e
broken_by_sign at line e p h = subst (Broken at line) (sym p) (no_sign h)

pub broken_by_marks : (at at1 : ℕ) (line rest : List ℕ) (s : Bool) (e : RowFault) → line ≡ sign s ∷ rest → at1 ≡ at + 1 → (e ≡ Memory) ⊎ MarksBroken at1 rest e → (e ≡ Memory) ⊎ Broken at line e
broken_by_marks at at1 line rest s e w p m =
    ⊎_elim inl
    (λ b. inr (subst (Broken at line) (sym (b.fault ∙ ap (λ k. Marks (k + length b.marks)) p)) (bad_mark s b.marks b.left (w ∙ ap (λ xs. sign s ∷ xs) b.whole) b.rising b.stuck))) m

pub broken_by_targets : (at at2 : ℕ) (line rest left ms : List ℕ) (s : Bool) (e : RowFault) → line ≡ sign s ∷ rest → rest ≡ ms ++ 62 ∷ left → Rising 97 123 ms → at2 ≡ at + 1 + length ms + 1 → (e ≡ Memory) ⊎ TargetsBroken at2 left e → (e ≡ Memory) ⊎ Broken at line e
broken_by_targets at at2 line rest left ms s e w v c p m =
    ⊎_elim inl
    (λ b. inr (subst (Broken at line) (sym (b.fault ∙ ap (λ k. Target (k + length (comma_ended b.targets))) p)) (bad_target s ms b.targets b.left (w ∙ ap (λ xs. sign s ∷ xs) (v ∙ ap (λ xs. ms ++ 62 ∷ xs) b.whole)) c b.rising b.none))) m

targets_beyond_push : (n at : ℕ) (ts : List ℕ) (t : ℕ) → targets_beyond n at (ts ++ t ∷ []) ≡ option_or (targets_beyond n at ts) (cond (leb n t) (Some (at + length (comma_ended ts))) None)
targets_beyond_push n at [] t = ap (λ k. cond (leb n t) (Some k) None) (let z : at ≡ at + 0 = omega arith in z)
targets_beyond_push n at (x ∷ ts) t =
    let k = at + length (with_comma x) in
    let same : k + length (comma_ended ts) ≡ at + length (comma_ended (x ∷ ts)) = omega (arith, length-append (with_comma x) (comma_ended ts)) in
    let more = targets_beyond_push n k ts t ∙ ap (λ j. option_or (targets_beyond n k ts) (cond (leb n t) (Some j) None)) same in
    elim (leb n x) as (λ b. cond b (Some at) (targets_beyond n k (ts ++ t ∷ [])) ≡ option_or (cond b (Some at) (targets_beyond n k ts)) (cond (leb n t) (Some (at + length (comma_ended (x ∷ ts)))) None)) [ true ↦ refl | false ↦ more ]

-- one more target, which stands at `at`
pub beyond_more : (n at0 at t : ℕ) (ts : List ℕ) (beyond late : Option ℕ) → beyond ≡ targets_beyond n at0 ts → at ≡ at0 + length (comma_ended ts) → late ≡ cond (leb n t) (Some at) None → option_or beyond late ≡ targets_beyond n at0 (ts ++ t ∷ [])
beyond_more n at0 at t ts beyond late b far l = ap (option_or beyond) l ∙ (λ i. option_or (b i) (cond (leb n t) (Some (far i)) None)) ∙ sym (targets_beyond_push n at0 ts t)
