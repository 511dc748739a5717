-- A line has one reading: one row, or one fault.
use Rattle.std.proofs.Common.{◌≡◌, ℕ, suc, ◌+◌, ◌<◌, ◌≤◌, Bool, true, false, List, [], ◌∷◌, ◌++◌, length, decimal, sym, refl, ap, ◌∙◌, subst, arith}
use Rattle.std.proofs.lemmas.List.{append_cancel_left, append_assoc, append-nil}
use Rattle.std.proofs.lemmas.Fmt.{decimal_injective}
use Rattle.rowtext.proofs.LineForms.{least_next_above}
use Rattle.rowtext.specs.Faults.{Broken, NoTarget, Stuck, bad_mark, bad_target, comma_ended, least_next, no_sign, with_comma}
use Rattle.rowtext.specs.Format.{Line, Rising, WellFormed, line_text, most_rows, sign, targets_text}
use Rattle.text.proofs.Cuts.{decimal_without, one_cut}
use Rattle.rowtext.specs.declared.fault.RowFault.{RowFault}
use Rattle.rowtext.specs.declared.fault.RowFault.TheVariants.{Marks, Target}

sign_one : (s s' : Bool) → sign s ≡ sign s' → s ≡ s'
sign_one true true e = refl
sign_one true false e = absurd (omega (arith, e))
sign_one false true e = absurd (omega (arith, e))
sign_one false false e = refl

-- no letter that may come least-next
abbrev Halts : ℕ → List ℕ → Type 0
Halts low [] = Unit {0}
Halts low (b ∷ bs) = low ≤ b → b < 123 → ⊥

one_run : (low : ℕ) (ms left ms' left' : List ℕ) → Rising low 123 ms → Rising low 123 ms' → Halts (least_next low ms) left → Halts (least_next low ms') left' → ms ++ left ≡ ms' ++ left' → ms ≡ ms'
one_run low [] left [] left' c c' h h' e = refl
one_run low [] [] (m' ∷ ms') left' c c' h h' e = absurd (cc)
one_run low [] (b ∷ left) (m' ∷ ms') left' c c' h h' e = let s : b ≡ m' = cc in absurd (h (omega (arith, s, c'.0)) (omega (arith, s, c'.1)))
one_run low (m ∷ ms) left [] [] c c' h h' e = absurd (cc)
one_run low (m ∷ ms) left [] (b ∷ left') c c' h h' e = let s : m ≡ b = cc in absurd (h' (omega (arith, s, c.0)) (omega (arith, s, c.1)))
one_run low (m ∷ ms) left (m' ∷ ms') left' c c' h h' e =
    let s : m ≡ m' = cc in
    let t : ms ++ left ≡ ms' ++ left' = cc in
    let u = one_run (suc m) ms left ms' left' c.2 (subst (λ k. Rising (suc k) 123 ms') (sym s) c'.2) h (subst (λ k. Halts (least_next (suc k) ms') left') (sym s) h') t in cc

stuck_halts : (low : ℕ) (left : List ℕ) → Stuck low left → Halts low left
stuck_halts low [] s = tt
stuck_halts low (b ∷ bs) s = s.1

gate_halts : (ms left : List ℕ) → Rising 97 123 ms → Halts (least_next 97 ms) (62 ∷ left)
gate_halts ms left c = λ h k. omega (arith, h, least_next_above 97 123 ms c)

-- sign and marks are read in one way
one_head : (line : List ℕ) (s s' : Bool) (ms left ms' left' : List ℕ) → line ≡ sign s ∷ (ms ++ left) → line ≡ sign s' ∷ (ms' ++ left') → Rising 97 123 ms → Rising 97 123 ms' → Halts (least_next 97 ms) left → Halts (least_next 97 ms') left' → (s ≡ s') × (ms ≡ ms') × (left ≡ left')
one_head line s s' ms left ms' left' w w' c c' h h' =
    let a : sign s ≡ sign s' = cc in
    let t : ms ++ left ≡ ms' ++ left' = cc in
    let u = one_run 97 ms left ms' left' c c' h h' t in
    (sign_one s s' a, u, append_cancel_left ms left left' (t ∙ ap (λ xs. xs ++ left') (sym u)))

-- a target and what follows its comma are read in one way
one_target : (t t' : ℕ) (a a' : List ℕ) → t < most_rows → t' < most_rows → decimal t ++ 44 ∷ a ≡ decimal t' ++ 44 ∷ a' → (t ≡ t') × (a ≡ a')
one_target t t' a a' h h' e =
    let d = one_cut 44 (decimal t) (44 ∷ a) (decimal t') (44 ∷ a') (decimal_without 44 t (omega arith) (omega arith)) (decimal_without 44 t' (omega arith) (omega arith)) refl refl e in
    let r : 44 ∷ a ≡ 44 ∷ a' = append_cancel_left (decimal t) (44 ∷ a) (44 ∷ a') (e ∙ ap (λ xs. xs ++ 44 ∷ a') (sym d)) in
    (decimal_injective t t' (omega arith) (omega arith) d, cc)

-- a target that ends the line is not one with a comma
not_both : (t t' : ℕ) (a : List ℕ) → t < most_rows → t' < most_rows → decimal t ++ 44 ∷ a ≡ decimal t' → ⊥
not_both t t' a h h' e =
    let d = one_cut 44 (decimal t) (44 ∷ a) (decimal t') [] (decimal_without 44 t (omega arith) (omega arith)) (decimal_without 44 t' (omega arith) (omega arith)) refl tt (e ∙ sym (append-nil (decimal t'))) in
    let r : 44 ∷ a ≡ [] = append_cancel_left (decimal t) (44 ∷ a) [] (e ∙ sym d ∙ sym (append-nil (decimal t))) in
    cc

front_is : (t : ℕ) (ts left : List ℕ) → comma_ended (t ∷ ts) ++ left ≡ decimal t ++ 44 ∷ (comma_ended ts ++ left)
front_is t ts left = append_assoc (with_comma t) (comma_ended ts) left ∙ append_assoc (decimal t) (44 ∷ []) (comma_ended ts ++ left)

one_fronts : (low : ℕ) (ts left ts' left' : List ℕ) → Rising low most_rows ts → Rising low most_rows ts' → NoTarget (least_next low ts) left → NoTarget (least_next low ts') left' → comma_ended ts ++ left ≡ comma_ended ts' ++ left' → ts ≡ ts'
one_fronts low [] left [] left' c c' n n' e = refl
one_fronts low [] left (t' ∷ ts') left' c c' n n' e = absurd ((n t' (comma_ended ts' ++ left') c'.0 c'.1).1 (e ∙ front_is t' ts' left'))
one_fronts low (t ∷ ts) left [] left' c c' n n' e = absurd ((n' t (comma_ended ts ++ left) c.0 c.1).1 (sym e ∙ front_is t ts left))
one_fronts low (t ∷ ts) left (t' ∷ ts') left' c c' n n' e =
    let p = one_target t t' (comma_ended ts ++ left) (comma_ended ts' ++ left') c.1 c'.1 (sym (front_is t ts left) ∙ e ∙ front_is t' ts' left') in
    let s = p.0 in
    let u = one_fronts (suc t) ts left ts' left' c.2 (subst (λ k. Rising (suc k) most_rows ts') (sym s) c'.2) n (subst (λ k. NoTarget (least_next (suc k) ts') left') (sym s) n') p.1 in cc

whole_not_broken : (low : ℕ) (ts left ts' : List ℕ) → Rising low most_rows ts → Rising low most_rows ts' → 0 < length ts' → NoTarget (least_next low ts) left → comma_ended ts ++ left ≡ targets_text ts' → ⊥
whole_not_broken low ts left [] c c' h n e = omega arith
whole_not_broken low [] left (t' ∷ []) c c' h n e = (n t' [] c'.0 c'.1).0 e
whole_not_broken low [] left (t' ∷ u ∷ us) c c' h n e = (n t' (targets_text (u ∷ us)) c'.0 c'.1).1 e
whole_not_broken low (t ∷ ts) left (t' ∷ []) c c' h n e = not_both t t' (comma_ended ts ++ left) c.1 c'.1 (sym (front_is t ts left) ∙ e)
whole_not_broken low (t ∷ ts) left (t' ∷ u ∷ us) c c' h n e =
    let p = one_target t t' (comma_ended ts ++ left) (targets_text (u ∷ us)) c.1 c'.1 (sym (front_is t ts left) ∙ e) in
    whole_not_broken (suc t) ts left (u ∷ us) c.2 (subst (λ k. Rising (suc k) most_rows (u ∷ us)) (sym p.0) c'.2) (omega arith) n p.1

one_targets : (low : ℕ) (ts ts' : List ℕ) → Rising low most_rows ts → Rising low most_rows ts' → 0 < length ts → 0 < length ts' → targets_text ts ≡ targets_text ts' → ts ≡ ts'
one_targets low [] ts' c c' h h' e = absurd (omega arith)
one_targets low (t ∷ ts) [] c c' h h' e = absurd (omega arith)
one_targets low (t ∷ []) (t' ∷ []) c c' h h' e = let s = decimal_injective t t' (omega (arith, c.1)) (omega (arith, c'.1)) e in cc
one_targets low (t ∷ []) (t' ∷ u' ∷ us') c c' h h' e = absurd (not_both t' t (targets_text (u' ∷ us')) c'.1 c.1 (sym e))
one_targets low (t ∷ u ∷ us) (t' ∷ []) c c' h h' e = absurd (not_both t t' (targets_text (u ∷ us)) c.1 c'.1 e)
one_targets low (t ∷ u ∷ us) (t' ∷ u' ∷ us') c c' h h' e =
    let p = one_target t t' (targets_text (u ∷ us)) (targets_text (u' ∷ us')) c.1 c'.1 e in
    let s = p.0 in
    let v = one_targets (suc t) (u ∷ us) (u' ∷ us') c.2 (subst (λ k. Rising (suc k) most_rows (u' ∷ us')) (sym s) c'.2) (omega arith) (omega arith) p.1 in cc

tail_of : (x : ℕ) (a b : List ℕ) → x ∷ a ≡ x ∷ b → a ≡ b
tail_of x a b e = cc

pub one_reading : (l l' : Line) → WellFormed l → WellFormed l' → line_text l ≡ line_text l' → l ≡ l'
one_reading l l' f f' e =
    let p = one_head (line_text l) l.start l'.start l.marks (62 ∷ targets_text l.targets) l'.marks (62 ∷ targets_text l'.targets) refl e f.marks f'.marks (gate_halts l.marks [] f.marks) (gate_halts l'.marks [] f'.marks) in
    let t = one_targets 0 l.targets l'.targets f.targets f'.targets f.some f'.some (tail_of 62 _ _ p.2) in
    let a = p.0 in
    let b = p.1 in
    λ i. record { start = a i; marks = b i; targets = t i }

pub not_broken : (at : ℕ) (line : List ℕ) (l : Line) {e : RowFault} → WellFormed l → line ≡ line_text l → Broken at line e → ⊥
not_broken at line l f w (no_sign h) = h l.start _ w
not_broken at line l f w (bad_mark s ms left w' c k) =
    let p = one_head line s l.start ms left l.marks (62 ∷ targets_text l.targets) w' w c f.marks (stuck_halts (least_next 97 ms) left k) (gate_halts l.marks [] f.marks) in
    let q = subst (Stuck (least_next 97 ms)) p.2 k in
    q.0 refl
not_broken at line l f w (bad_target s ms ts left w' c d n) =
    let p = one_head line s l.start ms (62 ∷ (comma_ended ts ++ left)) l.marks (62 ∷ targets_text l.targets) w' w c f.marks (gate_halts ms [] c) (gate_halts l.marks [] f.marks) in
    whole_not_broken 0 ts left l.targets d f.targets f.some n (tail_of 62 _ _ p.2)

mark_or_target : (line : List ℕ) (s s' : Bool) (ms left ms' left' : List ℕ) → line ≡ sign s ∷ (ms ++ left) → line ≡ sign s' ∷ (ms' ++ 62 ∷ left') → Rising 97 123 ms → Rising 97 123 ms' → Stuck (least_next 97 ms) left → ⊥
mark_or_target line s s' ms left ms' left' w w' c c' k =
    let p = one_head line s s' ms left ms' (62 ∷ left') w w' c c' (stuck_halts (least_next 97 ms) left k) (gate_halts ms' left' c') in
    let q = subst (Stuck (least_next 97 ms)) p.2 k in
    q.0 refl

pub one_fault : (at : ℕ) (line : List ℕ) {e e' : RowFault} → Broken at line e → Broken at line e' → e ≡ e'
one_fault at line (no_sign h) (no_sign h') = refl
one_fault at line (no_sign h) (bad_mark s ms left w c k) = absurd (h s _ w)
one_fault at line (no_sign h) (bad_target s ms ts left w c d n) = absurd (h s _ w)
one_fault at line (bad_mark s ms left w c k) (no_sign h) = absurd (h s _ w)
one_fault at line (bad_mark s ms left w c k) (bad_mark s' ms' left' w' c' k') =
    let p = one_head line s s' ms left ms' left' w w' c c' (stuck_halts (least_next 97 ms) left k) (stuck_halts (least_next 97 ms') left' k') in
    ap (λ xs. Marks (at + 1 + length xs)) p.1
one_fault at line (bad_mark s ms left w c k) (bad_target s' ms' ts' left' w' c' d' n') = absurd (mark_or_target line s s' ms left ms' _ w w' c c' k)
one_fault at line (bad_target s ms ts left w c d n) (no_sign h) = absurd (h s _ w)
one_fault at line (bad_target s ms ts left w c d n) (bad_mark s' ms' left' w' c' k') = absurd (mark_or_target line s' s ms' left' ms _ w' w c' c k')
one_fault at line (bad_target s ms ts left w c d n) (bad_target s' ms' ts' left' w' c' d' n') =
    let p = one_head line s s' ms (62 ∷ (comma_ended ts ++ left)) ms' (62 ∷ (comma_ended ts' ++ left')) w w' c c' (gate_halts ms [] c) (gate_halts ms' [] c') in
    let q = one_fronts 0 ts left ts' left' d d' n n' (tail_of 62 _ _ p.2) in
    let m = p.1 in
    λ i. Target (at + 1 + length (m i) + 1 + length (comma_ended (q i)))
