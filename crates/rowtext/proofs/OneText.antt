-- A row text has one answer: one list of lines, or one fault.
use Rattle.std.proofs.Common.{◌≡◌, ℕ, suc, ◌+◌, ◌-◌, ◌<◌, ◌≤◌, Bool, true, false, cond, eqb, leb, ◌⊎◌, List, [], ◌∷◌, ◌++◌, length, get_or, Some, None, decimal, sym, refl, ap, ◌∙◌, subst, inl, inr, ⊎_elim, arith}
use Rattle.std.specs.List.{AllByRecursion}
use Rattle.std.proofs.lemmas.Bool.{and_from, eq-eqb, le-leb, lt-leb, false≢true}
use Rattle.std.proofs.lemmas.List.{append_assoc, append-nil, length-append, get_or_at}
use Rattle.rowtext.proofs.OneLine.{not_broken, one_fault, one_reading}
use Rattle.rowtext.specs.Claims.{OneAnswer}
use Rattle.rowtext.specs.Faults.{Broken, Earns, FirstBeyond, FirstBroken, has_lines, targets_beyond, text_beyond, with_comma}
use Rattle.rowtext.specs.Format.{Below, Describes, Line, Rising, WellFormed, line_text, most_rows, sign, targets_text, text_of, with_newline}
use Rattle.text.proofs.Cuts.{decimal_without, without_append}
use Rattle.text.proofs.Newlines.{newlines_behind}
use Rattle.text.proofs.Written.{line_stands, lines_part, one_list, written_first}
use Rattle.text.specs.Pieces.{Without, newlines}
use Rattle.rowtext.specs.declared.fault.RowFault.{RowFault}
use Rattle.std.specs.Option.{option_or}
use Rattle.rowtext.specs.declared.fault.RowFault.TheVariants.{Beyond}

marks_without_newline : (low : ℕ) (ms : List ℕ) → 97 ≤ low → Rising low 123 ms → Without 10 ms
marks_without_newline low [] h c = tt
marks_without_newline low (m ∷ ms) h c = (λ e. omega (arith, e, c.0), marks_without_newline (suc m) ms (omega (arith, c.0)) c.2)

number_without_newline : (t : ℕ) → t < most_rows → Without 10 (decimal t)
number_without_newline t h = decimal_without 10 t (omega arith) (omega arith)

targets_without_newline : (low : ℕ) (ts : List ℕ) → Rising low most_rows ts → Without 10 (targets_text ts)
targets_without_newline low [] c = tt
targets_without_newline low (t ∷ []) c = number_without_newline t c.1
targets_without_newline low (t ∷ u ∷ us) c = without_append 10 (decimal t) (44 ∷ targets_text (u ∷ us)) (number_without_newline t c.1) (λ e. omega (arith, e), targets_without_newline (suc t) (u ∷ us) c.2)

sign_is_no_newline : (s : Bool) → sign s ≡ 10 → ⊥
sign_is_no_newline true e = omega (arith, e)
sign_is_no_newline false e = omega (arith, e)

line_without_newline : (l : Line) → WellFormed l → Without 10 (line_text l)
line_without_newline l f = (sign_is_no_newline l.start, without_append 10 l.marks (62 ∷ targets_text l.targets) (marks_without_newline 97 l.marks (omega arith) f.marks) (λ e. omega (arith, e), targets_without_newline 0 l.targets f.targets))

below_targets : (n at : ℕ) (ts : List ℕ) → AllByRecursion (λ t. t < n) ts → targets_beyond n at ts ≡ None
below_targets n at [] b = refl
below_targets n at (t ∷ ts) b = ap (λ x. cond x (Some at) (targets_beyond n (at + length (with_comma t)) ts)) (lt-leb n t b.0) ∙ below_targets n (at + length (with_comma t)) ts b.1

below_none : (n at : ℕ) (ls : List Line) → AllByRecursion (Below n) ls → text_beyond n at ls ≡ None
below_none n at [] b = refl
below_none n at (l ∷ ls) b = ap (λ o. option_or o (text_beyond n (at + length (with_newline l)) ls)) (below_targets n (at + 1 + length l.marks + 1) l.targets b.0) ∙ below_none n (at + length (with_newline l)) ls b.1

ends_ten : (ls : List Line) → 0 < length ls → (xs : List ℕ) × (text_of ls ≡ xs ++ 10 ∷ [])
ends_ten [] h = absurd (omega arith)
ends_ten (l ∷ []) h = (line_text l, append-nil (with_newline l))
ends_ten (l ∷ k ∷ ls) h =
    let r = ends_ten (k ∷ ls) (omega arith) in
    (with_newline l ++ r.0, ap (λ xs. with_newline l ++ xs) r.1 ∙ sym (append_assoc (with_newline l) r.0 (10 ∷ [])))

line_breaks : (ls : List Line) → AllByRecursion WellFormed ls → newlines (text_of ls) ≡ length ls
line_breaks [] f = refl
line_breaks (l ∷ ls) f = ap newlines (written_first line_text l ls) ∙ newlines_behind (line_text l) (10 ∷ text_of ls) (line_without_newline l f.0) ∙ ap suc (line_breaks ls f.1)

written_lawful : (text : List ℕ) (ls : List Line) → Describes text ls → has_lines text ≡ true
written_lawful text ls w =
    let r = ends_ten ls w.some in
    let whole : text ≡ r.0 ++ 10 ∷ [] = w.whole ∙ r.1 in
    let k : length text - 1 ≡ length r.0 = omega (arith, ap length whole, length-append r.0 (10 ∷ [])) in
    let last : get_or text (length text - 1) 0 ≡ 10 = ap (λ j. get_or text j 0) k ∙ ap (λ xs. get_or xs (length r.0) 0) whole ∙ get_or_at r.0 10 [] 0 (length r.0) refl in
    let n : newlines text ≡ length ls = ap newlines w.whole ∙ line_breaks ls w.formed in
    and_from (eqb (get_or text (length text - 1) 0) 10) (leb (newlines text) most_rows) (eq-eqb (get_or text (length text - 1) 0) 10 last) (le-leb (newlines text) most_rows (omega (arith, n, w.few)))

-- a broken text is not a whole one
no_whole : (text : List ℕ) (ls : List Line) (e : RowFault) → text ≡ text_of ls → AllByRecursion WellFormed ls → FirstBroken text e → ⊥
no_whole text ls e w f b =
    let s = line_stands WellFormed line_text line_without_newline ls b.before b.line b.after f b.formed b.one_line (sym w ∙ b.whole) in
    not_broken _ b.line s.it s.formed (sym s.is) b.broken

two_broken : (text : List ℕ) (e e' : RowFault) → FirstBroken text e → FirstBroken text e' → e ≡ e'
two_broken text e e' b c =
    ⊎_elim
    (λ s. one_fault _ b.line b.broken (subst (λ k. Broken k b.line e') (sym s.1) (subst (λ xs. Broken (length (text_of c.before)) xs e') (sym s.2) c.broken)))
    (λ s. absurd (⊎_elim (λ t. not_broken _ b.line t.it t.formed (sym t.is) b.broken) (λ t. not_broken _ c.line t.it t.formed (sym t.is) c.broken) s))
    (lines_part WellFormed line_text line_without_newline b.before c.before b.line b.after c.line c.after b.formed c.formed b.one_line c.one_line (sym b.whole ∙ c.whole))

one_text : (ls ls' : List Line) → AllByRecursion WellFormed ls → AllByRecursion WellFormed ls' → text_of ls ≡ text_of ls' → ls ≡ ls'
one_text = one_list WellFormed line_text line_without_newline one_reading

two_beyond : (text : List ℕ) (e e' : RowFault) → FirstBeyond text e → FirstBeyond text e' → e ≡ e'
two_beyond text e e' b c =
    let same = one_text b.lines c.lines b.formed c.formed (sym b.whole ∙ c.whole) in
    let targets_beyond : Some b.place ≡ Some c.place = sym b.beyond ∙ ap (λ ls. text_beyond (length ls) 0 ls) same ∙ c.beyond in
    let place : b.place ≡ c.place = cc in
    b.fault ∙ ap Beyond place ∙ sym c.fault

within : (text : List ℕ) (e e' : RowFault) → FirstBroken text e ⊎ FirstBeyond text e → FirstBroken text e' ⊎ FirstBeyond text e' → e ≡ e'
within text e e' (inl b) (inl c) = two_broken text e e' b c
within text e e' (inl b) (inr c) = absurd (no_whole text c.lines e c.whole c.formed b)
within text e e' (inr b) (inl c) = absurd (no_whole text b.lines e' b.whole b.formed c)
within text e e' (inr b) (inr c) = two_beyond text e e' b c

one_fault_of : (text : List ℕ) (e e' : RowFault) → Earns text e → Earns text e' → e ≡ e'
one_fault_of text e e' (inl a) (inl b) = a.0 ∙ sym b.0
one_fault_of text e e' (inl a) (inr b) = absurd (false≢true (sym a.1 ∙ b.0))
one_fault_of text e e' (inr a) (inl b) = absurd (false≢true (sym b.1 ∙ a.0))
one_fault_of text e e' (inr a) (inr b) = within text e e' a.1 b.1

whole_only : (text : List ℕ) (ls : List Line) (e : RowFault) → Describes text ls → Earns text e → ⊥
whole_only text ls e w (inl a) = false≢true (sym a.1 ∙ written_lawful text ls w)
whole_only text ls e w (inr a) =
    ⊎_elim (λ b. no_whole text ls e w.whole w.formed b)
    (λ b.
    let same = one_text ls b.lines w.formed b.formed (sym w.whole ∙ b.whole) in
    let none : text_beyond (length ls) 0 ls ≡ None = below_none (length ls) 0 ls w.below in
    let clash : None ≡ Some b.place = sym none ∙ ap (λ k. text_beyond (length k) 0 k) same ∙ b.beyond in
    cc)
    a.1

pub one_answer : (text : List ℕ) → OneAnswer text
one_answer text = record {
  one_meaning = λ l l' w w'. one_text l l' w.formed w'.formed (sym w.whole ∙ w'.whole);
  not_both = whole_only text;
  one_fault = one_fault_of text;
}
