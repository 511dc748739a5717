-- Rule lines: they are read one after another, and the rules part has one answer.
use Rattle.std.proofs.Common.{◌≡◌, ℕ, ◌+◌, ◌-◌, ◌<◌, ◌≤◌, List, [], ◌∷◌, ◌++◌, length, take, drop, sym, refl, ap, ◌∙◌, subst, ⊎_elim, arith}
use Rattle.std.specs.List.{flat_map}
use Rattle.std.proofs.slice.Lists.{all_by_recursion_push}
use Rattle.std.proofs.str.Laws.{order}
use Rattle.std.proofs.lemmas.List.{append_assoc, append-nil, drop_all, flat_map_more, length_push}
use Rattle.rule.proofs.Earned.{earned_is_unlawful, one_fault}
use Rattle.rule.specs.Faults.{Sized}
use Rattle.rule.specs.Grammar.{Lawful}
use Rattle.text.proofs.Cuts.{piece_and_rest, piece_without, rest_ends_here, delimiter_next, went_on}
use Rattle.text.proofs.Written.{line_stands, lines_part, one_list}
use Rattle.text.specs.Lines.{IsLine}
use Rattle.text.specs.Pieces.{PieceEnd, Without}
use Rattle.std.specs.declared.ops.Range.{Range}
use Rattle.channel.specs.RuleLines.{most_rules, with_newline, RuleLine, RuleLines, LineEarns, RulesEarn}
use Rattle.channel.specs.Steps.{Closed, ReadSoFar}
use Rattle.channel.specs.declared.cause.Cause.{Cause}
use Rattle.channel.specs.declared.cause.Cause.TheVariants.{TooMany, Rule}

pub same_lines : (part : List ℕ) (ls ls' : List (List ℕ)) → RuleLines part ls → RuleLines part ls' → ls ≡ ls'
same_lines part ls ls' r r' = one_list RuleLine (λ l. l) (λ l r. r.one_line) (λ l k r q e. e) ls ls' r.each r'.each (sym r.whole ∙ r'.whole)

-- a rule line among the first sixteen is not refused
not_refused : (laid : ℕ) (line : List ℕ) (cause : Cause) → laid < most_rules → RuleLine line → LineEarns laid line cause → ⊥
not_refused laid line TooMany h r e = omega arith
not_refused laid line (Rule f) h r e = earned_is_unlawful line f e.1 r.sized r.lawful

pub no_lines : (offset : ℕ) (part : List ℕ) (ls : List (List ℕ)) (front : ℕ) (cause : Cause) → RuleLines part ls → RulesEarn offset part front cause → ⊥
no_lines offset part ls front cause r b =
    let s = line_stands RuleLine (λ l. l) (λ l r. r.one_line) ls b.before b.line b.after r.each b.each b.one_line (sym r.whole ∙ b.whole) in
    not_refused (length b.before) b.line cause (omega (arith, s.fewer, r.few)) (subst RuleLine s.is s.formed) b.earned

-- one line has one cause
one_cause : (laid : ℕ) (line : List ℕ) (c c' : Cause) → LineEarns laid line c → LineEarns laid line c' → c ≡ c'
one_cause laid line TooMany TooMany e e' = refl
one_cause laid line TooMany (Rule f') e e' = absurd (omega (arith, e'.0))
one_cause laid line (Rule f) TooMany e e' = absurd (omega (arith, e.0))
one_cause laid line (Rule f) (Rule f') e e' = ap Rule (one_fault line f f' e.1 e'.1)

pub one_refusal : (offset : ℕ) (part : List ℕ) (front front' : ℕ) (c c' : Cause) → RulesEarn offset part front c → RulesEarn offset part front' c' → (front ≡ front') × (c ≡ c')
one_refusal offset part front front' c c' b b' =
    ⊎_elim
    (λ s. (omega (arith, b.front_is, b'.front_is, s.1), one_cause (length b.before) b.line c c' b.earned (subst (λ k. LineEarns k b.line c') (sym s.0) (subst (λ l. LineEarns (length b'.before) l c') (sym s.2) b'.earned))))
    (λ s. absurd (⊎_elim (λ t. not_refused (length b.before) b.line c (omega (arith, t.fewer, b'.few)) (subst RuleLine t.is t.formed) b.earned) (λ t. not_refused (length b'.before) b'.line c' (omega (arith, t.fewer, b.few)) (subst RuleLine t.is t.formed) b'.earned) s))
    (lines_part RuleLine (λ l. l) (λ l r. r.one_line) b.before b'.before b.line b.after b'.line b'.after b.each b'.each b.one_line b'.one_line (sym b.whole ∙ b'.whole))

module _ (part : List ℕ) (at behind laid : ℕ) (place : Range ℕ) (so : ReadSoFar part at laid) (is : IsLine part at behind place) where
  abbrev line : List ℕ
  line = take (place.end - place.start) (drop place.start part)

  here : take (place.end - at) (drop at part) ≡ line
  here = ap (λ k. take (place.end - k) (drop k part)) (sym is.front)

  free : Without 10 line
  free = subst (Without 10) here (piece_without part at place.end 10 is.ends)

  whole_there : part ≡ flat_map with_newline so.lines ++ (line ++ 10 ∷ drop behind part)
  whole_there =
      so.whole
      ∙ ap (λ xs. flat_map with_newline so.lines ++ xs) (piece_and_rest part at place.end 10 is.ends ∙ ap (λ xs. take (place.end - at) (drop at part) ++ xs) (delimiter_next 10 part place.end (rest_ends_here part at place.end 10 is.ends) is.ended))
      ∙ ap (λ xs. flat_map with_newline so.lines ++ (xs ++ 10 ∷ drop (place.end + 1) part)) here
      ∙ ap (λ k. flat_map with_newline so.lines ++ (line ++ 10 ∷ drop k part)) (sym is.next)

  pub one_more : laid < most_rules → Sized line → Lawful line → ReadSoFar part behind (laid + 1)
  one_more room sized lawful =
      let ls = so.lines in
      record {
        lines = ls ++ line ∷ [];
        whole = whole_there ∙ ap (λ xs. flat_map with_newline ls ++ xs) (sym (append_assoc line (10 ∷ []) (drop behind part))) ∙ sym (append_assoc (flat_map with_newline ls) (with_newline line) (drop behind part)) ∙ ap (λ xs. xs ++ drop behind part) (flat_map_more with_newline [] ls line);
        each = all_by_recursion_push RuleLine ls line so.each (record { one_line = free; sized = sized; lawful = lawful });
        laid_are = omega (arith, so.laid_are, length_push ls line);
        few = omega arith;
        within = omega (arith, is.next, is.ended);
      }

  pub refused_there : (offset front : ℕ) (cause : Cause) → front ≡ offset + place.start → LineEarns laid line cause → RulesEarn offset part front cause
  refused_there offset front cause e b =
      let far : at ≡ 0 + length (flat_map with_newline so.lines) = went_on part part 0 at (flat_map with_newline so.lines) refl (omega arith) so.within so.whole in
      record {
        before = so.lines;
        line = line;
        after = drop behind part;
        whole = whole_there;
        each = so.each;
        few = omega (arith, so.few, so.laid_are);
        one_line = free;
        front_is = omega (arith, e, far, is.front);
        earned = subst (λ j. LineEarns j line cause) so.laid_are b;
      }

-- where no byte 10 is left, all of a closed part is read
pub all_read : (part : List ℕ) (at laid : ℕ) → Closed part → PieceEnd 10 part at (length part) → (so : ReadSoFar part at laid) → RuleLines part so.lines
all_read part at laid c s so =
    let h : length part ≤ at = ⊎_elim (λ l. absurd (s.free (length part - 1) (omega arith) (omega arith) (c (omega arith)))) (λ l. l) (order at (length part)) in
    record {
      whole = so.whole ∙ ap (λ xs. flat_map with_newline so.lines ++ xs) (drop_all at part h) ∙ append-nil (flat_map with_newline so.lines);
      each = so.each;
      few = omega (arith, so.few, so.laid_are);
    }
