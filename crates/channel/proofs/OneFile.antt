-- A channel file has one answer: one summary, or one fault.
use Rattle.std.proofs.Common.{◌≡◌, ℕ, suc, ◌+◌, ◌^◌, ◌≤◌, true, false, ◌&&◌, leb, ◌⊎◌, List, length, None, sym, refl, ap, ◌∙◌, subst, inl, inr}
use mathlib.Core.HLevel.{is_prop→PathP}
use native.Mathlib.Bridge.{le_prop}
use Rattle.std.proofs.lemmas.Bool.{and_from, false≢true, le-leb}
use Rattle.rows.specs.Rows.{RefusedText, some_start}
use Rattle.rowtext.specs.Faults.{number}
use Rattle.rowtext.specs.Format.{Line, Describes}
use Rattle.rowtext.specs.declared.fault.RowFault.{RowFault}
use Rattle.rowtext.specs.declared.fault.RowFault.TheVariants.{Memory}
use Rattle.rowtext.proofs.OneText.{one_answer}
use Rattle.channel.proofs.LastLine.{one_cut, one_last}
use Rattle.channel.proofs.Lined.{no_lines, one_refusal, same_lines}
use Rattle.channel.specs.Claims.{ChannelFileHasOneAnswer}
use Rattle.channel.specs.Faults.{BadOffset, ContentEarns, FileEarns, bad_size, bad_last_line, bad_offset, bad_content, bad_rows, no_start, bad_rules}
use Rattle.channel.specs.Files.{line_front, sized, Cut, LawfulFile}
use Rattle.channel.specs.RuleLines.{RuleLines, cause_number, cause_place, RulesEarn}
use Rattle.channel.specs.Steps.{Deserved}
use Rattle.channel.specs.declared.fault.FileFault.{FileFault}
use Rattle.channel.specs.declared.fault.FileFault.TheVariants.{Rows, Rules, NoStart}
use Rattle.channel.specs.declared.line.LineFault.{LineFault}

clash : (file : List ℕ) → sized file ≡ false → sized file ≡ true → ⊥
clash file n y = false≢true (sym n ∙ y)

-- an offset where the file is cut is no bad one
good_offset : (file rows rules : List ℕ) (n : ℕ) → BadOffset file → Cut file rows rules n → ⊥
good_offset file rows rules n b c =
    let p = one_last file b.body c.body b.n n b.last c.last in
    let good : (leb n (length c.body) && line_front file n) ≡ true = and_from (leb n (length c.body)) (line_front file n) (le-leb n (length c.body) c.before) c.begins in
    let body = p.0 in
    let at = p.1 in
    false≢true (sym b.bad ∙ (λ i. leb (at i) (length (body i)) && line_front file (at i)) ∙ good)

-- what is said of one cut of a file is said of the other
same_content : (file rows rules rows' rules' : List ℕ) (n n' : ℕ) (e : FileFault) → Cut file rows rules n → Cut file rows' rules' n' → ContentEarns n' rows' rules' e → ContentEarns n rows rules e
same_content file rows rules rows' rules' n n' e c c' b =
    let at = (one_last file c.body c'.body n n' c.last c'.last).1 in
    let part = one_cut file rows rules rows' rules' n n' c c' in
    let step = subst (λ k. ContentEarns k rows' rules' e) (sym at) b in
    let step' = subst (λ t. ContentEarns n t rules' e) (sym part.0) step in
    subst (λ t. ContentEarns n rows t e) (sym part.1) step'

-- line faults with the same front and the same cause are the same
same_fault : (e e' : LineFault) → (e.front ≡ e'.front) × (e.cause ≡ e'.cause) → e ≡ e'
same_fault e e' p =
    let f = p.0 in
    let c = p.1 in
    let small = is_prop→PathP (λ i. suc (f i + cause_place (c i)) ≤ 2 ^ 64) (λ i. le_prop) e.small e'.small in
    λ i. record { front = f i; cause = c i; small = small i }

one_start : (rows : List ℕ) (lines lines' : List Line) → Describes rows lines → Describes rows lines' → some_start lines ≡ true → some_start lines' ≡ false → ⊥
one_start rows lines lines' d d' y n = false≢true (sym n ∙ ap some_start ((one_answer rows).one_meaning lines' lines d' d) ∙ y)

one_content : (n : ℕ) (rows rules : List ℕ) (e e' : FileFault) → ContentEarns n rows rules e → ContentEarns n rows rules e' → e ≡ e'
one_content n rows rules _ _ (bad_rows e b) (bad_rows e' b') = ap Rows ((one_answer rows).one_fault e e' b b')
one_content n rows rules _ _ (bad_rows e b) (no_start lines d s) = absurd ((one_answer rows).not_both lines e d b)
one_content n rows rules _ _ (bad_rows e b) (bad_rules lines e' d s b') = absurd ((one_answer rows).not_both lines e d b)
one_content n rows rules _ _ (no_start lines d s) (bad_rows e b) = absurd ((one_answer rows).not_both lines e d b)
one_content n rows rules _ _ (no_start lines d s) (no_start lines' d' s') = refl
one_content n rows rules _ _ (no_start lines d s) (bad_rules lines' e d' s' b) = absurd (one_start rows lines' lines d' d s' s)
one_content n rows rules _ _ (bad_rules lines e d s b) (bad_rows e' b') = absurd ((one_answer rows).not_both lines e' d b')
one_content n rows rules _ _ (bad_rules lines e d s b) (no_start lines' d' s') = absurd (one_start rows lines lines' d d' s s')
one_content n rows rules _ _ (bad_rules lines e d s b) (bad_rules lines' e' d' s' b') = ap Rules (same_fault e e' (one_refusal n rules e.front e'.front e.cause e'.cause b b'))

one_summary : (file : List ℕ) (states rules states' rules' : ℕ) → LawfulFile file states rules → LawfulFile file states' rules' → (states ≡ states') × (rules ≡ rules')
one_summary file states rules states' rules' f f' =
    let p = one_cut file f.rows_part f.rules_part f'.rows_part f'.rules_part f.offset f'.offset f.cut f'.cut in
    let lines = (one_answer f.rows_part).one_meaning f.lines f'.lines f.described (subst (λ t. Describes t f'.lines) (sym p.0) f'.described) in
    let laid = same_lines f.rules_part f.rule_lines f'.rule_lines f.laid (subst (λ t. RuleLines t f'.rule_lines) (sym p.1) f'.laid) in
    (f.states_are ∙ ap length lines ∙ sym f'.states_are, f.rules_are ∙ ap length laid ∙ sym f'.rules_are)

lawful_content : (file : List ℕ) (states rules : ℕ) (e : FileFault) (f : LawfulFile file states rules) → ContentEarns f.offset f.rows_part f.rules_part e → ⊥
lawful_content file states rules _ f (bad_rows e b) = (one_answer f.rows_part).not_both f.lines e f.described b
lawful_content file states rules _ f (no_start lines d s) = one_start f.rows_part f.lines lines f.described d f.started s
lawful_content file states rules _ f (bad_rules lines e d s b) = no_lines f.offset f.rules_part f.rule_lines e.front e.cause f.laid b

not_both : (file : List ℕ) (states rules : ℕ) (e : FileFault) → LawfulFile file states rules → FileEarns file e → ⊥
not_both file states rules _ f (bad_size n) = clash file n f.sized_is
not_both file states rules _ f (bad_last_line y none) = none f.cut.body f.offset f.cut.last
not_both file states rules _ f (bad_offset y b) = good_offset file f.rows_part f.rules_part f.offset b f.cut
not_both file states rules _ f (bad_content rows_part rules_part n e y c b) = lawful_content file states rules e f (same_content file f.rows_part f.rules_part rows_part rules_part f.offset n e f.cut c b)

one_fault : (file : List ℕ) (e e' : FileFault) → FileEarns file e → FileEarns file e' → e ≡ e'
one_fault file _ _ (bad_size n) (bad_size n') = refl
one_fault file _ _ (bad_size n) (bad_last_line y none) = absurd (clash file n y)
one_fault file _ _ (bad_size n) (bad_offset y b) = absurd (clash file n y)
one_fault file _ _ (bad_size n) (bad_content rows rules k e y c b) = absurd (clash file n y)
one_fault file _ _ (bad_last_line y none) (bad_size n) = absurd (clash file n y)
one_fault file _ _ (bad_last_line y none) (bad_last_line y' none') = refl
one_fault file _ _ (bad_last_line y none) (bad_offset y' b) = absurd (none b.body b.n b.last)
one_fault file _ _ (bad_last_line y none) (bad_content rows rules k e y' c b) = absurd (none c.body k c.last)
one_fault file _ _ (bad_offset y b) (bad_size n) = absurd (clash file n y)
one_fault file _ _ (bad_offset y b) (bad_last_line y' none) = absurd (none b.body b.n b.last)
one_fault file _ _ (bad_offset y b) (bad_offset y' b') = refl
one_fault file _ _ (bad_offset y b) (bad_content rows rules k e y' c b') = absurd (good_offset file rows rules k b c)
one_fault file _ _ (bad_content rows rules k e y c b) (bad_size n) = absurd (clash file n y)
one_fault file _ _ (bad_content rows rules k e y c b) (bad_last_line y' none) = absurd (none c.body k c.last)
one_fault file _ _ (bad_content rows rules k e y c b) (bad_offset y' b') = absurd (good_offset file rows rules k b' c)
one_fault file _ _ (bad_content rows rules k e y c b) (bad_content rows' rules' k' e' y' c' b') = one_content k rows rules e e' b (same_content file rows rules rows' rules' k k' e' c c' b')

pub one_answer_of_a_file : ChannelFileHasOneAnswer
one_answer_of_a_file file = record { one_summary = one_summary file; not_both = not_both file; one_fault = one_fault file }

module _ (file rows rules : List ℕ) (n : ℕ) (y : sized file ≡ true) (c : Cut file rows rules n) where
  -- what refuses the rows refuses the file, or there was no memory
  pub deserved_rows : (e : RowFault) → (e ≡ Memory) ⊎ RefusedText rows e → Deserved file (Rows e)
  deserved_rows e (inl m) = inl (ap number m)
  deserved_rows e (inr b) = inr (bad_content rows rules n (Rows e) y c (bad_rows e b.earned))

  pub deserved_start : (lines : List Line) → Describes rows lines → some_start lines ≡ false → Deserved file NoStart
  deserved_start lines d s = inr (bad_content rows rules n NoStart y c (no_start lines d s))

  -- and so it is with the rules
  pub deserved_rules : (lines : List Line) (e : LineFault) → Describes rows lines → some_start lines ≡ true → (cause_number e.cause ≡ None) ⊎ RulesEarn n rules e.front e.cause → Deserved file (Rules e)
  deserved_rules lines e d s (inl m) = inl m
  deserved_rules lines e d s (inr b) = inr (bad_content rows rules n (Rules e) y c (bad_rules lines e d s b))
