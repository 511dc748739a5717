-- A whole text: lines are read one after another, and the first that breaks the form is the fault.
use Rattle.std.proofs.Common.{◌≡◌, ℕ, ◌+◌, ◌-◌, ◌<◌, ◌≤◌, Bool, true, false, cond, eqb, leb, List, [], ◌∷◌, ◌++◌, length, get_or, take, drop, Some, None, Ok, Option, sym, refl, ap, ◌∙◌, subst, ⊎_elim, arith}
use Rattle.std.specs.Option.{option_or}
use Rattle.std.specs.List.{AllByRecursion}
use Rattle.std.proofs.str.Laws.{order}
use Rattle.std.proofs.lemmas.Bool.{and_parts, eqb-true, leb-true}
use Rattle.std.proofs.lemmas.Slice.{between_is}
use Rattle.std.proofs.slice.Lists.{all_by_recursion_push}
use Rattle.std.proofs.lemmas.List.{flat_map_more, append_assoc, append-nil, length-append, map_push, length_push, drop_all}
use Rattle.rowtext.specs.Faults.{Broken, FirstBroken, has_lines, line_beyond, text_beyond}
use Rattle.rowtext.specs.Format.{Line, WellFormed, line_of, line_text, lines_of, most_rows, text_of, with_newline}
use Rattle.rowtext.specs.Steps.{LineOr}
use Rattle.text.proofs.Cuts.{delimiter_next, piece_and_rest, piece_without, rest_ends_here, went_on}
use Rattle.text.proofs.Newlines.{newlines_behind, no_newline_past_the_end}
use Rattle.text.specs.Lines.{IsLine}
use Rattle.text.specs.Pieces.{PieceEnd, Without, newlines}
use Rattle.std.specs.declared.ops.Range.{Range}
use Rattle.rowtext.specs.declared.row.Row.{Row}
use Rattle.rowtext.specs.declared.fault.RowFault.{RowFault}

module _ (text : List ℕ) (lawful : has_lines text ≡ true) where
  pub last_byte : get_or text (length text - 1) 0 ≡ 10
  last_byte = eqb-true (get_or text (length text - 1) 0) 10 (and_parts (eqb (get_or text (length text - 1) 0) 10) (leb (newlines text) most_rows) lawful).0

  pub few_newlines : newlines text ≤ most_rows
  few_newlines = leb-true (newlines text) most_rows (and_parts (eqb (get_or text (length text - 1) 0) 10) (leb (newlines text) most_rows) lawful).1

  pub some_line : (ls : List Line) → text ≡ text_of ls → 0 < length ls
  some_line [] e = absurd (omega (arith, last_byte, ap (λ xs. get_or xs (length xs - 1) 0) e))
  some_line (l ∷ ls) e = omega arith

told : (b : Bool) (m n : ℕ) → cond b (Some m) None ≡ Some n → (b ≡ true) × (n ≡ m)
told true m n e = (refl, cc)
told false m n e = absurd (cc)

-- a count is told of a lawful text alone, and it is that of its lines
pub lawful_text : (text : List ℕ) (n : ℕ) → cond (has_lines text) (Some (newlines text)) None ≡ Some n → (has_lines text ≡ true) × (n ≡ newlines text)
lawful_text text n = told (has_lines text) (newlines text) n

-- what is read up to `at`: so many rows, and the first target not below n
pub record ReadSoFar (text : List ℕ) (n at : ℕ) (rows : List Row) (beyond : Option ℕ) : Type 0 where
  pub whole : text ≡ text_of (lines_of rows) ++ drop at text
  pub formed : AllByRecursion WellFormed (lines_of rows)
  pub counted : newlines text ≡ length rows + newlines (drop at text)
  pub beyond_is : beyond ≡ text_beyond n 0 (lines_of rows)

lines_more : (text left : List ℕ) (ls : List Line) (l : Line) (line after : List ℕ) → text ≡ text_of ls ++ left → left ≡ line ++ 10 ∷ after → line ≡ line_text l → text ≡ text_of (ls ++ l ∷ []) ++ after
lines_more text left ls l line after e f g =
    e ∙ ap (λ xs. text_of ls ++ xs) (f ∙ ap (λ xs. xs ++ 10 ∷ after) g ∙ sym (append_assoc (line_text l) (10 ∷ []) after)) ∙ sym (append_assoc (text_of ls) (with_newline l) after) ∙ ap (λ xs. xs ++ after) (flat_map_more with_newline [] ls l)

option_or_none : (a : Option ℕ) → option_or a None ≡ a
option_or_none (Some p) = refl
option_or_none None = refl

option_or_assoc : (a b c : Option ℕ) → option_or a (option_or b c) ≡ option_or (option_or a b) c
option_or_assoc (Some p) b c = refl
option_or_assoc None b c = refl

text_beyond_push : (n at : ℕ) (ls : List Line) (l : Line) → text_beyond n at (ls ++ l ∷ []) ≡ option_or (text_beyond n at ls) (line_beyond n (at + length (text_of ls)) l)
text_beyond_push n at [] l = option_or_none (line_beyond n at l) ∙ ap (λ k. line_beyond n k l) (let z : at ≡ at + 0 = omega arith in z)
text_beyond_push n at (x ∷ ls) l =
    let k = at + length (with_newline x) in
    let same : k + length (text_of ls) ≡ at + length (text_of (x ∷ ls)) = omega (arith, length-append (with_newline x) (text_of ls)) in
    ap (option_or (line_beyond n at x)) (text_beyond_push n k ls l) ∙ option_or_assoc (line_beyond n at x) (text_beyond n k ls) (line_beyond n (k + length (text_of ls)) l) ∙ ap (λ j. option_or (option_or (line_beyond n at x) (text_beyond n k ls)) (line_beyond n j l)) same

module _ (text : List ℕ) (n at behind : ℕ) (place : Range ℕ) (rows : List Row) (beyond : Option ℕ) (so : ReadSoFar text n at rows beyond) (is : IsLine text at behind place) where
  abbrev line : List ℕ
  line = drop place.start (take place.end text)

  free : Without 10 line
  free = subst (Without 10) (between_is text at place.end ∙ ap (λ k. drop k (take place.end text)) (sym is.front)) (piece_without text at place.end 10 is.ends)

  line_there : drop at text ≡ line ++ 10 ∷ drop behind text
  line_there =
      piece_and_rest text at place.end 10 is.ends
      ∙ ap (λ xs. take (place.end - at) (drop at text) ++ xs) (delimiter_next 10 text place.end (rest_ends_here text at place.end 10 is.ends) is.ended)
      ∙ ap (λ xs. xs ++ 10 ∷ drop (place.end + 1) text) (between_is text at place.end ∙ ap (λ k. drop k (take place.end text)) (sym is.front))
      ∙ ap (λ k. line ++ 10 ∷ drop k text) (sym is.next)

  here : place.start ≡ length (text_of (lines_of rows))
  here = omega (arith, is.front, went_on text text 0 at (text_of (lines_of rows)) refl (omega arith) (omega (arith, is.ends.onward, is.ends.within)) so.whole)

  -- one more row, whose first target not below n stands at `late`
  pub one_more : (row : Row) (late : Option ℕ) → LineOr n place.start line (Ok (row, late)) → ReadSoFar text n behind (rows ++ row ∷ []) (option_or beyond late)
  one_more row late told =
      let q : lines_of (rows ++ row ∷ []) ≡ lines_of rows ++ line_of row ∷ [] = map_push line_of rows row in
      record {
        whole = lines_more text (drop at text) (lines_of rows) (line_of row) line (drop behind text) so.whole line_there told.1 ∙ ap (λ ls. text_of ls ++ drop behind text) (sym q);
        formed = subst (AllByRecursion WellFormed) (sym q) (all_by_recursion_push WellFormed (lines_of rows) (line_of row) so.formed told.0);
        counted = omega (arith, so.counted, ap newlines line_there, newlines_behind line (10 ∷ drop behind text) free, length_push rows row);
        beyond_is = ap (λ a. option_or a late) so.beyond_is ∙ ap (option_or (text_beyond n 0 (lines_of rows))) (told.2 ∙ ap (λ k. line_beyond n k (line_of row)) (let z : place.start ≡ 0 + length (text_of (lines_of rows)) = omega (arith, here) in z)) ∙ sym (text_beyond_push n 0 (lines_of rows) (line_of row)) ∙ ap (text_beyond n 0) (sym q);
      }

  -- a line that breaks the form is the first that does
  pub broken_there : (e : RowFault) → Broken place.start line e → FirstBroken text e
  broken_there e b = record {
    before = lines_of rows;
    line = line;
    after = drop behind text;
    whole = so.whole ∙ ap (λ xs. text_of (lines_of rows) ++ xs) line_there;
    formed = so.formed;
    one_line = free;
    broken = subst (λ k. Broken k line e) here b;
  }

-- where no byte 10 is left, the whole text is read
pub all_read : (text : List ℕ) (n at : ℕ) (rows : List Row) (beyond : Option ℕ) → has_lines text ≡ true → ReadSoFar text n at rows beyond → PieceEnd 10 text at (length text) → (text ≡ text_of (lines_of rows)) × (newlines text ≡ length rows)
all_read text n at rows beyond lawful so s =
    let h : length text ≤ at = ⊎_elim (λ h. absurd (s.free (length text - 1) (omega arith) (omega arith) (last_byte text lawful))) (λ l. l) (order at (length text)) in (
      so.whole ∙ ap (λ xs. text_of (lines_of rows) ++ xs) (drop_all at text h) ∙ append-nil (text_of (lines_of rows)),
      omega (arith, so.counted, no_newline_past_the_end text at h),
    )
