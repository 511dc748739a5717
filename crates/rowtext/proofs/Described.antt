-- A text whose lines are well-formed and whose targets are below the count describes its rows.
use Rattle.std.proofs.Common.{◌≡◌, ℕ, ◌+◌, ◌<◌, ◌≤◌, cond, List, [], ◌∷◌, length, Some, None, Option, sym, refl, ap, ◌∙◌, ⊎_elim, arith}
use Rattle.std.specs.List.{AllByRecursion}
use Rattle.std.proofs.str.Laws.{order}
use Rattle.std.proofs.lemmas.Bool.{le-leb, lt-leb}
use Rattle.std.proofs.lemmas.List.{length-map}
use Rattle.rowtext.specs.Faults.{line_beyond, targets_beyond, text_beyond, with_comma}
use Rattle.rowtext.specs.Format.{Below, Describes, Line, WellFormed, line_of, lines_of, most_rows, text_of, with_newline}
use Rattle.rowtext.specs.declared.row.Row.{Row}
use Rattle.std.specs.Option.{option_or}

option_or_parts : (a b : Option ℕ) → option_or a b ≡ None → (a ≡ None) × (b ≡ None)
option_or_parts (Some p) b e = absurd (cc)
option_or_parts None b e = (refl, e)

none_beyond_target : (n at : ℕ) (ts : List ℕ) → targets_beyond n at ts ≡ None → AllByRecursion (λ t. t < n) ts
none_beyond_target n at [] e = tt
none_beyond_target n at (t ∷ ts) e =
    ⊎_elim
    (λ h. (h, none_beyond_target n (at + length (with_comma t)) ts (sym (ap (λ b. cond b (Some at) (targets_beyond n (at + length (with_comma t)) ts)) (lt-leb n t h)) ∙ e)))
    (λ h. let f = sym (ap (λ b. cond b (Some at) (targets_beyond n (at + length (with_comma t)) ts)) (le-leb n t h)) ∙ e in absurd (cc))
    (order t n)

none_beyond : (n at : ℕ) (ls : List Line) → text_beyond n at ls ≡ None → AllByRecursion (Below n) ls
none_beyond n at [] e = tt
none_beyond n at (l ∷ ls) e =
    let p = option_or_parts (line_beyond n at l) (text_beyond n (at + length (with_newline l)) ls) e in
    (none_beyond_target n (at + 1 + length l.marks + 1) l.targets p.0, none_beyond n (at + length (with_newline l)) ls p.1)

pub described : (text : List ℕ) (rows : List Row) → text ≡ text_of (lines_of rows) → AllByRecursion WellFormed (lines_of rows) → length rows ≤ most_rows → 0 < length rows → text_beyond (length rows) 0 (lines_of rows) ≡ None → Describes text (lines_of rows)
described text rows w f few some none =
    let n : length rows ≡ length (lines_of rows) = sym (length-map rows line_of) in
    record {
      whole = w;
      formed = f;
      some = omega (arith, n);
      few = omega (arith, n);
      below = none_beyond (length (lines_of rows)) 0 (lines_of rows) (ap (λ k. text_beyond k 0 (lines_of rows)) (sym n) ∙ none);
    }
