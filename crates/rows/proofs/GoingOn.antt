-- Every row goes on: so it is with the rows of a lawful text.
use Rattle.std.proofs.Common.{◌≡◌, ℕ, ◌<◌, ◌≤◌, true, ◌⊎◌, List, [], ◌∷◌, length, Ok, Err, vec_items, vec_len, Result, Vec, MatchResult, nat_lt, refl, subst, inl, inr, arith}
use Rattle.std.specs.declared.alloc.Global.{Global}
use Rattle.std.specs.List.{AllByRecursion}
use Rattle.std.proofs.lemmas.List.{length-map}
use Rattle.std.proofs.lemmas.Bool.{lt-ltb, or_left, and_from}
use Rattle.rows.specs.Rows.{GoesOn, RefusedText, each_goes_on, some_below}
use Rattle.rowtext.proofs.OneText.{one_answer}
use Rattle.rowtext.specs.Faults.{Reads}
use Rattle.rowtext.specs.Format.{Below, Describes, WellFormed, line_of, lines_of, most_rows}
use Rattle.rowtext.specs.declared.fault.RowFault.{RowFault}
use Rattle.rowtext.specs.declared.fault.RowFault.TheVariants.{Memory}
use Rattle.rowtext.specs.declared.row.Row.{Row}

first_goes : (n : ℕ) (ts : List ℕ) → 0 < length ts → AllByRecursion (λ t. t < n) ts → some_below n ts ≡ true
first_goes n [] h e = absurd (omega arith)
first_goes n (t ∷ ts) h e = or_left (nat_lt t n) (some_below n ts) (lt-ltb t n e.0)

all_go_on : (n : ℕ) (rows : List Row) → AllByRecursion WellFormed (lines_of rows) → AllByRecursion (Below n) (lines_of rows) → each_goes_on n rows ≡ true
all_go_on n [] f b = refl
all_go_on n (r ∷ rs) f b = and_from (some_below n (vec_items r.targets)) (each_goes_on n rs) (first_goes n (vec_items r.targets) f.0.some b.0) (all_go_on n rs f.1 b.1)

pub described_go_on : (text : List ℕ) (rows : List Row) → Describes text (lines_of rows) → GoesOn rows
described_go_on text rows d = all_go_on (length rows) rows d.formed (subst (λ n. AllByRecursion (Below n) (lines_of rows)) (length-map rows line_of) d.below)

-- what is read is lawful, or the text describes nothing
pub read_lawful : (text : List ℕ) (r : Result (Vec Row Global) RowFault) → Reads text r → MatchResult r (λ rows. Describes text (lines_of (vec_items rows)) × (vec_len rows ≤ most_rows) × GoesOn (vec_items rows)) (λ e. (e ≡ Memory) ⊎ RefusedText text e)
read_lawful text (Ok rows) d = (d, omega (arith, d.few, rows.ok.0, length-map (vec_items rows) line_of), described_go_on text (vec_items rows) d)
read_lawful text (Err e) (inl m) = inl m
read_lawful text (Err e) (inr f) = inr (record { earned = f; nothing = λ ls d. (one_answer text).not_both ls e d f })
