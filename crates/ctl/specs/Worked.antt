-- Worked cases on two small models: verdicts, costs, the one path that shows a failure, and what three wrong readings
-- would say. Assumes nothing.
use Rattle.std.specs.Prelude.{◌≡◌, ℕ, ◌≤◌, Bool, true, false, ◌⊎◌, List, [], ◌∷◌, length, ◌==◌, slice_index_or}
use Rattle.model.specs.Meaning.{Meaning, Starts, Total}
use Rattle.ctl.specs.Cost.{cost_at}
use Rattle.ctl.specs.Decision.{or_else}
use Rattle.ctl.specs.Formula.{Formula, constant, literal, join, path, one, two, negation_part}
use Rattle.ctl.specs.KPath.{Witness}
use Rattle.ctl.specs.States.{states_that_count}
use Rattle.ctl.specs.Truth.{upto, Somewhere, Over, True}
use Rattle.ctl.specs.Verdict.{HoldsAt, FailsAt, VerdictIs}
use Rattle.ctl.specs.declared.Quantifier.TheVariants.{All, Exists}
use Rattle.ctl.specs.declared.Connective.TheVariants.{Or}
use Rattle.ctl.specs.declared.Unary.TheVariants.{Eventually, Always}
use Rattle.ctl.specs.declared.Binary.TheVariants.{Release}
use Rattle.ctl.specs.declared.Verdict.{Verdict}
use Rattle.ctl.specs.declared.Verdict.TheVariants.{Holds, Fails, Undecided}

-- what a table says of one state: is it a start, its letters, where it moves to
pub record Row : Type 0 where
  pub starts : Bool
  pub marks : List ℕ
  pub targets : List ℕ

-- the number stands in the list
abbrev pub contains : ℕ → List ℕ → Bool
contains x [] = false
contains x (y ∷ ys) = or_else (x == y) (λ _. contains x ys)

-- what is read past the last row
abbrev pub no_row : Row
no_row = record { starts = false; marks = []; targets = [] }

-- the model of a table, row s for state s
abbrev pub model_of : List Row → Meaning
model_of rows = record {
  count = length rows;
  start = λ s. (slice_index_or rows s no_row).starts;
  moves = λ s t. contains t (slice_index_or rows s no_row).targets;
  mark = λ s c. contains c (slice_index_or rows s no_row).marks;
}

-- the letter a by its byte, and so on
abbrev pub a : ℕ
a = 97

abbrev pub c : ℕ
c = 99

abbrev pub f : ℕ
f = 102

abbrev pub n : ℕ
n = 110

abbrev pub o : ℕ
o = 111

-- four states: *n>1, -c>2, -o>0,3 and -f>0
abbrev pub four_rows : List Row
four_rows =
    record { starts = true; marks = n ∷ []; targets = 1 ∷ [] }
    ∷ record { starts = false; marks = c ∷ []; targets = 2 ∷ [] }
    ∷ record { starts = false; marks = o ∷ []; targets = 0 ∷ 3 ∷ [] }
    ∷ record { starts = false; marks = f ∷ []; targets = 0 ∷ [] }
    ∷ []

-- the model of these four rows
abbrev pub four : Meaning
four = model_of four_rows

-- one state with no letter, a start, that moves to itself
abbrev pub single_rows : List Row
single_rows = record { starts = true; marks = []; targets = 0 ∷ [] } ∷ []

-- the model of this one row
abbrev pub single : Meaning
single = model_of single_rows

-- AG(!c|AF o)
abbrev pub ag_c_af_o : Formula
ag_c_af_o = path All (one Always (join Or (literal false c) (path All (one Eventually (literal true o)))))

-- EF f
abbrev pub ef_f : Formula
ef_f = path Exists (one Eventually (literal true f))

-- AF f
abbrev pub af_f : Formula
af_f = path All (one Eventually (literal true f))

-- E(o R n)
abbrev pub e_o_r_n : Formula
e_o_r_n = path Exists (two Release (literal true o) (literal true n))

-- E(n R c)
abbrev pub e_n_r_c : Formula
e_n_r_c = path Exists (two Release (literal true n) (literal true c))

-- AG 1
abbrev pub ag_1 : Formula
ag_1 = path All (one Always (constant true))

-- AG a
abbrev pub ag_a : Formula
ag_a = path All (one Always (literal true a))

-- the verdict on the rule at bound k is v, and the rule costs this many looks there
abbrev pub Judged : Meaning → Formula → ℕ → Verdict → ℕ → Type 0
Judged m g k v looks = VerdictIs m g k v × (cost_at m (states_that_count m) g k ≡ looks)

-- 0, 1, 2, 0
abbrev pub round_trip : List ℕ
round_trip = 0 ∷ 1 ∷ 2 ∷ 0 ∷ []

-- the worked cases, all of them; AF f fails by the path 0, 1, 2, 0, and no other 3-path from a start shows it
pub record WorkedCases : Type 0 where
  pub four_total : Total four
  pub single_total : Total single
  pub ag_c_af_o_at_0 : Judged four ag_c_af_o 0 Undecided 4
  pub ag_c_af_o_at_1 : Judged four ag_c_af_o 1 Undecided 8
  pub ag_c_af_o_at_2 : Judged four ag_c_af_o 2 Undecided 12
  pub ag_c_af_o_at_3 : Judged four ag_c_af_o 3 Undecided 19
  pub ag_c_af_o_at_4 : Judged four ag_c_af_o 4 Holds 0
  pub ef_f_at_2 : Judged four ef_f 2 Undecided 12
  pub ef_f_at_3 : Judged four ef_f 3 Holds 19
  pub af_f_at_2 : Judged four af_f 2 Undecided 0
  pub af_f_at_3 : Judged four af_f 3 Fails 0
  pub af_f_start : Starts four 0 ≡ true
  pub af_f_path : Witness four (negation_part (one Eventually (literal true f))) 3 0 round_trip
  pub af_f_only : (s : ℕ) (l : List ℕ) → Starts four s ≡ true
      → Witness four (negation_part (one Eventually (literal true f))) 3 s l → (s ≡ 0) × (l ≡ round_trip)
  pub e_o_r_n_at_0 : Judged four e_o_r_n 0 Undecided 0
  pub e_o_r_n_at_1 : Judged four e_o_r_n 1 Fails 0
  pub e_n_r_c_at_0 : Judged four e_n_r_c 0 Fails 0
  pub ag_1_at_0 : Judged single ag_1 0 Undecided 1
  pub ag_1_at_1 : Judged single ag_1 1 Holds 0
  pub ag_a_at_0 : Judged single ag_a 0 Fails 1

-- three readings that would spoil a verdict, each at a case that tells it from the right one
pub record ReadingsDiffer : Type 0 where
  -- 'not shown to hold' taken as 'fails': at 0 this rule is not shown to hold, and yet it holds
  pub not_shown : (HoldsAt four ag_c_af_o 0 → ⊥) × HoldsAt four ag_c_af_o 4
  -- G granted on a path that has not repeated: AG 1 would be true at 0
  pub not_repeated : Over All single (upto 0) 0 (λ p. (i : ℕ) → i ≤ 0 → True single (constant true) (upto 0) (p i))
      × (True single ag_1 (upto 0) 0 → ⊥)
  -- R's releasing state excusing its own place: E(n R c) would be true at the start at 0, where it fails
  pub own_place : Over Exists four (upto 0) 0 (λ p.
      ((i : ℕ) → i ≤ 0 → True four (literal true c) (upto 0) (p i) ⊎ ((j : ℕ) × (j ≤ i) × True four (literal true n) (upto 0) (p j)))
      × Somewhere (True four (literal true n) (upto 0)) (upto 0) p)
      × FailsAt four e_n_r_c 0
