-- The worked cases, computed.
use Rattle.std.proofs.Common.{◌≡◌, ℕ, suc, ◌<◌, Bool, true, false, not, ◌&&◌, eqb, ◌⊎◌, ⊎_elim, List, [], ◌∷◌, refl, subst, inr, arith}
use mathlib.Core.Bool.{false≢true}
use Rattle.std.proofs.lemmas.Bool.{both_ways, and_from, not_from_false}
use Rattle.std.proofs.lemmas.Bool.Decides.{Decides-eqb}
use Rattle.model.specs.Meaning.{Meaning, Starts, Moves, Carries, Total}
use Rattle.ctl.specs.Cost.{cost_at}
use Rattle.ctl.specs.Decision.{or_else, any_below, all_below, verdict_at}
use Rattle.ctl.specs.Formula.{Formula, PathPart, literal, one, negation_part}
use Rattle.ctl.specs.KPath.{state_at, Witness}
use Rattle.ctl.specs.States.{states_that_count}
use Rattle.ctl.specs.Verdict.{VerdictIs}
use Rattle.ctl.specs.Worked.{f, four, single, ag_c_af_o, ef_f, af_f, e_o_r_n, e_n_r_c, ag_1, ag_a, Judged, round_trip, WorkedCases, ReadingsDiffer}
use Rattle.ctl.specs.declared.Unary.TheVariants.{Eventually}
use Rattle.ctl.specs.declared.Verdict.{Verdict}
use Rattle.ctl.specs.declared.Verdict.TheVariants.{Holds, Fails, Undecided}
use Rattle.ctl.proofs.Deciding.{decides, decides_along}
use Rattle.ctl.proofs.Guards.{moves_to_a_state, starts_at_a_state}
use Rattle.ctl.proofs.Judging.{verdict_is}
use Rattle.ctl.proofs.Paths.{no_moves}
use Rattle.ctl.proofs.Tests.{decides_any, decides_all, decides_else, decides_yes, decides_no}

-- a model is total if a test says that each state moves on
total_by_test : (m : Meaning) → all_below (λ s. any_below (λ t. Moves m s t) m.count) m.count ≡ true → Total m
total_by_test m e s h =
    let t = (decides_all _ (λ s. (t : ℕ) × (t < m.count) × (Moves m s t ≡ true)) m.count
    (λ s _. decides_any (λ t. Moves m s t) (λ t. Moves m s t ≡ true) m.count (λ t _. decides_yes (Moves m s t)))).0 e s h in
    (t.0, t.2)

judged : (m : Meaning) (g : Formula) (k : ℕ) (v : Verdict) (looks : ℕ) → verdict_at m g k ≡ v → cost_at m (states_that_count m) g k ≡ looks
    → Judged m g k v looks
judged m g k v looks e c = (subst (VerdictIs m g k) e (verdict_is m g k), c)

-- what shows that AF f fails: f at no place, and a repeat
abbrev never_f : PathPart
never_f = negation_part (one Eventually (literal true f))

round_trip_shows : Witness four never_f 3 0 round_trip
round_trip_shows = record {
  path = record {
    states = refl;
    first = refl;
    step = (decides_all (λ i. Moves four (state_at round_trip i) (state_at round_trip (suc i))) (λ i. Moves four (state_at round_trip i) (state_at round_trip (suc i)) ≡ true) 3
        (λ i _. decides_yes (Moves four (state_at round_trip i) (state_at round_trip (suc i))))).0 refl;
  };
  along = (decides_along four never_f 3 round_trip).0 refl;
}

-- u is the only number below n that passes the test p, if a test says so
only_one : (p : ℕ → Bool) (n u : ℕ) → all_below (λ t. or_else (not (p t)) (λ _. eqb t u)) n ≡ true → (t : ℕ) → t < n → p t ≡ true → t ≡ u
only_one p n u e t h y =
    ⊎_elim (λ z. absurd (both_ways (p t) z y)) (λ z. z)
    ((decides_all _ (λ t. (p t ≡ false) ⊎ (t ≡ u)) n (λ t _. decides_else (not (p t)) (eqb t u) (decides_no (p t)) (Decides-eqb t u))).0 e t h)

start_of_four : (s : ℕ) → Starts four s ≡ true → s ≡ 0
start_of_four s e = only_one (Starts four) 4 0 refl s (starts_at_a_state four s e) e

after_0 : (t : ℕ) → Moves four 0 t ≡ true → t ≡ 1
after_0 t e = only_one (Moves four 0) 4 1 refl t (moves_to_a_state four 0 t e) e

after_1 : (t : ℕ) → Moves four 1 t ≡ true → t ≡ 2
after_1 t e = only_one (Moves four 1) 4 2 refl t (moves_to_a_state four 1 t e) e

after_2 : (t : ℕ) → Moves four 2 t ≡ true → Carries four t f ≡ false → t ≡ 0
after_2 t e g =
    only_one (λ t. Moves four 2 t && not (Carries four t f)) 4 0 refl t (moves_to_a_state four 2 t e) (and_from _ _ e (not_from_false _ g))

only_round_trip : (l : List ℕ) → Witness four never_f 3 0 l → l ≡ round_trip
only_round_trip [] w = absurd (omega (arith, w.path.states))
only_round_trip (x0 ∷ []) w = absurd (omega (arith, w.path.states))
only_round_trip (x0 ∷ x1 ∷ []) w = absurd (omega (arith, w.path.states))
only_round_trip (x0 ∷ x1 ∷ x2 ∷ []) w = absurd (omega (arith, w.path.states))
only_round_trip (x0 ∷ x1 ∷ x2 ∷ x3 ∷ x4 ∷ l) w = absurd (omega (arith, w.path.states))
only_round_trip (x0 ∷ x1 ∷ x2 ∷ x3 ∷ []) w =
    let e0 : x0 ≡ 0 = w.path.first in
    let e1 : x1 ≡ 1 = after_0 x1 (subst (λ s. Moves four s x1 ≡ true) e0 (w.path.step 0 (omega arith))) in
    let e2 : x2 ≡ 2 = after_1 x2 (subst (λ s. Moves four s x2 ≡ true) e1 (w.path.step 1 (omega arith))) in
    let e3 : x3 ≡ 0 = after_2 x3 (subst (λ s. Moves four s x3 ≡ true) e2 (w.path.step 2 (omega arith))) (w.along.0 3 (omega arith)) in
    cc

pub worked : WorkedCases
worked = record {
  four_total = total_by_test four refl;
  single_total = total_by_test single refl;
  ag_c_af_o_at_0 = judged four ag_c_af_o 0 Undecided 4 refl refl;
  ag_c_af_o_at_1 = judged four ag_c_af_o 1 Undecided 8 refl refl;
  ag_c_af_o_at_2 = judged four ag_c_af_o 2 Undecided 12 refl refl;
  ag_c_af_o_at_3 = judged four ag_c_af_o 3 Undecided 19 refl refl;
  ag_c_af_o_at_4 = judged four ag_c_af_o 4 Holds 0 refl refl;
  ef_f_at_2 = judged four ef_f 2 Undecided 12 refl refl;
  ef_f_at_3 = judged four ef_f 3 Holds 19 refl refl;
  af_f_at_2 = judged four af_f 2 Undecided 0 refl refl;
  af_f_at_3 = judged four af_f 3 Fails 0 refl refl;
  af_f_start = refl;
  af_f_path = round_trip_shows;
  af_f_only = λ s l h w. let e = start_of_four s h in (e, only_round_trip l (subst (λ z. Witness four never_f 3 z l) e w));
  e_o_r_n_at_0 = judged four e_o_r_n 0 Undecided 0 refl refl;
  e_o_r_n_at_1 = judged four e_o_r_n 1 Fails 0 refl refl;
  e_n_r_c_at_0 = judged four e_n_r_c 0 Fails 0 refl refl;
  ag_1_at_0 = judged single ag_1 0 Undecided 1 refl refl;
  ag_1_at_1 = judged single ag_1 1 Holds 0 refl refl;
  ag_a_at_0 = judged single ag_a 0 Fails 1 refl refl;
}

pub differ : ReadingsDiffer
differ = record {
  not_shown = (worked.ag_c_af_o_at_0.0.0, worked.ag_c_af_o_at_4.0);
  not_repeated = ((λ p h i w. refl), λ t. false≢true ((decides single ag_1 0 0).1 t));
  own_place = (
    ((λ _. 0), no_moves four 0 (λ _. 0) refl, ((λ i w. inr (0, omega arith, refl)), (0, omega arith, refl))),
    worked.e_n_r_c_at_0.0,
  );
}
