-- What open's questions give of the model, and what holds of the calls on it.
use Rattle.std.proofs.Common.{◌≡◌, ◌≤◌, Bool, true, false, cond, ◌&&◌, ltb, leb, Some, None, Ok, Option, sym, refl, ap, ◌∙◌}
use Rattle.std.proofs.lemmas.Option.{none-some}
use Rattle.std.proofs.lemmas.Bool.{leb-true, and_parts, and_from}
use Rattle.model.specs.Meaning.{Meaning, Moves, Total, guarded}
use Rattle.ctl.proofs.Judging.{only_the_computed}
use Rattle.guarantee.specs.Claims.{EveryOpenedRunIsGuaranteed, RecordsStayRight, SettleEnds}
use Rattle.guarantee.specs.Limits.{most_states}
use Rattle.guarantee.specs.States.{blank, open_fault, settle_entry}
use Rattle.guarantee.specs.declared.fault.RosterFault.{RosterFault}
use Rattle.guarantee.proofs.Guarding.{guarantee_alike}
use Rattle.guarantee.proofs.Running.{every_run_is_guaranteed}
use Rattle.guarantee.proofs.Settling.{ends_decided, settles_from_0, counts_its_own}
use Rattle.guarantee.proofs.Stepping.{steps}
use Rattle.guarantee.proofs.Trying.{formula_at}

-- where a test says no, there is a refusal; so where there is none, it says yes
pub test_passed : (b : Bool) (o : Option RosterFault) (e : RosterFault) → cond b o (Some e) ≡ None → (b ≡ true) × (o ≡ None)
test_passed true o e h = (refl, h)
test_passed false o e h = absurd (none-some _ (sym h))

-- the answers of a total model are a total model
pub guarded_is_total : (m : Meaning) → Total m → Total (guarded m)
guarded_is_total m law s h =
    let t = (law s h).0 in
    let below : ltb s m.count ≡ true = (and_parts (ltb s m.count) (ltb t m.count && m.moves s t) (law s h).1).0 in
    let to : ltb t m.count ≡ true =
    (and_parts (ltb t m.count) (m.moves s t) (and_parts (ltb s m.count) (ltb t m.count && m.moves s t) (law s h).1).1).0 in
    (t, and_from (ltb s m.count) (ltb t m.count && Moves m s t) below (and_from (ltb t m.count) (Moves m s t) to (law s h).1))

pub opened_is_small : (m : Meaning) → open_fault blank m ≡ None → m.count ≤ most_states
opened_is_small m h = leb-true m.count most_states (test_passed _ _ _ (test_passed (leb 1 m.count) _ _ h).1).0

pub every_opened_run_is_guaranteed : EveryOpenedRunIsGuaranteed
every_opened_run_is_guaranteed m law h calls answers s r =
    guarantee_alike m calls answers (every_run_is_guaranteed (guarded m) (guarded_is_total m law) (opened_is_small m h) calls answers s r)

pub records_stay_right : RecordsStayRight
records_stay_right m law small es h c a s st = let d = steps m law small es h st in (d.entries, d.state, d.right)

pub settle_ends : SettleEnds
settle_ends m law small es h i limit e q =
    let c = settles_from_0 m law small i e.formula limit es h (formula_at es i e q) in
    record {
      answer = record { verdict = c.verdict_is; bound = c.bound_is; looks = c.own_looks; passed = c.own_passed };
      is = ap (λ o. settle_entry m es i limit o) q ∙ ap (λ a. Ok a) (counts_its_own c);
      decided = ends_decided c.climbs;
      verdict = (only_the_computed m e.formula c.bound_is c.verdict_is).1 (sym c.true_of);
      early = c.reached;
    }
