-- Every text is read in one way, every call has an answer, and but for the states of a path only one.
use Rattle.std.proofs.Common.{◌≡◌, ℕ, suc, ◌≤◌, true, ltb, leb, List, [], ◌∷◌, ◌++◌, length, drop, Some, None, Ok, Err, Option, Result, sym, refl, ap, ◌∙◌, subst}
use Rattle.std.proofs.lemmas.Option.{none-some}
use mathlib.Core.Logic.Dec
use native.Mathlib.Decide.{dec_le}
use Rattle.std.proofs.lemmas.Bool.Decides.{Decides-ltb}
use Rattle.model.specs.Meaning.{Meaning, Starts, Total, guarded}
use Rattle.std.proofs.lemmas.Bool.{and_from}
use Rattle.ctl.proofs.Tests.{decides_any, decides_yes}
use Rattle.ctl.specs.Decision.{any_below}
use Rattle.ctl.specs.Formula.{Formula}
use Rattle.rule.proofs.Completions.{done_lawful}
use Rattle.rule.proofs.Earned.{earned_is_unlawful, unlawful_earns, one_fault}
use Rattle.rule.proofs.Formulas.{one_formula}
use Rattle.rule.proofs.Reaches.{stop_is_unlawful}
use Rattle.rule.specs.Faults.{Sized}
use Rattle.rule.proofs.Walk.{Walk, walk, need, done, stopped}
use Rattle.rule.specs.declared.fault.RuleFault.{RuleFault}
use Rattle.rule.specs.declared.fault.RuleFault.TheVariants.{Length}
use Rattle.guarantee.specs.Calls.{Call, lay, try, settle, standing, path, Answer, to_lay, to_try, to_settle, to_standing, to_path}
use Rattle.guarantee.specs.Claims.{EveryListIsAnswered, Alike, equal, paths, AnswersAreFixed}
use Rattle.guarantee.specs.Limits.{most_states}
use Rattle.guarantee.specs.Rights.{AllRight}
use Rattle.guarantee.specs.Runs.{Step, lays, tries, settles, stands, writes, Run, none, next}
use Rattle.guarantee.specs.States.{State, blank, opened, Entry, open_fault, just_opened, lay_fault, ReadsAs, lay_answer, lay_after, LaysBy, Lays, try_answer, try_after, settle_answer, settle_after, standing_answer, path_fault, ShowsRecorded, WritesBy, Writes}
use Rattle.guarantee.specs.declared.fault.RosterFault.{RosterFault}
use Rattle.guarantee.proofs.Opening.{test_passed, guarded_is_total, opened_is_small}
use Rattle.guarantee.proofs.Showing.{a_path_is_there}
use Rattle.guarantee.proofs.Stepping.{Stepped, steps}

-- ---- a text is read in one way

dec_sized : (text : List ℕ) → Dec (Sized text)
dec_sized text = Dec.and (dec_le 1 (length text)) (dec_le (length text) 255)

pub a_reading : (text : List ℕ) → (r : Result Formula RuleFault) × ReadsAs text r
a_reading text = go (dec_sized text) (walk (need []) text) refl
  where
    go : Dec (Sized text) → (w : Walk) → walk (need []) text ≡ w → (r : Result Formula RuleFault) × ReadsAs text r
    go (no n) w e = (Err Length, n)
    go (yes s) done e = let f = done_lawful text e in (Ok f.0, (s, f.1))
    go (yes s) (stopped l) e = let x = unlawful_earns text s (λ t. stop_is_unlawful e t) in (Err x.0, x.1)

pub one_reading : (text : List ℕ) (r r' : Result Formula RuleFault) → ReadsAs text r → ReadsAs text r' → r ≡ r'
one_reading text (Ok f) (Ok g) (s, a) (_, b) = ap (λ x. Ok x) (one_formula text f g a b)
one_reading text (Ok f) (Err e) (s, a) b = absurd (earned_is_unlawful text e b s (f, a))
one_reading text (Err e) (Ok f) a (s, b) = absurd (earned_is_unlawful text e a s (f, b))
one_reading text (Err e) (Err e') a b = ap (λ x. Err x) (one_fault text e e' a b)

-- ---- every call has an answer

lay_answers : (s : State) (text : List ℕ) (o : Option RosterFault) → (a : Result ℕ RosterFault) × (s' : State) × LaysBy o s text a s'
lay_answers s text (Some e) = (Err e, s, (refl, refl))
lay_answers s text None =
    let r = a_reading text in
    (lay_answer s r.0, lay_after s r.0, (r.0, r.1, refl, refl))

path_answers : (s : State) (i k : ℕ) (buffer : List ℕ) (o : Option RosterFault) → (o ≡ None → (l : List ℕ) × ShowsRecorded s i k l)
    → (a : Result ℕ RosterFault) × (buffer' : List ℕ) × WritesBy o s i k buffer a buffer'
path_answers s i k buffer (Some e) h = (Err e, buffer, (refl, refl))
path_answers s i k buffer None h = let l = h refl in (Ok (suc k), l.0 ++ drop (suc k) buffer, (refl, (l.0, l.1, refl)))

module _ (m : Meaning) (law : Total m) (small : m.count ≤ most_states) (start : ℕ) (starts : Starts m start ≡ true) where
  answered : (es : List Entry) → AllRight m es → (c : Call) → (a : Answer) × (s : State) × Step (opened m es) c a s
  answered es h (lay text) =
      let x = lay_answers (opened m es) text (lay_fault (opened m es)) in
      (to_lay x.0, x.1, lays x.2)
  answered es h (try i k limit) = (to_try (try_answer (opened m es) i k limit), try_after (opened m es) i k limit, tries refl refl)
  answered es h (settle i limit) = (to_settle (settle_answer (opened m es) i limit), settle_after (opened m es) i limit, settles refl refl)
  answered es h (standing i) = (to_standing (standing_answer (opened m es) i), opened m es, stands refl refl)
  answered es h (path i k limit buffer) =
      let x = path_answers (opened m es) i k buffer (path_fault (opened m es) i k limit (length buffer)) (λ e. a_path_is_there m law start starts es h i k limit (length buffer) e) in
      (to_path x.0 x.1, opened m es, writes x.2 refl)

  all_answered : (es : List Entry) → AllRight m es → (s : State) → s ≡ opened m es → (calls : List Call) → (answers : List Answer) × (u : State) × Run s calls answers u
  all_answered es h s q [] = ([], s, none)
  all_answered es h s q (c ∷ cs) =
      let x = answered es h c in
      let d : Stepped m es c x.0 x.1 = steps m law small es h x.2 in
      let r = all_answered d.entries d.right x.1 d.state cs in
      (x.0 ∷ r.0, r.1, next (subst (λ t. Step t c x.0 x.1) (sym q) x.2) r.2)

-- open's last question finds a start, which the kept answers have too
start_there : (m : Meaning) → open_fault blank m ≡ None → (s : ℕ) × (Starts (guarded m) s ≡ true)
start_there m h =
    let any : any_below (Starts m) m.count ≡ true = (test_passed _ _ _ (test_passed (leb m.count most_states) _ _ (test_passed (leb 1 m.count) _ _ h).1).1).0 in
    let x = (decides_any (Starts m) (λ s. Starts m s ≡ true) m.count (λ s _. decides_yes (Starts m s))).0 any in
    (x.0, and_from (ltb x.0 m.count) (Starts m x.0) ((Decides-ltb x.0 m.count).1 x.1) x.2)

pub every_list_is_answered : EveryListIsAnswered
every_list_is_answered m law h calls =
    let s = start_there m h in
    all_answered (guarded m) (guarded_is_total m law) (opened_is_small m h) s.0 s.1 [] (λ i e q. absurd (none-some _ q)) (just_opened m) refl calls

-- ---- and only one

one_lay : (s : State) (text : List ℕ) (o : Option RosterFault) (a b : Result ℕ RosterFault) (t u : State) → LaysBy o s text a t → LaysBy o s text b u
    → (a ≡ b) × (t ≡ u)
one_lay s text (Some e) a b t u (p, q) (p', q') = (p ∙ sym p', q ∙ sym q')
one_lay s text None a b t u (r, x, p, q) (r', x', p', q') =
    let z = one_reading text r r' x x' in
    (p ∙ ap (lay_answer s) z ∙ sym p', q ∙ ap (lay_after s) z ∙ sym q')

one_path : (s : State) (i k : ℕ) (buffer : List ℕ) (o : Option RosterFault) (a b : Result ℕ RosterFault) (l l' : List ℕ) → WritesBy o s i k buffer a l
    → WritesBy o s i k buffer b l' → a ≡ b
one_path s i k buffer (Some e) a b l l' (p, q) (p', q') = p ∙ sym p'
one_path s i k buffer None a b l l' (p, q) (p', q') = p ∙ sym p'

-- the step of each call
from_lay : {s u : State} {text : List ℕ} {b : Answer} → Step s (lay text) b u → (r : Result ℕ RosterFault) × (b ≡ to_lay r) × Lays s text r u
from_lay (lays {a} x) = (a, refl, x)

from_try : {s u : State} {i k limit : ℕ} {b : Answer} → Step s (try i k limit) b u → (b ≡ to_try (try_answer s i k limit)) × (u ≡ try_after s i k limit)
from_try (tries p q) = (ap (λ r. to_try r) p, q)

from_settle : {s u : State} {i limit : ℕ} {b : Answer} → Step s (settle i limit) b u → (b ≡ to_settle (settle_answer s i limit)) × (u ≡ settle_after s i limit)
from_settle (settles p q) = (ap (λ r. to_settle r) p, q)

from_standing : {s u : State} {i : ℕ} {b : Answer} → Step s (standing i) b u → (b ≡ to_standing (standing_answer s i)) × (u ≡ s)
from_standing (stands p q) = (ap (λ r. to_standing r) p, q)

from_path : {s u : State} {i k limit : ℕ} {buffer : List ℕ} {b : Answer} → Step s (path i k limit buffer) b u
    → (r : Result ℕ RosterFault) × (buffer' : List ℕ) × (b ≡ to_path r buffer') × Writes s i k limit buffer r buffer' × (u ≡ s)
from_path (writes {buffer'} {a} w q) = (a, buffer', refl, w, q)

same : {a b c : Answer} → a ≡ c → b ≡ c → Alike a b
same {a} {b} p q = subst (Alike a) (p ∙ sym q) equal

pub answers_are_fixed : AnswersAreFixed
answers_are_fixed s (lay text) a b t u x y =
    let p = from_lay x in
    let q = from_lay y in
    let z = one_lay s text (lay_fault s) p.0 q.0 t u p.2 q.2 in
    (same p.1 (q.1 ∙ ap (λ r. to_lay r) (sym z.0)), z.1)
answers_are_fixed s (try i k limit) a b t u x y =
    let p = from_try x in let q = from_try y in (same p.0 q.0, p.1 ∙ sym q.1)
answers_are_fixed s (settle i limit) a b t u x y =
    let p = from_settle x in let q = from_settle y in (same p.0 q.0, p.1 ∙ sym q.1)
answers_are_fixed s (standing i) a b t u x y =
    let p = from_standing x in let q = from_standing y in (same p.0 q.0, p.1 ∙ sym q.1)
answers_are_fixed s (path i k limit buffer) a b t u x y =
    let p = from_path x in
    let q = from_path y in
    let z = one_path s i k buffer (path_fault s i k limit (length buffer)) p.0 q.0 p.1 q.1 p.3 q.3 in (
      subst (λ c. Alike c b) (sym p.2) (subst (Alike (to_path p.0 p.1)) (sym (q.2 ∙ ap (λ r. to_path r q.1) (sym z))) paths),
      p.4 ∙ sym q.4,
    )
