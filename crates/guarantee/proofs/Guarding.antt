-- A model and the model of its answers: rules mean the same on both and cost the same, so the guarantee about one is about the other.
use Rattle.std.proofs.Common.{◌≡◌, ℕ, zero, suc, ◌+◌, Bool, true, false, not, ◌&&◌, ltb, leb, List, [], ◌∷◌, map, Ok, Err, Result, sym, refl, ap, ◌∙◌, ap₂, inl, inr}
use mathlib.Core.Path.{fun_ext}
use Rattle.std.proofs.Math.Bool.{and_self_left}
use Rattle.std.proofs.lemmas.Bool.Decides.{same_from_decides}
use Rattle.model.specs.Claims.{AnswerAlike}
use Rattle.model.specs.Meaning.{Meaning, letter, guarded}
use Rattle.ctl.proofs.Deciding.{decides}
use Rattle.ctl.specs.Cost.{when, in_turn, simple_paths, up_to_first, sum_below, when_so, node_cost, not_true_in, own_cost, nodes_cost, parts_cost}
use Rattle.ctl.specs.Decision.{decide}
use Rattle.ctl.specs.Formula.{Formula, PathPart, constant, literal, join, path, one, two, negation}
use Rattle.ctl.specs.States.{size_below, without, states_that_count}
use Rattle.ctl.specs.Truth.{Bound, upto, endless, PathFrom, AlongOne, AlongTwo, True, Along}
use Rattle.ctl.specs.Verdict.{VerdictIs, DecidingBound, Means}
use Rattle.ctl.specs.declared.Binary.{Binary}
use Rattle.ctl.specs.declared.Binary.TheVariants.{Until, Release}
use Rattle.ctl.specs.declared.Connective.TheVariants.{And, Or}
use Rattle.ctl.specs.declared.Quantifier.TheVariants.{All, Exists}
use Rattle.ctl.specs.declared.Unary.{Unary}
use Rattle.ctl.specs.declared.Unary.TheVariants.{Next, Eventually, Always}
use Rattle.ctl.specs.declared.Verdict.{Verdict}
use Rattle.ctl.specs.declared.Verdict.TheVariants.{Holds, Fails, Undecided}
use Rattle.guarantee.specs.Calls.{Call, Answer}
use Rattle.guarantee.specs.Law.{Event, Truthful, DecidedOnce, RefusedForLooks, Answering, Guarantee}
use Rattle.guarantee.specs.Looks.{looks_at}
use Rattle.guarantee.specs.declared.answer.Tried.{Tried}
use Rattle.guarantee.specs.declared.fault.RosterFault.{RosterFault}
use Rattle.guarantee.proofs.Running.{each_so}

-- ---- guarding twice is guarding once

both_once : (a b c : Bool) → (a && (b && (a && (b && c)))) ≡ (a && (b && c))
both_once true b c = and_self_left b c
both_once false b c = refl

pub guarded_is_alike : (m : Meaning) → AnswerAlike (guarded m) m
guarded_is_alike m = record {
  count = refl;
  start = λ s. and_self_left (ltb s m.count) (m.start s);
  moves = λ s t. both_once (ltb s m.count) (ltb t m.count) (m.moves s t);
  mark = λ s c. both_once (ltb s m.count) (letter c) (m.mark s c);
}

the_other_way : (m n : Meaning) → AnswerAlike m n → AnswerAlike n m
the_other_way m n a = record {
  count = sym a.count;
  start = λ s. sym (a.start s);
  moves = λ s t. sym (a.moves s t);
  mark = λ s c. sym (a.mark s c);
}

-- ---- truth and verdicts

path_alike : (m n : Meaning) → AnswerAlike m n → {b : Bound} {s : ℕ} {p : ℕ → ℕ} → PathFrom m b s p → PathFrom n b s p
path_alike m n a {b} {s} {p} h = record { first = h.first; step = λ i w. sym (a.moves (p i) (p (suc i))) ∙ h.step i w }

along_one_alike : (op : Unary) (P Q : ℕ → Type 0) → ((s : ℕ) → P s → Q s) → (b : Bound) (p : ℕ → ℕ) → AlongOne op P b p → AlongOne op Q b p
along_one_alike Next P Q h b p t = (t.0, h (p 1) t.1)
along_one_alike Eventually P Q h b p (i, w, t) = (i, w, h (p i) t)
along_one_alike Always P Q h b p t = ((λ i w. h (p i) (t.0 i w)), t.1)

along_two_alike : (op : Binary) (P P' Q Q' : ℕ → Type 0) → ((s : ℕ) → P s → P' s) → ((s : ℕ) → Q s → Q' s) → (b : Bound) (p : ℕ → ℕ)
    → AlongTwo op P Q b p → AlongTwo op P' Q' b p
along_two_alike Until P P' Q Q' g h b p (i, w, t, u) = (i, w, h (p i) t, λ j l. g (p j) (u j l))
along_two_alike Release P P' Q Q' g h b p (t, u) = (
  (λ i w. elim (t i w) [ inl y ↦ inl (h (p i) y) | inr (j, l, y) ↦ inr (j, l, g (p j) y) ]),
  elim u [ inl (i, w, y) ↦ inl (i, w, g (p i) y) | inr y ↦ inr y ],
)

mutual
  true_alike : (m n : Meaning) → AnswerAlike m n → (f : Formula) (b : Bound) (s : ℕ) → True m f b s → True n f b s
  true_alike m n a (constant v) b s t = t
  true_alike m n a (literal v c) b s t = sym (a.mark s c) ∙ t
  true_alike m n a (join And f g) b s t = (true_alike m n a f b s t.0, true_alike m n a g b s t.1)
  true_alike m n a (join Or f g) b s (inl t) = inl (true_alike m n a f b s t)
  true_alike m n a (join Or f g) b s (inr t) = inr (true_alike m n a g b s t)
  true_alike m n a (path All x) b s t = λ p h. along_alike m n a x b p (t p (path_alike n m (the_other_way m n a) h))
  true_alike m n a (path Exists x) b s (p, h, t) = (p, path_alike m n a h, along_alike m n a x b p t)

  along_alike : (m n : Meaning) → AnswerAlike m n → (x : PathPart) (b : Bound) (p : ℕ → ℕ) → Along m x b p → Along n x b p
  along_alike m n a (one op f) b p t = along_one_alike op (True m f b) (True n f b) (true_alike m n a f b) b p t
  along_alike m n a (two op f g) b p t =
      along_two_alike op (True m f b) (True n f b) (True m g b) (True n g b) (true_alike m n a f b) (true_alike m n a g b) b p t

means_alike : (m n : Meaning) → AnswerAlike m n → (f : Formula) (v : Verdict) → Means m f v → Means n f v
means_alike m n a f Holds t = λ s h. true_alike m n a f endless s (t s (a.start s ∙ h))
means_alike m n a f Fails (s, h, t, u) =
    (s, sym (a.start s) ∙ h, (λ y. t (true_alike n m (the_other_way m n a) f endless s y)), true_alike m n a (negation f) endless s u)
means_alike m n a f Undecided t = tt

holds_alike : (m n : Meaning) → AnswerAlike m n → (f : Formula) (k : ℕ) → VerdictIs m f k Holds → VerdictIs n f k Holds
holds_alike m n a f k t = λ s h. true_alike m n a f (upto k) s (t s (a.start s ∙ h))

fails_alike : (m n : Meaning) → AnswerAlike m n → (f : Formula) (k : ℕ) → VerdictIs m f k Fails → VerdictIs n f k Fails
fails_alike m n a f k (s, h, t) = (s, sym (a.start s) ∙ h, true_alike m n a (negation f) (upto k) s t)

verdict_alike : (m n : Meaning) → AnswerAlike m n → (f : Formula) (k : ℕ) (v : Verdict) → VerdictIs m f k v → VerdictIs n f k v
verdict_alike m n a f k Holds t = holds_alike m n a f k t
verdict_alike m n a f k Fails t = fails_alike m n a f k t
verdict_alike m n a f k Undecided t =
    ((λ y. t.0 (holds_alike n m (the_other_way m n a) f k y)), λ y. t.1 (fails_alike n m (the_other_way m n a) f k y))

deciding_alike : (m n : Meaning) → AnswerAlike m n → (f : Formula) (k : ℕ) (v : Verdict) → DecidingBound m f k v → DecidingBound n f k v
deciding_alike m n a f k v d =
    record { decided = d.decided; here = verdict_alike m n a f k v d.here; below = λ j l. verdict_alike m n a f j Undecided (d.below j l) }

-- ---- cost

module _ (m : Meaning) where
  decide_alike : (f : Formula) (k s : ℕ) → decide (guarded m) f k s ≡ decide m f k s
  decide_alike f k s =
      let here = true_alike (guarded m) m (guarded_is_alike m) f (upto k) s in
      let back = true_alike m (guarded m) (the_other_way (guarded m) m (guarded_is_alike m)) f (upto k) s in
      let d = decides (guarded m) f k s in
      same_from_decides (decide (guarded m) f k s) (decide m f k s) ((λ e. here (d.0 e)), (λ t. d.1 (back t))) (decides m f k s)

  paths_alike : (N : ℕ → Bool) (k s : ℕ) → simple_paths (guarded m) N k s ≡ simple_paths m N k s
  paths_alike N zero s = refl
  paths_alike N (suc k) s =
      ap (λ g. when (N s) (λ _. (s ∷ []) ∷ in_turn g m.count))
      (fun_ext (λ t. ap₂ (λ b l. when b (λ _. map (λ x. s ∷ x) l)) ((guarded_is_alike m).moves s t) (paths_alike (without N s) k t)))

  node_alike : (N : ℕ → Bool) (k : ℕ) → node_cost (guarded m) N k ≡ node_cost m N k
  node_alike N k =
      ap (λ g. when_so (not (leb (size_below N m.count) k)) (λ _. sum_below g m.count)) (fun_ext (λ s. ap (up_to_first (suc k)) (paths_alike N k s)))

  own_alike : (R : ℕ → Bool) (x : PathPart) (k : ℕ) → own_cost (guarded m) R x k ≡ own_cost m R x k
  own_alike R (one Next f) k = refl
  own_alike R (one Eventually f) k = refl
  own_alike R (one Always f) k = node_alike R k
  own_alike R (two Until f g) k = refl
  own_alike R (two Release f g) k =
      ap (λ N. node_cost (guarded m) N k) (fun_ext (λ s. ap (λ d. R s && not d) (decide_alike f k s))) ∙ node_alike (not_true_in m R f k) k

  mutual
    nodes_alike : (R : ℕ → Bool) (f : Formula) (k : ℕ) → nodes_cost (guarded m) R f k ≡ nodes_cost m R f k
    nodes_alike R (constant v) k = refl
    nodes_alike R (literal v c) k = refl
    nodes_alike R (join op f g) k = ap₂ (λ x y. x + y) (nodes_alike R f k) (nodes_alike R g k)
    nodes_alike R (path All x) k = ap₂ (λ y z. y + z) (own_alike R x k) (parts_alike R x k)
    nodes_alike R (path Exists x) k = parts_alike R x k

    parts_alike : (R : ℕ → Bool) (x : PathPart) (k : ℕ) → parts_cost (guarded m) R x k ≡ parts_cost m R x k
    parts_alike R (one op f) k = nodes_alike R f k
    parts_alike R (two op f g) k = ap₂ (λ x y. x + y) (nodes_alike R f k) (nodes_alike R g k)

  looks_alike : (f : Formula) (k : ℕ) → looks_at (guarded m) f k ≡ looks_at m f k
  looks_alike f k = ap₂ (λ x y. x + y) (nodes_alike (states_that_count m) f k) (nodes_alike (states_that_count m) (negation f) k)

  -- ---- the guarantee

  truthful_alike : (before : List Event) (x : Event) → Truthful (guarded m) before x → Truthful m before x
  truthful_alike before x h t e = let y = h t e in (y.0, y.1, means_alike (guarded m) m (guarded_is_alike m) y.0 t.verdict y.2)

  refused_alike : (f : Formula) (k limit : ℕ) (a : Result Tried RosterFault) → RefusedForLooks (guarded m) f k limit a → RefusedForLooks m f k limit a
  refused_alike f k limit (Ok t) h = h
  refused_alike f k limit (Err e) h = (h.0, rw (← looks_alike f k) h.1, h.2)

  answering_alike : (before : List Event) (x : Event) → Answering (guarded m) before x → Answering m before x
  answering_alike before x h t f z u l = refused_alike f t.bound t.limit t.outcome (h t f z u l)

  decided_alike : (events : List Event) (r : ℕ) (f : Formula) → DecidedOnce (guarded m) events r f → DecidedOnce m events r f
  decided_alike events r f d = record {
    bound = d.bound;
    verdict = d.verdict;
    deciding = deciding_alike (guarded m) m (guarded_is_alike m) f d.bound d.verdict d.deciding;
    only = λ n v e. d.only n v (deciding_alike m (guarded m) (the_other_way (guarded m) m (guarded_is_alike m)) f n v e);
    early = d.early;
    said = d.said;
  }

  pub guarantee_alike : (calls : List Call) (answers : List Answer) → Guarantee (guarded m) calls answers → Guarantee m calls answers
  guarantee_alike calls answers g = record {
    events = g.events;
    calls_are = g.calls_are;
    answers_are = g.answers_are;
    numbered = g.numbered;
    truthful = each_so (Truthful (guarded m)) (Truthful m) truthful_alike [] g.events g.truthful;
    decided = λ r f u. decided_alike g.events r f (g.decided r f u);
    answering = each_so (Answering (guarded m)) (Answering m) answering_alike [] g.events g.answering;
  }
