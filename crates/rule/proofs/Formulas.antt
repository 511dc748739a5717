-- A text has at most one formula: a reading from left to right that also builds the formula.
use Rattle.std.proofs.Common.{◌≡◌, ℕ, true, List, [], ◌∷◌, Some, None, Option, refl, ap, ◌∙◌}
use Rattle.ctl.specs.Formula.{Formula, PathPart, constant, literal, join, path, one, two, negation}
use Rattle.ctl.specs.declared.Quantifier.{Quantifier}
use Rattle.ctl.specs.declared.Connective.TheVariants.{And, Or}
use Rattle.ctl.specs.declared.Unary.{Unary}
use Rattle.ctl.specs.declared.Binary.{Binary}
use Rattle.rule.specs.Grammar.{Spaces, none, more, Reads, here, skip, IsUnit, by_letter, by_constant, by_not, by_group, by_path, IsPathPart, by_one, by_two, IsTerm, by_unit, by_and, IsRule, by_term, by_or, Means}
use Rattle.rule.specs.Signs.{sign_of}
use Rattle.rule.specs.declared.sign.Sign.{Sign}
use Rattle.rule.specs.declared.sign.Sign.TheVariants.{Letter, Constant, Not, Connective as ConnectiveSign, Open, Close, Quantifier as QuantifierSign, Unary as UnarySign, Binary as BinarySign, Space, Other}

-- ---- the reading

-- what stands before a unit and applies to it, the nearest first
data Prefix : Type 0 where
  neg : Prefix
  pre : Quantifier → Unary → Prefix

-- the unit f with what stands before it
abbrev apply : List Prefix → Formula → Formula
apply [] f = f
apply (neg ∷ ps) f = apply ps (negation f)
apply (pre q op ∷ ps) f = apply ps (path q (one op f))

-- the terms of a rule so far, or the units of a term
abbrev and_with : Option Formula → Formula → Formula
and_with None f = f
and_with (Some g) f = join And g f

abbrev or_with : Option Formula → Formula → Formula
or_with None f = f
or_with (Some g) f = join Or g f

-- an open bracket: the rule and the term before it, and what applies to it
data Frame : Type 0 where
  group : Option Formula → Option Formula → List Prefix → Frame
  left : Quantifier → Option Formula → Option Formula → List Prefix → Frame
  right : Quantifier → Binary → Formula → Option Formula → Option Formula → List Prefix → Frame

-- a unit is awaited, a path part is, a term so far is read, or a sign was out of place
data State : Type 0 where
  need : Option Formula → Option Formula → List Prefix → List Frame → State
  part : Quantifier → Option Formula → Option Formula → List Prefix → List Frame → State
  after : Option Formula → Formula → List Frame → State
  dead : State

abbrev close : List Frame → Formula → State
close [] f = dead
close (group o a ps ∷ σ) f = after o (and_with a (apply ps f)) σ
close (left q o a ps ∷ σ) f = dead
close (right q op g o a ps ∷ σ) f = after o (and_with a (apply ps (path q (two op g f)))) σ

abbrev join_to : List Frame → Binary → Formula → State
join_to [] op f = dead
join_to (group o a ps ∷ σ) op f = dead
join_to (left q o a ps ∷ σ) op f = need None None [] (right q op f o a ps ∷ σ)
join_to (right q op' g o a ps ∷ σ) op f = dead

abbrev step : State → Sign → State
step (need o a ps σ) (Letter c) = after o (and_with a (apply ps (literal true c))) σ
step (need o a ps σ) (Constant b) = after o (and_with a (apply ps (constant b))) σ
step (need o a ps σ) Not = need o a (neg ∷ ps) σ
step (need o a ps σ) (ConnectiveSign op) = dead
step (need o a ps σ) Open = need None None [] (group o a ps ∷ σ)
step (need o a ps σ) Close = dead
step (need o a ps σ) (QuantifierSign q) = part q o a ps σ
step (need o a ps σ) (UnarySign op) = dead
step (need o a ps σ) (BinarySign op) = dead
step (need o a ps σ) Space = need o a ps σ
step (need o a ps σ) Other = dead
step (part q o a ps σ) (Letter c) = dead
step (part q o a ps σ) (Constant b) = dead
step (part q o a ps σ) Not = dead
step (part q o a ps σ) (ConnectiveSign op) = dead
step (part q o a ps σ) Open = need None None [] (left q o a ps ∷ σ)
step (part q o a ps σ) Close = dead
step (part q o a ps σ) (QuantifierSign q') = dead
step (part q o a ps σ) (UnarySign op) = need o a (pre q op ∷ ps) σ
step (part q o a ps σ) (BinarySign op) = dead
step (part q o a ps σ) Space = part q o a ps σ
step (part q o a ps σ) Other = dead
step (after o v σ) (Letter c) = dead
step (after o v σ) (Constant b) = dead
step (after o v σ) Not = dead
step (after o v σ) (ConnectiveSign And) = need o (Some v) [] σ
step (after o v σ) (ConnectiveSign Or) = need (Some (or_with o v)) None [] σ
step (after o v σ) Open = dead
step (after o v σ) Close = close σ (or_with o v)
step (after o v σ) (QuantifierSign q') = dead
step (after o v σ) (UnarySign op) = dead
step (after o v σ) (BinarySign op) = join_to σ op (or_with o v)
step (after o v σ) Space = after o v σ
step (after o v σ) Other = dead
step dead x = dead

abbrev run : State → List ℕ → State
run st [] = st
run st (b ∷ t) = run (step st (sign_of b)) t

-- ---- what the grammar has, the reading builds

space_keeps : (st : State) → step st Space ≡ st
space_keeps (need o a ps σ) = refl
space_keeps (part q o a ps σ) = refl
space_keeps (after o v σ) = refl
space_keeps dead = refl

run_spaces : {s t : List ℕ} → Spaces s t → (st : State) → run st s ≡ run st t
run_spaces none st = refl
run_spaces (more {b = b} {s = s} e g) st = ap (λ (y : Sign). run (step st y) s) e ∙ ap (λ (z : State). run z s) (space_keeps st) ∙ run_spaces g st

run_reads : {x : Sign} {s t : List ℕ} → Reads x s t → (st : State) → run st s ≡ run (step st x) t
run_reads (here {b = b} {s = s} e g) st = ap (λ (y : Sign). run (step st y) s) e ∙ run_spaces g (step st _)
run_reads (skip {b = b} {s = s} e r) st = ap (λ (y : Sign). run (step st y) s) e ∙ ap (λ (z : State). run z s) (space_keeps st) ∙ run_reads r st

mutual
  run_unit : {s t : List ℕ} {f : Formula} → IsUnit s f t → (o a : Option Formula) (ps : List Prefix) (σ : List Frame) → run (need o a ps σ) s ≡ run (after o (and_with a (apply ps f)) σ) t
  run_unit (by_letter r) o a ps σ = run_reads r (need o a ps σ)
  run_unit (by_constant r) o a ps σ = run_reads r (need o a ps σ)
  run_unit (by_not r u) o a ps σ = run_reads r (need o a ps σ) ∙ run_unit u o a (neg ∷ ps) σ
  run_unit (by_group {t = t} r u c) o a ps σ =
      let z = run_rule u (group o a ps ∷ σ) in
      run_reads r (need o a ps σ) ∙ z.3 ∙ run_reads c (after z.0 z.1 (group o a ps ∷ σ)) ∙ ap (λ (h : Formula). run (after o (and_with a (apply ps h)) σ) t) z.2
  run_unit (by_path {q = q} r p) o a ps σ = run_reads r (need o a ps σ) ∙ run_part p q o a ps σ

  run_part : {s t : List ℕ} {x : PathPart} → IsPathPart s x t → (q : Quantifier) (o a : Option Formula) (ps : List Prefix) (σ : List Frame) → run (part q o a ps σ) s ≡ run (after o (and_with a (apply ps (path q x))) σ) t
  run_part (by_one {op = op} r u) q o a ps σ = run_reads r (part q o a ps σ) ∙ run_unit u o a (pre q op ∷ ps) σ
  run_part (by_two {t = t} {op = op} {f = f} {g = g} r u j v c) q o a ps σ =
      let y = run_rule u (left q o a ps ∷ σ) in
      let k = or_with y.0 y.1 in
      let z = run_rule v (right q op k o a ps ∷ σ) in
      run_reads r (part q o a ps σ) ∙ y.3 ∙ run_reads j (after y.0 y.1 (left q o a ps ∷ σ)) ∙ z.3
      ∙ run_reads c (after z.0 z.1 (right q op k o a ps ∷ σ))
      ∙ ap (λ (h : Formula). run (after o (and_with a (apply ps (path q (two op k h)))) σ) t) z.2
      ∙ ap (λ (h : Formula). run (after o (and_with a (apply ps (path q (two op h g)))) σ) t) y.2

  run_term : {s t : List ℕ} {f : Formula} → IsTerm s f t → (o : Option Formula) (σ : List Frame) → run (need o None [] σ) s ≡ run (after o f σ) t
  run_term (by_unit u) o σ = run_unit u o None [] σ
  run_term (by_and {f = f} d r u) o σ = run_term d o σ ∙ run_reads r (after o f σ) ∙ run_unit u o (Some f) [] σ

  run_rule : {s t : List ℕ} {f : Formula} → IsRule s f t → (σ : List Frame) → (o : Option Formula) × (v : Formula) × (or_with o v ≡ f) × (run (need None None [] σ) s ≡ run (after o v σ) t)
  run_rule (by_term {f = f} d) σ = (None, f, refl, run_term d None σ)
  run_rule (by_or {g = g} d r e) σ =
      let y = run_rule d σ in
      (Some (or_with y.0 y.1), g, ap (λ (h : Formula). join Or h g) y.2, y.3 ∙ run_reads r (after y.0 y.1 σ) ∙ run_term e (Some (or_with y.0 y.1)) σ)

abbrev value : State → Option Formula
value (need o a ps σ) = None
value (part q o a ps σ) = None
value (after o v σ) = Some (or_with o v)
value dead = None

run_whole : {s : List ℕ} {f : Formula} → Means s f → value (run (need None None [] []) s) ≡ Some f
run_whole d = let z = run_rule d [] in ap value z.3 ∙ ap Some z.2

pub one_formula : (s : List ℕ) (f g : Formula) → Means s f → Means s g → f ≡ g
one_formula s f g d e = let a = run_whole d in let b = run_whole e in cc
