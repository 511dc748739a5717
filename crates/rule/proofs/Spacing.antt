-- Spaces before and behind what the grammar has belong to it.
use Rattle.std.proofs.Common.{◌≡◌, ℕ, List, ◌∷◌}
use Rattle.ctl.specs.Formula.{Formula, PathPart}
use Rattle.rule.specs.Grammar.{Spaces, none, more, Reads, here, skip, IsUnit, by_letter, by_constant, by_not, by_group, by_path, IsPathPart, by_one, by_two, IsTerm, by_unit, by_and, IsRule, by_term, by_or}
use Rattle.rule.specs.Signs.{sign_of}
use Rattle.rule.specs.declared.sign.Sign.{Sign}
use Rattle.rule.specs.declared.sign.Sign.TheVariants.{Space}

-- ---- before

pub unit_behind_space : {b : ℕ} {s t : List ℕ} {f : Formula} → sign_of b ≡ Space → IsUnit s f t → IsUnit (b ∷ s) f t
unit_behind_space e (by_letter r) = by_letter (skip e r)
unit_behind_space e (by_constant r) = by_constant (skip e r)
unit_behind_space e (by_not r u) = by_not (skip e r) u
unit_behind_space e (by_group r u c) = by_group (skip e r) u c
unit_behind_space e (by_path r p) = by_path (skip e r) p

pub part_behind_space : {b : ℕ} {s t : List ℕ} {x : PathPart} → sign_of b ≡ Space → IsPathPart s x t → IsPathPart (b ∷ s) x t
part_behind_space e (by_one r u) = by_one (skip e r) u
part_behind_space e (by_two r u o v c) = by_two (skip e r) u o v c

term_behind_space : {b : ℕ} {s t : List ℕ} {f : Formula} → sign_of b ≡ Space → IsTerm s f t → IsTerm (b ∷ s) f t
term_behind_space e (by_unit u) = by_unit (unit_behind_space e u)
term_behind_space e (by_and d r u) = by_and (term_behind_space e d) r u

rule_behind_space : {b : ℕ} {s t : List ℕ} {f : Formula} → sign_of b ≡ Space → IsRule s f t → IsRule (b ∷ s) f t
rule_behind_space e (by_term d) = by_term (term_behind_space e d)
rule_behind_space e (by_or d r u) = by_or (rule_behind_space e d) r u

pub rule_behind_spaces : {s t u : List ℕ} {f : Formula} → Spaces s t → IsRule t f u → IsRule s f u
rule_behind_spaces none d = d
rule_behind_spaces (more e g) d = rule_behind_space e (rule_behind_spaces g d)

-- ---- behind

spaces_and_spaces : {s t u : List ℕ} → Spaces s t → Spaces t u → Spaces s u
spaces_and_spaces none h = h
spaces_and_spaces (more e g) h = more e (spaces_and_spaces g h)

sign_before_spaces : {x : Sign} {s t u : List ℕ} → Reads x s t → Spaces t u → Reads x s u
sign_before_spaces (here e g) h = here e (spaces_and_spaces g h)
sign_before_spaces (skip e r) h = skip e (sign_before_spaces r h)

mutual
  unit_before_spaces : {s t u : List ℕ} {f : Formula} → IsUnit s f t → Spaces t u → IsUnit s f u
  unit_before_spaces (by_letter r) g = by_letter (sign_before_spaces r g)
  unit_before_spaces (by_constant r) g = by_constant (sign_before_spaces r g)
  unit_before_spaces (by_not r u) g = by_not r (unit_before_spaces u g)
  unit_before_spaces (by_group r u c) g = by_group r u (sign_before_spaces c g)
  unit_before_spaces (by_path r p) g = by_path r (part_before_spaces p g)

  part_before_spaces : {s t u : List ℕ} {x : PathPart} → IsPathPart s x t → Spaces t u → IsPathPart s x u
  part_before_spaces (by_one r u) g = by_one r (unit_before_spaces u g)
  part_before_spaces (by_two r u o v c) g = by_two r u o v (sign_before_spaces c g)

term_before_spaces : {s t u : List ℕ} {f : Formula} → IsTerm s f t → Spaces t u → IsTerm s f u
term_before_spaces (by_unit u) g = by_unit (unit_before_spaces u g)
term_before_spaces (by_and d r u) g = by_and d r (unit_before_spaces u g)

pub rule_before_spaces : {s t u : List ℕ} {f : Formula} → IsRule s f t → Spaces t u → IsRule s f u
rule_before_spaces (by_term d) g = by_term (term_before_spaces d g)
rule_before_spaces (by_or d r e) g = by_or d r (term_before_spaces e g)
