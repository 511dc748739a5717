-- The grammar of rule text: which formula a text means, and how far a text can be the beginning of a rule.
-- `IsUnit s f t`: the text s begins with a unit that means f, and t is what follows it; terms, rules and path parts alike.
use Rattle.std.specs.Prelude.{◌≡◌, ℕ, ◌≤◌, Bool, true, List, [], ◌∷◌, ◌++◌, length, take}
use Rattle.ctl.specs.Formula.{Formula, PathPart, constant, literal, join, path, one, two, negation}
use Rattle.ctl.specs.declared.Quantifier.{Quantifier}
use Rattle.ctl.specs.declared.Connective.TheVariants.{And, Or}
use Rattle.ctl.specs.declared.Unary.{Unary}
use Rattle.ctl.specs.declared.Binary.{Binary}
use Rattle.rule.specs.Signs.{sign_of}
use Rattle.rule.specs.declared.sign.Sign.{Sign}
use Rattle.rule.specs.declared.sign.Sign.TheVariants.{Letter, Constant, Not, Connective as ConnectiveSign, Open, Close, Quantifier as QuantifierSign, Unary as UnarySign, Binary as BinarySign, Space}

-- s is some spaces, or none, and then t
pub data Spaces : List ℕ → List ℕ → Type 0 where
  none : {s : List ℕ} → Spaces s s
  more : {b : ℕ} {s t : List ℕ} → sign_of b ≡ Space → Spaces s t → Spaces (b ∷ s) t

-- s is a byte of the sign x, with any spaces before and behind it, and then t
pub data Reads (x : Sign) : List ℕ → List ℕ → Type 0 where
  here : {b : ℕ} {s t : List ℕ} → sign_of b ≡ x → Spaces s t → Reads x (b ∷ s) t
  skip : {b : ℕ} {s t : List ℕ} → sign_of b ≡ Space → Reads x s t → Reads x (b ∷ s) t

mutual
  -- a letter, 0 or 1, ! and a unit, a rule in brackets, or A or E and a path part
  pub data IsUnit : List ℕ → Formula → List ℕ → Type 0 where
    by_letter : {s t : List ℕ} {c : ℕ} → Reads (Letter c) s t → IsUnit s (literal true c) t
    by_constant : {s t : List ℕ} {b : Bool} → Reads (Constant b) s t → IsUnit s (constant b) t
    by_not : {s u t : List ℕ} {f : Formula} → Reads Not s u → IsUnit u f t → IsUnit s (negation f) t
    by_group : {s u v t : List ℕ} {f : Formula} → Reads Open s u → IsRule u f v → Reads Close v t → IsUnit s f t
    by_path : {s u t : List ℕ} {q : Quantifier} {x : PathPart} → Reads (QuantifierSign q) s u → IsPathPart u x t → IsUnit s (path q x) t

  -- X, F or G and a unit, or in brackets a rule, U or R, and a rule
  pub data IsPathPart : List ℕ → PathPart → List ℕ → Type 0 where
    by_one : {s u t : List ℕ} {op : Unary} {f : Formula} → Reads (UnarySign op) s u → IsUnit u f t → IsPathPart s (one op f) t
    by_two : {s u v w x t : List ℕ} {op : Binary} {f g : Formula} →
        Reads Open s u → IsRule u f v → Reads (BinarySign op) v w → IsRule w g x → Reads Close x t → IsPathPart s (two op f g) t

  -- units joined by &, grouping to the left
  pub data IsTerm : List ℕ → Formula → List ℕ → Type 0 where
    by_unit : {s t : List ℕ} {f : Formula} → IsUnit s f t → IsTerm s f t
    by_and : {s u v t : List ℕ} {f g : Formula} → IsTerm s f u → Reads (ConnectiveSign And) u v → IsUnit v g t → IsTerm s (join And f g) t

  -- terms joined by |, grouping to the left
  pub data IsRule : List ℕ → Formula → List ℕ → Type 0 where
    by_term : {s t : List ℕ} {f : Formula} → IsTerm s f t → IsRule s f t
    by_or : {s u v t : List ℕ} {f g : Formula} → IsRule s f u → Reads (ConnectiveSign Or) u v → IsTerm v g t → IsRule s (join Or f g) t

-- the whole text is a rule, and f is its formula
abbrev pub Means : List ℕ → Formula → Type 0
Means text f = IsRule text f []

-- the text is a rule
abbrev pub Lawful : List ℕ → Type 0
Lawful text = (f : Formula) × Means text f

-- some rule, of any length, begins with the text s
abbrev pub Begins : List ℕ → Type 0
Begins s = (t : List ℕ) × Lawful (s ++ t)

-- n is the reach of the text: the length of its longest beginning that some rule begins with
pub record Reach (text : List ℕ) (n : ℕ) : Type 0 where
  pub within : n ≤ length text
  pub begins : Begins (take n text)
  pub longest : (m : ℕ) → m ≤ length text → Begins (take m text) → m ≤ n
