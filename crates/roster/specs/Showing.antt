-- What is written as a path that shows a verdict. Assumes nothing.
use Rattle.std.specs.Prelude.{◌≡◌, ℕ, true, List}
use Rattle.ctl.specs.Formula.{Formula, PathPart, constant, literal, join, path, negation}
use Rattle.ctl.specs.KPath.{Witness}
use Rattle.ctl.specs.declared.Quantifier.TheVariants.{All, Exists}
use Rattle.guarantee.specs.States.{Lowest}
use Rattle.model.specs.Meaning.{Meaning, Starts}
use Rattle.witness.specs.Written.{Written}

-- a start that has a witness for the part
abbrev pub StartShown : Meaning → PathPart → ℕ → ℕ → Type 0
StartShown m x k s = (Starts m s ≡ true) × ((l : List ℕ) × Witness m x k s l)

-- a witness from the lowest such start is written at the buffer's front, and the rest is as it was
abbrev pub ShownAt : Meaning → PathPart → ℕ → List ℕ → List ℕ → Type 0
ShownAt m x k before after = (s : ℕ) × Lowest (StartShown m x k) s × Written m x k s before after

-- no start has a witness
abbrev pub NoneShown : Meaning → PathPart → ℕ → Type 0
NoneShown m x k = (s : ℕ) → StartShown m x k s → ⊥

-- the formula that has a path to show: under A it is the negation, and else the rule itself
abbrev pub showing : Formula → Formula
showing (constant b) = constant b
showing (literal b c) = literal b c
showing (join op f g) = join op f g
showing (path All x) = negation (path All x)
showing (path Exists x) = path Exists x

-- a witness for the part under the E at the root is written
abbrev pub RootShown : Meaning → Formula → ℕ → List ℕ → List ℕ → Type 0
RootShown m (constant b) k before after = ⊥
RootShown m (literal b c) k before after = ⊥
RootShown m (join op f g) k before after = ⊥
RootShown m (path All x) k before after = ⊥
RootShown m (path Exists x) k before after = ShownAt m x k before after

-- no start has a witness for the part under E, if E is at the root
abbrev pub NoRootShown : Meaning → Formula → ℕ → Type 0
NoRootShown m (constant b) k = Unit {0}
NoRootShown m (literal b c) k = Unit {0}
NoRootShown m (join op f g) k = Unit {0}
NoRootShown m (path All x) k = Unit {0}
NoRootShown m (path Exists x) k = NoneShown m x k
