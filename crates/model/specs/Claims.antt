-- What holds of every meaning, as statements. Assumes nothing.
use Rattle.std.specs.Prelude.{◌≡◌, ℕ, ◌≤◌, false}
use Rattle.model.specs.Meaning.{Meaning, letter, Starts, Moves, Carries, guarded}

-- what is said no to, whatever the facts are
pub record SaysNoOutside (m : Meaning) : Type 0 where
  pub start : (s : ℕ) → m.count ≤ s → Starts m s ≡ false
  pub from : (s t : ℕ) → m.count ≤ s → Moves m s t ≡ false
  pub to : (s t : ℕ) → m.count ≤ t → Moves m s t ≡ false
  pub state : (s c : ℕ) → m.count ≤ s → Carries m s c ≡ false
  pub mark : (s c : ℕ) → letter c ≡ false → Carries m s c ≡ false

abbrev pub OutsideIsNo : Type 0
OutsideIsNo = (m : Meaning) → SaysNoOutside m

-- two models give the same answers to the four questions
pub record AnswerAlike (m n : Meaning) : Type 0 where
  pub count : m.count ≡ n.count
  pub start : (s : ℕ) → Starts m s ≡ Starts n s
  pub moves : (s t : ℕ) → Moves m s t ≡ Moves n s t
  pub mark : (s c : ℕ) → Carries m s c ≡ Carries n s c

abbrev pub AnswersFixTheMeaning : Type 0
AnswersFixTheMeaning = (m n : Meaning) → AnswerAlike m n → guarded m ≡ guarded n
