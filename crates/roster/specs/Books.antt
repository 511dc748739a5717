-- The state that a roster is in. Assumes nothing.
use Rattle.std.specs.Prelude.{List, Some, None, vec_items, Option}
use Rattle.model.specs.Meaning.{Meaning}
use Rattle.table.specs.Kept.{kept}
use Rattle.guarantee.specs.States.{State, blank, opened, Entry}
use Rattle.roster.specs.Entries.{entries_of}
use Rattle.roster.specs.declared.book.Book.{Book}
use Rattle.roster.specs.declared.book.Roster.{Roster}

-- the model that a book keeps
abbrev pub model_in : Book → Meaning
model_in b = kept b.table

-- the rules that are laid in a book, with their records
abbrev pub laid_in : Book → List Entry
laid_in b = entries_of (vec_items b.records.items)

-- the state of a roster that is open with this book
abbrev pub state_in : Book → State
state_in b = opened (model_in b) (laid_in b)

-- the state of a roster with a book, or with none
abbrev pub book_state : Option Book → State
book_state None = blank
book_state (Some b) = opened (model_in b) (laid_in b)

-- the state of a roster
abbrev pub state_of : Roster → State
state_of r = book_state r.book
