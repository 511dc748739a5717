-- The book of an open roster, lent to be changed. Assumes nothing.
use Rattle.std.specs.Prelude.{None, Some, Result}
use Rattle.std.specs.Borrow.{LendsIfOk, MutBor, Fml}
use Rattle.guarantee.specs.declared.fault.RosterFault.{RosterFault}
use Rattle.roster.specs.declared.book.Book.{Book}
use Rattle.roster.specs.declared.book.Roster.{Roster}
use Rattle.roster.specs.contracts.book.Book.{the_row as book_row}
use Rattle.roster.specs.contracts.book.Roster.{the_row as roster_row}

-- the roster ends with the last value of the book
abbrev pub LendsBook : MutBor Roster → Result (MutBor Book) RosterFault → Fml
LendsBook s r = LendsIfOk roster_row book_row s r (λ b. record { book = Some b }) (record { book = None })
