-- What a record says of a bound, and how it changes. Assumes nothing.
use Rattle.std.specs.Prelude.{ℕ, cond, Some, None, Option, nat_le}
use Rattle.ctl.specs.declared.Verdict.{Verdict}
use Rattle.ctl.specs.declared.Verdict.TheVariants.{Holds, Fails, Undecided}
use Rattle.guarantee.specs.declared.record.Found.{Found}
use Rattle.guarantee.specs.declared.record.Record.{Record}

-- the record of a rule that was never tried
abbrev pub no_record : Record
no_record = record { undecided = None; found = None }

-- the verdict, where one is recorded at or below k
abbrev pub found_by : Option Found → ℕ → Option Verdict
found_by None k = None
found_by (Some x) k = cond (nat_le x.bound k) (Some x.verdict) None

-- undecided, where it is recorded at or above k
abbrev pub undecided_by : Option ℕ → ℕ → Option Verdict
undecided_by None k = None
undecided_by (Some u) k = cond (nat_le k u) (Some Undecided) None

-- the first of two that is there
abbrev pub first_of : Option Verdict → Option Verdict → Option Verdict
first_of None o = o
first_of (Some v) o = Some v

-- what the record says of bound k
abbrev pub known_at : Record → ℕ → Option Verdict
known_at r k = first_of (found_by r.found k) (undecided_by r.undecided k)

-- the higher of k and the bound recorded
abbrev pub highest_of : Option ℕ → ℕ → ℕ
highest_of None k = k
highest_of (Some u) k = cond (nat_le u k) k u

-- the lower of k and the bound recorded, with its verdict
abbrev pub lowest_of : Option Found → ℕ → Verdict → Found
lowest_of None k v = record { bound = k; verdict = v }
lowest_of (Some x) k v = cond (nat_le x.bound k) x (record { bound = k; verdict = v })

-- the record after bound k was evaluated to v
abbrev pub noted : Record → ℕ → Verdict → Record
noted r k Holds = record { undecided = r.undecided; found = Some (lowest_of r.found k Holds) }
noted r k Fails = record { undecided = r.undecided; found = Some (lowest_of r.found k Fails) }
noted r k Undecided = record { undecided = Some (highest_of r.undecided k); found = r.found }
