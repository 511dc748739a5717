-- The calls on a roster in a list of calls, and their answers. Assumes nothing.
use Rattle.std.specs.Prelude.{ℕ, List, Result}
use Rattle.guarantee.specs.declared.answer.Settled.{Settled}
use Rattle.guarantee.specs.declared.answer.Tried.{Tried}
use Rattle.guarantee.specs.declared.fault.RosterFault.{RosterFault}
use Rattle.guarantee.specs.declared.record.Record.{Record}

-- a call with its arguments; path brings the bytes of its buffer
pub data Call : Type 0 where
  lay : (text : List ℕ) → Call
  try : (rule bound limit : ℕ) → Call
  settle : (rule limit : ℕ) → Call
  standing : (rule : ℕ) → Call
  path : (rule bound limit : ℕ) (buffer : List ℕ) → Call

-- the answer to a call, or its refusal; with path's answer the bytes of its buffer afterwards
pub data Answer : Type 0 where
  to_lay : Result ℕ RosterFault → Answer
  to_try : Result Tried RosterFault → Answer
  to_settle : Result Settled RosterFault → Answer
  to_standing : Result Record RosterFault → Answer
  to_path : Result ℕ RosterFault → (buffer : List ℕ) → Answer
