-- What a list of calls answers, call after call. Assumes nothing.
use Rattle.std.specs.Prelude.{◌≡◌, ℕ, List, [], ◌∷◌, Result}
use Rattle.guarantee.specs.Calls.{Call, lay, try, settle, standing, path, Answer, to_lay, to_try, to_settle, to_standing, to_path}
use Rattle.guarantee.specs.States.{State, Lays, try_answer, try_after, settle_answer, settle_after, standing_answer, Writes}
use Rattle.guarantee.specs.declared.answer.Settled.{Settled}
use Rattle.guarantee.specs.declared.answer.Tried.{Tried}
use Rattle.guarantee.specs.declared.fault.RosterFault.{RosterFault}
use Rattle.guarantee.specs.declared.record.Record.{Record}

-- the roster s answers the call, and is s' afterwards
pub data Step (s : State) : Call → Answer → State → Type 0 where
  lays : {text : List ℕ} {a : Result ℕ RosterFault} {s' : State} → Lays s text a s' → Step s (lay text) (to_lay a) s'
  tries : {i k limit : ℕ} {a : Result Tried RosterFault} {s' : State} → a ≡ try_answer s i k limit → s' ≡ try_after s i k limit
      → Step s (try i k limit) (to_try a) s'
  settles : {i limit : ℕ} {a : Result Settled RosterFault} {s' : State} → a ≡ settle_answer s i limit → s' ≡ settle_after s i limit
      → Step s (settle i limit) (to_settle a) s'
  stands : {i : ℕ} {a : Result Record RosterFault} {s' : State} → a ≡ standing_answer s i → s' ≡ s → Step s (standing i) (to_standing a) s'
  writes : {i k limit : ℕ} {buffer buffer' : List ℕ} {a : Result ℕ RosterFault} {s' : State} → Writes s i k limit buffer a buffer' → s' ≡ s
      → Step s (path i k limit buffer) (to_path a buffer') s'

-- the roster answers the calls with these answers, one for each, and is what the last of them left
pub data Run : State → List Call → List Answer → State → Type 0 where
  none : {s : State} → Run s [] [] s
  next : {s t u : State} {c : Call} {a : Answer} {cs : List Call} {as' : List Answer} → Step s c a t → Run t cs as' u → Run s (c ∷ cs) (a ∷ as') u
