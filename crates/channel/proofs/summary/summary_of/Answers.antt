use Rattle.std.proofs.Common.{sym}
use Rattle.std.proofs.lemmas.Result.{err_from_is_err_and}
use Rattle.channel.proofs.LastLine.{rules_closed}
use Rattle.channel.proofs.OneFile.{deserved_rows, deserved_rules, deserved_start}
use Rattle.channel.proofs.summary.summary_of.Goals as goal

pub returns-in_err-fill : goal.returns-in_err-fill
returns-in_err-fill c =
    let p = err_from_is_err_and c.from_residual-in_err-fill.result c.from_residual-in_err-fill.ensures.1 in
    let told = c.in_ok-parts.ensures in
    rw (p.1, p.2) (deserved_rows _ _ _ _ told.0 told.1 _ c.in_err-fill.ensures.fault)

pub returns-then-not-has_start : goal.returns-then-not-has_start
returns-then-not-has_start c =
    let told = c.in_ok-parts.ensures in
    deserved_start _ _ _ _ told.0 told.1 _ c.in_ok-fill.ensures.model (sym c.if-not-has_start.ensures)

pub read_rules-requires-clause-closed : goal.read_rules-requires-clause-closed
read_rules-requires-clause-closed c =
    rules_closed _ _ _ _ c.in_ok-parts.ensures.1

pub returns-in_err-rules : goal.returns-in_err-rules
returns-in_err-rules c =
    let p = err_from_is_err_and c.from_residual-in_err-rules.result c.from_residual-in_err-rules.ensures.1 in
    let told = c.in_ok-parts.ensures in
    rw (p.1, p.2) (deserved_rules _ _ _ _ told.0 told.1 _ _ c.in_ok-fill.ensures.model (sym c.if-not-has_start.ensures) c.in_err-rules.ensures)
