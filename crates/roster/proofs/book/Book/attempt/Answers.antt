use Rattle.std.proofs.Common.{vec_items, sym, ◌∙◌, arith}
use mathlib.Core.Logic.{∥∥₁_map}
use Rattle.table.proofs.Answering.{kept_total}
use Rattle.table.specs.Kept.{kept}
use Rattle.roster.proofs.Keeping.{a_try_keeps_right}
use Rattle.roster.proofs.Ways.{evaluated, noted_entries}
use Rattle.roster.proofs.book.Book.attempt.Goals as goal
use Rattle.roster.specs.Books.{model_in, laid_in}
use Rattle.roster.specs.Entries.{entries_of}

pub invariant_of-self-2-clause-right : goal.invariant_of-self-2-clause-right
invariant_of-self-2-clause-right c =
    let b = c.args.self.now in
    let xs = vec_items b.records.items in
    let ys = vec_items c.note.new.self.items in
    let x = c.in_ok-laid.laid.now in
    let t = c.in_ok-tried.tried in
    let here = c.in_ok-laid.ensures in
    let unknown = sym c.known_at.ensures ∙ c.in_default.is in
    let answer = evaluated xs c.args.i c.args.bound x t here unknown (model_in b) c.args.limit (omega arith) c.in_ok-tried.ensures in
    let after = noted_entries xs c.args.i c.args.bound x t here unknown ys c.note.ensures in
    ∥∥₁_map b.right (λ h. a_try_keeps_right (kept b.table) (kept_total b.table) c.args.i c.args.bound c.args.limit (laid_in b) (entries_of ys) _ answer after h)

pub returns-clause-after : goal.returns-clause-after
returns-clause-after c =
    noted_entries (vec_items c.args.self.now.records.items) c.args.i c.args.bound c.in_ok-laid.laid.now c.in_ok-tried.tried c.in_ok-laid.ensures (sym c.known_at.ensures ∙ c.in_default.is)
    (vec_items c.note.new.self.items) c.note.ensures

pub returns-clause-answer : goal.returns-clause-answer
returns-clause-answer c =
    evaluated (vec_items c.args.self.now.records.items) c.args.i c.args.bound c.in_ok-laid.laid.now c.in_ok-tried.tried c.in_ok-laid.ensures (sym c.known_at.ensures ∙ c.in_default.is)
    (model_in c.args.self.now) c.args.limit (omega arith) c.in_ok-tried.ensures
