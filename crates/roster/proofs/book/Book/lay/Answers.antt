use mathlib.Core.Logic.{∥∥₁_map}
use Rattle.std.proofs.Common.{vec_items}
use Rattle.table.proofs.Answering.{kept_total}
use Rattle.table.specs.Kept.{kept}
use Rattle.roster.proofs.Keeping.{an_addition_keeps_right}
use Rattle.roster.proofs.book.Book.lay.Goals as goal

pub invariant_of-self-clause-right : goal.invariant_of-self-clause-right
invariant_of-self-clause-right c =
    let b = c.args.self.now in
    ∥∥₁_map b.right (λ h. an_addition_keeps_right (vec_items b.records.items) (vec_items c.add.new.self.items) (record { trees = c.in_ok-trees.trees; said = c.new-said.result }) (kept b.table) (kept_total b.table) c.add.result c.new-said.ensures h c.add.ensures)
