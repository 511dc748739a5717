use Rattle.std.proofs.Common.{◌||◌, vec_items, refl, ◌∙◌, arith, rules, tests}
use Rattle.std.specs.List.{list_any}
use Rattle.std.proofs.lemmas.Iterator.{YieldsList-from_slice}
use Rattle.std.proofs.lemmas.Iterator.Search.{any_from_yields_List}
use Rattle.std.proofs.lemmas.List.Recursion.{same_from_clauses}
use Rattle.rows.specs.Rows.{some_start}
use Rattle.rowtext.specs.Format.{lines_of}
use Rattle.rows.proofs.row_model.RowModel.has_start.Goals as goal

pub returns : goal.returns
returns c =
    let rows = vec_items c.args.self.now.rows in
    let told = any_from_yields_List (λ r. r.start) _ _ c.any.result c.any.ensures.ran (YieldsList-from_slice rows (c.iter.ensures.rest ∙ c.deref.ensures.value)) (λ x b q k. search (rules, tests)) in
    let same = same_from_clauses (list_any (λ r. r.start)) (λ rs. some_start (lines_of rs)) (λ r b. r.start || b) refl (λ _ _. refl) (λ _ _. refl) rows in
    grind arith
