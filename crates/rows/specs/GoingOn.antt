-- The law of the row model, from its invariant: every state has a move. The model's `impl` names it.
use Rattle.std.specs.Prelude.{◌≡◌, ℕ, zero, suc, ◌<◌, true, false, ◌&&◌, List, [], ◌∷◌, map, length, get_or, ◌==◌, nat_lt, slice_index_or, vec_items, refl}
use Rattle.std.proofs.Common.{inl, inr, arith}
use Rattle.std.proofs.lemmas.Bool.{lt-ltb, ltb-true, eq-eqb, false≢true, or_left, or_right, or_cases, and_from, and_parts}
use Rattle.model.specs.Meaning.{Total}
use Rattle.rows.specs.Rows.{GoesOn, each_goes_on, has, rows_meaning, some_below}
use Rattle.rowtext.specs.declared.row.Row.{Row}

goes : (n : ℕ) (ts : List ℕ) → some_below n ts ≡ true → (t : ℕ) × (t < n) × (has ts t ≡ true)
goes n [] e = absurd (false≢true e)
goes n (x ∷ xs) e =
    elim (or_cases (nat_lt x n) (some_below n xs) e) [
      | inl l ↦ (x, ltb-true x n l, or_left (x == x) (has xs x) (eq-eqb x x refl))
      | inr r ↦ let g = goes n xs r in (g.0, g.1, or_right (x == g.0) (has xs g.0) g.2)
    ]

row_goes : (n : ℕ) (rows : List Row) (s : ℕ) → s < length rows → each_goes_on n rows ≡ true → (t : ℕ) × (t < n) × (slice_index_or (map (λ r. has (vec_items r.targets) t) rows) s false ≡ true)
row_goes n [] s h e = absurd (omega arith)
row_goes n (r ∷ rs) zero h e = goes n (vec_items r.targets) (and_parts (some_below n (vec_items r.targets)) (each_goes_on n rs) e).0
row_goes n (r ∷ rs) (suc s) h e = row_goes n rs s (omega arith) (and_parts (some_below n (vec_items r.targets)) (each_goes_on n rs) e).1

-- the law, from the invariant
pub total : (rows : List Row) → GoesOn rows → Total (rows_meaning rows)
total rows e s h =
    let n = length rows in
    let g = row_goes n rows s h e in
    let there = get_or (map (λ r. has (vec_items r.targets) g.0) rows) s false in
    (g.0, and_from (nat_lt s n) (nat_lt g.0 n && there) (lt-ltb s n h) (and_from (nat_lt g.0 n) there (lt-ltb g.0 n g.1) g.2))
