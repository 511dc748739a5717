use Rattle.std.proofs.Common.{◌≡◌, ◌+◌, ◌<◌, ◌≤◌, [], ◌∷◌, ◌++◌, length, drop, vec_items, sym, refl, ap, ◌∙◌, subst, inr, add-one, arith}
use Rattle.std.proofs.lemmas.List.{length_push}
use Rattle.std.proofs.lemmas.Slice.{pushed}
use Rattle.rowtext.proofs.LineForms.{least_next_above, least_next_push, mark_more, marks_stuck, rising_push}
use Rattle.rowtext.specs.Faults.{least_next}
use Rattle.rowtext.specs.Format.{Rising}
use Rattle.rowtext.proofs.reader.Reader.marks.Goals as goal
use Rattle.rowtext.proofs.reader.Reader.marks.Goals.{in_default-b-via-then-b-lt97, in_default-b-via-in-97-to-122+else-low-b, in_default-b-via-else-b-lt97+else-b-lt123}

pub loop-b-preserved : goal.loop-b-preserved
loop-b-preserved c =
    let inv = c.loop-b.invariant in
    let ms = vec_items c.loop-b.marks in
    let b = c.in-Some.b in
    let p : vec_items c.push.new.self ≡ ms ++ b ∷ [] = pushed (b ∷ []) refl c.in_ok-push-in-97-to-122.was c.push.ensures.items in (
      inv.0,
      mark_more _ ms _ _ b inv.1 c.in-Some.ensures.1 ∙ ap (λ xs. xs ++ drop (c.loop-b.self.at + 1) c.loop-b.self.text.now) (sym p),
      subst (Rising 97 123) (sym p) (rising_push 97 123 ms b inv.2 (omega (arith, inv.3, c.if-low-b.true)) (omega arith)),
      add-one b ∙ sym (least_next_push 97 ms b) ∙ ap (least_next 97) (sym p),
      omega (arith, inv.4, ap length p ∙ length_push ms b),
    )

pub returns-in_default-b-clause-took : goal.returns-in_default-b-clause-took
returns-in_default-b-clause-took c =
    let inv = c.loop-b.invariant in
    let b = c.in-Some.b in
    let low = c.loop-b.low in
    let stuck : low ≤ b → b < 123 → ⊥ = λ x y. elim c.in_default-b.branch [ in_default-b-via-then-b-lt97 w ↦ omega (arith, least_next_above 97 123 (vec_items c.loop-b.marks) inv.2, inv.3) | in_default-b-via-in-97-to-122+else-low-b w ↦ omega (arith, w.if-low-b) | in_default-b-via-else-b-lt97+else-b-lt123 w ↦ omega arith ] in
    inr (marks_stuck _ _ _ _ _ (vec_items c.loop-b.marks) low b inv.1 c.in-Some.ensures.1 inv.2 inv.3 inv.4 (λ e. omega arith) stuck)
