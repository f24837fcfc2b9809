use Rattle.std.specs.Prelude.{◌≡◌, ◌+◌, ◌<◌, ◌≤◌, ℕ, List, slice_get, slice_index_or}
use Rattle.std.proofs.Common.{arith, ap, sym, ◌∙◌, subst, ⊎_elim}
use Rattle.std.proofs.lemmas.Bool.{cases_lt}
use Rattle.std.proofs.lemmas.Option.{same_Some, slice_get-get_or, slice_get_within}
use Rattle.judge_columns.specs.Words.{HasNoPast}
use Rattle.judge_columns.proofs.words.have_no_past.Goals as goal
use Rattle.judge_columns.proofs.words.have_no_past.Goals.{else-place-writes-via-then-place-writes+else-not-has_no_past, else-place-writes-via-else-place-writes}

pub loop-bit-preserved : goal.loop-bit-preserved
loop-bit-preserved c k n below at =
    let writes : List ℕ = c.args.writes.now in
    let bit : ℕ = c.loop-bit.bit in
    let inside = slice_get_within writes (c.args.from + k) n at in
    ⊎_elim
    (λ (before : k < bit). c.loop-bit.invariant k n before at)
    (λ (from : bit ≤ k).
    let here : c.args.from + k ≡ c.args.from + bit = omega arith in
    let value : slice_index_or writes (c.args.from + bit) 0 ≡ n =
    same_Some _ _ (sym (slice_get-get_or writes (c.args.from + bit) 0 (omega arith)) ∙ ap (λ (j : ℕ). slice_get writes j) (sym here) ∙ at) in
    elim c.else-place-writes.branch [
      | else-place-writes-via-then-place-writes+else-not-has_no_past w ↦
          subst (HasNoPast c.args.index.now.history) value (w.has_no_past.ensures (grind arith))
      | else-place-writes-via-else-place-writes w ↦ (let outside = w.if-place-writes.false in absurd (omega arith))
    ])
    (cases_lt k bit)

pub returns : goal.returns
returns c is k n below at =
    c.loop-bit.invariant k n (grind arith) at
