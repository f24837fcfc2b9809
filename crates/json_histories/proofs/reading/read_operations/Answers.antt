use Rattle.std.proofs.Common.{◌≡◌, ℕ, length, subst, true, false, not, ◌||◌, Some, None, map, refl, sym, ap, ◌∙◌, arith}
use Rattle.std.proofs.lemmas.List.{length-map}
use Rattle.std.proofs.lemmas.Result.{err_from_is_err_and}
use Rattle.std.specs.Prelude.{is_some}
use Rattle.serde_json.specs.View.{view}
use Rattle.model_history.specs.declared.op_id.OpId.{OpId}
use Rattle.json_histories.specs.declared.read_error.ReadError.TheVariants.{BadOp, ReturnAfterUnknown}
use Rattle.json_histories.specs.Reading.{first_among, operation_refusal}
use Rattle.json_histories.proofs.ListLaws.{slice_get-mapped}
use Rattle.json_histories.proofs.SessionReading.{IsReadUpTo, reads_nothing, or_true, or_false, reads_on, refused_here, is_read, known_return, known_return-refusal, unknown_return, unknown_return-refusal}
use Rattle.json_histories.proofs.reading.read_operations.Goals as goal
use Rattle.json_histories.proofs.reading.read_operations.Goals.{then-is_none, else-is_none+else-unknown_seen}

pub returns-in_default-clause-refused : goal.returns-in_default-clause-refused
returns-in_default-clause-refused g c =
    let v = c.index-values-index.result in
    let here = slice_get-mapped view c.args.values.now c.loop-index.index v c.index-values-index.is c.loop-index-test.true in
    let op : OpId = record { session = c.args.s; index = c.loop-index.index } in
    rw c.at-op.ensures
    (refused_here g.O.Named.operation_at c.args.s (length c.args.values.now) (map view c.args.values.now) c.loop-index.entries.items c.loop-index.unknown_seen c.loop-index.index (view v) (BadOp op)
    (simp length-map) c.loop-index.invariant here (rw (sym c.read_operation.ensures ∙ c.in_default.is) refl))

pub returns-then-unknown_seen-clause-refused : goal.returns-then-unknown_seen-clause-refused
returns-then-unknown_seen-clause-refused g c =
    let v = c.index-values-index.result in
    let here = slice_get-mapped view c.args.values.now c.loop-index.index v c.index-values-index.is c.loop-index-test.true in
    let op : OpId = record { session = c.args.s; index = c.loop-index.index } in
    let some : is_some c.in-Some.entry.1 ≡ true = c.is_none.ensures ∙ ap not c.if-is_none.false in
    rw c.at-op.ensures
    (refused_here g.O.Named.operation_at c.args.s (length c.args.values.now) (map view c.args.values.now) c.loop-index.entries.items c.loop-index.unknown_seen c.loop-index.index (view v) (ReturnAfterUnknown op)
    (simp length-map) c.loop-index.invariant here
    (rw (sym c.read_operation.ensures ∙ c.in-Some.is) (known_return-refusal c.in-Some.entry c.loop-index.unknown_seen op some ∙ rw c.if-unknown_seen.true refl)))

pub loop-index-preserved : goal.loop-index-preserved
loop-index-preserved g c =
    let v = c.index-values-index.result in
    let here = slice_get-mapped view c.args.values.now c.loop-index.index v c.index-values-index.is c.loop-index-test.true in
    let op : OpId = record { session = c.args.s; index = c.loop-index.index } in
    let read : g.O.Named.operation_at (view v) ≡ Some c.in-Some.entry = sym c.read_operation.ensures ∙ c.in-Some.is in
    rw c.in_ok-push.ensures.items (elim c.if-is_none.branch [
      | then-is_none w ↦
          let none : is_some c.in-Some.entry.1 ≡ false = c.is_none.ensures ∙ ap not w.if-is_none.true in
          reads_on g.O.Named.operation_at c.args.s (map view c.args.values.now) c.loop-index.entries.items c.loop-index.unknown_seen c.if-is_none.unknown_seen c.loop-index.index (view v) c.in-Some.entry
          c.loop-index.invariant here read (unknown_return-refusal c.in-Some.entry c.loop-index.unknown_seen op none)
          (w.unknown_seen-is ∙ sym (ap (λ b. c.loop-index.unknown_seen || b) (unknown_return c.in-Some.entry none) ∙ or_true c.loop-index.unknown_seen))
      | else-is_none+else-unknown_seen w ↦
          let some : is_some c.in-Some.entry.1 ≡ true = c.is_none.ensures ∙ ap not w.if-is_none.false in
          reads_on g.O.Named.operation_at c.args.s (map view c.args.values.now) c.loop-index.entries.items c.loop-index.unknown_seen c.if-is_none.unknown_seen c.loop-index.index (view v) c.in-Some.entry
          c.loop-index.invariant here read (known_return-refusal c.in-Some.entry c.loop-index.unknown_seen op some ∙ rw w.if-unknown_seen.false refl)
          (w.unknown_seen-is ∙ sym (ap (λ b. c.loop-index.unknown_seen || b) (known_return c.in-Some.entry some) ∙ or_false c.loop-index.unknown_seen))
    ])

pub returns-clause-read : goal.returns-clause-read
returns-clause-read g c =
    is_read g.O.Named.operation_at g.O.SeqObject.matches (λ d call r e. (g.met.O.Named.operation_read d call (Some r) e).1) c.args.s (length c.args.values.now) (map view c.args.values.now) c.loop-index.entries.items c.loop-index.unknown_seen
    (simp length-map) c.requires
    (let end : c.loop-index.index ≡ length c.args.values.now = omega arith in
    let P : ℕ → Type 0 = λ n. IsReadUpTo g.O.Named.operation_at c.args.s (map view c.args.values.now) c.loop-index.entries.items c.loop-index.unknown_seen n in
    subst P end c.loop-index.invariant)

pub loop-index-init : goal.loop-index-init
loop-index-init g c = rw c.new-entries.ensures.items (reads_nothing g.O.Named.operation_at c.args.s (map view c.args.values.now))

pub returns-clause-nothing_refused : goal.returns-clause-nothing_refused
returns-clause-nothing_refused g c =
    let end : c.loop-index.index ≡ length c.args.values.now = omega arith in
    subst (λ n. first_among n (operation_refusal g.O.Named.operation_at c.args.s (map view c.args.values.now)) ≡ None) end c.loop-index.invariant.none

pub returns-in_err-push-clause-refused : goal.returns-in_err-push-clause-refused
returns-in_err-push-clause-refused g c =
    let p = err_from_is_err_and c.from_residual.result c.from_residual.ensures.1 in
    rw (p.1, p.2) tt
