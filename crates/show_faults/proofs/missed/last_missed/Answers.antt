use Rattle.std.specs.Prelude.{◌≡◌, ℕ, slice_index_or}
use Rattle.std.proofs.Common.{arith, ap, sym, ◌∙◌, subst, ⊎_elim}
use Rattle.judge_columns.specs.Sights.{IsSight, IsTable}
use Rattle.judge_columns.specs.declared.sight.Sight.{Sight}
use Rattle.judge_columns.specs.declared.sight.Sight.TheVariants.{OverwrittenStart, OverwrittenRead}
use Rattle.show_faults.proofs.MissedWrites.{IsValue, seen-other, seen-read, seen-start, table-value}
use Rattle.show_faults.proofs.missed.last_missed.Goals as goal

pub returns-in-OverwrittenStart : goal.returns-in-OverwrittenStart
returns-in-OverwrittenStart c t o begins is_op at column within firsts straight table =
    let h = c.args.index.now.history in
    let ends : ℕ → ℕ = λ n. slice_index_or c.args.ends.now n 0 in
    let first : ℕ → ℕ = λ n. slice_index_or c.args.firsts.now n 0 in
    let sight = c.look.ensures.sight t o begins is_op at within table in
    let value = table-value h t ends first o c.args.index.now.variables c.args.last.now c.value_is_indexed.ensures.variables
    (subst (λ (n : ℕ). IsTable h c.args.index.now.variables t (slice_index_or c.args.ends.now n 0) c.args.last.now) (sym at) table)
    within is_op in
    let place = ap (λ (n : ℕ). slice_index_or c.args.index.now.variables n 0) at ∙ sym c.variable.ensures.variable in
    let here : IsValue h t ends first o (slice_index_or c.args.last.now c.variable.result 0) =
    subst (λ (x : ℕ). IsValue h t ends first o (slice_index_or c.args.last.now x 0)) place value in
    ⊎_elim
    (λ (is : c.look.result ≡ OverwrittenStart). seen-start h t ends first o column firsts straight
    c.value_is_indexed.ensures.distinct (slice_index_or c.args.last.now c.variable.result 0) here
    (subst (λ (s : Sight). IsSight h t ends first o s) is sight))
    (λ (is : c.look.result ≡ OverwrittenRead). seen-read h t ends first o column firsts straight
    c.value_is_indexed.ensures.distinct (slice_index_or c.args.last.now c.variable.result 0) here
    (subst (λ (s : Sight). IsSight h t ends first o s) is sight))
    c.in-OverwrittenStart.is

pub returns-in-Nothing : goal.returns-in-Nothing
returns-in-Nothing c t o begins is_op at column within firsts straight table =
    seen-other c.args.index.now.history t (λ n. slice_index_or c.args.ends.now n 0) (λ n. slice_index_or c.args.firsts.now n 0) o column
    firsts straight c.value_is_indexed.ensures.distinct c.look.result (c.look.ensures.sight t o begins is_op at within table)
    (λ (is : c.look.result ≡ OverwrittenStart). grind (arith, c.in-Nothing.is))
    (λ (is : c.look.result ≡ OverwrittenRead). grind (arith, c.in-Nothing.is))
