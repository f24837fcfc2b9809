use Rattle.std.specs.Prelude.{◌≡◌, ◌<◌, ℕ, List, length, slice_index_or}
use Rattle.std.proofs.Common.{arith, sym, ap, ◌∙◌, subst, eq-eqb, eqb-true}
use Rattle.std.proofs.lemmas.Option.{same_Some, slice_get-get_or}
use Rattle.model_history.specs.History.{number}
use Rattle.order_memory.specs.Relations.{ReadsFrom}
use Rattle.judge_memory.specs.Steps.{IsNext}
use Rattle.judge_columns.specs.Visits.{IsLoweredBy}
use Rattle.judge_columns.proofs.ByNumber.{lowered-by}
use Rattle.judge_columns.proofs.Visits.{lowered-made}
use Rattle.judge_columns.proofs.passes.lower_steps.Goals as goal

pub returns-clause-lowered : goal.returns-clause-lowered
returns-clause-lowered c o is_op at =
    let h = c.args.index.now.history in
    let F : List ℕ → ℕ → ℕ = λ xs n. slice_index_or xs n 0 in
    let own : ℕ → ℕ = F c.put_own.new.firsts.items in
    let before : ℕ → ℕ = F c.lower.new.firsts.items in
    let read : ℕ → ℕ = F c.lower-2.new.firsts.items in
    let first : ℕ = c.index-first.result.now in
    let size = c.put_own.ensures.size in
    let size_before = c.requires.size in
    let below = c.requires.operation in
    let inside : c.args.operation < length c.put_own.new.firsts.items = omega arith in
    let items : List ℕ = c.put_own.new.firsts.items in
    let same : first ≡ own c.args.operation = c.index-first.ensures
    ∙ same_Some _ _ (sym (slice_get-get_or items c.args.operation first inside) ∙ slice_get-get_or items c.args.operation 0 inside) in
    let here : first ≡ own (number h o) = same ∙ ap own (sym at) in
    let session = c.session_of.ensures.session o is_op at in
    lowered-made h c.value_is_indexed.ensures.distinct c.args.session o is_op (F c.args.firsts.now.items) own before read (record {
      of_session = λ equal. subst (λ (n : ℕ). own n ≡ n) (sym at) (c.put_own.ensures.own (eq-eqb _ _ (session ∙ equal)));
      of_other = λ apart. subst (λ (n : ℕ). own n ≡ F c.args.firsts.now.items n) (sym at)
          (c.put_own.ensures.other (λ is. apart (sym session ∙ eqb-true _ _ is)));
      others = λ n apart. c.put_own.ensures.others n (λ equal. apart (equal ∙ sym at));
      previous = subst (λ (m : ℕ). IsLoweredBy h o (IsNext h) own before m) here
          (lowered-by h (IsNext h) o c.before-2.result own before first (c.before-2.ensures.before o is_op at) c.lower.ensures.lowered);
      source = subst (λ (m : ℕ). IsLoweredBy h o (ReadsFrom h) before read m) here
          (lowered-by h (ReadsFrom h) o c.source.result before read first (c.source.ensures.source o is_op at) c.lower-2.ensures.lowered);
    })
