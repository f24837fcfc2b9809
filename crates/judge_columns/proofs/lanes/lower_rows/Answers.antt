use Rattle.std.specs.Prelude.{◌≡◌, ◌<◌, ℕ, List, [], length}
use Rattle.std.proofs.Common.{arith, sym, ap, ◌∙◌, subst}
use Rattle.std.proofs.lemmas.List.{get_or_read, get_or-set_other, get_or-set_same}
use Rattle.model_history.specs.History.{number}
use Rattle.order_memory.specs.Relations.{ReadsFrom}
use Rattle.judge_memory.specs.Steps.{IsNext}
use Rattle.judge_columns.specs.Lanes.{in_lane, lane_of}
use Rattle.judge_columns.specs.Visits.{IsLoweredBy}
use Rattle.judge_columns.proofs.ByNumber.{lowered-by}
use Rattle.judge_columns.proofs.Visits.{lowered-made}
use Rattle.judge_columns.proofs.lanes.lower_rows.Goals as goal

pub returns-clause-lowered : goal.returns-clause-lowered
returns-clause-lowered c k o lane is_op at =
    let h = c.args.index.now.history in
    let t : ℕ = in_lane c.args.sessions k in
    let place : ℕ = c.args.operation in
    let rows : List (List ℕ) = c.args.rows.now.items in
    let row : List ℕ = c.with_own-row.result in
    let old : ℕ → ℕ = lane_of rows k in
    let own : ℕ → ℕ = lane_of c.put_row.new.rows.items k in
    let before : ℕ → ℕ = lane_of c.lower_row.new.rows.items k in
    let read : ℕ → ℕ = lane_of c.lower_row-2.new.rows.items k in
    let size = c.requires.size in
    let below = c.requires.operation in
    let inside : place < length rows = omega arith in
    let session = c.session_of-session.ensures.session o is_op at in
    let put : own place ≡ in_lane row k =
    ap (λ (xs : List (List ℕ)). lane_of xs k place) c.put_row.ensures
    ∙ ap (λ (r : List ℕ). in_lane r k) (get_or-set_same rows place row [] inside) in
    let was : in_lane c.index.result.now k ≡ old place =
    ap (λ (r : List ℕ). in_lane r k) (get_or_read rows place c.index.result.now inside c.index.ensures []) in
    let here : in_lane row k ≡ own (number h o) = sym put ∙ ap own (sym at) in
    lowered-made h c.value_is_indexed.ensures.distinct t o is_op old own before read (record {
      of_session = λ same. subst (λ (n : ℕ). own n ≡ n) (sym at) (put ∙ c.with_own-row.ensures.own k lane (session ∙ same));
      of_other = λ apart. subst (λ (n : ℕ). own n ≡ old n) (sym at)
          (put ∙ c.with_own-row.ensures.other k lane (λ same. apart (sym session ∙ same)) ∙ was);
      others = λ n apart. ap (λ (xs : List (List ℕ)). lane_of xs k n) c.put_row.ensures
          ∙ ap (λ (r : List ℕ). in_lane r k) (get_or-set_other rows place n row [] (λ same. apart (same ∙ sym at)));
      previous = subst (λ (m : ℕ). IsLoweredBy h o (IsNext h) own before m) here
          (lowered-by h (IsNext h) o c.before-2.result own before (in_lane row k) (c.before-2.ensures.before o is_op at)
          (c.lower_row.ensures.lowered k lane));
      source = subst (λ (m : ℕ). IsLoweredBy h o (ReadsFrom h) before read m) here
          (lowered-by h (ReadsFrom h) o c.source.result before read (in_lane row k) (c.source.ensures.source o is_op at)
          (c.lower_row-2.ensures.lowered k lane));
    })
