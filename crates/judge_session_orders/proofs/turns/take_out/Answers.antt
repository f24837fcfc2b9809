use Rattle.std.proofs.Common.{arith, ap, sym, subst, ◌∙◌}
use Rattle.std.specs.Prelude.{◌≡◌, ◌-◌, ℕ, List, length, slice_index_or, slice_set, take}
use Rattle.std.proofs.lemmas.List.{get_or_read}
use Rattle.judge_session_orders.specs.Turns.{IsTakenOut}
use Rattle.judge_session_orders.proofs.Awake.{taken-out}
use Rattle.judge_session_orders.proofs.turns.take_out.Goals as goal

pub returns : goal.returns
returns c =
    let list : List ℕ = c.args.list.now.items in
    let place : ℕ = c.args.place in
    let inside = c.requires in
    let last : ℕ = c.len-last.result - 1 in
    let size = c.args.list.now.ok.0 in
    let count : c.len-last.result ≡ length list = grind arith in
    let end : last ≡ length list - 1 = omega arith in
    let value = get_or_read list last c.index.result.now (omega arith) c.index.ensures 0 ∙ ap (λ (n : ℕ). slice_index_or list n 0) end in
    subst (λ (xs : List ℕ). IsTakenOut list place xs) (sym c.truncate.ensures.items)
    (subst (λ (n : ℕ). IsTakenOut list place (take n (slice_set list place c.index.result.now))) (sym end)
    (subst (λ (v : ℕ). IsTakenOut list place (take (length list - 1) (slice_set list place v))) (sym value) (taken-out list place inside)))
