use Rattle.std.proofs.Common.{◌≡◌, ℕ, ◌<◌, List, [], ◌∷◌, ◌++◌, length, map, set, take, get_or, ap, sym, subst, ◌∙◌, arith, Vec, Global}
use Rattle.std.specs.Prelude.{All, replicate}
use Rattle.std.proofs.lemmas.List.{get_or-map, length-map, map-set}
use Rattle.log_events.specs.Events.{Call}
use Rattle.log_events.specs.Histories.{clients}
use Rattle.log_events.proofs.ClientCalls.{run_calls-client}
use Rattle.log_choices.proofs.ClientRows.{of_client, row-of, rows_of, rows-many-of, rows-more, rows-none}
use Rattle.log_choices.proofs.client_calls.client_calls.Goals as goal

pub loop-call-init : goal.loop-call-init
loop-call-init c = c.in_ok-rows.ensures ∙ ap (λ (n : ℕ). replicate n []) c.clients.ensures ∙ rows-none (clients c.args.log.now)

pub index_mut-requires : goal.index_mut-requires
index_mut-requires c =
    let n = clients c.args.log.now in
    let rows = c.loop-call.rows in
    let all = subst (All (λ (b : Call). b.client < n)) (sym c.calls-call-items.ensures.exact) (run_calls-client c.args.log.now) in
    let known : c.call-item.result.client < n = subst (λ (b : Call). b.client < n) (sym c.call-item.is)
    (all c.loop-call.call-index c.call-item.result c.loop-call-test.true) in
    let many = rows-many-of n (take c.loop-call.call-index c.calls-call-items.result.now) (map (λ (v : Vec Call Global). v.items) rows.items) c.loop-call.invariant in
    let long = length-map rows.items (λ (v : Vec Call Global). v.items) in
    let client = c.client.ensures in
    let ok = rows.ok in
    omega arith

pub loop-call-preserved : goal.loop-call-preserved
loop-call-preserved c =
    let n = clients c.args.log.now in
    let calls = c.calls-call-items.result.now in
    let i = c.loop-call.call-index in
    let a = c.call-item.result in
    let k = c.client.result in
    let rows = c.loop-call.rows.items in
    let before = take i calls in
    let items = λ (v : Vec Call Global). v.items in
    let all = subst (All (λ (b : Call). b.client < n)) (sym c.calls-call-items.ensures.exact) (run_calls-client c.args.log.now) in
    let known : a.client < n = subst (λ (b : Call). b.client < n) (sym c.call-item.is) (all i a c.loop-call-test.true) in
    let many = rows-many-of n before (map items rows) c.loop-call.invariant in
    let long = length-map rows items in
    let client : k ≡ a.client = c.client.ensures in
    let below : k < n = omega arith in
    let within : k < length rows = omega arith in
    let own : c.index_mut.result.now.items ≡ of_client before k =
    ap items c.index_mut.ensures.value ∙ sym (get_or-map items rows k c.index_mut.result.now [] within)
    ∙ ap (λ (l : List (List Call)). get_or l k []) c.loop-call.invariant ∙ row-of n before k [] below in
    let new : c.push.new.self.items ≡ of_client before k ++ a ∷ [] = c.in_ok-push.ensures.items ∙ ap (λ (l : List Call). l ++ a ∷ []) own in
    map-set items rows k c.push.new.self
    ∙ (λ j. set (c.loop-call.invariant j) k (new j))
    ∙ ap (λ (m : ℕ). set (rows_of n before) m (of_client before m ++ a ∷ [])) client
    ∙ rows-more n calls i a c.loop-call-test.true c.call-item.is known
