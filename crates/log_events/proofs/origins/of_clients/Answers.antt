use Rattle.std.proofs.Common.{◌≡◌, ◌++◌, ◌∷◌, [], ℕ, ◌<◌, List, map, ap, sym, subst, ◌∙◌, arith}
use Rattle.std.specs.Prelude.{◌==◌, All, Contains, filter, vec_len}
use Rattle.std.specs.List.{range_with_len}
use Rattle.std.specs.Option.{is_some}
use Rattle.std.proofs.lemmas.List.Elements.{All-contains_itself, All-filter}
use Rattle.std.proofs.lemmas.List.FromFn.{map-range_with_len_more}
use Rattle.log_events.specs.Events.{Call, run_calls}
use Rattle.log_events.specs.Histories.{clients, operation}
use Rattle.log_events.specs.Origins.{client_origins}
use Rattle.log_events.specs.Steps.Chains.{AreChains}
use Rattle.log_events.proofs.ClientCalls.{run_calls-client}
use Rattle.log_events.proofs.origins.of_clients.Goals as goal

pub chains_of-requires-clause-known : goal.chains_of-requires-clause-known
chains_of-requires-clause-known c =
    subst (λ (n : ℕ). All (λ (a : Call). a.client < n) c.calls-calls.result.now) (sym c.clients.ensures)
    (subst (λ (l : List Call). All (λ (a : Call). a.client < clients c.args.outcomes.now) l) (sym c.calls-calls.ensures.exact) (run_calls-client c.args.outcomes.now))

pub collect_standing-requires : goal.collect_standing-requires
collect_standing-requires c =
    let own = λ (a : Call). a.client == c.loop-client.client in
    let es = c.args.outcomes.now in
    let found = c.deref.ensures.value ∙ c.in_ok-collect.ensures ∙ ap (filter own) c.calls-calls.ensures.exact in
    subst (λ (l : List Call). All (Contains (run_calls es)) l) (sym found)
    (All-filter own (Contains (run_calls es)) (run_calls es) (All-contains_itself (run_calls es)))

pub loop-client-preserved : goal.loop-client-preserved
loop-client-preserved c =
    let own = λ (a : Call). a.client == c.loop-client.client in
    let es = c.args.outcomes.now in
    let has = λ (a : Call). is_some (operation es a.place a.call a.ending) in
    let found = c.deref.ensures.value ∙ c.in_ok-collect.ensures ∙ ap (filter own) c.calls-calls.ensures.exact in
    let row = c.deref-in-loop-client.ensures.value ∙ c.in_ok-collect_standing.ensures ∙ ap (filter has) found in
    c.in_ok-push.ensures.ok ∙ ap (λ (l : List (List Call)). l ++ c.deref-in-loop-client.result.now ∷ []) c.loop-client.invariant
    ∙ ap (λ (l : List Call). map (client_origins es) (range_with_len 0 c.loop-client.client) ++ l ∷ []) row
    ∙ sym (map-range_with_len_more (client_origins es) 0 c.loop-client.client c.loop-client.client (omega arith))

pub collect-requires-clause-chains : goal.collect-requires-clause-chains
collect-requires-clause-chains c =
    let chains = c.in_ok-chains.chains in
    let are = c.in_ok-chains.ensures in
    let many = are.many in
    let ok = chains.first.ok in
    let same : c.clients.result ≡ vec_len chains.first = omega arith in
    subst (λ (n : ℕ). AreChains c.calls-calls.result.now n chains.first.items chains.next.items) same are

pub collect-requires-clause-exists : goal.collect-requires-clause-exists
collect-requires-clause-exists c =
    let are = c.in_ok-chains.ensures in
    let many = are.many in
    let ok = c.in_ok-chains.chains.first.ok in
    let within = c.loop-client-test.true in
    let first = c.clients.ensures in
    let second = c.clients-client-end.ensures in
    omega arith

pub returns : goal.returns
returns c =
    let over = c.loop-client-test.false in
    let within = c.loop-client.auto.client-end in
    let read = c.clients-client-end.ensures in
    let all : c.loop-client.client ≡ clients c.args.outcomes.now = omega arith in
    c.loop-client.invariant ∙ ap (λ (n : ℕ). map (client_origins c.args.outcomes.now) (range_with_len 0 n)) all
