use Rattle.std.proofs.Common.{◌≡◌, ℕ, ◌+◌, ◌-◌, ◌<◌, ap, sym, subst, ◌∙◌, arith, length, set}
use Rattle.std.specs.Prelude.{slice_index}
use Rattle.std.proofs.lemmas.List.{get_or-replicate, get_or_default, length-replicate}
use Rattle.std.proofs.lemmas.Option.{slice_get_read}
use Rattle.log_events.specs.Events.{Call}
use Rattle.log_events.specs.Steps.Chains.{AreChainsFrom}
use Rattle.log_events.proofs.ChainLaws.{chains-none, chains-more}
use Rattle.log_events.proofs.chains.chains_of.Goals as goal

pub loop-number-init : goal.loop-number-init
loop-number-init c =
    let firsts = c.in_ok-first.ensures.items_if_clones_equal (λ y same. same) in
    let nexts = c.in_ok-next.ensures.items_if_clones_equal (λ y same. same) in
    chains-none c.args.calls.now c.args.clients c.in_ok-first.first.items c.in_ok-next.next.items (length c.args.calls.now)
    (ap length firsts ∙ length-replicate c.args.clients 0)
    (ap length nexts ∙ length-replicate (length c.args.calls.now) 0)
    (λ client below. rw firsts (get_or-replicate c.args.clients client 0 0 below))
    (omega arith)

pub loop-number-preserved : goal.loop-number-preserved
loop-number-preserved c =
    let calls = c.args.calls.now in
    let n : ℕ = c.loop-number.number - 1 in
    let a = c.index-calls-number.result in
    let first = c.loop-number.first.items in
    let next = c.loop-number.next.items in
    let test = c.loop-number-test.true in
    let bound = c.loop-number.auto.number in
    let within : n < length calls = omega arith in
    let place : c.loop-number.number ≡ n + 1 = omega arith in
    let at = slice_get_read calls (length calls) n a (omega arith) within c.index-calls-number.is in
    let below = c.requires.known n a within in
    let known : a.client < c.args.clients = subst (λ (b : Call). b.client < c.args.clients) (sym c.index-calls-number.is) below in
    let client = c.client-client.ensures in
    let many = c.loop-number.invariant.many in
    let own : c.client-client.result < length first = omega arith in
    let linked : slice_index first a.client ≡ c.index.result.now =
    ap (slice_index first) (sym client) ∙ get_or_default first c.client-client.result 0 c.index.result.now own ∙ sym c.index.ensures in
    subst (λ (d : ℕ). AreChainsFrom calls c.args.clients (set first d (n + 1)) (set next n c.index.result.now) n) (sym client)
    (subst (λ (l : ℕ). AreChainsFrom calls c.args.clients (set first a.client (n + 1)) (set next n l) n) linked
    (chains-more calls c.args.clients first next n a
    (subst (λ (m : ℕ). AreChainsFrom calls c.args.clients first next m) place c.loop-number.invariant) at known))
