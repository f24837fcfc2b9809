use Rattle.std.proofs.Common.{◌≡◌, ℕ, ◌-◌, ◌<◌, List, [], ◌∷◌, ◌++◌, ap, sym, subst, ◌∙◌, arith, length}
use Rattle.std.specs.Prelude.{◌==◌, filter, slice_index}
use Rattle.std.proofs.lemmas.List.{get_or_default}
use Rattle.std.proofs.lemmas.Option.{same_Some, slice_get_read, slice_get_within}
use Rattle.log_events.specs.Events.{Call}
use Rattle.log_events.specs.Steps.Chains.{IsOnChain, left}
use Rattle.log_events.proofs.ChainLaws.{on_chain-step, on_chain-end, left-step}
use Rattle.log_events.proofs.chains.Chains.collect.Goals as goal

pub returns : goal.returns
returns c = on_chain-end c.args.calls.now c.args.self.now.next.items (filter (λ (a : Call). a.client == c.args.client) c.args.calls.now)
    c.loop-link.found.items c.loop-link.link c.loop-link.invariant c.loop-link-test.false

pub bounds-calls-number : goal.bounds-calls-number
bounds-calls-number c =
    let s = on_chain-step c.args.calls.now c.args.self.now.next.items (filter (λ (a : Call). a.client == c.args.client) c.args.calls.now)
    c.loop-link.found.items c.loop-link.link c.loop-link.invariant c.loop-link-test.true in
    slice_get_within c.args.calls.now (c.loop-link.link - 1) s.0 s.1.at

pub index-link-requires-in-loop-link : goal.index-link-requires-in-loop-link
index-link-requires-in-loop-link c =
    let s = on_chain-step c.args.calls.now c.args.self.now.next.items (filter (λ (a : Call). a.client == c.args.client) c.args.calls.now)
    c.loop-link.found.items c.loop-link.link c.loop-link.invariant c.loop-link-test.true in
    let within = slice_get_within c.args.calls.now (c.loop-link.link - 1) s.0 s.1.at in
    let as_many = c.requires.chains.as_many in
    let ok = c.args.self.now.next.ok in
    omega arith

pub loop-link-smaller : goal.loop-link-smaller
loop-link-smaller c =
    let calls = c.args.calls.now in
    let next = c.args.self.now.next.items in
    let link = c.loop-link.link in
    let s = on_chain-step calls next (filter (λ (a : Call). a.client == c.args.client) calls) c.loop-link.found.items link c.loop-link.invariant c.loop-link-test.true in
    let within = slice_get_within calls (link - 1) s.0 s.1.at in
    let as_many = c.requires.chains.as_many in
    let inside : link - 1 < length next = omega arith in
    let same : slice_index next (link - 1) ≡ c.index-link-in-loop-link.result.now =
    get_or_default next (link - 1) 0 c.index-link-in-loop-link.result.now inside ∙ sym c.index-link-in-loop-link.ensures in
    subst (λ (n : ℕ). left calls n < left calls link) same
    (left-step calls link (slice_index next (link - 1)) s.0 c.loop-link-test.true s.1.at s.1.later)

pub loop-link-preserved : goal.loop-link-preserved
loop-link-preserved c =
    let calls = c.args.calls.now in
    let next = c.args.self.now.next.items in
    let link = c.loop-link.link in
    let found = c.loop-link.found.items in
    let all = filter (λ (a : Call). a.client == c.args.client) calls in
    let s = on_chain-step calls next all found link c.loop-link.invariant c.loop-link-test.true in
    let within = slice_get_within calls (link - 1) s.0 s.1.at in
    let as_many = c.requires.chains.as_many in
    let inside : link - 1 < length next = omega arith in
    let same : slice_index next (link - 1) ≡ c.index-link-in-loop-link.result.now =
    get_or_default next (link - 1) 0 c.index-link-in-loop-link.result.now inside ∙ sym c.index-link-in-loop-link.ensures in
    let read = slice_get_read calls (length calls) (link - 1) c.index-calls-number.result (omega arith) within c.index-calls-number.is in
    let element : s.0 ≡ c.index-calls-number.result = same_Some _ _ (sym s.1.at ∙ read) in
    subst (λ (n : ℕ). IsOnChain calls next all c.push.new.self.items n) same
    (subst (λ (l : List Call). IsOnChain calls next all l (slice_index next (link - 1)))
    (ap (λ (a : Call). found ++ a ∷ []) element ∙ sym c.in_ok-push.ensures.items) s.1.onward)
