use Rattle.std.proofs.Common.{◌≡◌, ℕ, List, length, get_or, sym, ap, subst, arith, ◌∙◌}
use Rattle.std.proofs.lemmas.List.{length-replicate}
use Rattle.model_history.specs.History.{session}
use Rattle.order_causal.specs.Orders.{op}
use Rattle.order_causal.specs.ProgramOrder.{IsOwnVector}
use Rattle.order_causal.specs.Steps.Gathered.{AreListsUpTo}
use Rattle.order_causal.proofs.GatheredLaws.{lists-none, lists-push}
use Rattle.order_causal.proofs.OwnVectors.{zeros-at, own-next}
use Rattle.order_causal.proofs.program_vectors.own_vectors.Goals as goal

pub loop-index-init : goal.loop-index-init
loop-index-init g c =
    let zeros = c.in_ok-counts.ensures.items_if_clones_equal (λ y same. same) in
    record {
      so_far = rw c.new-vectors.ensures (lists-none (IsOwnVector (length c.args.h.now.1)) c.args.session);
      size = ap (λ (xs : List ℕ). length xs) zeros ∙ length-replicate c.sessions.result 0 ∙ c.sessions.ensures.count;
      others = λ s apart. ap (λ (xs : List ℕ). get_or xs s 0) zeros ∙ zeros-at c.sessions.result s;
    }

pub loop-index-preserved : goal.loop-index-preserved
loop-index-preserved g c =
    let inv = c.loop-index.invariant in
    let own = IsOwnVector (length c.args.h.now.1) in
    let new = own-next (length c.args.h.now.1) c.args.session c.loop-index.index c.loop-index.counts.items inv.size inv.others c.requires in
    record {
      so_far = rw c.in_ok-push.ensures.ok
          (lists-push own c.args.session c.loop-index.index c.loop-index.vectors c.deref.result.now inv.so_far
          (subst (λ (xs : List ℕ). own (op c.args.session c.loop-index.index) xs) (sym c.deref.ensures.value) new));
      size = new.size;
      others = new.others;
    }

pub returns : goal.returns
returns g c =
    let ended : c.loop-index.index ≡ length (session c.args.h.now c.args.session) = omega arith in
    subst (λ (i : ℕ). AreListsUpTo (IsOwnVector (length c.args.h.now.1)) c.args.session i c.loop-index.vectors) ended c.loop-index.invariant.so_far
