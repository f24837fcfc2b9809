use Rattle.std.proofs.Common.{◌≡◌, ℕ, ◌+◌, List, arith, ap, ◌∙◌, length, subst, take}
use Rattle.std.specs.Prelude.{Option, None}
use Rattle.std.proofs.lemmas.List.{get_or_default}
use Rattle.model_history.specs.declared.advice.Advice.{Advice}
use Rattle.model_history.specs.History.{session}
use Rattle.order_causal.specs.Steps.Gathered.{AreListsUpTo}
use Rattle.order_causal.proofs.GatheredLaws.{lists-none, lists-push}
use Rattle.cert_make.specs.Advice.{Heard, IsToldVector, heard_before}
use Rattle.cert_make.proofs.Advices.{hear_next}
use Rattle.cert_make.proofs.heard.vectors_of.Goals as goal

pub loop-index-init : goal.loop-index-init
loop-index-init g c = record {
  so_far = rw c.new-vectors.ensures (lists-none (IsToldVector c.args.h.now c.args.advice.now) c.args.session);
  known = c.nothing-heard.ensures;
}

pub loop-index-preserved : goal.loop-index-preserved
loop-index-preserved g c =
    let h = c.args.h.now in
    let s = c.args.session in
    let i = c.loop-index.index in
    let reported = c.advice_in-reported.result.now in
    let size = c.advice_in-reported.ensures.size in
    let count = c.len-index-end.ensures.count in
    let entry = c.index-reported-index.is ∙ get_or_default reported i c.index-reported-index.result None (omega arith) in
    let known = c.hear.ensures ∙ hear_next reported s i c.at.result c.index-reported-index.result c.loop-index.heard c.at.ensures entry c.loop-index.invariant.known in
    let own = known ∙ ap (λ (t : List (Option Advice)). heard_before t s (i + 1)) c.advice_in-reported.ensures.entries in
    record {
      so_far = rw c.in_ok-push.ensures.ok
          (lists-push (IsToldVector h c.args.advice.now) s i c.loop-index.vectors c.counts.result.now c.loop-index.invariant.so_far
          (record {
            size = c.counts.ensures.size ∙ c.sessions.ensures.count;
            reported = c.counts.ensures.counts
                ∙ ap (λ (n : ℕ). take n c.hear.new.self.0) c.sessions.ensures.count
                ∙ ap (λ (k : Heard). take (length h.1) k.0) own;
          }));
      known = known;
    }

pub returns : goal.returns
returns g c =
    let ended : c.loop-index.index ≡ length (session c.args.h.now c.args.session) = omega arith in
    subst (λ (i : ℕ). AreListsUpTo (IsToldVector c.args.h.now c.args.advice.now) c.args.session i c.loop-index.vectors) ended c.loop-index.invariant.so_far
