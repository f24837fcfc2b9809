use Rattle.std.proofs.Common.{ℕ, ◌+◌, ◌<◌, ◌≤◌, ◌≡◌, [], ◌∷◌, ap, arith, subst, subst₂, sym, ◌∙◌, ⊎_elim}
use Rattle.std.proofs.lemmas.Bool.{cases_lt}
use Rattle.std.proofs.lemmas.List.{get_or_append_left, get_or_push, length_push}
use Rattle.order_causal.specs.Steps.Waiting.{IsLimit}
use Rattle.order_causal.proofs.limits.limits_of.Goals as goal

pub loop-session-preserved : goal.loop-session-preserved
loop-session-preserved c =
    let limits = c.loop-session.limits.items in
    let limit = c.limit_of.result in
    let size = c.loop-session.invariant.size in
    record {
      size = rw c.in_ok-push.ensures.items (length_push limits limit ∙ ap (λ (n : ℕ). n + 1) size);
      each = rw c.in_ok-push.ensures.items (λ s below. ⊎_elim
          (λ (old : s < c.loop-session.session).
          subst (λ (n : ℕ). IsLimit c.args.waits.now s n) (sym (get_or_append_left limits (limit ∷ []) 0 s (omega arith)))
          (c.loop-session.invariant.each s old))
          (λ (new : c.loop-session.session ≤ s).
          let last : c.loop-session.session ≡ s = omega arith in
          subst₂ (λ (t n : ℕ). IsLimit c.args.waits.now t n) last (sym (get_or_push limits limit 0 s (size ∙ last))) c.limit_of.ensures)
          (cases_lt s c.loop-session.session));
    }
