use Rattle.std.proofs.Common.{◌≡◌, ◌≢◌, ℕ, ◌<◌, [], length, get_or, sym, subst, ◌∙◌, ⊎_elim, arith}
use Rattle.std.proofs.lemmas.Bool.{both_ways, cases_eq}
use Rattle.order_causal.specs.Orders.{op}
use Rattle.order_causal.specs.Vectors.{list_of}
use Rattle.order_causal.proofs.shape.are_vectors_of.Goals as goal

pub returns-then-not-have_length : goal.returns-then-not-have_length
returns-then-not-have_length g c = (
  (λ e. absurd cc),
  λ shape.
      let v = c.args.v.now in
      let s = c.loop-session.session in
      let have : (i : ℕ) → i < length (get_or v s []) → length (list_of v (op s i)) ≡ c.sessions.result = λ i below.
      let operations = shape.one_each.operations s in
      let counts = shape.counts (op s i) (omega arith) in
      omega arith in
      absurd (both_ways c.have_length.result c.if-not-have_length.true (c.have_length.ensures.1 have)),
)

pub loop-session-preserved : goal.loop-session-preserved
loop-session-preserved g c = λ s i below inside. ⊎_elim
    (λ (here : s ≡ c.loop-session.session).
    let counted : i < length (get_or c.args.v.now c.loop-session.session []) =
    subst (λ (t : ℕ). i < length (get_or c.args.v.now t [])) here inside in
    subst (λ (t : ℕ). length (list_of c.args.v.now (op t i)) ≡ length c.args.h.now.1) (sym here)
    (c.have_length.ensures.0 c.if-not-have_length.false i counted ∙ c.sessions.ensures.count))
    (λ (apart : s ≢ c.loop-session.session). c.loop-session.invariant s i (omega arith) inside)
    (cases_eq s c.loop-session.session)
