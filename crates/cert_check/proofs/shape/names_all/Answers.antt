use Rattle.std.proofs.Common.{ℕ, ◌<◌, refl, sym, arith, subst}
use Rattle.std.specs.Prelude.{All}
use Rattle.std.proofs.lemmas.Bool.{both_ways}
use Rattle.cert_check.proofs.Shapes.{names_within, names_all}
use Rattle.cert_check.proofs.shape.names_all.Goals as goal

pub returns-then-not-names_sessions : goal.returns-then-not-names_sessions
returns-then-not-names_sessions g c = (
  (λ e. absurd cc),
  λ exact.
      let small = subst (λ (n : ℕ). All (λ s. s < n) c.args.list.now) (sym c.sessions.ensures.count) (names_within c.args.h.now c.args.list.now exact) in
      absurd (both_ways c.names_sessions.result c.if-not-names_sessions.true (c.names_sessions.ensures.1 small)),
)

pub returns : goal.returns
returns g c =
    let small = subst (λ (n : ℕ). All (λ s. s < n) c.args.list.now) c.sessions.ensures.count (c.names_sessions.ensures.0 c.if-not-names_sessions.false) in (
      (λ _. names_all c.args.h.now c.args.list.now small (λ s below. c.loop-session.invariant s (omega arith))),
      λ _. refl,
    )
