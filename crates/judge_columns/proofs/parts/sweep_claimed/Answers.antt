use Rattle.std.specs.Prelude.{ℕ, List}
use Rattle.std.proofs.Common.{subst}
use Rattle.judge_columns.specs.Groups.{IsAmong, IsSweptForks, IsSweptSessions}
use Rattle.judge_columns.proofs.GroupsSwept.{moved-edges}
use Rattle.judge_columns.proofs.parts.sweep_claimed.Goals as goal

pub returns : goal.returns
returns c =
    let h = c.args.index.now.history in
    let sessions : List ℕ = c.args.share.now.sessions.items in
    let forks : List ℕ = c.args.share.now.forks.items in
    let one = c.in_ok-sessions.sessions in
    let alone : IsSweptSessions h sessions one =
    subst (λ (xs : List ℕ). IsSweptSessions h xs one) c.deref.ensures.value c.in_ok-sessions.ensures in
    let together : IsSweptForks h forks c.in_ok-forks.forks =
    subst (λ (xs : List ℕ). IsSweptForks h xs c.in_ok-forks.forks) c.deref-2.ensures.value c.in_ok-forks.ensures in (
      moved-edges h one.swept.edges.items c.sort_by_key.new.self.items c.in_ok-sort_by_key.ensures.permutation
          (IsAmong sessions one.numbers.items) one.swept.has_overwritten_start one.swept.has_overwritten_read alone,
      together,
    )
