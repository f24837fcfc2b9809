use Rattle.std.specs.Prelude.{◌⊎◌, ◌↔◌, ◌++◌, ◌∷◌, ◌*◌, ℕ, ◌||◌, List, []}
use Rattle.std.proofs.Common.{arith, subst}
use Rattle.std.proofs.lemmas.List.{get_or_past}
use Rattle.judge_memory.proofs.Orders.{order_by-straight}
use Rattle.judge_columns.specs.Forks.{IsForkAt, IsLeftEdge}
use Rattle.judge_columns.specs.Groups.{IsFrom, IsInGroups}
use Rattle.judge_columns.specs.Swept.{HasEdge}
use Rattle.judge_columns.proofs.ForksSwept.{group-swept}
use Rattle.judge_columns.proofs.GroupLists.{groups-more}
use Rattle.judge_columns.proofs.SessionsSwept.{or-either, swept-both}
use Rattle.judge_columns.proofs.forks.sweep_group.Goals as goal

pub look_at_reads-overwritten-requires-clause-straight : goal.look_at_reads-overwritten-requires-clause-straight
look_at_reads-overwritten-requires-clause-straight c = order_by-straight c.args.index.now.history [] c.args.order.now c.requires.order

pub returns-clause-swept : goal.returns-clause-swept
returns-clause-swept c groups was =
    let h = c.args.index.now.history in
    let writes : List ℕ = c.args.writes.now in
    let from : ℕ = c.args.group * 128 in
    let old = c.args.swept.now in
    let one = c.look_at_reads-overwritten.result in
    let shows = c.look_at_reads-overwritten.ensures in
    let late : List ℕ = c.look_at_reads-overwritten.new.late.items in
    let edges : List (ℕ × ℕ) = c.push_left.new.edges.items in
    let size = shows.size in
    let group = group-swept h (order_by-straight h [] c.args.order.now c.requires.order) writes from c.requires.only one.start one.read late
    shows.found c.find_words.new.words.past.items c.find_words.ensures.words.past (λ b past. get_or_past late b 0 (omega arith)) in
    swept-both h (IsInGroups 128 (IsForkAt h writes) groups) (IsFrom (IsForkAt h writes) from 128)
    (IsInGroups 128 (IsForkAt h writes) (groups ++ c.args.group ∷ [])) (groups-more 128 (IsForkAt h writes) groups c.args.group) old.has_overwritten_start old.has_overwritten_read (HasEdge old.edges.items) was one.start one.read
    (IsLeftEdge writes from late) group (old.has_overwritten_start || one.start) (old.has_overwritten_read || one.read) (HasEdge edges)
    (or-either old.has_overwritten_start one.start) (or-either old.has_overwritten_read one.read)
    (subst (λ (xs : List ℕ). (a b : ℕ) → HasEdge edges a b ↔ (HasEdge old.edges.items a b ⊎ IsLeftEdge writes from xs a b))
    c.deref.ensures.value c.in_ok-push_left.ensures)
