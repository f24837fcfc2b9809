use Rattle.std.specs.Prelude.{◌≡◌, ℕ, List, length}
use Rattle.std.proofs.Common.{arith}
use Rattle.std.proofs.lemmas.Option.{slice_get_within}
use Rattle.judge_session_orders.proofs.OrderedSessions.{left-ordered, ordered-all}
use Rattle.judge_session_orders.proofs.ordering.order_places.Goals as goal

pub returns-then-is_empty : goal.returns-then-is_empty
returns-then-is_empty c =
    let h = c.args.index.now.history in
    let list : List ℕ = c.args.sessions.now in
    let places : List ℕ = c.args.places.now in
    let none : length places ≡ 0 = grind arith in
    ordered-all h list c.requires.sessions (left-ordered h list places c.requires.others
    (λ k has. let within = slice_get_within places has.0 k has.1 in absurd (omega arith)))
