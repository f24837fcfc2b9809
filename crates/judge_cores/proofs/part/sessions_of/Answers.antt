use Rattle.std.proofs.Common.{map, ap, ◌∙◌, arith}
use Rattle.std.proofs.lemmas.List.{length-map, map_push}
use Rattle.judge_cores.proofs.PartSessions.{session_more}
use Rattle.judge_cores.proofs.part.sessions_of.Goals as goal

pub loop-ops-preserved : goal.loop-ops-preserved
loop-ops-preserved c =
    let size = length-map c.loop-ops.sessions.items (λ s. s.items) in
    session_more (map (λ s. s.items) c.loop-ops.sessions.items) (map (λ s. s.items) c.push.new.self.items) c.in-Some.operations.items
    c.loop-ops.invariant (omega arith) (rw c.in-Some.is at c.in_ok-operations.ensures)
    (ap (map (λ s. s.items)) c.in_ok-push.ensures.items ∙ map_push (λ s. s.items) c.loop-ops.sessions.items c.in-Some.operations)
