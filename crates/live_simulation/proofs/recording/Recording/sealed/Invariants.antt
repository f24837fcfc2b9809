use Rattle.std.proofs.Common.{◌≡◌, ℕ, get_or, length, [], map}
use Rattle.model_history.specs.History.{IsSession}
use Rattle.live_cut_plan.specs.Plans.{Plan}
use Rattle.live_cut_plan.specs.Walks.{Stands}
use Rattle.live_simulation.specs.Steps.Recordings.{found_lanes}
use Rattle.live_simulation.proofs.recording.Recording.sealed.Given as goal

-- the sessions so far are those that the plan found
abbrev pub invariant-loop-s : goal.invariant-loop-s
invariant-loop-s g l = record {
  many : length l.sessions.items ≡ l.s;
  each : (t : ℕ) → IsSession g.O.SeqObject.matches (get_or (map (λ v. v.items) l.sessions.items) t []);
  found : (p : Plan) → Stands l.plan p → p.lanes ≡ length l.self.lanes → map (λ v. v.items) l.sessions.items ≡ found_lanes l.self p 0 l.s;
}
