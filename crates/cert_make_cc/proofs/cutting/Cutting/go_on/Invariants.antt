use Rattle.std.proofs.Common.{◌≡◌, ◌+◌, ◌≤◌, length, get_or}
use Rattle.order_causal.proofs.Walked.{room}
use Rattle.cert_make_cc.specs.Steps.Cuts.{IsCut}
use Rattle.cert_make_cc.proofs.cutting.Cutting.go_on.Given as goal

-- the cut so far, and that no more room is left than is counted
abbrev pub invariant-loop-place : goal.invariant-loop-place
invariant-loop-place l = record {
  limits : l.self.limits.items ≡ l.fn.self.limits.items;
  cut : IsCut l.whole l.fn.self.limits.items l.self.starts.items l.self.walk;
  starts : length l.self.starts.items ≡ l.place + 1;
  end : length l.self.walk ≡ get_or l.self.starts.items l.place 0;
  left : room (length l.fn.self.limits.items) l.fn.self.limits.items l.self.walk ≤ l.left;
}
