use Rattle.std.proofs.Common.{◌≡◌, ◌+◌, ◌≤◌, false, drop}
use Rattle.app_explanations.specs.BrokenGuarantees.{links_after}
use Rattle.app_explanations.proofs.broken.links_of.Given as goal

-- the links so far, and those that follow
abbrev pub invariant-loop-stays : goal.invariant-loop-stays
invariant-loop-stays l = record {
  total : l.links + links_after l.before (drop l.stays-index l.steps) ≡ links_after false l.steps;
  few : l.links ≤ l.stays-index;
}
