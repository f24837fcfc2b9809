use Rattle.std.specs.Prelude.{MatchResult}
use Rattle.live_driver.specs.Clients.{IsFresh, IsGivenUp, IsPlayed}
use Rattle.live_driver.proofs.driving.drive_input.Given as goal

abbrev pub ghosts-play_all : goal.ghosts-play_all
ghosts-play_all g a = record {
  ready = λ own. IsFresh a.run.now.lanes.now a.run.now.input.now own;
  left = λ s p. MatchResult p (IsPlayed a.run.now.lanes.now a.run.now.plan.stop a.run.now.input.now s) IsGivenUp;
}
