-- A walk to the end of the plan for what receipts told finds what it seals.
use Rattle.std.proofs.Common.{◌≡◌, ◌≤◌, ℕ, List, [], ◌++◌, length, sym, ◌∙◌, ap, subst}
use Rattle.std.specs.Prelude.{Some, slice_get}
use Rattle.model_history.specs.History.{HistoryValue}
use Rattle.live_recorder.specs.Lanes.{Cells}
use Rattle.live_recorder.specs.Sessions.{LanesState, ReceiptState}
use Rattle.live_cut_plan.specs.Plans.{Look, Plan, Follows, IsFinished, after_looks, fresh_plan}
use Rattle.live_cut_plan.specs.Steps.PlanStates.{PlanState}
use Rattle.live_cut_plan.specs.Walks.{Stands, WalksToTheEnd}
use Rattle.live_seals.specs.Seals.{AreToldBy, HoldsFound, IsFoundByWalk, LookerState, plan_after, plan_before}
use Rattle.live_seals.specs.Steps.Looking.{KeepsLanes}

module _ {S C R : Type 0} where
  pub found_by_walk : (lanes : LanesState S) (rs : List (ReceiptState C R)) (h : HistoryValue S C R) (a b : LookerState S C R) (st st' : PlanState) (k cap : ℕ) (told : List ℕ)
      → a.lanes ≡ lanes → a.receipts ≡ rs → a.looks ≡ [] → k ≡ length a.lanes.cells → cap ≡ a.cap → told ≡ a.told → AreToldBy a.lanes a.receipts told
      → ((s : ℕ) (lane : Cells) → slice_get a.lanes.cells s ≡ Some lane → length lane.calls ≤ cap) → Stands st (fresh_plan k cap told)
      → WalksToTheEnd st a.looks st' b.looks → KeepsLanes a b → (Follows (plan_before b) b.looks → HoldsFound (plan_after b) h) → IsFoundByWalk lanes rs h
  found_by_walk lanes rs h a b st st' k cap told is_lanes is_rs none many is_cap is_told counts places stands walked kept found =
      let looks : List Look = walked.0 in
      let grown : b.looks ≡ looks = walked.1 ∙ ap (λ (x : List Look). x ++ looks) none in
      let end = walked.2 (fresh_plan k cap told) stands in
      let plan : fresh_plan k cap told ≡ fresh_plan (length lanes.cells) cap told = ap (λ (n : ℕ). fresh_plan n cap told) (many ∙ ap (λ (x : LanesState S). length x.cells) is_lanes) in
      let places_kept : fresh_plan (length lanes.cells) cap told ≡ fresh_plan (length b.lanes.cells) cap told = ap (λ (x : LanesState S). fresh_plan (length x.cells) cap told) (sym (kept.0 ∙ is_lanes)) in
      let cap_kept : fresh_plan (length b.lanes.cells) cap told ≡ fresh_plan (length b.lanes.cells) b.cap told = ap (λ (n : ℕ). fresh_plan (length b.lanes.cells) n told) (is_cap ∙ sym kept.3) in
      let told_kept : fresh_plan (length b.lanes.cells) b.cap told ≡ plan_before b = ap (λ (x : List ℕ). fresh_plan (length b.lanes.cells) b.cap x) (is_told ∙ sym kept.2) in
      let before : fresh_plan (length lanes.cells) cap told ≡ plan_before b = places_kept ∙ (cap_kept ∙ told_kept) in
      let follows : Follows (fresh_plan (length lanes.cells) cap told) looks = subst (λ (p : Plan). Follows p looks) plan end.0 in
      let all : Follows (plan_before b) b.looks = subst (λ (x : List Look). Follows (plan_before b) x) (sym grown) (subst (λ (p : Plan). Follows p looks) before follows) in
      record {
        told = told;
        cap = cap;
        looks = looks;
        counts = subst (λ (x : List (ReceiptState C R)). AreToldBy lanes x told) is_rs (subst (λ (x : LanesState S). AreToldBy x a.receipts told) is_lanes counts);
        places = λ s lane at. places s lane (subst (λ (x : LanesState S). slice_get x.cells s ≡ Some lane) (sym is_lanes) at);
        follows = follows;
        finished = subst (λ (p : Plan). IsFinished (after_looks p looks)) plan end.2;
        found = subst (λ (p : Plan). HoldsFound (after_looks p looks) h) (sym before) (subst (λ (x : List Look). HoldsFound (after_looks (plan_before b) x) h) grown (found all));
      }
