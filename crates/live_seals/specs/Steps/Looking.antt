-- What one look of a looker at lanes does.
use Rattle.std.specs.Prelude.{◌≡◌, ◌++◌, ◌∷◌, [], Bool}
use Rattle.std.proofs.Common.{◌∙◌}
use Rattle.live_cut_plan.specs.declared.cell.Cell.{Cell}
use Rattle.live_seals.specs.Seals.{LookerState}

module _ {S C R : Type 0} where
  -- the lanes, the receipts, the counts and the places are the same
  abbrev pub KeepsLanes : LookerState S C R → LookerState S C R → Type 0
  KeepsLanes a b = (b.lanes ≡ a.lanes) × (b.receipts ≡ a.receipts) × (b.told ≡ a.told) × (b.cap ≡ a.cap)

  pub keeps_lanes_on : (a b c : LookerState S C R) → KeepsLanes a b → KeepsLanes b c → KeepsLanes a c
  keeps_lanes_on a b c f g = (g.0 ∙ f.0, g.1 ∙ f.1, g.2 ∙ f.2, g.3 ∙ f.3)

  abbrev pub Looked : LookerState S C R → Cell → Bool → LookerState S C R → Type 0
  Looked old cell full new = KeepsLanes old new × (new.looks ≡ old.looks ++ (cell, full) ∷ [])

  abbrev pub NotLooked : LookerState S C R → LookerState S C R → Type 0
  NotLooked old new = KeepsLanes old new × (new.looks ≡ old.looks)
