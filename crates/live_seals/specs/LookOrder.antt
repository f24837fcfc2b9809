-- In which order cells are looked at. (This project's profile.)
use Rattle.std.specs.Prelude.{◌≡◌, ℕ, ◌<◌, ◌++◌, Bool, List, Some, slice_get}
use Rattle.model_history.specs.declared.op_id.OpId.{OpId}
use Rattle.live_cut_plan.specs.declared.cell.Cell.TheVariants.{Return, Call}
use Rattle.live_cut_plan.specs.Plans.{Look}

-- of these looks, oldest first, each at a return cell comes before each at a call cell
abbrev pub ReturnsComeFirst : List Look → Type 0
ReturnsComeFirst looks = (i j : ℕ) (a b : OpId) (full full' : Bool) → slice_get looks i ≡ Some (Return a, full) → slice_get looks j ≡ Some (Call b, full') → i < j

-- the list of looks grew by such looks
abbrev pub GrewByReturnsFirst : List Look → List Look → Type 0
GrewByReturnsFirst looks looks' = (ls : List Look) × (looks' ≡ looks ++ ls) × ReturnsComeFirst ls
