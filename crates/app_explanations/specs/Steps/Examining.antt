-- A history that is put into words.
use Rattle.json_histories.specs.declared.any_history.AnyHistory.{AnyHistory}
use Rattle.json_histories.specs.declared.any_history.AnyHistory.TheVariants as histories
use Rattle.app_explanations.specs.declared.examined.Examined.{Examined}
use Rattle.app_explanations.specs.declared.examined.Examined.TheVariants.{Memory, Object}

abbrev pub history_of : Examined → AnyHistory
history_of (Memory memory) = histories.Memory memory.now
history_of (Object history) = history.now
