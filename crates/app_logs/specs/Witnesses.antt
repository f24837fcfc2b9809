-- What is said of orders that explain every read of a log.
use Rattle.std.specs.Prelude.{◌≡◌, Bool, List}
use Rattle.cert_check.specs.declared.criterion.Criterion.{Criterion}
use Rattle.log_events.specs.declared.event.Event.{Event}
use Rattle.log_choices.specs.ChosenCriteria.{LogMeets}
use Rattle.show_log_names.specs.Witnesses.{witness_for}
use Rattle.show_log_names.specs.declared.witnesses.Witness.TheVariants.{Found}
use Rattle.show_log_names.specs.declared.witnesses.Witnesses.{Witnesses}

-- where an order was found, the log meets the criterion: by a choice of what every null read saw
abbrev pub AreWitnesses : Bool → List Event → Witnesses → Type 0
AreWitnesses in_time es witnesses = (criterion : Criterion) → witness_for witnesses criterion ≡ Found → LogMeets in_time es criterion
