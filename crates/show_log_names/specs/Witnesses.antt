-- What is known of orders that explain every read of a log, by criterion.
use Rattle.cert_check.specs.declared.criterion.Criterion.{Criterion}
use Rattle.cert_check.specs.declared.criterion.Criterion.TheVariants.{Cc, Cm, Ccv}
use Rattle.show_log_names.specs.declared.witnesses.Witness.{Witness}
use Rattle.show_log_names.specs.declared.witnesses.Witnesses.{Witnesses}

abbrev pub witness_for : Witnesses → Criterion → Witness
witness_for witnesses Cc = witnesses.cc
witness_for witnesses Cm = witnesses.cm
witness_for witnesses Ccv = witnesses.ccv
