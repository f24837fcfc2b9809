use Rattle.app_orders.specs.declared.length.Length.TheVariants.{Limited}
use Rattle.app_engine.proofs.Agreed.{findings_agree}
use Rattle.app_engine.proofs.laws.explanations_agree_with_reports.Goals as goal

pub returns-clause-words : goal.returns-clause-words
returns-clause-words c = λ long input text words report told.
    findings_agree long input text report told.history told.findings told.is_history told.read told.found

pub returns-clause-json : goal.returns-clause-json
returns-clause-json c = λ long input text json report told.
    findings_agree long input text report told.history told.said.findings told.is_history told.read told.true_of.0

pub returns-clause-certificates : goal.returns-clause-certificates
returns-clause-certificates c = λ input text json report told.
    findings_agree Limited input text report told.history told.said.findings told.is_history told.read told.true_of.0.0

pub returns-clause-list_in_words : goal.returns-clause-list_in_words
returns-clause-list_in_words c = λ long most input text list report told.
    findings_agree long input text report told.history told.findings told.is_history told.read told.found

pub returns-clause-list_as_json : goal.returns-clause-list_as_json
returns-clause-list_as_json c = λ long most input text list report told.
    findings_agree long input text report told.history told.said.findings told.is_history told.read told.true_of.found
