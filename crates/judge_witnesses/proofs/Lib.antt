mod LongRenamed
mod NoWitnesses
mod RenamedAnswers
mod RenamedMeets
