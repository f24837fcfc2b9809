-- Words without a value, after a command.
use Rattle.std.specs.Prelude.{◌≢◌, codes}
use Rattle.clap.specs.Words.{Text}

-- a word is none of those that say something without a value
pub record IsNoBareWord (word : Text) : Type 0 where
  pub causal : word ≢ codes "causal"
  pub lamport : word ≢ codes "lamport"
  pub eager : word ≢ codes "--eager"
  pub lines : word ≢ codes "--lines"
  pub skip_blank : word ≢ codes "--skip-blank"
  pub long : word ≢ codes "--long"
  pub json : word ≢ codes "--json"
  pub certificates : word ≢ codes "--certificates"
  pub svg : word ≢ codes "--svg"
  pub html : word ≢ codes "--html"
  pub events : word ≢ codes "--events"
  pub names : word ≢ codes "--names"
  pub notes : word ≢ codes "--notes"
  pub why : word ≢ codes "--why"
  pub summary : word ≢ codes "--summary"
  pub progress : word ≢ codes "--progress"
