-- How the calling thread alone judges a history.
use Rattle.app_orders.specs.declared.judging.Judging.{Judging}
use Rattle.app_orders.specs.declared.length.Length.{Length}
use Rattle.app_orders.specs.declared.length.Length.TheVariants.{Limited}
use Rattle.app_orders.specs.Expected.{expecting_nothing}

-- as one worker does, and nothing is expected of the history, which may be that long
abbrev pub judging_alone_at : Length → Judging
judging_alone_at long = record { workers = 1; expected = expecting_nothing; length = long }

abbrev pub judging_alone : Judging
judging_alone = judging_alone_at Limited
