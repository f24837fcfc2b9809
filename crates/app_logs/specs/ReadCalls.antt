-- By which read calls a log is read, by what the source tells of each, and by what comes of the log.
use Rattle.std.specs.Prelude.{◌⊎◌, ℕ, Option, None, Some, Result, Ok, Err}
use Rattle.json_lines.specs.ReadCalls.{CallOutcome, EndsBy, EndsInLine, FindsNoEnd, IsEnd}
use Rattle.json_lines.specs.declared.read_call.TheConstants.{MAX_READ_CALLS}
use Rattle.log_reader.specs.LogCalls.{NoneFailed}
use Rattle.app_logs.specs.declared.failure.LogError.{LogError}
use Rattle.app_logs.specs.declared.failure.LogError.TheVariants.{Refused, Memory, ReadFault, WriteFault}
use Rattle.app_logs.specs.declared.following.Followed.{Followed}
use Rattle.app_logs.specs.declared.following.Rest.{Rest}
use Rattle.app_logs.specs.declared.following.Rest.TheVariants.{Unread, Read}

module _ {S : Type 0} (called : S → CallOutcome → S → Type 0) where
  -- the calls for some lines, one after the other, and then those for one further, of which this holds
  abbrev pub EndsInSomeLine : (S → S → Type 0) → S → S → Type 0
  EndsInSomeLine Last old new = (lines : ℕ) × EndsInLine called MAX_READ_CALLS lines Last old new

  -- no call failed
  abbrev pub NoneFails : S → S → Type 0
  NoneFails = EndsInSomeLine (NoneFailed called)

  -- no call failed, and the last one found the end
  abbrev pub FindsLogEnd : S → S → Type 0
  FindsLogEnd = EndsInSomeLine (EndsBy called MAX_READ_CALLS IsEnd)

  -- the last call failed, or a line did not end in as many calls as are made for one
  abbrev pub FindsNoLogEnd : S → S → Type 0
  FindsNoLogEnd = EndsInSomeLine (FindsNoEnd called MAX_READ_CALLS)

  -- by why a log has no answer
  abbrev pub FailsBy : LogError → S → S → Type 0
  FailsBy (Refused refusal) = NoneFails
  FailsBy Memory = NoneFails
  FailsBy ReadFault = FindsNoLogEnd
  FailsBy WriteFault = NoneFails

  -- the same where a log is read to its end before its answer is written
  abbrev pub FailsWholeBy : LogError → S → S → Type 0
  FailsWholeBy WriteFault = FindsLogEnd
  FailsWholeBy error = FailsBy error

  abbrev pub ReadsWholeBy : {X : Type 0} → Result X LogError → S → S → Type 0
  ReadsWholeBy (Ok x) = FindsLogEnd
  ReadsWholeBy (Err error) = FailsWholeBy error

  -- where it is judged while it is read: after an answer a call failed only where the rest was read after the judging ended early
  abbrev pub WatchesBy : Rest → Result Followed LogError → S → S → Type 0
  WatchesBy Unread (Ok followed) old new = NoneFails old new
  WatchesBy Read (Ok followed) old new = NoneFails old new ⊎ FindsNoLogEnd old new
  WatchesBy rest (Err error) old new = FailsBy error old new

  -- where it is judged again after so many events, or once
  abbrev pub FollowsLogBy : Option ℕ → Rest → Result Followed LogError → S → S → Type 0
  FollowsLogBy (Some every) rest result = WatchesBy rest result
  FollowsLogBy None rest result = ReadsWholeBy result
