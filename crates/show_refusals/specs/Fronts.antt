-- What the line on a refusal begins with.
use Rattle.std.specs.Prelude.{ℕ, List, ◌++◌, codes, decimal}
use Rattle.model_history.specs.declared.op_id.OpId.{OpId}
use Rattle.json_histories.specs.declared.read_error.ReadError.{ReadError}
use Rattle.json_histories.specs.declared.read_error.ReadError.TheVariants as reads
use Rattle.show_refusals.specs.declared.refusal.Refusal.{Refusal}
use Rattle.show_refusals.specs.declared.refusal.Refusal.TheVariants.{Read, BadSessions, BadStep, TooManySteps, BadCertificate, ShapeMismatch, NotThatPattern, NoSession, NoSuchSession, TooLong, OverLong}

abbrev pub place_front : OpId → List ℕ
place_front op = codes "session " ++ (decimal op.session ++ (codes ", operation " ++ decimal op.index))

abbrev pub text_front : ReadError → List ℕ
text_front reads.NotJson = codes "the text is no JSON"
text_front reads.BadShape = codes "the input has a wrong shape"
text_front reads.UnknownObject = codes "no such object"
text_front (reads.BadOp op) = place_front op
text_front (reads.ReturnAfterUnknown op) = place_front op
text_front reads.TooManySessions = codes "the history has more than 16 sessions"
text_front reads.TooManyOps = codes "a session has more than 256 operations"
text_front reads.Memory = codes "memory ran out"
text_front reads.BadInitial = codes "what comes last is no table of initial values"

abbrev pub front_for : Refusal → List ℕ
front_for (Read error) = text_front error
front_for BadSessions = codes "a script has from 1 to 16 sessions"
front_for (BadStep i) = codes "step " ++ decimal i
front_for TooManySteps = codes "the steps of the script stand for more than 65536"
front_for BadCertificate = codes "what comes after the history is no certificate"
front_for ShapeMismatch = codes "the certificate does not have the shape of the history"
front_for NotThatPattern = codes "what comes after the history does not show that it fails to meet a criterion"
front_for NoSession = codes "the history has no session, so there is no client to drive"
front_for NoSuchSession = codes "the history does not have the session that is to stop"
front_for TooLong = codes "the input has more than 67108864 bytes"
front_for OverLong = codes "the input has more than 1073741824 bytes"
