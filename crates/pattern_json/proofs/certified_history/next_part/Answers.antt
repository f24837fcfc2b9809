use Rattle.pattern_json.proofs.PairReading.{pair_more}
use Rattle.pattern_json.proofs.certified_history.next_part.Goals as goal

pub returns-in-Ok-clause-read : goal.returns-in-Ok-clause-read
returns-in-Ok-clause-read c =
    let read = c.in-Ok.ensures.read in (
      read.0,
      read.1,
      λ ds so_far. rw (c.joined.ensures)
          (pair_more ds read.0 c.in-History.history c.found_of.result (rw c.in-History.is at so_far) (c.found_of.ensures read.0 read.2)),
    )
