use Rattle.pattern_json.proofs.CertificateParts.{explained_more, no_explained, no_more_parts, no_vectors, no_word, vectors_next, word_first}
use Rattle.pattern_json.proofs.parts.next_part.Goals as goal

pub returns-in-None-2-clause-read : goal.returns-in-None-2-clause-read
returns-in-None-2-clause-read c =
    let read = rw c.in-None-2.is at c.in_ok-vectors-in-Named.ensures.read in
    (read.0, read.1, λ ds so_far more. no_vectors c.in-Named.criterion read.0 ds more (rw c.in-Named.is at so_far) read.2)

pub returns-in-Some-3-clause-read : goal.returns-in-Some-3-clause-read
returns-in-Some-3-clause-read c =
    let read = rw c.in-Some-3.is at c.in_ok-explained-in-Vectors.ensures.read in (
      read.0,
      read.1,
      λ ds so_far. rw (c.certificate_of.ensures)
          (explained_more c.in-Vectors.criterion c.in-Vectors.vectors c.in-Some-3.explained ds read.0 (rw c.in-Vectors.is at so_far) read.2),
    )

pub returns-in-None-clause-read : goal.returns-in-None-clause-read
returns-in-None-clause-read c =
    let read = rw c.in-None.is at c.in_ok-criterion-in-Begun.ensures.read in
    (read.0, read.1, λ ds so_far. no_word read.0 ds (rw c.in-Begun.is at so_far) read.2)

pub returns-in-Some-clause-read : goal.returns-in-Some-clause-read
returns-in-Some-clause-read c =
    let read = rw c.in-Some.is at c.in_ok-criterion-in-Begun.ensures.read in
    (read.0, read.1, λ ds so_far. word_first read.0 ds (rw c.in-Begun.is at so_far) c.in-Some.criterion read.2)

pub returns-in-Some-2-clause-read : goal.returns-in-Some-2-clause-read
returns-in-Some-2-clause-read c =
    let read = rw c.in-Some-2.is at c.in_ok-vectors-in-Named.ensures.read in
    (read.0, read.1, λ ds so_far. vectors_next c.in-Named.criterion c.in-Some-2.vectors read.0 ds (rw c.in-Named.is at so_far) read.2)

pub returns-in-None-3-clause-read : goal.returns-in-None-3-clause-read
returns-in-None-3-clause-read c =
    let read = rw c.in-None-3.is at c.in_ok-explained-in-Vectors.ensures.read in (
      read.0,
      read.1,
      λ ds so_far more.
          let before = rw c.in-Vectors.is at so_far in
          no_explained c.in-Vectors.criterion read.0 ds more before.0 before.1 read.2,
    )

pub returns-in_ok-pass_value-in-All-clause-read : goal.returns-in_ok-pass_value-in-All-clause-read
returns-in_ok-pass_value-in-All-clause-read c =
    let read = c.in_ok-pass_value-in-All.ensures.passed in
    (read.0, read.1, λ ds so_far more. no_more_parts c.in-All.certificate ds more read.0 (rw c.in-All.is at so_far))
