-- Exit statuses, by what comes of a run.
use Rattle.std.specs.Prelude.{◌==◌, ◌&&◌, ◌||◌, ℕ, Bool, true, false, Option, Some, None, is_some, if◌then◌else◌, nat_lt}
use Rattle.app_orders.specs.declared.manner.Manner.{Manner}

-- how bad a status is: wrong words, then want of memory, then a fault of reading or writing, then a refusal, then a criterion that is
-- not met, and then one of which nothing is known
abbrev pub rank : ℕ → ℕ
rank status =
    if status == 0 then 0
    else (if status == 6 then 1
    else (if status == 5 then 2
    else (if status == 1 then 3
    else (if status == 3 then 4
    else (if status == 4 then 5
    else 6)))))

-- the worse of two statuses, and the first where neither is
abbrev pub worse : ℕ → ℕ → ℕ
worse one other = if nat_lt (rank one) (rank other) then other else one

-- whether fewer reads were answered than are wanted, where a number of them is wanted; reads that can't be counted are too few
abbrev pub has_few : Option ℕ → Option ℕ → Bool
has_few None reads = false
has_few (Some least) None = true
has_few (Some least) (Some reads) = nat_lt reads least

-- the status after an answer, where so many reads are wanted and so many were answered: 6 in the place of 0 where they are too few
abbrev pub status_after : Option ℕ → Option ℕ → ℕ → ℕ
status_after least reads before = if has_few least reads && (before == 0) then 6 else before

-- whether it is asked how much a run asks of its store
abbrev pub wants_counts : Manner → Bool
wants_counts manner = manner.summary || is_some manner.least_reads
