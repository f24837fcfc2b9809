-- What a turn of judging a log while it is read comes to.
use Rattle.std.proofs.Common.{◌≡◌, ◌⊎◌, ◌<◌, ◌≤◌, ◌+◌, ◌*◌, ℕ, suc, List, [], ◌∷◌, ◌++◌, length, Bool, false, Option, Some, None, IfSome, inl, inr, refl, sym, ap, subst, ◌∙◌, append_assoc, arith, ⊎_elim}
use Rattle.std.specs.Prelude.{◌≢◌, max}
use Rattle.std.specs.Io.KnownBytes.{Appends, Consumes, IsAtEnd}
use Rattle.std.proofs.lemmas.Bool.{cases_lt}
use Rattle.std.proofs.lemmas.List.{length-append}
use Rattle.std.proofs.KnownBytes.{Appends-nil, Appends-trans, Consumes-nil, Consumes-trans}
use Rattle.app_orders.specs.declared.expected.Expected.{Expected}
use Rattle.json_lines.specs.declared.outcome.Outcome.{Outcome}
use Rattle.json_lines.specs.declared.outcome.Outcome.TheVariants.{Met}
use Rattle.log_events.specs.declared.event.Event.{Event}
use Rattle.log_reader.specs.Logs.{Follow, IsLogOf, Log, ended_lines, no_log}
use Rattle.log_reader.specs.ReadSteps.{ReadsAll, ReadsMore}
use Rattle.log_reader.specs.Readings.{Extends, FaultsAt, HasRead, Reading}
use Rattle.log_reader.specs.declared.log_fault.LogFault.{LogFault}
use Rattle.log_reader.specs.declared.log_fault.LogFault.TheVariants.{Refused, Memory, Read}
use Rattle.app_logs.specs.declared.following.Followed.{Followed}
use Rattle.app_logs.specs.declared.late_writes.LateWrite.{LateWrite}
use Rattle.app_logs.specs.declared.turn.Turn.{Turn}
use Rattle.app_logs.specs.declared.turn.Turn.TheVariants.{On, Stopped, Ended}
use Rattle.app_logs.specs.Failure.{error_of}
use Rattle.app_logs.specs.Endings.{WritesCutsFront, WritesLineFront}
use Rattle.app_logs.specs.LogAnswers.{IsLogOfFront, RefusesAfterCuts, RefusesLate, WatchesLog, WritesCutsUpTo, WritesFirstCuts}
use Rattle.app_engine.specs.Expecting.{outcome_for}
use Rattle.app_logs.specs.Reports.{AreCuts, AreCutLines, cut_line, multiples}
use Rattle.app_logs.specs.Steps.Watching.{BeginsLast, GoesOnBy, HasWatched, IsTurn, WritesCut, WritesLast}
use Rattle.app_logs.proofs.CutLines.{count-above, lines-all, lines-none, multiples-kept, multiples-then}
use Rattle.app_logs.proofs.Faults.{later-refusal}

-- the lines that were read are the first ones of what the source had
front-log : (first after : Option (List ℕ)) (text : List ℕ) (reading : Reading) → Consumes first after text → HasRead text reading
    → IfSome first (λ bytes. IsLogOfFront bytes reading.log)
front-log None after text reading consumed read = tt
front-log (Some xs) None text reading consumed read = absurd consumed
front-log (Some xs) (Some ys) text reading consumed read = (
  read.lines,
  reading.held ++ ys,
  record {
    whole = consumed ∙ ap (λ t. t ++ ys) read.begins.whole ∙ append_assoc _ reading.held ys;
    free = read.begins.free;
    follow = read.begins.follow;
  },
)

-- what was read and the rest are what the source had
whole-log : (first before : Option (List ℕ)) (text : List ℕ) (log : Log) (torn : Bool) → Consumes first before text
    → IfSome before (λ bytes. IsLogOf (text ++ bytes) log torn) → IfSome first (λ bytes. IsLogOf bytes log torn)
whole-log None before text log torn consumed whole = tt
whole-log (Some xs) None text log torn consumed whole = absurd consumed
whole-log (Some xs) (Some ys) text log torn consumed whole = subst (λ (bytes : List ℕ). IsLogOf bytes log torn) (sym consumed) whole

-- what comes after the last cut is new, or there is no event at all
last-new : (every count total : ℕ) → every * count ≤ total → (total ≢ every * count) ⊎ (every * count ≡ 0) → (every * count < total) ⊎ (total ≡ 0)
last-new every count total from (inl other) =
    ⊎_elim (λ (less : every * count < total). inl less) (λ (more : total ≤ every * count). absurd (other (omega arith))) (cases_lt (every * count) total)
last-new every count total from (inr none) =
    ⊎_elim (λ (less : every * count < total). inl less) (λ (more : total ≤ every * count). inr (omega arith)) (cases_lt (every * count) total)

-- a log that was judged at these cuts, and at its end, was judged at all its cuts
all_cuts : (every count total : ℕ) → every * count ≤ total → total ≤ every * suc count → (total ≢ every * count) ⊎ (every * count ≡ 0)
    → AreCuts every total (multiples every count ++ (total ∷ []))
all_cuts every count total from to new =
    ⊎_elim
    (λ (less : total < every * suc count). inr (count, from, less, last-new every count total from new, refl))
    (λ (more : every * suc count ≤ total).
    let same : total ≡ every * suc count = omega arith in
    inl (suc count, omega arith, same, ap (λ n. multiples every count ++ (n ∷ [])) same ∙ sym (multiples-then every count)))
    (cases_lt total (every * suc count))

extends-up : (every count : ℕ) (es more all : List Event) → length es ≡ every * count → all ≡ es ++ more → every * count ≤ length all
extends-up every count es more all events is =
    let all_length : length all ≡ length es + length more = ap length is ∙ length-append es more in omega arith

-- no bytes have no events
nothing-read : (lines : List (List ℕ)) (log : Log) (held : List ℕ) → [] ≡ ended_lines lines ++ held → Follow 1 no_log lines log → log.events ≡ []
unfolding Follow
nothing-read [] log held whole follow = ap (λ (l : Log). l.events) follow
nothing-read (line ∷ lines) log held whole follow =
    let all : 0 ≡ length ((line ++ 10 ∷ ended_lines lines) ++ held) = ap length whole in
    let parts : length ((line ++ 10 ∷ ended_lines lines) ++ held) ≡ length (line ++ 10 ∷ ended_lines lines) + length held =
    length-append (line ++ 10 ∷ ended_lines lines) held in
    let front : length (line ++ 10 ∷ ended_lines lines) ≡ length line + length (10 ∷ ended_lines lines) = length-append line (10 ∷ ended_lines lines) in
    let more : 0 < length (10 ∷ ended_lines lines) = omega arith in absurd (omega arith)

-- no line is the front of any text
none-front : (first : Option (List ℕ)) → IfSome first (λ bytes. IsLogOfFront bytes no_log)
unfolding Follow
none-front None = tt
none-front (Some bytes) = ([], bytes, record { whole = refl; free = λ k d less. absurd (omega arith); follow = refl })

module _ (every : ℕ) (expected : Expected) (first written : Option (List ℕ)) where
  -- nothing was watched yet
  pub watched-none : (reading : Reading) → HasRead [] reading → HasWatched every expected first first written written reading 0
  watched-none reading read =
      let none : reading.log.events ≡ [] = nothing-read read.lines reading.log reading.held read.begins.whole read.begins.follow in
      let zero_times : 0 ≡ every * 0 = omega arith in record {
        text = [];
        consumed = Consumes-nil first;
        read = read;
        events = ap length none ∙ zero_times;
        said = [];
        lines = lines-none expected reading.log.events every;
        written = Appends-nil written;
      }

  -- one cut more was judged, and what was expected came of it
  watched-more : (before after source_after writer_before writer_after : Option (List ℕ)) (old new : Reading) (count : ℕ) (taken : List ℕ) (outcome : Outcome)
      → (watched : HasWatched every expected first before written writer_before old count)
      → Consumes before source_after taken → HasRead (watched.text ++ taken) new → Extends old.log new.log
      → length new.log.events ≡ every * suc count → WritesCut expected new.log.events writer_before writer_after outcome
      → (said : List ℕ) × AreCutLines expected new.log.events (multiples every (suc count)) said outcome × Appends written writer_after said
  watched-more before after source_after writer_before writer_after old new count taken outcome watched consumed read extends events cut =
      let kept : AreCutLines expected new.log.events (multiples every count) watched.said Met =
      subst (λ (es : List Event). AreCutLines expected es (multiples every count) watched.said Met) (sym extends.events.1)
      (multiples-kept expected old.log.events extends.events.0 every count watched.said Met watched.events watched.lines) in
      let said : List ℕ = watched.said ++ cut_line (length new.log.events) cut.report in
      let all : AreCutLines expected new.log.events (multiples every count ++ (length new.log.events ∷ [])) said (outcome_for expected cut.report) =
      lines-all expected new.log.events (multiples every count) watched.said cut.report kept cut.on in
      let cuts : multiples every count ++ (length new.log.events ∷ []) ≡ multiples every (suc count) =
      ap (λ n. multiples every count ++ (n ∷ [])) events ∙ sym (multiples-then every count) in (
        said,
        subst (λ (ns : List ℕ). AreCutLines expected new.log.events ns said outcome) cuts
            (subst (λ (o : Outcome). AreCutLines expected new.log.events (multiples every count ++ (length new.log.events ∷ [])) said o) (sym cut.comes) all),
        Appends-trans written writer_before writer_after watched.said (cut_line (length new.log.events) cut.report) watched.written cut.written,
      )

  pub goes-on : (before source_after writer_before writer_after : Option (List ℕ)) (old new : Reading) (count : ℕ) (taken : List ℕ) (outcome : Outcome)
      → (watched : HasWatched every expected first before written writer_before old count)
      → Consumes before source_after taken → HasRead (watched.text ++ taken) new → Extends old.log new.log
      → length new.log.events ≡ every * suc count → WritesCut expected new.log.events writer_before writer_after outcome → outcome ≡ Met
      → HasWatched every expected first source_after written writer_after new (suc count)
  goes-on before source_after writer_before writer_after old new count taken outcome watched consumed read extends events cut met =
      let more = watched-more before source_after source_after writer_before writer_after old new count taken outcome watched consumed read extends events cut in record {
        text = watched.text ++ taken;
        consumed = Consumes-trans first before source_after watched.text taken watched.consumed consumed;
        read = read;
        events = events;
        said = more.0;
        lines = subst (λ (o : Outcome). AreCutLines expected new.log.events (multiples every (suc count)) more.0 o) met more.1;
        written = more.2;
      }

  pub stops : (before source_after writer_before writer_after : Option (List ℕ)) (old new : Reading) (count : ℕ) (taken : List ℕ) (followed : Followed)
      → (watched : HasWatched every expected first before written writer_before old count)
      → Consumes before source_after taken → HasRead (watched.text ++ taken) new → Extends old.log new.log
      → length new.log.events ≡ every * suc count → WritesCut expected new.log.events writer_before writer_after followed.outcome
      → followed.outcome ≢ Met → followed.torn ≡ false → WritesCutsUpTo every expected first written writer_after followed
  stops before source_after writer_before writer_after old new count taken followed watched consumed read extends events cut early whole =
      let more = watched-more before source_after source_after writer_before writer_after old new count taken followed.outcome watched consumed read extends events cut in
      record {
        log = new.log;
        count = suc count;
        text = more.0;
        front = front-log first source_after (watched.text ++ taken) new (Consumes-trans first before source_after watched.text taken watched.consumed consumed) read;
        events = events;
        lines = more.1;
        written = more.2;
        early = early;
        whole_line = whole;
      }

  pub ends : (before source_after writer_before writer_after : Option (List ℕ)) (old new : Reading) (count : ℕ) (followed : Followed)
      → (watched : HasWatched every expected first before written writer_before old count)
      → IfSome before (λ bytes. IsLogOf (watched.text ++ bytes) new.log followed.torn) → IsAtEnd source_after → Extends old.log new.log
      → length new.log.events ≤ every * suc count → WritesLast expected new.log.events (every * count) writer_before writer_after followed.outcome
      → WatchesLog every expected first source_after written writer_after followed
  ends before source_after writer_before writer_after old new count followed watched whole end extends few (inl kept) = inl record {
    log = new.log;
    cuts = multiples every count;
    text = watched.said;
    whole = whole-log first before watched.text new.log followed.torn watched.consumed whole;
    end = end;
    are_cuts = inl (count, count-above every count kept.some, kept.all, refl);
    lines = subst (λ (o : Outcome). AreCutLines expected new.log.events (multiples every count) watched.said o) (sym kept.comes)
        (subst (λ (es : List Event). AreCutLines expected es (multiples every count) watched.said Met) (sym extends.events.1)
        (multiples-kept expected old.log.events extends.events.0 every count watched.said Met watched.events watched.lines));
    written = subst (λ (w : Option (List ℕ)). Appends written w watched.said) (sym kept.same) watched.written;
  }
  ends before source_after writer_before writer_after old new count followed watched whole end extends few (inr cut) = inl record {
    log = new.log;
    cuts = multiples every count ++ (length new.log.events ∷ []);
    text = watched.said ++ cut_line (length new.log.events) cut.1.report;
    whole = whole-log first before watched.text new.log followed.torn watched.consumed whole;
    end = end;
    are_cuts = all_cuts every count (length new.log.events) (extends-up every count old.log.events extends.events.0 new.log.events watched.events extends.events.1) few cut.0;
    lines =
        subst (λ (o : Outcome). AreCutLines expected new.log.events (multiples every count ++ (length new.log.events ∷ []))
        (watched.said ++ cut_line (length new.log.events) cut.1.report) o) (sym cut.1.comes)
        (lines-all expected new.log.events (multiples every count) watched.said cut.1.report
        (subst (λ (es : List Event). AreCutLines expected es (multiples every count) watched.said Met) (sym extends.events.1)
        (multiples-kept expected old.log.events extends.events.0 every count watched.said Met watched.events watched.lines)) cut.1.on);
    written = Appends-trans written writer_before writer_after watched.said (cut_line (length new.log.events) cut.1.report) watched.written cut.1.written;
  }

  -- what is known of a late write, and of the first line, is no part of what was watched
  pub watched-with : (source_after writer_after : Option (List ℕ)) (followed : Followed) (late : Option LateWrite) (says_order : Bool)
      → WatchesLog every expected first source_after written writer_after followed
      → WatchesLog every expected first source_after written writer_after (record { outcome = followed.outcome; torn = followed.torn; late = late; says_order = says_order })
  watched-with source_after writer_after followed late says_order (inl all) = inl record {
    log = all.log;
    cuts = all.cuts;
    text = all.text;
    whole = all.whole;
    end = all.end;
    are_cuts = all.are_cuts;
    lines = all.lines;
    written = all.written;
  }
  watched-with source_after writer_after followed late says_order (inr front) = inr record {
    log = front.log;
    count = front.count;
    text = front.text;
    front = front.front;
    events = front.events;
    lines = front.lines;
    written = front.written;
    early = front.early;
    whole_line = front.whole_line;
  }

  -- what was written stays where something fails
  pub first-cuts : (after writer_after : Option (List ℕ)) (reading : Reading) (count : ℕ)
      → HasWatched every expected first after written writer_after reading count → WritesFirstCuts every expected first written writer_after
  first-cuts after writer_after reading count watched = record {
    log = reading.log;
    count = count;
    text = watched.said;
    front = front-log first after watched.text reading watched.consumed watched.read;
    events = watched.events;
    lines = watched.lines;
    written = watched.written;
  }

  -- a line is refused before the next cut
  refused-next : (count wanted : ℕ) (es before : List Event) → length es ≡ every * count → wanted ≡ length es + every → length before < wanted
      → length before < every * suc count
  refused-next count wanted es before so_far is below = let next : every * suc count ≡ every * count + every = omega arith in omega arith

  pub refuses-late : (source_after writer_after : Option (List ℕ)) (old : Reading) (count judged wanted : ℕ) (fault : LogFault)
      → HasWatched every expected first source_after written writer_after old count → FaultsAt wanted source_after old fault
      → judged ≡ length old.log.events → wanted ≡ judged + every → RefusesLate every expected first written writer_after (error_of fault)
  refuses-late source_after writer_after old count judged wanted (Refused refusal) watched faults so_far is =
      later-refusal (λ bytes. RefusesAfterCuts every expected bytes written writer_after refusal) wanted first source_after watched.text old refusal
      watched.consumed watched.read faults
      (λ bytes (refused, extends, below). record {
        refused = refused;
        count = count;
        text = watched.said;
        judged =
            extends-up every count old.log.events extends.events.0 refused.before.events watched.events extends.events.1;
        next = refused-next count wanted old.log.events refused.before.events watched.events (is ∙ ap (λ n. n + every) so_far) below;
        lines =
            subst (λ (es : List Event). AreCutLines expected es (multiples every count) watched.said Met) (sym extends.events.1)
            (multiples-kept expected old.log.events extends.events.0 every count watched.said Met watched.events watched.lines);
        written = watched.written;
      })
  refuses-late source_after writer_after old count judged wanted Memory watched faults so_far is = tt
  refuses-late source_after writer_after old count judged wanted Read watched faults so_far is = tt

  -- nothing was read yet, and nothing was written
  pub no-cuts : WritesFirstCuts every expected first written written
  no-cuts =
      let zero_times : 0 ≡ every * 0 = omega arith in record {
        log = no_log;
        count = 0;
        text = [];
        front = none-front first;
        events = zero_times;
        lines = lines-none expected [] every;
        written = Appends-nil written;
      }

  -- ---- a turn, by what its calls ensure

  next-count : (count wanted : ℕ) (es more : List Event) → length es ≡ every * count → wanted ≡ length es + every → wanted ≤ length more
      → length more ≤ max wanted (length es) → length more ≡ every * suc count
  next-count count wanted es more so_far is enough few =
      let next : every * suc count ≡ every * count + every = omega arith in omega arith

  pub turned-more : (before source_after writer_before writer_after : Option (List ℕ)) (old new : Reading) (count judged wanted : ℕ) (es : List Event)
      (outcome : Outcome) (result : Turn) → HasWatched every expected first before written writer_before old count
      → ReadsMore before source_after old new → Extends old.log new.log → judged ≡ length old.log.events → wanted ≡ judged + every
      → wanted ≤ length new.log.events → length new.log.events ≤ max wanted (length old.log.events)
      → es ≡ new.log.events → WritesCut expected es writer_before writer_after outcome → GoesOnBy outcome result
      → IsTurn every expected first source_after written writer_after new count result
  turned-more before source_after writer_before writer_after old new count judged wanted es outcome On watched reads extends so_far is enough few same cut met =
      let more = reads watched.text watched.read in
      goes-on before source_after writer_before writer_after old new count more.0 outcome watched more.1 more.2 extends
      (next-count count wanted old.log.events new.log.events watched.events (is ∙ ap (λ n. n + every) so_far) enough few)
      (subst (λ (l : List Event). WritesCut expected l writer_before writer_after outcome) same cut) met
  turned-more before source_after writer_before writer_after old new count judged wanted es outcome (Stopped followed) watched reads extends so_far is enough few same cut stopped =
      let more = reads watched.text watched.read in
      subst (λ (f : Followed). WritesCutsUpTo every expected first written writer_after f) (sym stopped.0)
      (stops before source_after writer_before writer_after old new count more.0 (record { outcome = outcome; torn = false; late = None; says_order = false }) watched more.1 more.2 extends
      (next-count count wanted old.log.events new.log.events watched.events (is ∙ ap (λ n. n + every) so_far) enough few)
      (subst (λ (l : List Event). WritesCut expected l writer_before writer_after outcome) same cut) stopped.1 refl)
  turned-more before source_after writer_before writer_after old new count judged wanted es outcome (Ended followed) watched reads extends so_far is enough few same cut never =
      absurd never

  at-most : (count wanted : ℕ) (es more : List Event) → length es ≡ every * count → wanted ≡ length es + every
      → length more ≤ max wanted (length es) → length more ≤ every * suc count
  at-most count wanted es more so_far is few = let next : every * suc count ≡ every * count + every = omega arith in omega arith

  pub turned-end : (before source_after writer_before writer_after : Option (List ℕ)) (old new : Reading) (count judged wanted : ℕ) (es : List Event)
      (outcome : Outcome) (torn : Bool) → HasWatched every expected first before written writer_before old count
      → ReadsAll before source_after old new torn → Extends old.log new.log → judged ≡ length old.log.events → wanted ≡ judged + every
      → length new.log.events ≤ max wanted (length old.log.events)
      → es ≡ new.log.events → WritesLast expected es judged writer_before writer_after outcome
      → WatchesLog every expected first source_after written writer_after (record { outcome = outcome; torn = torn; late = None; says_order = false })
  turned-end before source_after writer_before writer_after old new count judged wanted es outcome torn watched reads extends so_far is few same last =
      ends before source_after writer_before writer_after old new count (record { outcome = outcome; torn = torn; late = None; says_order = false }) watched (reads.log watched.text watched.read)
      reads.end extends
      (at-most count wanted old.log.events new.log.events watched.events (is ∙ ap (λ n. n + every) so_far) few)
      (subst (λ (n : ℕ). WritesLast expected new.log.events n writer_before writer_after outcome) (so_far ∙ watched.events)
      (subst (λ (l : List Event). WritesLast expected l judged writer_before writer_after outcome) same last))

  -- ---- a turn whose line could not be written

  kept-lines : (old new : Reading) (count : ℕ) (said : List ℕ) → Extends old.log new.log → length old.log.events ≡ every * count
      → AreCutLines expected old.log.events (multiples every count) said Met → AreCutLines expected new.log.events (multiples every count) said Met
  kept-lines old new count said extends events lines =
      subst (λ (es : List Event). AreCutLines expected es (multiples every count) said Met) (sym extends.events.1)
      (multiples-kept expected old.log.events extends.events.0 every count said Met events lines)

  pub begun-more : (before source_after writer_before writer_after : Option (List ℕ)) (old new : Reading) (count judged wanted : ℕ) (es : List Event)
      → HasWatched every expected first before written writer_before old count
      → ReadsMore before source_after old new → Extends old.log new.log → judged ≡ length old.log.events → wanted ≡ judged + every
      → wanted ≤ length new.log.events → length new.log.events ≤ max wanted (length old.log.events)
      → es ≡ new.log.events → WritesLineFront es writer_before writer_after → WritesCutsFront every expected first written writer_after
  begun-more before source_after writer_before writer_after old new count judged wanted es watched reads extends so_far is enough few same line =
      let more = reads watched.text watched.read in record {
        log = new.log;
        count = count;
        text = watched.said;
        between = writer_before;
        next =
            inl (
              next-count count wanted old.log.events new.log.events watched.events (is ∙ ap (λ n. n + every) so_far) enough few,
              front-log first source_after (watched.text ++ more.0) new
                  (Consumes-trans first before source_after watched.text more.0 watched.consumed more.1) more.2,
            );
        lines = kept-lines old new count watched.said extends watched.events watched.lines;
        written = watched.written;
        begun = subst (λ (l : List Event). WritesLineFront l writer_before writer_after) same line;
      }

  pub begun-end : (before source_after writer_before writer_after : Option (List ℕ)) (old new : Reading) (count judged wanted : ℕ) (es : List Event)
      (torn : Bool) → HasWatched every expected first before written writer_before old count
      → ReadsAll before source_after old new torn → Extends old.log new.log → judged ≡ length old.log.events → wanted ≡ judged + every
      → length new.log.events ≤ max wanted (length old.log.events)
      → es ≡ new.log.events → BeginsLast es judged writer_before writer_after → WritesCutsFront every expected first written writer_after
  begun-end before source_after writer_before writer_after old new count judged wanted es torn watched reads extends so_far is few same last =
      let fresh : (length new.log.events ≢ every * count) ⊎ (every * count ≡ 0) =
      subst (λ (n : ℕ). (length new.log.events ≢ n) ⊎ (n ≡ 0)) (so_far ∙ watched.events)
      (subst (λ (l : List Event). (length l ≢ judged) ⊎ (judged ≡ 0)) same last.0) in record {
        log = new.log;
        count = count;
        text = watched.said;
        between = writer_before;
        next =
            inr (
              torn,
              all_cuts every count (length new.log.events)
                  (extends-up every count old.log.events extends.events.0 new.log.events watched.events extends.events.1)
                  (at-most count wanted old.log.events new.log.events watched.events (is ∙ ap (λ n. n + every) so_far) few) fresh,
              whole-log first before watched.text new.log torn watched.consumed (reads.log watched.text watched.read),
            );
        lines = kept-lines old new count watched.said extends watched.events watched.lines;
        written = watched.written;
        begun = subst (λ (l : List Event). WritesLineFront l writer_before writer_after) same last.1;
      }
