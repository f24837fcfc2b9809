-- Answers that are written in the order of the lines.
use Rattle.std.proofs.Common.{◌≡◌, ◌≢◌, ◌<◌, ℕ, Bool, true, false, length, Result, Ok, Err, List, [], ◌∷◌, ◌++◌, Option, None, Some, OnErr, IfOk, IfErr, is_some, true≢false, refl, sym, ap, subst, ◌∙◌, append_assoc, append-nil}
use Rattle.std.specs.Io.KnownBytes.{Appends}
use Rattle.std.proofs.KnownBytes.{Appends-nil, Appends-trans}
use Rattle.std.proofs.lemmas.List.Elements.{All-append, All-cons, All-nil}
use Rattle.json_lines.specs.declared.outcome.Outcome.{Outcome}
use Rattle.json_lines.specs.declared.outcome.Outcome.TheVariants.{Met}
use Rattle.json_lines.specs.declared.fault.Fault.{Fault}
use Rattle.json_lines.specs.declared.fault.Fault.TheVariants.{Memory, Read, Write}
use Rattle.json_lines.specs.WriteCalls.{AppendsFront}
use Rattle.json_lines.proofs.WriteCallLaws.{front_behind, front_whole}
use Rattle.json_lines.specs.declared.part.Part.{Part}
use Rattle.json_lines.specs.Lines.{AllAreAnswered, AnswersAs, AreAnswered, FirstAreAnswered, FirstAreBegun, FirstOf, Front, IsPartOn, Says, ended, lines_of}
use Rattle.json_lines.specs.LineHandlers.{AppendsAnswer, SaysOfLonger}
use Rattle.json_lines.specs.Outcomes.{worse}
use Rattle.json_lines.specs.Steps.{IsFree}
use Rattle.json_lines.proofs.AnswerLaws.{answered-both, answered-none, answered-one, front-start}
use Rattle.json_line_workers.specs.declared.place.Place.{Place}
use Rattle.json_line_workers.specs.Places.{IsDone, IsEnd, IsFiled, IsLong, IsOutlet, IsPartOf, IsPiece, Serves, Spans, start}
use Rattle.json_line_workers.proofs.PlaceLaws.{lines-free, lines-text, spans-front, spans-more, spans-none, text_of}

module _ (says : Says) (input before : Option (List ℕ)) where
  pub filed-none : (now : Option (List ℕ)) → now ≡ before → IsFiled says input before now start Met
  filed-none now same = record {
    lines = [];
    text = [];
    free = All-nil IsFree;
    spans = spans-none input start;
    answered = answered-none says;
    written = subst (λ (w : Option (List ℕ)). Appends before w []) (sym same) (Appends-nil before);
  }

  pub filed-more : (w x : Option (List ℕ)) (a b : Place) (part : Part) (one other : Outcome) → IsFiled says input before w a one → IsDone says input a b part
      → part.outcome ≡ Ok other → Appends w x part.text.items → IsFiled says input before x b (worse one other)
  filed-more w x a b part one other filed done ok written =
      let made : AreAnswered says done.lines part.text.items other = subst (λ (r : Result Outcome Fault). AnswersAs says done.lines r part.text.items) ok done.made in
      record {
        lines = filed.lines ++ done.lines;
        text = filed.text ++ part.text.items;
        free = All-append IsFree filed.lines done.lines filed.free done.free;
        spans = spans-more input start a b filed.lines done.lines filed.spans done.spans;
        answered = answered-both says filed.lines done.lines filed.text part.text.items one other filed.answered made;
        written = Appends-trans before w x filed.text part.text.items filed.written written;
      }

  pub first-filed : (w : Option (List ℕ)) (a : Place) (one : Outcome) → IsFiled says input before w a one → FirstAreAnswered says input before w
  first-filed w a one filed = record {
    lines = filed.lines;
    text = filed.text;
    outcome = one;
    first = spans-front input a filed.lines filed.lines [] (sym (append-nil filed.lines)) filed.spans;
    answered = filed.answered;
    written = filed.written;
  }

  pub first-part : (w x : Option (List ℕ)) (a b : Place) (part : Part) (one : Outcome) (fault : Fault) → IsFiled says input before w a one → IsDone says input a b part
      → part.outcome ≡ Err fault → Appends w x part.text.items → FirstAreAnswered says input before x
  first-part w x a b part one fault filed done err written =
      let made_as : AnswersAs says done.lines (Err fault) part.text.items = subst (λ (r : Result Outcome Fault). AnswersAs says done.lines r part.text.items) err done.made in
      let made : FirstOf says done.lines part.text.items = made_as.1 in
      let front : Front says done.lines made.0 part.text.items made.1 = made.2 in
      record {
        lines = filed.lines ++ front.lines;
        text = filed.text ++ part.text.items;
        outcome = worse one made.1;
        first = spans-front input b (filed.lines ++ done.lines) (filed.lines ++ front.lines) made.0
            (ap (λ ls. filed.lines ++ ls) front.split ∙ sym (append_assoc filed.lines front.lines made.0))
            (spans-more input start a b filed.lines done.lines filed.spans done.spans);
        answered = answered-both says filed.lines front.lines filed.text part.text.items one made.1 filed.answered front.answered;
        written = Appends-trans before w x filed.text part.text.items filed.written written;
      }

  -- a beginning of some answers, behind those that are filed
  pub begun-first : (w : Option (List ℕ)) → FirstAreAnswered says input before w → FirstAreBegun says input before w
  begun-first w answered = record {
    lines = answered.lines;
    text = answered.text;
    outcome = answered.outcome;
    first = answered.first;
    answered = answered.answered;
    begun = front_whole before w answered.text answered.written;
  }

  begun-lines : (w x : Option (List ℕ)) (a b : Place) (all lines rest : List (List ℕ)) (text : List ℕ) (one other : Outcome) → IsFiled says input before w a one
      → Spans input a b all → all ≡ lines ++ rest → AreAnswered says lines text other → AppendsFront w x text → FirstAreBegun says input before x
  begun-lines w x a b all lines rest text one other filed spans split answered front = record {
    lines = filed.lines ++ lines;
    text = filed.text ++ text;
    outcome = worse one other;
    first = spans-front input b (filed.lines ++ all) (filed.lines ++ lines) rest
        (ap (λ ls. filed.lines ++ ls) split ∙ sym (append_assoc filed.lines lines rest))
        (spans-more input start a b filed.lines all filed.spans spans);
    answered = answered-both says filed.lines lines filed.text text one other filed.answered answered;
    begun = front_behind before w x filed.text text filed.written front;
  }

  begun-as : (w x : Option (List ℕ)) (a b : Place) (lines : List (List ℕ)) (r : Result Outcome Fault) (text : List ℕ) (one : Outcome) → IsFiled says input before w a one
      → Spans input a b lines → AnswersAs says lines r text → AppendsFront w x text → FirstAreBegun says input before x
  begun-as w x a b lines (Ok other) text one filed spans answered front =
      begun-lines w x a b lines lines [] text one other filed spans (sym (append-nil lines)) answered front
  begun-as w x a b lines (Err fault) text one filed spans (memory, (rest, other, made)) front =
      begun-lines w x a b lines made.lines rest text one other filed spans made.split made.answered front

  pub begun-part : (w x : Option (List ℕ)) (a b : Place) (part : Part) (one : Outcome) → IsFiled says input before w a one → IsDone says input a b part
      → AppendsFront w x part.text.items → FirstAreBegun says input before x
  begun-part w x a b part one filed done front = begun-as w x a b done.lines part.outcome part.text.items one filed done.spans done.made front

  pub part-fault : (a b : Place) (part : Part) (fault : Fault) → IsDone says input a b part → part.outcome ≡ Err fault → fault ≡ Memory
  part-fault a b part fault done err =
      let made_as : AnswersAs says done.lines (Err fault) part.text.items = subst (λ (r : Result Outcome Fault). AnswersAs says done.lines r part.text.items) err done.made in
      made_as.0

pub all-filed : (says : Says) (input before now : Option (List ℕ)) (until : Place) (outcome : Outcome) → IsFiled says input before now until outcome → IsEnd input until
    → AllAreAnswered says input before now outcome
all-filed says None before now until outcome filed end = record {
  input = text_of filed.lines;
  text = filed.text;
  whole = tt;
  answered = subst (λ (ls : List (List ℕ)). AreAnswered says ls filed.text outcome) (sym (lines-text filed.lines filed.free)) filed.answered;
  written = filed.written;
}
all-filed says (Some all) before now until outcome filed end = record {
  input = all;
  text = filed.text;
  whole = refl;
  answered = subst (λ (ls : List (List ℕ)). AreAnswered says ls filed.text outcome)
      (sym (filed.spans ∙ ap (λ ls. filed.lines ++ ls) end ∙ append-nil filed.lines)) filed.answered;
  written = filed.written;
}

-- ---- what is made for one who says no more

module _ (says more : Says) (goes : (line text : List ℕ) (outcome : Outcome) → says line text outcome → more line text outcome) where
  answered-as : (lines : List (List ℕ)) (text : List ℕ) (outcome : Outcome) → AreAnswered says lines text outcome → AreAnswered more lines text outcome
  unfolding AreAnswered
  answered-as [] text outcome is = is
  answered-as (line ∷ lines) text outcome (front, others, one, rest, said, later, text_is, outcome_is) =
      (front, others, one, rest, goes line front one said, answered-as lines others rest later, text_is, outcome_is)

  made-as : (lines : List (List ℕ)) (result : Result Outcome Fault) (text : List ℕ) → AnswersAs says lines result text → AnswersAs more lines result text
  made-as lines (Ok outcome) text is = answered-as lines text outcome is
  made-as lines (Err fault) text (memory, (rest, outcome, front)) =
      let first : FirstOf more lines text = (
        rest,
        outcome,
        record { lines = front.lines; split = front.split; answered = answered-as front.lines text outcome front.answered },
      ) in
      (memory, first)

  pub done-lines : (input : Option (List ℕ)) (a b : Place) (bytes : List ℕ) (part : Part) → Spans input a b (lines_of bytes) → IsPartOn says (lines_of bytes) part → IsDone more input a b part
  done-lines input a b bytes part spans made = record {
    lines = lines_of bytes;
    free = lines-free bytes;
    spans = spans;
    made = made-as (lines_of bytes) part.outcome part.text.items made;
  }

  pub done-long : (input : Option (List ℕ)) (most : ℕ) (a b : Place) (part : Part) (long : IsLong input most a b) → IsPartOn says (long.line ∷ []) part → IsDone more input a b part
  done-long input most a b part long made = record {
    lines = long.line ∷ [];
    free = All-cons IsFree long.line [] long.free (All-nil IsFree);
    spans = long.spans;
    made = made-as (long.line ∷ []) part.outcome part.text.items made;
  }

pub done-piece : (says more : Says) (most more_most : ℕ) (input : Option (List ℕ)) (a b : Place) (long : Bool) (bytes : List ℕ) (part : Part) → Serves says most more more_most
    → IsPiece input more_most a b long bytes → IsPartOf says most long bytes part → IsDone more input a b part
done-piece says more most more_most input a b true bytes part serves long made =
    done-long says more serves.0 input more_most a b part long (made long.line (subst (λ (n : ℕ). n < length long.line) serves.1 long.long))
done-piece says more most more_most input a b false bytes part serves spans made = done-lines says more serves.0 input a b bytes part spans made

pub part-long : (says : Says) (most : ℕ) (result : Result Outcome Fault) (before text : List ℕ) → before ≡ []
    → IfOk result (AppendsAnswer (SaysOfLonger says most) before text) → OnErr result (text ≡ before) → IfErr result (λ e. e ≡ Memory) → (line : List ℕ) → most < length line
    → AnswersAs says (line ∷ []) result text
part-long says most (Ok outcome) before text none (said, said_of, is) unchanged error line long =
    subst (λ (t : List ℕ). AreAnswered says (line ∷ []) t outcome) (sym (is ∙ ap (λ b. b ++ ended said) none)) (answered-one says line said outcome (said_of line long))
part-long says most (Err fault) before text none answered unchanged error line long =
    (error, subst (λ (t : List ℕ). FirstOf says (line ∷ []) t) (sym (unchanged ∙ none)) (line ∷ [], Met, front-start says (line ∷ [])))

pub first-none : (says : Says) (input before : Option (List ℕ)) → FirstAreAnswered says input before before
first-none says input before = first-filed says input before before start Met (filed-none says input before before refl)

none-read : (o : Option Fault) → o ≡ None → o ≢ Some Read
none-read o none is = true≢false (sym (ap is_some (sym none ∙ is)))

pub outlet-filed : (says : Says) (input before now : Option (List ℕ)) (until : Place) (outcome : Outcome) → IsFiled says input before now until outcome
    → IsOutlet says input before now until outcome None
outlet-filed says input before now until outcome filed =
    let first = first-filed says input before now until outcome filed in
    record { filed = λ _. filed; first = λ _. first; begun = begun-first says input before now first; unread = none-read None refl }

memory-other : (fault : Fault) → fault ≡ Memory → (Some fault ≢ Some Read) × (Some fault ≢ Some Write)
memory-other fault is = subst (λ (f : Fault). (Some f ≢ Some Read) × (Some f ≢ Some Write)) (sym is) ((λ no. absurd cc), (λ no. absurd cc))

pub outlet-first : (says : Says) (input before now : Option (List ℕ)) (until : Place) (outcome : Outcome) (fault : Fault) → fault ≡ Memory → FirstAreAnswered says input before now
    → IsOutlet says input before now until outcome (Some fault)
outlet-first says input before now until outcome fault memory first = record {
  filed = λ is. absurd (true≢false (ap is_some is));
  first = λ _. first;
  begun = begun-first says input before now first;
  unread = (memory-other fault memory).0;
}

-- memory ran out after what was filed, or the writer failed while what comes next was written
pub outlet-memory : (says : Says) (input before now : Option (List ℕ)) (until : Place) (outcome : Outcome) (fault : Option Fault) → fault ≡ None
    → IsOutlet says input before now until outcome fault → IsOutlet says input before now until outcome (Some Memory)
outlet-memory says input before now until outcome fault none is =
    outlet-first says input before now until outcome Memory refl (first-filed says input before now until outcome (is.filed none))

pub outlet-write : (says : Says) (input before now : Option (List ℕ)) (until : Place) (outcome : Outcome) → FirstAreBegun says input before now
    → IsOutlet says input before now until outcome (Some Write)
outlet-write says input before now until outcome begun = record {
  filed = λ is. absurd (true≢false (ap is_some is));
  first = λ other. absurd (other refl);
  begun = begun;
  unread = λ no. absurd cc;
}

pub memory-written : (fault : Fault) → fault ≡ Memory → Some fault ≢ Some Write
memory-written fault is = (memory-other fault is).1
