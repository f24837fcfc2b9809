-- What is noticed byte by byte is what the lines of the input have.
use Rattle.std.specs.Prelude.{◌≡◌, ◌≢◌, ◌==◌, ◌++◌, ℕ, zero, suc, List, [], ◌∷◌, Bool, true, false, Option, Some, None, Result, Ok, Err, OnOk, fold, if◌then◌else◌, refl}
use Rattle.std.specs.Io.KnownBytes.{Appends, IsAtEnd}
use Rattle.std.proofs.Common.{ap, append-nil, append_assoc, arith, inl, inr, subst, sym, ◌∙◌}
use Rattle.std.proofs.lemmas.List.Elements.{All-append, All-cons, All-nil}
use Rattle.std.proofs.lemmas.List.Sums.{fold-append}
use Rattle.app_orders.specs.declared.line_judging.BlankLines.{BlankLines}
use Rattle.json_lines.specs.Lines.{lines_of}
use Rattle.json_lines.specs.ReadCalls.{CallOutcome, Calls, EndsBy, GoOn, IsEnd, ReadsOn}
use Rattle.json_lines.specs.Steps.{IsFree}
use Rattle.json_lines.proofs.LineLaws.{first_line, last_line, lines_of-nil}
use Rattle.app_process.specs.declared.noticing.LineSoFar.{LineSoFar}
use Rattle.app_process.specs.declared.noticing.Noticed.{Noticed}
use Rattle.app_process.specs.LineRemarks.{SaysLineRemarks, blank_remark, breaks_off, broken_remark, first_such, is_refused_blank, line_remarks, line_seen, no_bytes, one_more, seen}
use Rattle.app_process.specs.Faults.{ReadingFails}
use Rattle.app_process.specs.Saying.{Known, SaysSome, said_lines}
use Rattle.app_process.specs.Steps.Noticing.{HasNoticed, Notices, SaysNoticed, all_ended, line_ended, nothing, noticed_byte, or_this, remarks_in}
use Rattle.app_process.proofs.SaidLaws as laws

-- the first of some lines that is so, where one was found before or not
abbrev first_in : (LineSoFar → Bool) → Option ℕ → ℕ → List (List ℕ) → Option ℕ
first_in is_so found before [] = found
first_in is_so found before (line ∷ lines) = first_in is_so (or_this found (is_so (line_seen line)) (one_more before)) (one_more before) lines

first_found : (is_so : LineSoFar → Bool) (line before : ℕ) (lines : List (List ℕ)) → first_in is_so (Some line) before lines ≡ Some line
first_found is_so line before [] = refl
first_found is_so line before (one ∷ lines) = first_found is_so line (one_more before) lines

first_next : (is_so : LineSoFar → Bool) (so : Bool) (before : ℕ) (lines : List (List ℕ))
    → first_in is_so None (one_more before) lines ≡ first_such is_so (one_more before) lines
    → first_in is_so (or_this None so (one_more before)) (one_more before) lines
    ≡ (if so then Some (one_more before) else first_such is_so (one_more before) lines)
first_next is_so true before lines further = first_found is_so (one_more before) (one_more before) lines
first_next is_so false before lines further = further

first_is : (is_so : LineSoFar → Bool) (before : ℕ) (lines : List (List ℕ)) → first_in is_so None before lines ≡ first_such is_so before lines
first_is is_so before [] = refl
first_is is_so before (line ∷ lines) = first_next is_so (is_so (line_seen line)) before lines (first_is is_so (one_more before) lines)

-- a byte begins a line, and no further one ends that
begun_by : (in_text : Bool) (line : LineSoFar) (b : ℕ) → line.is_in_text ≡ in_text → (seen line b).is_begun ≡ true
begun_by true line b is = grind (arith)
begun_by false line b is = grind (arith)

begun_still : (bytes : List ℕ) (line : LineSoFar) → line.is_begun ≡ true → (fold seen line bytes).is_begun ≡ true
begun_still [] line is = is
begun_still (b ∷ bytes) line is = begun_still bytes (seen line b) (begun_by line.is_in_text line b refl)

begun : (b : ℕ) (front : List ℕ) → (line_seen (b ∷ front)).is_begun ≡ true
begun b front = begun_still front (seen no_bytes b) (begun_by false no_bytes b refl)

-- what is known of a state and of the bytes of its line, and the lines that follow
record IsAt (noticed : Noticed) (front : List ℕ) : Type 0 where
  pub free : IsFree front
  pub line : noticed.line ≡ line_seen front

record AreFirst (noticed : Noticed) (lines : List (List ℕ)) (last : Noticed) : Type 0 where
  pub blank : last.first_blank ≡ first_in (is_refused_blank noticed.blank) noticed.first_blank noticed.ended lines
  pub broken : last.first_broken ≡ first_in breaks_off noticed.first_broken noticed.ended lines

-- the end of the input
at_end : (noticed : Noticed) (front : List ℕ) → IsAt noticed front → AreFirst noticed (lines_of front) (all_ended noticed)
at_end noticed [] at =
    let same : all_ended noticed ≡ noticed = ap (λ (line : LineSoFar). if line.is_begun then line_ended noticed noticed.line else noticed) at.line in
    let P : List (List ℕ) → Type 0 = λ lines. AreFirst noticed lines (all_ended noticed) in
    subst P (sym lines_of-nil) (record { blank = ap (λ (n : Noticed). n.first_blank) same; broken = ap (λ (n : Noticed). n.first_broken) same })
at_end noticed (b ∷ front) at =
    let is_begun : noticed.line.is_begun ≡ true = ap (λ (line : LineSoFar). line.is_begun) at.line ∙ begun b front in
    let ended : all_ended noticed ≡ line_ended noticed noticed.line = ap (λ begun. if begun then line_ended noticed noticed.line else noticed) is_begun in
    let whole : all_ended noticed ≡ line_ended noticed (line_seen (b ∷ front)) = ended ∙ ap (line_ended noticed) at.line in
    let P : List (List ℕ) → Type 0 = λ lines. AreFirst noticed lines (all_ended noticed) in
    subst P (sym (last_line b front at.free))
    (record { blank = ap (λ (n : Noticed). n.first_blank) whole; broken = ap (λ (n : Noticed). n.first_broken) whole })

-- a line feed
abbrev after_feed : Noticed → Noticed
after_feed noticed = record (line_ended noticed noticed.line) { line = no_bytes }

fed : (noticed last : Noticed) (front bytes : List ℕ) → IsAt noticed front → AreFirst (after_feed noticed) (lines_of bytes) last
    → AreFirst noticed (lines_of (front ++ 10 ∷ bytes)) last
fed noticed last front bytes at further =
    let P : List (List ℕ) → Type 0 = λ lines. AreFirst noticed lines last in
    let Blank : LineSoFar → Type 0 = λ line. last.first_blank ≡ first_in (is_refused_blank noticed.blank)
    (or_this noticed.first_blank (is_refused_blank noticed.blank line) (one_more noticed.ended)) (one_more noticed.ended) (lines_of bytes) in
    let Broken : LineSoFar → Type 0 = λ line. last.first_broken ≡ first_in breaks_off
    (or_this noticed.first_broken (breaks_off line) (one_more noticed.ended)) (one_more noticed.ended) (lines_of bytes) in
    subst P (sym (first_line front bytes at.free))
    (record { blank = subst Blank at.line further.blank; broken = subst Broken at.line further.broken })

-- another byte
one_byte_more : (noticed : Noticed) (front : List ℕ) (b : ℕ) → b ≢ 10 → IsAt noticed front
    → IsAt (record noticed { line = seen noticed.line b }) (front ++ b ∷ [])
one_byte_more noticed front b other at = record {
  free = All-append (λ c. c ≢ 10) front (b ∷ []) at.free (All-cons (λ c. c ≢ 10) b [] other (All-nil (λ c. c ≢ 10)));
  line = ap (λ (line : LineSoFar). seen line b) at.line ∙ sym (fold-append seen no_bytes front (b ∷ []));
}

-- what follows from some bytes on, whatever the line before them has
abbrev Follows : List ℕ → Type 0
Follows bytes = (front : List ℕ) (noticed : Noticed) → IsAt noticed front
    → AreFirst noticed (lines_of (front ++ bytes)) (all_ended (fold noticed_byte noticed bytes))

noticed_next : (b : ℕ) (bytes front : List ℕ) (noticed : Noticed) (feed : Bool) → (b == 10) ≡ feed → Follows bytes → IsAt noticed front
    → AreFirst noticed (lines_of (front ++ b ∷ bytes)) (all_ended (fold noticed_byte (noticed_byte noticed b) bytes))
noticed_next b bytes front noticed true feed follows at =
    let is_feed : b ≡ 10 = grind arith in
    let next : noticed_byte noticed b ≡ after_feed noticed =
    ap (λ (x : Bool). if x then after_feed noticed else record noticed { line = seen noticed.line b }) feed in
    let P : ℕ → Type 0 = λ c. AreFirst noticed (lines_of (front ++ c ∷ bytes)) (all_ended (fold noticed_byte (noticed_byte noticed b) bytes)) in
    let Q : Noticed → Type 0 = λ n. AreFirst noticed (lines_of (front ++ 10 ∷ bytes)) (all_ended (fold noticed_byte n bytes)) in
    let further = follows [] (after_feed noticed) (record { free = All-nil (λ c. c ≢ 10); line = refl }) in
    subst P (sym is_feed) (subst Q (sym next) (fed noticed (all_ended (fold noticed_byte (after_feed noticed) bytes)) front bytes at further))
noticed_next b bytes front noticed false feed follows at =
    let other : b ≢ 10 = λ is. let bad : true ≡ false = grind arith in cc in
    let after : Noticed = record noticed { line = seen noticed.line b } in
    let next : noticed_byte noticed b ≡ after = ap (λ (x : Bool). if x then after_feed noticed else after) feed in
    let P : List ℕ → Type 0 = λ all. AreFirst noticed (lines_of all) (all_ended (fold noticed_byte after bytes)) in
    let Q : Noticed → Type 0 = λ n. AreFirst noticed (lines_of (front ++ b ∷ bytes)) (all_ended (fold noticed_byte n bytes)) in
    let further = follows (front ++ b ∷ []) after (one_byte_more noticed front b other at) in
    subst Q (sym next) (subst P (append_assoc front (b ∷ []) bytes) (record { blank = further.blank; broken = further.broken }))

noticed_from : (bytes : List ℕ) → Follows bytes
noticed_from [] front noticed at =
    let P : List ℕ → Type 0 = λ bytes. AreFirst noticed (lines_of bytes) (all_ended noticed) in
    subst P (sym (append-nil front)) (at_end noticed front at)
noticed_from (b ∷ bytes) front noticed at = noticed_next b bytes front noticed (b == 10) refl (noticed_from bytes) at

-- of a whole input
pub noticed_all : (blank : BlankLines) (bytes : List ℕ)
    → remarks_in (all_ended (fold noticed_byte (nothing blank) bytes)) ≡ line_remarks blank bytes
noticed_all blank bytes =
    let found = noticed_from bytes [] (nothing blank) (record { free = All-nil (λ c. c ≢ 10); line = refl }) in
    let last = all_ended (fold noticed_byte (nothing blank) bytes) in
    let is_blank = found.blank ∙ first_is (is_refused_blank blank) 0 (lines_of bytes) in
    let is_broken = found.broken ∙ first_is breaks_off 0 (lines_of bytes) in
    ap (λ line. blank_remark line ++ broken_remark last.first_broken) is_blank
    ∙ ap (λ line. blank_remark (first_such (is_refused_blank blank) 0 (lines_of bytes)) ++ broken_remark line) is_broken

-- some bytes after others
notices_none : (known : Known) (noticed : Noticed) → Notices known known noticed noticed
notices_none None noticed = ([], tt, refl)
notices_none (Some bytes) noticed = ([], refl, refl)

notices_both : (a b c : Known) (one two three : Noticed) → Notices a b one two → Notices b c two three → Notices a c one three
notices_both None b c one two three (x, first, is_two) (y, second, is_three) =
    (x ++ y, tt, is_three ∙ (ap (λ n. fold noticed_byte n y) is_two ∙ sym (fold-append noticed_byte one x y)))
notices_both (Some xs) None c one two three (x, first, is_two) (y, second, is_three) = absurd first
notices_both (Some xs) (Some ys) None one two three (x, first, is_two) (y, second, is_three) = absurd second
notices_both (Some xs) (Some ys) (Some zs) one two three (x, first, is_two) (y, second, is_three) = (
  x ++ y,
  first ∙ (ap (λ l. x ++ l) second ∙ sym (append_assoc x y zs)),
  is_three ∙ (ap (λ n. fold noticed_byte n y) is_two ∙ sym (fold-append noticed_byte one x y)),
)

-- a reader that notices what each of its calls gives has noticed all of its bytes at its end
module _ {S : Type 0} (inner : S → CallOutcome → S → Type 0) (remaining : S → Known) (noticed : S → Noticed) where
  abbrev Called : S → CallOutcome → S → Type 0
  Called old outcome new = Notices (remaining old) (remaining new) (noticed old) (noticed new) × inner old outcome new

  not_noticing_calls : (n : ℕ) (old new : S) → Calls Called n old new → Calls inner n old new
  unfolding Calls
  not_noticing_calls zero old new same = same
  not_noticing_calls (suc n) old new (between, first, (outcome, call)) = (between, not_noticing_calls n old between first, (outcome, call.1))

  pub not_noticing : (ahead : ℕ) → ReadingFails ahead Called → ReadingFails ahead inner
  not_noticing ahead (inl (old, new, outcome, fails, call)) = inl (old, new, outcome, fails, call.1)
  not_noticing ahead (inr (old, new, calls, many, all)) = inr (old, new, calls, many, not_noticing_calls calls old new all)

  noticed_on : (n : ℕ) (old new : S) → GoOn Called n old new → Notices (remaining old) (remaining new) (noticed old) (noticed new)
  unfolding GoOn
  noticed_on zero old new same =
      subst (λ (s : S). Notices (remaining old) (remaining s) (noticed old) (noticed s)) same (notices_none (remaining old) (noticed old))
  noticed_on (suc n) old new (between, outcome, first, goes, last) =
      notices_both (remaining old) (remaining between) (remaining new) (noticed old) (noticed between) (noticed new)
      (noticed_on n old between first) last.0

  pub noticed_to_end : (most : ℕ) (old new : S) (bytes : List ℕ) → ReadsOn Called (EndsBy Called most IsEnd) old new → IsAtEnd (remaining new)
      → remaining old ≡ Some bytes → noticed new ≡ fold noticed_byte (noticed old) bytes
  noticed_to_end most old new bytes (n, between, first, (m, last, outcome, few, second, is_end, call)) at_end is_known =
      let to_last = notices_both (remaining old) (remaining between) (remaining last) (noticed old) (noticed between) (noticed last)
      (noticed_on n old between first) (noticed_on m between last second) in
      let whole = notices_both (remaining old) (remaining last) (remaining new) (noticed old) (noticed last) (noticed new) to_last call.0 in
      let P : Known → Type 0 = λ k. Notices k (remaining new) (noticed old) (noticed new) in
      all_given (remaining new) bytes (noticed old) (noticed new) (subst P is_known whole) at_end
    where
      all_given : (after : Known) (bytes : List ℕ) (a b : Noticed) → Notices (Some bytes) after a b → IsAtEnd after → b ≡ fold noticed_byte a bytes
      all_given None bytes a b (given, consumed, is) at_end = absurd consumed
      all_given (Some rest) bytes a b (given, consumed, is) at_end =
          let all : bytes ≡ given = consumed ∙ (ap (λ r. given ++ r) at_end ∙ append-nil given) in
          is ∙ ap (fold noticed_byte a) (sym all)

  pub noticed_where_ok : {T E : Type 0} (outcome : Result T E) (most : ℕ) (old new : S) → OnOk outcome (IsAtEnd (remaining new))
      → OnOk outcome (ReadsOn Called (EndsBy Called most IsEnd) old new)
      → OnOk outcome (HasNoticed (noticed old) (remaining old) (noticed new))
  noticed_where_ok (Ok value) most old new at_end reads = λ bytes is_known. noticed_to_end most old new bytes reads at_end is_known
  noticed_where_ok (Err error) most old new at_end reads = tt

-- what is said of what was noticed is said of the lines
says_of : (label : Option (List ℕ)) (blank : BlankLines) (input before after : Known) (noticed : Noticed) → HasNoticed (nothing blank) input noticed
    → SaysNoticed label noticed before after → SaysLineRemarks label blank input before after
says_of label blank None before after noticed whole (inl same) =
    let P : Known → Type 0 = λ k. SaysSome before k in subst P (sym same) ([], laws.appends_nothing before)
says_of label blank None before after noticed whole (inr said) = (said_lines label (remarks_in (all_ended noticed)), said)
says_of label blank (Some bytes) before after noticed whole (inl same) = inl same
says_of label blank (Some bytes) before after noticed whole (inr said) =
    let is_all = ap (λ (n : Noticed). remarks_in (all_ended n)) (whole bytes refl) ∙ noticed_all blank bytes in
    inr (subst (λ text. Appends before after (said_lines label text)) is_all said)

pub noticed_is_said : (label : Option (List ℕ)) (blank : BlankLines) (inner input before after : Known) (start noticed : Noticed) → start ≡ nothing blank
    → inner ≡ input → HasNoticed start inner noticed → SaysNoticed label noticed before after → SaysLineRemarks label blank input before after
noticed_is_said label blank inner input before after start noticed is_start is_input whole said =
    let P : Noticed → Type 0 = λ n. HasNoticed n inner noticed in
    let Q : Known → Type 0 = λ k. HasNoticed (nothing blank) k noticed in
    says_of label blank input before after noticed (subst Q is_input (subst P is_start whole)) said
