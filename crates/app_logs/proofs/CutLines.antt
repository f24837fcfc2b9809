-- Lines on cuts of a log, as the log grows and one cut more is judged.
use Rattle.std.proofs.Common.{◌≡◌, ◌<◌, ◌≤◌, ◌*◌, ℕ, zero, suc, List, [], ◌∷◌, ◌++◌, length, take, inl, inr, refl, sym, ap, subst, ◌∙◌, append_assoc, append-nil, arith, true}
use Rattle.std.proofs.lemmas.List.{take-append-le, take_all}
use Rattle.app_orders.specs.declared.expected.Expected.{Expected}
use Rattle.json_lines.specs.declared.outcome.Outcome.{Outcome}
use Rattle.json_lines.specs.declared.outcome.Outcome.TheVariants.{Met, Unknown, Excluded, Refused}
use Rattle.json_lines.specs.Outcomes.{worse}
use Rattle.json_lines.proofs.AnswerLaws.{worse-met}
use Rattle.log_events.specs.declared.event.Event.{Event}
use Rattle.app_findings.specs.declared.finding.Findings.{Findings}
use Rattle.app_engine.specs.Expecting.{outcome_for}
use Rattle.app_logs.specs.Reports.{AreCutLines, IsReportOn, cut_line, multiples}

-- where events were judged, a cut was
pub count-above : (every count : ℕ) → 0 < every * count → 0 < count
count-above every zero some = absurd (omega arith)
count-above every (suc count) some = omega arith

-- the numbers are at most this one
abbrev AllUpTo : ℕ → List ℕ → Type 0
AllUpTo n [] = Unit {0}
AllUpTo n (k ∷ ks) = (k ≤ n) × AllUpTo n ks

up_to-append : (n : ℕ) (ks ls : List ℕ) → AllUpTo n ks → AllUpTo n ls → AllUpTo n (ks ++ ls)
up_to-append n [] ls first second = second
up_to-append n (k ∷ ks) ls first second = (first.0, up_to-append n ks ls first.1 second)

up_to-more : (n m : ℕ) (ks : List ℕ) → n ≤ m → AllUpTo n ks → AllUpTo m ks
up_to-more n m [] more all = tt
up_to-more n m (k ∷ ks) more all = (omega arith, up_to-more n m ks more all.1)

multiples-up_to : (every k : ℕ) → AllUpTo (every * k) (multiples every k)
unfolding multiples
multiples-up_to every zero = tt
multiples-up_to every (suc k) =
    up_to-append (every * suc k) (multiples every k) (every * suc k ∷ [])
    (up_to-more (every * k) (every * suc k) (multiples every k) (omega arith) (multiples-up_to every k)) (omega arith, tt)

-- lines on cuts stay lines on cuts of the same events with more after them
lines-kept : (expected : Expected) (es more : List Event) (ns text : List ℕ) (outcome : Outcome) → AllUpTo (length es) ns
    → AreCutLines expected es ns text outcome → AreCutLines expected (es ++ more) ns text outcome
unfolding AreCutLines
lines-kept expected es more [] text outcome within are = are
lines-kept expected es more (n ∷ ns) text outcome within are =
    let (report, others, later, on, rest, is, comes, last) = are in (
      report,
      others,
      later,
      subst (λ (front : List Event). IsReportOn true front report) (sym (take-append-le n es more within.0)) on,
      lines-kept expected es more ns others later within.1 rest,
      is,
      comes,
      last,
    )

pub multiples-kept : (expected : Expected) (es more : List Event) (every k : ℕ) (text : List ℕ) (outcome : Outcome) → length es ≡ every * k
    → AreCutLines expected es (multiples every k) text outcome → AreCutLines expected (es ++ more) (multiples every k) text outcome
multiples-kept expected es more every k text outcome count are =
    lines-kept expected es more (multiples every k) text outcome (subst (λ (n : ℕ). AllUpTo n (multiples every k)) (sym count) (multiples-up_to every k)) are

-- where something worse is met, both are
first-met : (a b : Outcome) → Met ≡ worse a b → a ≡ Met
first-met Met b both = refl
first-met Unknown Met both = absurd (cc)
first-met Unknown Unknown both = absurd (cc)
first-met Unknown Excluded both = absurd (cc)
first-met Unknown Refused both = absurd (cc)
first-met Excluded Met both = absurd (cc)
first-met Excluded Unknown both = absurd (cc)
first-met Excluded Excluded both = absurd (cc)
first-met Excluded Refused both = absurd (cc)
first-met Refused b both = absurd (cc)

second-met : (a b : Outcome) → Met ≡ worse a b → b ≡ Met
second-met a b both = let first : a ≡ Met = first-met a b both in sym (both ∙ ap (λ o. worse o b) first)

-- one line more
pub lines-then : (expected : Expected) (es : List Event) (ns : List ℕ) (text : List ℕ) (n : ℕ) (report : Findings)
    → AreCutLines expected es ns text Met → IsReportOn true (take n es) report
    → AreCutLines expected es (ns ++ (n ∷ [])) (text ++ cut_line n report) (outcome_for expected report)
unfolding AreCutLines
lines-then expected es [] text n report are on = (
  report,
  [],
  Met,
  on,
  (refl, refl),
  ap (λ t. t ++ cut_line n report) are.0 ∙ sym (append-nil (cut_line n report)),
  sym (worse-met (outcome_for expected report)),
  inl refl,
)
lines-then expected es (m ∷ ns) text n report are on =
    let (first, others, later, first_on, rest, is, comes, last) = are in
    let none : later ≡ Met = second-met (outcome_for expected first) later comes in
    let met : outcome_for expected first ≡ Met = first-met (outcome_for expected first) later comes in (
      first,
      others ++ cut_line n report,
      outcome_for expected report,
      first_on,
      lines-then expected es ns others n report (subst (λ (o : Outcome). AreCutLines expected es ns others o) none rest) on,
      ap (λ t. t ++ cut_line n report) is ∙ append_assoc (cut_line m first) others (cut_line n report),
      sym (ap (λ o. worse o (outcome_for expected report)) met),
      inr met,
    )

-- no line yet
pub lines-none : (expected : Expected) (es : List Event) (every : ℕ) → AreCutLines expected es (multiples every 0) [] Met
unfolding AreCutLines multiples
lines-none expected es every = (refl, refl)

-- the line on all events is one cut more
pub lines-all : (expected : Expected) (es : List Event) (ns : List ℕ) (text : List ℕ) (report : Findings)
    → AreCutLines expected es ns text Met → IsReportOn true es report
    → AreCutLines expected es (ns ++ (length es ∷ [])) (text ++ cut_line (length es) report) (outcome_for expected report)
lines-all expected es ns text report are on =
    lines-then expected es ns text (length es) report are (subst (λ (l : List Event). IsReportOn true l report) (sym (take_all (length es) es (omega arith))) on)

pub multiples-then : (every k : ℕ) → multiples every (suc k) ≡ multiples every k ++ (every * suc k ∷ [])
unfolding multiples
multiples-then every k = refl
