-- What can come of one input, and what cannot come of it beside that.
use Rattle.std.proofs.Common.{◌≡◌, ◌<◌, ◌≤◌, ◌⊎◌, ℕ, List, [], ◌∷◌, Option, Some, None, length, refl, sym, ap, subst, ◌∙◌, arith, inl, inr, ⊎_elim}
use Rattle.std.proofs.lemmas.Option.{same_Some}
use Rattle.serde_json.specs.Data.{Data, string}
use Rattle.json_histories.specs.declared.any_history.AnyHistory.{AnyHistory}
use Rattle.json_histories.specs.declared.any_history.AnyHistory.TheVariants as histories
use Rattle.json_histories.specs.declared.read_error.ReadError.{ReadError}
use Rattle.json_histories.specs.declared.read_error.ReadError.TheVariants as errors
use Rattle.json_histories.specs.AnyForm.{IsAnyHistory, IsJson, IsRefusedFor, first_refusal, form_of}
use Rattle.json_histories.specs.Json.{elements, list}
use Rattle.json_histories.specs.Laws.Json.{elements-list}
use Rattle.json_histories.specs.Refusals.{IsFirst}
use Rattle.json_histories.proofs.AnyForms.{any_forms_are_distinct}
use Rattle.order_memory.specs.Memory.{MemoryHistory}
use Rattle.judge_memory.specs.LongHistories.{IsLongHistory}
use Rattle.judge_reader.specs.LongRefusals.{IsRefusedLong, first_long_refusal}
use Rattle.judge_reader.proofs.LongForms as long
use Rattle.cert_check.specs.declared.certificate.Certificate.{Certificate}
use Rattle.cert_check.specs.CertificateForm.{IsCertificate, form_of as certificate_form}
use Rattle.cert_check.proofs.CertificateForms.{one_certificate}
use Rattle.cert_check.specs.CriterionNames.{name_of}
use Rattle.pattern_json.specs.PatternForm.{form_of as pattern_form}
use Rattle.json_lines.specs.declared.outcome.Outcome.{Outcome}
use Rattle.app_orders.specs.declared.order.Order.{Order}
use Rattle.app_orders.specs.declared.order.Order.TheVariants.{Judge, JudgeLines, Check, Explain, ExplainLong, ListFaults, Refute, Replay, Drive}
use Rattle.app_orders.specs.declared.drive.Drive.{Drive as Drives}
use Rattle.app_orders.specs.declared.form.Form.{Form}
use Rattle.app_orders.specs.declared.form.Form.TheVariants.{Words, Json, Certificates, Picture}
use Rattle.app_orders.specs.declared.form.LongForm.{LongForm}
use Rattle.app_orders.specs.declared.form.LongForm.TheVariants as long_forms
use Rattle.app_orders.specs.declared.form.ListForm.{ListForm}
use Rattle.app_orders.specs.declared.form.ListForm.TheVariants as list_forms
use Rattle.app_orders.specs.declared.judging.Judging.{Judging}
use Rattle.app_orders.specs.declared.line_judging.LineJudging.{LineJudging}
use Rattle.app_orders.specs.declared.length.Length.{Length}
use Rattle.app_orders.specs.declared.listing.Listing.{Listing}
use Rattle.app_orders.specs.declared.length.Length.TheVariants.{Limited, Any}
use Rattle.app_orders.specs.Expected.{expecting_nothing}
use Rattle.app_engine.specs.Driving.{IsDriveError, IsDriveReport, IsUndriven, sessions_in}
use Rattle.app_engine.specs.declared.failure.RunError.{RunError}
use Rattle.app_engine.specs.declared.failure.RunError.TheVariants.{History, Script, BadCertificate, ShapeMismatch, NotThatPattern, BadLimits, NoSuch, TooLong, Memory, ReadFault, WriteFault}
use Rattle.app_engine.specs.InputLengths.{length_for, most_bytes}
use Rattle.pattern_json.specs.Pairs.{pair_form, pair_refusal}
use Rattle.app_engine.specs.Checking.{HasOtherShape, IsCheckReport, IsPair, IsPairError}
use Rattle.app_findings.specs.Pieces.{HasShape}
use Rattle.app_explanations.specs.ListingFaults.{IsListedAs}
use Rattle.app_engine.specs.Refuting.{claim_form, claim_refusal_at, IsClaimErrorAt, IsRefutationAt}
use Rattle.app_findings.specs.Answers.{IsPatternOf}
use Rattle.app_engine.specs.Failure.{failure_status, refusal_status, script_status}
use Rattle.app_explanations.specs.Lengths.{IsHistoryOf, IsRefusedAs, first_refusal_of}
use Rattle.app_explanations.specs.Report.{IsReport, IsReportAt}
use Rattle.app_engine.specs.Running.{Completes, Fails, IsOutput, IsOutputError, IsReplayReport}
use Rattle.app_engine.proofs.NotRefused.{form_is_fine}
use Rattle.app_engine.proofs.Claims.{refusal-claim}
use Rattle.app_engine.proofs.Pairs.{refusal-pair}
use Rattle.app_engine.proofs.ScriptOutcomes.{script_is_fine, script_refused_once, script_statuses}

-- a text has one value, a value is the form of one history, and of one certificate
one_value : (text : List ℕ) (d e : Data) → IsJson text d → IsJson text e → d ≡ e
one_value text d e first second = same_Some d e (sym first.1 ∙ second.1)

one_history : (text : List ℕ) (g h : AnyHistory) → IsAnyHistory g → IsAnyHistory h → IsJson text (form_of g) → IsJson text (form_of h) → g ≡ h
one_history text g h is_g is_h first second = any_forms_are_distinct g h is_g is_h (one_value text (form_of g) (form_of h) first second)

one_long : (text : List ℕ) (g : AnyHistory) (h : MemoryHistory) → IsHistoryOf Any g → IsLongHistory h → IsJson text (form_of g)
    → IsJson text (form_of (histories.Memory h)) → g ≡ histories.Memory h
one_long text (histories.Memory g) h is_g is_h first second =
    ap histories.Memory (long.forms_are_distinct g h is_g is_h (one_value text (form_of (histories.Memory g)) (form_of (histories.Memory h)) first second))
one_long text (histories.Register g) h is_g is_h first second = absurd is_g
one_long text (histories.Counter g) h is_g is_h first second = absurd is_g
one_long text (histories.Set g) h is_g is_h first second = absurd is_g
one_long text (histories.Queue g) h is_g is_h first second = absurd is_g
one_long text (histories.Counters g) h is_g is_h first second = absurd is_g
one_long text (histories.Sets g) h is_g is_h first second = absurd is_g
one_long text (histories.Queues g) h is_g is_h first second = absurd is_g

-- a value is the form of one history, of either length
one_form : (long : Length) (g h : AnyHistory) → IsHistoryOf long g → IsHistoryOf long h → form_of g ≡ form_of h → g ≡ h
one_form Limited g h is_g is_h same = any_forms_are_distinct g h is_g is_h same
one_form Any (histories.Memory g) (histories.Memory h) is_g is_h same = ap histories.Memory (long.forms_are_distinct g h is_g is_h same)
one_form Any (histories.Memory g) (histories.Register h) is_g is_h same = absurd is_h
one_form Any (histories.Memory g) (histories.Counter h) is_g is_h same = absurd is_h
one_form Any (histories.Memory g) (histories.Set h) is_g is_h same = absurd is_h
one_form Any (histories.Memory g) (histories.Queue h) is_g is_h same = absurd is_h
one_form Any (histories.Memory g) (histories.Counters h) is_g is_h same = absurd is_h
one_form Any (histories.Memory g) (histories.Sets h) is_g is_h same = absurd is_h
one_form Any (histories.Memory g) (histories.Queues h) is_g is_h same = absurd is_h
one_form Any (histories.Register g) h is_g is_h same = absurd is_g
one_form Any (histories.Counter g) h is_g is_h same = absurd is_g
one_form Any (histories.Set g) h is_g is_h same = absurd is_g
one_form Any (histories.Queue g) h is_g is_h same = absurd is_g
one_form Any (histories.Counters g) h is_g is_h same = absurd is_g
one_form Any (histories.Sets g) h is_g is_h same = absurd is_g
one_form Any (histories.Queues g) h is_g is_h same = absurd is_g

-- a text has one history, of either length
pub same_history : (long : Length) (text : List ℕ) (g h : AnyHistory) → IsHistoryOf long g → IsHistoryOf long h → IsJson text (form_of g)
    → IsJson text (form_of h) → g ≡ h
same_history long text g h is_g is_h first second = one_form long g h is_g is_h (one_value text (form_of g) (form_of h) first second)

two_elements : (a b x y : Data) → a ∷ x ∷ [] ≡ b ∷ y ∷ [] → (a ≡ b) × (x ≡ y)
two_elements a b x y same = let first : a ≡ b = cc in let second : x ≡ y = cc in (first, second)

one_pair : (a b x y : Data) → pair_form a x ≡ pair_form b y → (a ≡ b) × (x ≡ y)
one_pair a b x y same =
    two_elements a b x y (same_Some _ _ (sym (elements-list (a ∷ x ∷ [])) ∙ ap elements same ∙ elements-list (b ∷ y ∷ [])))

three_elements : (a b c d e f : Data) → list (a ∷ c ∷ e ∷ []) ≡ list (b ∷ d ∷ f ∷ []) → (a ≡ b) × (c ≡ d) × (e ≡ f)
three_elements a b c d e f same =
    let lists : a ∷ c ∷ e ∷ [] ≡ b ∷ d ∷ f ∷ [] = same_Some _ _ (sym (elements-list (a ∷ c ∷ e ∷ [])) ∙ ap elements same ∙ elements-list (b ∷ d ∷ f ∷ [])) in
    let first : a ≡ b = cc in let second : c ≡ d = cc in let third : e ≡ f = cc in (first, second, third)

-- a pair whose first element is the form of a history has no first refusal
pair_is_fine : (d x : Data) (h : AnyHistory) → IsAnyHistory h → d ≡ pair_form (form_of h) x → pair_refusal (elements d) ≡ None
pair_is_fine d x h is same = refusal-pair d (form_of h) x same ∙ form_is_fine h is

-- the refusal of a text is that it is no JSON, or the first of its value
abbrev Refused : (Data → Option ReadError) → List ℕ → ReadError → Type 0
Refused first text refusal =
    ((refusal ≡ errors.NotJson) × ((d : Data) → ¬ IsJson text d)) ⊎ ((d : Data) × IsJson text d × (first d ≡ Some refusal))

one_refusal : (first : Data → Option ReadError) (text : List ℕ) (p q : ReadError) → Refused first text p → Refused first text q → p ≡ q
one_refusal first text p q (inl a) (inl b) = a.0 ∙ sym b.0
one_refusal first text p q (inl a) (inr b) = absurd (a.1 b.0 b.1)
one_refusal first text p q (inr a) (inl b) = absurd (b.1 a.0 a.1)
one_refusal first text p q (inr a) (inr b) =
    same_Some p q (sym a.2 ∙ ap first (one_value text a.0 b.0 a.1 b.1) ∙ b.2)

not_refused : (first : Data → Option ReadError) (text : List ℕ) (p : ReadError) (d : Data) → Refused first text p → IsJson text d → first d ≡ None → ⊥
not_refused first text p d (inl a) json fine = a.1 d json
not_refused first text p d (inr a) json fine =
    let bad : Some p ≡ None = sym a.2 ∙ ap first (one_value text a.0 d a.1 json) ∙ fine in absurd cc

-- each refusal of a history but want of memory is such a one
first_is : (first : Option ReadError) (e : ReadError) → IsFirst first e → refusal_status e ≡ 1 → first ≡ Some e
first_is first errors.NotJson is one = absurd is
first_is first errors.BadShape is one = is
first_is first errors.UnknownObject is one = is
first_is first (errors.BadOp op) is one = is
first_is first (errors.ReturnAfterUnknown op) is one = is
first_is first errors.TooManySessions is one = is
first_is first errors.TooManyOps is one = is
first_is first errors.Memory is one = absurd (omega arith)
first_is first errors.BadInitial is one = is

judge_refused : (text : List ℕ) (e : ReadError) → IsRefusedFor text e → refusal_status e ≡ 1 → Refused first_refusal text e
judge_refused text errors.NotJson is one = inl (refl, is)
judge_refused text errors.BadShape is one = inr is
judge_refused text errors.UnknownObject is one = inr is
judge_refused text (errors.BadOp op) is one = inr is
judge_refused text (errors.ReturnAfterUnknown op) is one = inr is
judge_refused text errors.TooManySessions is one = inr is
judge_refused text errors.TooManyOps is one = inr is
judge_refused text errors.Memory is one = absurd (omega arith)
judge_refused text errors.BadInitial is one = inr is

long_refused : (text : List ℕ) (e : ReadError) → IsRefusedLong text e → refusal_status e ≡ 1 → Refused first_long_refusal text e
long_refused text errors.NotJson is one = inl (refl, is)
long_refused text errors.BadShape is one = inr is
long_refused text errors.UnknownObject is one = inr is
long_refused text (errors.BadOp op) is one = inr is
long_refused text (errors.ReturnAfterUnknown op) is one = inr is
long_refused text errors.TooManySessions is one = inr is
long_refused text errors.TooManyOps is one = inr is
long_refused text errors.Memory is one = absurd (omega arith)
long_refused text errors.BadInitial is one = inr is

-- the same of either length; and the form of a history is not refused
refused_as : (long : Length) (text : List ℕ) (e : ReadError) → IsRefusedAs long text e → refusal_status e ≡ 1
    → Refused (first_refusal_of long) text e
refused_as Limited text e is one = judge_refused text e is one
refused_as Any text e is one = long_refused text e is one

fine_as : (long : Length) (h : AnyHistory) → IsHistoryOf long h → first_refusal_of long (form_of h) ≡ None
fine_as Limited h is = form_is_fine h is
fine_as Any (histories.Memory h) is = long.form_is_fine h is
fine_as Any (histories.Register h) is = absurd is
fine_as Any (histories.Counter h) is = absurd is
fine_as Any (histories.Set h) is = absurd is
fine_as Any (histories.Queue h) is = absurd is
fine_as Any (histories.Counters h) is = absurd is
fine_as Any (histories.Sets h) is = absurd is
fine_as Any (histories.Queues h) is = absurd is

check_refused : (text : List ℕ) (e : ReadError) → IsPairError text (History e) → refusal_status e ≡ 1 → Refused (λ d. pair_refusal (elements d)) text e
check_refused text e (inl is) one = inl is
check_refused text e (inr is) one = inr (is.0, is.1, first_is (pair_refusal (elements is.0)) e is.2 one)

statuses : (e : ReadError) → (refusal_status e ≡ 4) ⊎ (refusal_status e ≡ 1)
statuses errors.NotJson = inr refl
statuses errors.BadShape = inr refl
statuses errors.UnknownObject = inr refl
statuses (errors.BadOp op) = inr refl
statuses (errors.ReturnAfterUnknown op) = inr refl
statuses errors.TooManySessions = inr refl
statuses errors.TooManyOps = inr refl
statuses errors.Memory = inl refl
statuses errors.BadInitial = inr refl

-- a history that is refused has no certificate that is, nor one of another shape
no_bad_certificate : (text : List ℕ) (e : ReadError) → IsPairError text (History e) → IsPairError text BadCertificate → refusal_status e ≡ 1 → ⊥
no_bad_certificate text e refused bad one =
    not_refused (λ d. pair_refusal (elements d)) text e bad.0 (check_refused text e refused one) bad.1 (pair_is_fine bad.0 bad.2.1 bad.2.0 bad.2.2 bad.2.3)

no_other_shape : (text : List ℕ) (e : ReadError) → IsPairError text (History e) → HasOtherShape text → refusal_status e ≡ 1 → ⊥
no_other_shape text e refused other one =
    not_refused (λ d. pair_refusal (elements d)) text e (pair_form (form_of other.0) (certificate_form other.1)) (check_refused text e refused one) other.4
    (pair_is_fine _ (certificate_form other.1) other.0 other.2 refl)

-- a certificate with a form is not refused for its form
has_a_form : (text : List ℕ) (h : AnyHistory) (c : Certificate) → IsCertificate c → IsPair text (form_of h) (certificate_form c) → IsPairError text BadCertificate → ⊥
has_a_form text h c is_c pair bad =
    let same = one_pair (form_of bad.2.0) (form_of h) bad.2.1 (certificate_form c)
    (sym bad.2.3 ∙ one_value text bad.0 (pair_form (form_of h) (certificate_form c)) bad.1 pair) in
    bad.2.4 c is_c same.1

-- an input is refused in one way
judge_once : (judging : Judging) (text : List ℕ) (e f : RunError) → IsOutputError (Judge judging) text e → IsOutputError (Judge judging) text f → failure_status e ≡ 1 → failure_status f ≡ 1 → e ≡ f
judge_once judging text (History p) (History q) is_e is_f one two =
    ap History (one_refusal (first_refusal_of judging.length) text p q (refused_as judging.length text p is_e one)
    (refused_as judging.length text q is_f two))
judge_once judging text BadCertificate f is_e is_f one two = absurd is_e
judge_once judging text ShapeMismatch f is_e is_f one two = absurd is_e
judge_once judging text (Script p) f is_e is_f one two = absurd is_e
judge_once judging text TooLong f is_e is_f one two = absurd is_e
judge_once judging text NotThatPattern f is_e is_f one two = absurd is_e
judge_once judging text BadLimits f is_e is_f one two = absurd is_e
judge_once judging text NoSuch f is_e is_f one two = absurd is_e
judge_once judging text Memory f is_e is_f one two = absurd (omega arith)
judge_once judging text ReadFault f is_e is_f one two = absurd is_e
judge_once judging text WriteFault f is_e is_f one two = absurd is_e
judge_once judging text e BadCertificate is_e is_f one two = absurd is_f
judge_once judging text e ShapeMismatch is_e is_f one two = absurd is_f
judge_once judging text e (Script q) is_e is_f one two = absurd is_f
judge_once judging text e TooLong is_e is_f one two = absurd is_f
judge_once judging text e NotThatPattern is_e is_f one two = absurd is_f
judge_once judging text e BadLimits is_e is_f one two = absurd is_f
judge_once judging text e NoSuch is_e is_f one two = absurd is_f
judge_once judging text e Memory is_e is_f one two = absurd (omega arith)
judge_once judging text e ReadFault is_e is_f one two = absurd is_f
judge_once judging text e WriteFault is_e is_f one two = absurd is_f

-- how `judge` judges where nothing is asked for
abbrev plain_at : Length → Judging
plain_at long = record { workers = 1; expected = expecting_nothing; length = long }

abbrev plain : Judging
plain = plain_at Limited

-- a history is refused as `judge` refuses it
explained_as_judged : (form : Form) (text : List ℕ) (e : RunError) → IsOutputError (Explain form) text e → IsOutputError (Judge plain) text e
explained_as_judged form text (History p) is_e = is_e
explained_as_judged form text Memory is_e = is_e
explained_as_judged form text BadCertificate is_e = absurd is_e
explained_as_judged form text ShapeMismatch is_e = absurd is_e
explained_as_judged form text (Script p) is_e = absurd is_e
explained_as_judged form text TooLong is_e = absurd is_e
explained_as_judged form text NotThatPattern is_e = absurd is_e
explained_as_judged form text BadLimits is_e = absurd is_e
explained_as_judged form text NoSuch is_e = absurd is_e
explained_as_judged form text ReadFault is_e = absurd is_e
explained_as_judged form text WriteFault is_e = absurd is_e

long_as_judged : (form : LongForm) (text : List ℕ) (e : RunError) → IsOutputError (ExplainLong form) text e → IsOutputError (Judge (plain_at Any)) text e
long_as_judged form text (History p) is_e = is_e
long_as_judged form text Memory is_e = is_e
long_as_judged form text BadCertificate is_e = absurd is_e
long_as_judged form text ShapeMismatch is_e = absurd is_e
long_as_judged form text (Script p) is_e = absurd is_e
long_as_judged form text TooLong is_e = absurd is_e
long_as_judged form text NotThatPattern is_e = absurd is_e
long_as_judged form text BadLimits is_e = absurd is_e
long_as_judged form text NoSuch is_e = absurd is_e
long_as_judged form text ReadFault is_e = absurd is_e
long_as_judged form text WriteFault is_e = absurd is_e

listed_as_judged : (listing : Listing) (text : List ℕ) (e : RunError) → IsOutputError (ListFaults listing) text e
    → IsOutputError (Judge (plain_at listing.length)) text e
listed_as_judged listing text (History p) is_e = is_e
listed_as_judged listing text Memory is_e = is_e
listed_as_judged listing text BadCertificate is_e = absurd is_e
listed_as_judged listing text ShapeMismatch is_e = absurd is_e
listed_as_judged listing text (Script p) is_e = absurd is_e
listed_as_judged listing text TooLong is_e = absurd is_e
listed_as_judged listing text NotThatPattern is_e = absurd is_e
listed_as_judged listing text BadLimits is_e = absurd is_e
listed_as_judged listing text NoSuch is_e = absurd is_e
listed_as_judged listing text ReadFault is_e = absurd is_e
listed_as_judged listing text WriteFault is_e = absurd is_e

check_once : (workers : ℕ) (text : List ℕ) (e f : RunError) → IsOutputError (Check workers) text e → IsOutputError (Check workers) text f → failure_status e ≡ 1 → failure_status f ≡ 1 → e ≡ f
check_once workers text (History p) (History q) is_e is_f one two =
    ap History (one_refusal (λ d. pair_refusal (elements d)) text p q (check_refused text p is_e one) (check_refused text q is_f two))
check_once workers text (History p) BadCertificate is_e is_f one two = absurd (no_bad_certificate text p is_e is_f one)
check_once workers text (History p) ShapeMismatch is_e is_f one two = absurd (no_other_shape text p is_e is_f one)
check_once workers text BadCertificate (History q) is_e is_f one two = absurd (no_bad_certificate text q is_f is_e two)
check_once workers text BadCertificate BadCertificate is_e is_f one two = refl
check_once workers text BadCertificate ShapeMismatch is_e is_f one two = absurd (has_a_form text is_f.0 is_f.1 is_f.3 is_f.4 is_e)
check_once workers text ShapeMismatch (History q) is_e is_f one two = absurd (no_other_shape text q is_f is_e two)
check_once workers text ShapeMismatch BadCertificate is_e is_f one two = absurd (has_a_form text is_e.0 is_e.1 is_e.3 is_e.4 is_f)
check_once workers text ShapeMismatch ShapeMismatch is_e is_f one two = refl
check_once workers text (Script p) f is_e is_f one two = absurd is_e
check_once workers text TooLong f is_e is_f one two = absurd is_e
check_once workers text NotThatPattern f is_e is_f one two = absurd is_e
check_once workers text BadLimits f is_e is_f one two = absurd is_e
check_once workers text NoSuch f is_e is_f one two = absurd is_e
check_once workers text Memory f is_e is_f one two = absurd (omega arith)
check_once workers text ReadFault f is_e is_f one two = absurd is_e
check_once workers text WriteFault f is_e is_f one two = absurd is_e
check_once workers text e (Script q) is_e is_f one two = absurd is_f
check_once workers text e TooLong is_e is_f one two = absurd is_f
check_once workers text e NotThatPattern is_e is_f one two = absurd is_f
check_once workers text e BadLimits is_e is_f one two = absurd is_f
check_once workers text e NoSuch is_e is_f one two = absurd is_f
check_once workers text e Memory is_e is_f one two = absurd (omega arith)
check_once workers text e ReadFault is_e is_f one two = absurd is_f
check_once workers text e WriteFault is_e is_f one two = absurd is_f

-- a claim that is refused for its history has no refused pattern
claim_refused_as : (long : Length) (text : List ℕ) (e : ReadError) → IsClaimErrorAt long text (History e) → refusal_status e ≡ 1
    → Refused (λ d. claim_refusal_at long (elements d)) text e
claim_refused_as long text e (inl is) one = inl is
claim_refused_as long text e (inr is) one = inr (is.0, is.1, first_is (claim_refusal_at long (elements is.0)) e is.2 one)

claim_is_fine : (long : Length) (d c p : Data) (h : AnyHistory) → IsHistoryOf long h → d ≡ list (form_of h ∷ c ∷ p ∷ [])
    → claim_refusal_at long (elements d) ≡ None
claim_is_fine long d c p h is same = refusal-claim long d (form_of h) c p same ∙ fine_as long h is

no_refused_pattern : (long : Length) (text : List ℕ) (e : ReadError) → IsClaimErrorAt long text (History e)
    → IsClaimErrorAt long text NotThatPattern → refusal_status e ≡ 1 → ⊥
no_refused_pattern long text e refused bad one =
    not_refused (λ d. claim_refusal_at long (elements d)) text e bad.0 (claim_refused_as long text e refused one) bad.1
    (claim_is_fine long bad.0 bad.2.1 bad.2.2 bad.2.0 bad.2.3 bad.2.4)

refute_once : (long : Length) (text : List ℕ) (e f : RunError) → IsOutputError (Refute long) text e → IsOutputError (Refute long) text f
    → failure_status e ≡ 1 → failure_status f ≡ 1 → e ≡ f
refute_once long text (History p) (History q) is_e is_f one two =
    ap History (one_refusal (λ d. claim_refusal_at long (elements d)) text p q (claim_refused_as long text p is_e one) (claim_refused_as long text q is_f two))
refute_once long text (History p) NotThatPattern is_e is_f one two = absurd (no_refused_pattern long text p is_e is_f one)
refute_once long text NotThatPattern (History q) is_e is_f one two = absurd (no_refused_pattern long text q is_f is_e two)
refute_once long text NotThatPattern NotThatPattern is_e is_f one two = refl
refute_once long text (Script p) f is_e is_f one two = absurd is_e
refute_once long text BadCertificate f is_e is_f one two = absurd is_e
refute_once long text ShapeMismatch f is_e is_f one two = absurd is_e
refute_once long text TooLong f is_e is_f one two = absurd is_e
refute_once long text BadLimits f is_e is_f one two = absurd is_e
refute_once long text NoSuch f is_e is_f one two = absurd is_e
refute_once long text Memory f is_e is_f one two = absurd (omega arith)
refute_once long text ReadFault f is_e is_f one two = absurd is_e
refute_once long text WriteFault f is_e is_f one two = absurd is_e
refute_once long text e (Script q) is_e is_f one two = absurd is_f
refute_once long text e BadCertificate is_e is_f one two = absurd is_f
refute_once long text e ShapeMismatch is_e is_f one two = absurd is_f
refute_once long text e TooLong is_e is_f one two = absurd is_f
refute_once long text e BadLimits is_e is_f one two = absurd is_f
refute_once long text e NoSuch is_e is_f one two = absurd is_f
refute_once long text e Memory is_e is_f one two = absurd (omega arith)
refute_once long text e ReadFault is_e is_f one two = absurd is_f
refute_once long text e WriteFault is_e is_f one two = absurd is_f

replay_once : (text : List ℕ) (e f : RunError) → IsOutputError Replay text e → IsOutputError Replay text f → failure_status e ≡ 1 → failure_status f ≡ 1 → e ≡ f
replay_once text (Script p) (Script q) is_e is_f one two = ap Script (script_refused_once text p q is_e is_f one two)
replay_once text (History p) f is_e is_f one two = absurd is_e
replay_once text BadCertificate f is_e is_f one two = absurd is_e
replay_once text ShapeMismatch f is_e is_f one two = absurd is_e
replay_once text TooLong f is_e is_f one two = absurd is_e
replay_once text NotThatPattern f is_e is_f one two = absurd is_e
replay_once text BadLimits f is_e is_f one two = absurd is_e
replay_once text NoSuch f is_e is_f one two = absurd is_e
replay_once text Memory f is_e is_f one two = absurd (omega arith)
replay_once text ReadFault f is_e is_f one two = absurd is_e
replay_once text WriteFault f is_e is_f one two = absurd is_e
replay_once text e (History q) is_e is_f one two = absurd is_f
replay_once text e BadCertificate is_e is_f one two = absurd is_f
replay_once text e ShapeMismatch is_e is_f one two = absurd is_f
replay_once text e TooLong is_e is_f one two = absurd is_f
replay_once text e NotThatPattern is_e is_f one two = absurd is_f
replay_once text e BadLimits is_e is_f one two = absurd is_f
replay_once text e NoSuch is_e is_f one two = absurd is_f
replay_once text e Memory is_e is_f one two = absurd (omega arith)
replay_once text e ReadFault is_e is_f one two = absurd is_f
replay_once text e WriteFault is_e is_f one two = absurd is_f

-- lines are refused in their answer: nothing else than memory can fail
lines_fail : (judging : LineJudging) (text : List ℕ) (e : RunError) → IsOutputError (JudgeLines judging) text e → failure_status e ≡ 4
lines_fail judging text (History p) is_e = absurd is_e
lines_fail judging text (Script p) is_e = absurd is_e
lines_fail judging text BadCertificate is_e = absurd is_e
lines_fail judging text ShapeMismatch is_e = absurd is_e
lines_fail judging text NotThatPattern is_e = absurd is_e
lines_fail judging text BadLimits is_e = absurd is_e
lines_fail judging text NoSuch is_e = absurd is_e
lines_fail judging text TooLong is_e = absurd is_e
lines_fail judging text Memory is_e = refl
lines_fail judging text ReadFault is_e = absurd is_e
lines_fail judging text WriteFault is_e = absurd is_e

-- a history is driven or not by what it is: it has no session, it lacks the one that stops, or neither
one_drive_error : (stop : Option ℕ) (m n : ℕ) → m ≡ n → IsDriveError stop m BadLimits → IsDriveError stop n NoSuch → ⊥
one_drive_error stop m n same none lacks = let no_session : m ≡ 0 = none in let some : 0 < n = lacks.0 in absurd (omega arith)

drive_refused_alone : (drive : Drives) (text : List ℕ) (e : ReadError) (f : RunError) → IsRefusedFor text e → refusal_status e ≡ 1 → IsUndriven drive text f → ⊥
drive_refused_alone drive text e f refused one undriven =
    not_refused first_refusal text e (form_of undriven.0) (judge_refused text e refused one) undriven.2 (form_is_fine undriven.0 undriven.1)

drive_once : (drive : Drives) (text : List ℕ) (e f : RunError) → IsOutputError (Drive drive) text e → IsOutputError (Drive drive) text f → failure_status e ≡ 1 → failure_status f ≡ 1 → e ≡ f
drive_once drive text (History p) (History q) is_e is_f one two =
    ap History (one_refusal first_refusal text p q (judge_refused text p is_e one) (judge_refused text q is_f two))
drive_once drive text (History p) BadLimits is_e is_f one two = absurd (drive_refused_alone drive text p BadLimits is_e one is_f)
drive_once drive text (History p) NoSuch is_e is_f one two = absurd (drive_refused_alone drive text p NoSuch is_e one is_f)
drive_once drive text BadLimits (History q) is_e is_f one two = absurd (drive_refused_alone drive text q BadLimits is_f two is_e)
drive_once drive text NoSuch (History q) is_e is_f one two = absurd (drive_refused_alone drive text q NoSuch is_f two is_e)
drive_once drive text BadLimits BadLimits is_e is_f one two = refl
drive_once drive text BadLimits NoSuch is_e is_f one two =
    absurd (one_drive_error drive.stop _ _ (ap sessions_in (one_history text is_e.0 is_f.0 is_e.1 is_f.1 is_e.2 is_f.2)) is_e.3 is_f.3)
drive_once drive text NoSuch BadLimits is_e is_f one two =
    absurd (one_drive_error drive.stop _ _ (ap sessions_in (one_history text is_f.0 is_e.0 is_f.1 is_e.1 is_f.2 is_e.2)) is_f.3 is_e.3)
drive_once drive text NoSuch NoSuch is_e is_f one two = refl
drive_once drive text Memory f is_e is_f one two = absurd (omega arith)
drive_once drive text (Script p) f is_e is_f one two = absurd is_e
drive_once drive text BadCertificate f is_e is_f one two = absurd is_e
drive_once drive text ShapeMismatch f is_e is_f one two = absurd is_e
drive_once drive text NotThatPattern f is_e is_f one two = absurd is_e
drive_once drive text TooLong f is_e is_f one two = absurd is_e
drive_once drive text ReadFault f is_e is_f one two = absurd is_e
drive_once drive text WriteFault f is_e is_f one two = absurd is_e
drive_once drive text e Memory is_e is_f one two = absurd (omega arith)
drive_once drive text e (Script q) is_e is_f one two = absurd is_f
drive_once drive text e BadCertificate is_e is_f one two = absurd is_f
drive_once drive text e ShapeMismatch is_e is_f one two = absurd is_f
drive_once drive text e NotThatPattern is_e is_f one two = absurd is_f
drive_once drive text e TooLong is_e is_f one two = absurd is_f
drive_once drive text e ReadFault is_e is_f one two = absurd is_f
drive_once drive text e WriteFault is_e is_f one two = absurd is_f

pub refused_in_one_way : (order : Order) (text : List ℕ) (e f : RunError) → IsOutputError order text e → IsOutputError order text f
    → failure_status e ≡ 1 → failure_status f ≡ 1 → e ≡ f
refused_in_one_way (Judge judging) text e f is_e is_f one two = judge_once judging text e f is_e is_f one two
refused_in_one_way (JudgeLines judging) text e f is_e is_f one two =
    let four : failure_status e ≡ 4 = lines_fail judging text e is_e in absurd (omega arith)
refused_in_one_way (Check workers) text e f is_e is_f one two = check_once workers text e f is_e is_f one two
refused_in_one_way (Explain form) text e f is_e is_f one two =
    judge_once plain text e f (explained_as_judged form text e is_e) (explained_as_judged form text f is_f) one two
refused_in_one_way (ExplainLong form) text e f is_e is_f one two =
    judge_once (plain_at Any) text e f (long_as_judged form text e is_e) (long_as_judged form text f is_f) one two
refused_in_one_way (ListFaults listing) text e f is_e is_f one two =
    judge_once (plain_at listing.length) text e f (listed_as_judged listing text e is_e) (listed_as_judged listing text f is_f) one two
refused_in_one_way (Refute long) text e f is_e is_f one two = refute_once long text e f is_e is_f one two
refused_in_one_way Replay text e f is_e is_f one two = replay_once text e f is_e is_f one two
refused_in_one_way (Drive drive) text e f is_e is_f one two = drive_once drive text e f is_e is_f one two

-- what is answered is not refused
judge_not_refused : (judging : Judging) (text : List ℕ) (e : RunError) (h : AnyHistory) → IsHistoryOf judging.length h → IsJson text (form_of h) → IsOutputError (Judge judging) text e
    → failure_status e ≡ 4
judge_not_refused judging text (History p) h is read is_e =
    ⊎_elim (λ (four : refusal_status p ≡ 4). four)
    (λ (one : refusal_status p ≡ 1). absurd (not_refused (first_refusal_of judging.length) text p (form_of h)
    (refused_as judging.length text p is_e one) read (fine_as judging.length h is)))
    (statuses p)
judge_not_refused judging text BadCertificate h is read is_e = absurd is_e
judge_not_refused judging text ShapeMismatch h is read is_e = absurd is_e
judge_not_refused judging text (Script p) h is read is_e = absurd is_e
judge_not_refused judging text NotThatPattern h is read is_e = absurd is_e
judge_not_refused judging text TooLong h is read is_e = absurd is_e
judge_not_refused judging text BadLimits h is read is_e = absurd is_e
judge_not_refused judging text NoSuch h is read is_e = absurd is_e
judge_not_refused judging text Memory h is read is_e = refl
judge_not_refused judging text ReadFault h is read is_e = absurd is_e
judge_not_refused judging text WriteFault h is read is_e = absurd is_e

check_not_refused : (workers : ℕ) (text answer : List ℕ) (e : RunError) → IsCheckReport text answer → IsOutputError (Check workers) text e → failure_status e ≡ 4
check_not_refused workers text answer (History p) report is_e =
    ⊎_elim (λ (four : refusal_status p ≡ 4). four)
    (λ (one : refusal_status p ≡ 1). absurd (not_refused (λ d. pair_refusal (elements d)) text p (pair_form (form_of report.history) (certificate_form report.certificate))
    (check_refused text p is_e one) report.read (pair_is_fine _ (certificate_form report.certificate) report.history report.is_history refl)))
    (statuses p)
check_not_refused workers text answer BadCertificate report is_e = absurd (has_a_form text report.history report.certificate report.is_certificate report.read is_e)
check_not_refused workers text answer ShapeMismatch report is_e =
    let same = one_pair (form_of is_e.0) (form_of report.history) (certificate_form is_e.1) (certificate_form report.certificate)
    (one_value text _ _ is_e.4 report.read) in
    let history : report.history ≡ is_e.0 = sym (any_forms_are_distinct is_e.0 report.history is_e.2 report.is_history same.0) in
    let certificate : report.certificate ≡ is_e.1 = sym (one_certificate is_e.1 report.certificate same.1) in
    absurd (is_e.5 (subst (λ (h : AnyHistory). HasShape h is_e.1) history (subst (λ (c : Certificate). HasShape report.history c) certificate report.shape)))
check_not_refused workers text answer (Script p) report is_e = absurd is_e
check_not_refused workers text answer NotThatPattern report is_e = absurd is_e
check_not_refused workers text answer TooLong report is_e = absurd is_e
check_not_refused workers text answer BadLimits report is_e = absurd is_e
check_not_refused workers text answer NoSuch report is_e = absurd is_e
check_not_refused workers text answer Memory report is_e = refl
check_not_refused workers text answer ReadFault report is_e = absurd is_e
check_not_refused workers text answer WriteFault report is_e = absurd is_e

-- a claim that is answered has a history, and behind it what shows that it does not meet the criterion
refute_not_refused : (long : Length) (text answer : List ℕ) (e : RunError) → IsRefutationAt long text answer → IsOutputError (Refute long) text e
    → failure_status e ≡ 4
refute_not_refused long text answer (History p) report is_e =
    ⊎_elim (λ (four : refusal_status p ≡ 4). four)
    (λ (one : refusal_status p ≡ 1). absurd (not_refused (λ d. claim_refusal_at long (elements d)) text p
    (claim_form report.history report.criterion report.pattern) (claim_refused_as long text p is_e one) report.read
    (claim_is_fine long _ (string (name_of report.criterion)) (pattern_form report.pattern) report.history report.is_history refl)))
    (statuses p)
refute_not_refused long text answer NotThatPattern report is_e =
    let same =
    three_elements (form_of is_e.2.0) (form_of report.history) is_e.2.1 (string (name_of report.criterion)) is_e.2.2 (pattern_form report.pattern)
    (sym is_e.2.4 ∙ one_value text is_e.0 (claim_form report.history report.criterion report.pattern) is_e.1 report.read) in
    let history : report.history ≡ is_e.2.0 = sym (one_form long is_e.2.0 report.history is_e.2.3 report.is_history same.0) in
    absurd (is_e.2.5 report.criterion report.pattern same.1 same.2 (subst (λ (h : AnyHistory). IsPatternOf h report.criterion report.pattern) history report.shown))
refute_not_refused long text answer (Script p) report is_e = absurd is_e
refute_not_refused long text answer BadCertificate report is_e = absurd is_e
refute_not_refused long text answer ShapeMismatch report is_e = absurd is_e
refute_not_refused long text answer TooLong report is_e = absurd is_e
refute_not_refused long text answer BadLimits report is_e = absurd is_e
refute_not_refused long text answer NoSuch report is_e = absurd is_e
refute_not_refused long text answer Memory report is_e = refl
refute_not_refused long text answer ReadFault report is_e = absurd is_e
refute_not_refused long text answer WriteFault report is_e = absurd is_e

replay_not_refused : (text answer : List ℕ) (e : RunError) → IsReplayReport text answer → IsOutputError Replay text e → failure_status e ≡ 4
replay_not_refused text answer (Script p) report is_e =
    ⊎_elim (λ (four : script_status p ≡ 4). four)
    (λ (one : script_status p ≡ 1). absurd (script_is_fine text report.script report.is_script report.read p is_e one))
    (script_statuses p)
replay_not_refused text answer (History p) report is_e = absurd is_e
replay_not_refused text answer BadCertificate report is_e = absurd is_e
replay_not_refused text answer ShapeMismatch report is_e = absurd is_e
replay_not_refused text answer NotThatPattern report is_e = absurd is_e
replay_not_refused text answer TooLong report is_e = absurd is_e
replay_not_refused text answer BadLimits report is_e = absurd is_e
replay_not_refused text answer NoSuch report is_e = absurd is_e
replay_not_refused text answer Memory report is_e = refl
replay_not_refused text answer ReadFault report is_e = absurd is_e
replay_not_refused text answer WriteFault report is_e = absurd is_e

can_be_driven : (drive : Drives) (text answer : List ℕ) (e : RunError) → (report : IsDriveReport drive text answer) → (undriven : IsUndriven drive text e)
    → IsDriveError drive.stop (sessions_in report.history) e
can_be_driven drive text answer e report undriven =
    subst (λ (h : AnyHistory). IsDriveError drive.stop (sessions_in h) e)
    (one_history text undriven.0 report.history undriven.1 report.is_history undriven.2 report.read) undriven.3

drive_not_refused : (drive : Drives) (text answer : List ℕ) (e : RunError) → IsDriveReport drive text answer → IsOutputError (Drive drive) text e → failure_status e ≡ 4
drive_not_refused drive text answer (History p) report is_e =
    ⊎_elim (λ (four : refusal_status p ≡ 4). four)
    (λ (one : refusal_status p ≡ 1). absurd (not_refused first_refusal text p (form_of report.history) (judge_refused text p is_e one) report.read (form_is_fine report.history report.is_history)))
    (statuses p)
drive_not_refused drive text answer BadLimits report is_e =
    let none : sessions_in report.history ≡ 0 = can_be_driven drive text answer BadLimits report is_e in
    let some : 0 < sessions_in report.history = report.driven.can.some_session in absurd (omega arith)
drive_not_refused drive text answer NoSuch report is_e =
    let lacks = can_be_driven drive text answer NoSuch report is_e in
    let there : lacks.1.0 < sessions_in report.history = report.driven.can.stopping lacks.1.0 lacks.1.1 in
    let away : sessions_in report.history ≤ lacks.1.0 = lacks.1.2 in absurd (omega arith)
drive_not_refused drive text answer (Script p) report is_e = absurd is_e
drive_not_refused drive text answer BadCertificate report is_e = absurd is_e
drive_not_refused drive text answer ShapeMismatch report is_e = absurd is_e
drive_not_refused drive text answer NotThatPattern report is_e = absurd is_e
drive_not_refused drive text answer TooLong report is_e = absurd is_e
drive_not_refused drive text answer Memory report is_e = refl
drive_not_refused drive text answer ReadFault report is_e = absurd is_e
drive_not_refused drive text answer WriteFault report is_e = absurd is_e

listed_history : (form : ListForm) (long : Length) (most : ℕ) (text answer : List ℕ) → IsListedAs form long most text answer
    → (h : AnyHistory) × IsHistoryOf long h × IsJson text (form_of h)
listed_history list_forms.Words long most text answer report = (report.history, report.is_history, report.read)
listed_history list_forms.Json long most text answer report = (report.history, report.is_history, report.read)

pub answered_is_not_refused : (order : Order) (text answer : List ℕ) (e : RunError) → IsOutput order text answer → IsOutputError order text e → failure_status e ≡ 4
answered_is_not_refused (Judge judging) text answer e report is_e = judge_not_refused judging text e report.history report.is_history report.read is_e
answered_is_not_refused (JudgeLines judging) text answer e report is_e = lines_fail judging text e is_e
answered_is_not_refused (Check workers) text answer e report is_e = check_not_refused workers text answer e report is_e
answered_is_not_refused (Explain Words) text answer e report is_e =
    judge_not_refused plain text e report.history report.is_history report.read (explained_as_judged Words text e is_e)
answered_is_not_refused (Explain Json) text answer e report is_e =
    judge_not_refused plain text e report.history report.is_history report.read (explained_as_judged Json text e is_e)
answered_is_not_refused (Explain Certificates) text answer e report is_e =
    judge_not_refused plain text e report.history report.is_history report.read (explained_as_judged Certificates text e is_e)
answered_is_not_refused (Explain Picture) text answer e report is_e =
    judge_not_refused plain text e report.history report.is_history report.read (explained_as_judged Picture text e is_e)
answered_is_not_refused (ExplainLong long_forms.Words) text answer e report is_e =
    judge_not_refused (plain_at Any) text e report.history report.is_history report.read (long_as_judged long_forms.Words text e is_e)
answered_is_not_refused (ExplainLong long_forms.Json) text answer e report is_e =
    judge_not_refused (plain_at Any) text e report.history report.is_history report.read (long_as_judged long_forms.Json text e is_e)
answered_is_not_refused (ExplainLong long_forms.Picture) text answer e report is_e =
    judge_not_refused (plain_at Any) text e report.history report.is_history report.read (long_as_judged long_forms.Picture text e is_e)
answered_is_not_refused (ListFaults listing) text answer e report is_e =
    let of = listed_history listing.form listing.length listing.most text answer report in
    judge_not_refused (plain_at listing.length) text e of.0 of.1 of.2 (listed_as_judged listing text e is_e)
answered_is_not_refused (Refute long) text answer e report is_e = refute_not_refused long text answer e report is_e
answered_is_not_refused Replay text answer e report is_e = replay_not_refused text answer e report is_e
answered_is_not_refused (Drive drive) text answer e report is_e = drive_not_refused drive text answer e report is_e

-- a report is on the history of its input
pub reported_history : (text answer : List ℕ) (h : AnyHistory) → IsAnyHistory h → IsJson text (form_of h) → (report : IsReport text answer) → report.history ≡ h
reported_history text answer h is json report = one_history text report.history h report.is_history is report.read json

pub reported_long : (text answer : List ℕ) (h : MemoryHistory) → IsLongHistory h → IsJson text (form_of (histories.Memory h))
    → (report : IsReportAt Any text answer) → report.history ≡ histories.Memory h
reported_long text answer h is json report = one_long text report.history h report.is_history is report.read json

-- what is too long is not answered, and refused for that alone
pub too_long-not_answered : (order : Order) (bytes : List ℕ) (before after : Option (List ℕ)) (outcome : Outcome) → most_bytes (length_for order) < length bytes → Completes order (Some bytes) before after outcome → ⊥
too_long-not_answered order bytes before after outcome long answers = let same : length answers.input ≡ length bytes = ap length answers.whole in let within : length answers.input ≤ most_bytes (length_for order) = answers.within in omega (arith, long)

pub too_long-fails : (order : Order) (bytes : List ℕ) (e : RunError) → most_bytes (length_for order) < length bytes → Fails order (Some bytes) e → (e ≡ TooLong) ⊎ ((e ≡ Memory) ⊎ (e ≡ ReadFault))
too_long-fails order bytes (History p) long fails = let same : length fails.0 ≡ length bytes = ap length fails.1 in let within : length fails.0 ≤ most_bytes (length_for order) = fails.2 in absurd (omega (arith, long))
too_long-fails order bytes (Script p) long fails = let same : length fails.0 ≡ length bytes = ap length fails.1 in let within : length fails.0 ≤ most_bytes (length_for order) = fails.2 in absurd (omega (arith, long))
too_long-fails order bytes BadCertificate long fails = let same : length fails.0 ≡ length bytes = ap length fails.1 in let within : length fails.0 ≤ most_bytes (length_for order) = fails.2 in absurd (omega (arith, long))
too_long-fails order bytes ShapeMismatch long fails = let same : length fails.0 ≡ length bytes = ap length fails.1 in let within : length fails.0 ≤ most_bytes (length_for order) = fails.2 in absurd (omega (arith, long))
too_long-fails order bytes NotThatPattern long fails = let same : length fails.0 ≡ length bytes = ap length fails.1 in let within : length fails.0 ≤ most_bytes (length_for order) = fails.2 in absurd (omega (arith, long))
too_long-fails order bytes BadLimits long fails = let same : length fails.0 ≡ length bytes = ap length fails.1 in let within : length fails.0 ≤ most_bytes (length_for order) = fails.2 in absurd (omega (arith, long))
too_long-fails order bytes NoSuch long fails = let same : length fails.0 ≡ length bytes = ap length fails.1 in let within : length fails.0 ≤ most_bytes (length_for order) = fails.2 in absurd (omega (arith, long))
too_long-fails order bytes TooLong long fails = inl refl
too_long-fails order bytes Memory long fails = inr (inl refl)
too_long-fails order bytes ReadFault long fails = inr (inr refl)
too_long-fails order bytes WriteFault long fails = let same : length fails.0 ≡ length bytes = ap length fails.1 in let within : length fails.0 ≤ most_bytes (length_for order) = fails.2 in absurd (omega (arith, long))
