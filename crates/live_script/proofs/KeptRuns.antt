-- Runs of what is kept of steps are runs of the steps. A certificate with which a case is filed is kept whole, and one that is not
-- kept whole has the shape of no history of so few sessions, as what is kept of it has none.
use Rattle.std.proofs.Common.{◌≡◌, ℕ, zero, suc, ◌+◌, ◌≤◌, inl, inr, List, [], ◌∷◌, length, map, refl, sym, ◌∙◌, ap, ap₂, subst, arith}
use Rattle.std.specs.Prelude.{Bool, if◌then◌else◌, nat_lt, take, Option, Some, None, option_map, slice_get}
use Rattle.std.specs.List.{cons_option, filter_map, zip}
use Rattle.std.proofs.lemmas.List.{take-map}
use Rattle.std.proofs.lemmas.Option.{slice_get-map}
use Rattle.model_history.specs.declared.op_id.OpId.{OpId}
use Rattle.model_history.specs.History.{HistoryValue}
use Rattle.cert_check.specs.declared.criterion.Criterion.{Criterion}
use Rattle.cert_check.specs.declared.certificate.Certificate.{Certificate}
use Rattle.cert_check.specs.declared.checking.Outcome.{Outcome}
use Rattle.cert_check.specs.Certificates.{CaseRecord, IsCaseFile}
use Rattle.pattern_check.specs.declared.pattern.Pattern.{Pattern}
use Rattle.pattern_check.specs.Patterns.{kind_of}
use Rattle.live_case_board.specs.declared.board.TheConstants.{MAX_CASES}
use Rattle.live_case_board.specs.declared.piece.Piece.{Piece}
use Rattle.live_case_board.specs.declared.answer.Answer.{Answer as Standing}
use Rattle.live_case_board.specs.declared.answer.Answer.TheVariants.{Yes, No, Unknown, Open}
use Rattle.live_cut_plan.specs.Plans.{Plan, fresh_plan, after_looks}
use Rattle.live_seals.specs.Runs.{Event, looks, sealed_sessions}
use Rattle.live_seals.proofs.Filtered.{take-from}
use Rattle.live_seals.proofs.FoundLooks.{after_is}
use Rattle.pattern_json.specs.Shortened.{shortened}
use Rattle.pattern_json.proofs.Shortened.{of_kept_shape, of_whole_shape}
use Rattle.live_simulation.specs.declared.step.StepOf.{StepOf}
use Rattle.live_simulation.specs.declared.step.StepOf.TheVariants.{File, Take, Work, Put, Refute, Ask}
use Rattle.live_simulation.specs.declared.reply.ReplyOf.{ReplyOf}
use Rattle.live_simulation.specs.declared.reply.ReplyOf.TheVariants.{Case, Verdict, Refused}
use Rattle.live_simulation.specs.declared.refusal.Refusal.{Refusal}
use Rattle.live_simulation.specs.declared.refusal.Refusal.TheVariants.{Full, NoSuch, ShapeMismatch}
use Rattle.live_simulation.specs.Happened.{event, events}
use Rattle.live_simulation.specs.LaneReplies.{seal, IsLaneReply}
use Rattle.live_simulation.specs.Cases.{Filing, if_filed, filed, given, put, refuted, took, file_of, filed_with}
use Rattle.live_simulation.specs.Cases.{filings, verdicts, puts, patterns, taken, case_file, HasVerdict, WasTaken}
use Rattle.live_simulation.specs.BoardReplies.{next_case, IsFileReply, IsPutReply, IsRefuteReply, IsWorkReply, IsUndecided, IsAnswer, IsAskReply}
use Rattle.live_simulation.specs.BoardReplies.{AreOpen, IsFree, IsTake, IsBoardReply}
use Rattle.live_simulation.specs.Runs.{Replied, IsReply, IsRun}
use Rattle.live_simulation.proofs.SealsKept.{seal_parts}
use Rattle.live_script.specs.Shortened.{kept_step}

-- what is picked of changed items, where the change of none changes what it gives
same_picked : {X Y : Type 0} (h : X → X) (f : X → Option Y) (xs : List X)
    → ((i : ℕ) (x : X) → slice_get xs i ≡ Some x → f (h x) ≡ f x) → filter_map f (map h xs) ≡ filter_map f xs
same_picked h f [] same = refl
same_picked h f (x ∷ xs) same = ap₂ cons_option (same 0 x refl) (same_picked h f xs (λ i y at. same (suc i) y at))

-- ---- what is kept of a step with its reply

module _ {C R H : Type 0} where
  abbrev kept : StepOf C R × ReplyOf H → StepOf C R × ReplyOf H
  kept e = (kept_step e.0, e.1)

  zip_kept : (steps : List (StepOf C R)) (replies : List (ReplyOf H)) → zip (map kept_step steps) replies ≡ map kept (zip steps replies)
  zip_kept [] replies = refl
  zip_kept (step ∷ steps) [] = refl
  zip_kept (step ∷ steps) (reply ∷ replies) =
      ap {B = List (StepOf C R × ReplyOf H)} (λ es. (kept_step step, reply) ∷ es) (zip_kept steps replies)

  -- a step that files no case is kept whole, and of one that files a case none of these reads anything
  same_event : (step : StepOf C R) (reply : ReplyOf H) → event (kept_step step) reply ≡ event step reply
  same_event (File z criterion certificate) reply = refl
  same_event _ reply = refl

  same_given : (step : StepOf C R) (reply : ReplyOf H) → given (kept_step step) reply ≡ given step reply
  same_given (File z criterion certificate) reply = refl
  same_given _ reply = refl

  same_put : (step : StepOf C R) (reply : ReplyOf H) → put (kept_step step) reply ≡ put step reply
  same_put (File z criterion certificate) reply = refl
  same_put _ reply = refl

  same_refuted : (c : ℕ) (step : StepOf C R) (reply : ReplyOf H) → refuted c (kept_step step) reply ≡ refuted c step reply
  same_refuted c (File z criterion certificate) reply = refl
  same_refuted c _ reply = refl

  same_took : (step : StepOf C R) (reply : ReplyOf H) → took (kept_step step) reply ≡ took step reply
  same_took (File z criterion certificate) reply = refl
  same_took _ reply = refl

-- ---- steps with replies of which the same is read off

record AreAlike {C R H : Type 0} (old new : List (StepOf C R × ReplyOf H)) : Type 0 where
  happened : events old ≡ events new
  filed_as : filings old ≡ filings new
  given_as : verdicts old ≡ verdicts new
  put_as : puts old ≡ puts new
  refuted_as : (c : ℕ) → patterns old c ≡ patterns new c
  taken_as : taken old ≡ taken new

turned : {C R H : Type 0} (old new : List (StepOf C R × ReplyOf H)) → AreAlike old new → AreAlike new old
turned old new alike = record {
  happened = sym alike.happened;
  filed_as = sym alike.filed_as;
  given_as = sym alike.given_as;
  put_as = sym alike.put_as;
  refuted_as = λ c. sym (alike.refuted_as c);
  taken_as = sym alike.taken_as;
}

module _ {C R H : Type 0} (old new : List (StepOf C R × ReplyOf H)) (alike : AreAlike old new) where
  has_verdict : (c : ℕ) (o : OpId) → HasVerdict old c o → HasVerdict new c o
  has_verdict c o has = (
    has.0,
    has.1,
    subst (λ (ps : List (ℕ × ℕ)). slice_get ps has.0 ≡ Some (c, has.1)) alike.put_as has.2,
    subst (λ (ps : List Piece). slice_get ps has.1 ≡ Some record { number = c; op = o }) alike.given_as has.3,
  )

  was_taken : (c : ℕ) (o : OpId) → WasTaken old c o → WasTaken new c o
  was_taken c o was = (was.0, subst (λ (ps : List Piece). slice_get ps was.0 ≡ Some record { number = c; op = o }) alike.taken_as was.1)

module _ {S C R : Type 0} (start : S) (k : ℕ) (old new : List (Replied S C R)) (alike : AreAlike old new) where
  abbrev back : AreAlike new old
  back = turned old new alike

  same_file_of : (o : Option Filing) → file_of start k old o ≡ file_of start k new o
  same_file_of None = refl
  same_file_of (Some f) = ap (λ (evs : List (Event C R)). filed_with f (seal start k evs f.sealer)) alike.happened

  same_file : (c : ℕ) → case_file start k old c ≡ case_file start k new c
  same_file c = same_file_of (slice_get (filings old) c) ∙ ap (λ (fs : List Filing). file_of start k new (slice_get fs c)) alike.filed_as

  free_too : (c : ℕ) (o : OpId) → IsFree start k old c o → IsFree start k new c o
  free_too c o free = record {
    file = free.file;
    filed = sym (same_file c) ∙ free.filed;
    piece = free.piece;
    unrefuted = sym (alike.refuted_as c) ∙ free.unrefuted;
    not_taken = λ was. free.not_taken (was_taken new old back c o was);
    no_verdict = λ has. free.no_verdict (has_verdict new old back c o has);
  }

  open_too : (c : ℕ) (f : CaseRecord S C R) (n : ℕ) → AreOpen old c f n → AreOpen new c f n
  open_too c f n are = record {
    ops = are.ops;
    many = are.many;
    each = λ o is none. are.each o is (λ has. none (has_verdict old new alike c o has));
    no_other = λ i o at. let is = are.no_other i o at in (is.0, λ has. is.1 (has_verdict new old back c o has));
    once = are.once;
  }

-- ---- replies are the same after such steps

module _ {S C R : Type 0} (answer : S → List C → C → R) (passes : HistoryValue S C R → Criterion → Pattern → Type 0) (start : S) (k : ℕ)
    (old new : List (Replied S C R)) (alike : AreAlike old new) (reply : ReplyOf (HistoryValue S C R)) where
  file_too : (criterion : Criterion) (certificate : Option Certificate) (o : Option (HistoryValue S C R))
      → IsFileReply old criterion certificate o reply → IsFileReply new criterion certificate o reply
  file_too criterion certificate None is = is
  file_too criterion certificate (Some h) (inl is) =
      let next : next_case old ≡ next_case new =
      ap (λ (fs : List Filing). if nat_lt (length fs) MAX_CASES then Case (length fs) else Refused Full) alike.filed_as in
      inl (is.0, is.1 ∙ next)
  file_too criterion certificate (Some h) (inr is) = inr is

  freed : (c : ℕ) (o : OpId) → IsFree start k new c o → IsFree start k old c o
  freed = free_too start k new old (turned old new alike)

  take_too : (piece : Option Piece) → IsTake start k old piece → IsTake start k new piece
  take_too None none = λ c o free. none c o (freed c o free)
  take_too (Some piece) first = record {
    free = free_too start k old new alike piece.number piece.op first.free;
    first_case = λ c o before free. first.first_case c o before (freed c o free);
    first_op = λ o before free. first.first_op o before (freed piece.number o free);
  }

  work_too : (o : OpId) (file : Option (CaseRecord S C R)) → IsWorkReply answer old o file reply → IsWorkReply answer new o file reply
  work_too o None is = is
  work_too o (Some f) (inl is) = inl is
  work_too o (Some f) (inr is) =
      let outcome : Outcome = is.1.0 in
      let next : Verdict (length (verdicts old)) outcome ≡ Verdict (length (verdicts new)) outcome =
      ap (λ (ps : List Piece). Verdict (length ps) outcome) alike.given_as in
      inr (is.0, (outcome, is.1.1 ∙ next, is.1.2))

  put_too : (c : ℕ) (f : Option Filing) (piece : Option Piece) → IsPutReply old c f piece reply → IsPutReply new c f piece reply
  put_too c None piece is = is
  put_too c (Some f) None is = is
  put_too c (Some f) (Some piece) (inl is) = inl is
  put_too c (Some f) (Some piece) (inr (same, inl is)) = inr (same, inl (has_verdict old new alike c piece.op is.0, is.1))
  put_too c (Some f) (Some piece) (inr (same, inr is)) =
      inr (same, inr (λ has. is.0 (has_verdict new old (turned old new alike) c piece.op has), is.1))

  refute_too : (pattern : Pattern) (file : Option (CaseRecord S C R))
      → IsRefuteReply old passes pattern file reply → IsRefuteReply new passes pattern file reply
  refute_too pattern None is = is
  refute_too pattern (Some f) is = is

  undecided_too : (c : ℕ) (f : CaseRecord S C R) (certificate : Certificate)
      → IsUndecided answer old c f certificate → IsUndecided answer new c f certificate
  undecided_too c f certificate is = (sym (alike.refuted_as c) ∙ is.0, is.1)

  answer_too : (c : ℕ) (f : CaseRecord S C R) (standing : Standing) → IsAnswer answer old c f standing → IsAnswer answer new c f standing
  answer_too c f (No kind) is = ap (λ (ps : List Pattern). option_map kind_of (slice_get ps 0)) (sym (alike.refuted_as c)) ∙ is
  answer_too c f (Unknown None) is = (sym (alike.refuted_as c) ∙ is.0, is.1)
  answer_too c f (Open n) is = (is.0, undecided_too c f is.0 is.1, open_too start k old new alike c f n is.2, is.3)
  answer_too c f Yes is = (is.0, undecided_too c f is.0 is.1, open_too start k old new alike c f 0 is.2, is.3)
  answer_too c f (Unknown (Some o)) is = (is.0, undecided_too c f is.0 is.1, open_too start k old new alike c f 0 is.2, is.3)

  ask_too : (c : ℕ) (file : Option (CaseRecord S C R)) → IsAskReply answer old c file reply → IsAskReply answer new c file reply
  ask_too c None is = is
  ask_too c (Some f) is = (is.0, is.1, answer_too c f is.0 is.2)

  -- where the step is the same
  board_too : (step : StepOf C R) → IsBoardReply answer passes start k old step reply
      → IsBoardReply answer passes start k new step reply
  board_too (File z criterion certificate) is =
      file_too criterion certificate (seal start k (events new) z)
      (subst (λ (evs : List (Event C R)). IsFileReply old criterion certificate (seal start k evs z) reply) alike.happened is)
  board_too Take is = (is.0, is.1, take_too is.0 is.2)
  board_too (Work c o) is =
      work_too o (case_file start k new c)
      (subst (λ (file : Option (CaseRecord S C R)). IsWorkReply answer old o file reply) (same_file start k old new alike c) is)
  board_too (Put c v) is =
      put_too c (slice_get (filings new) c) (slice_get (verdicts new) v)
      (subst (λ (ps : List Piece). IsPutReply old c (slice_get (filings new) c) (slice_get ps v) reply) alike.given_as
      (subst (λ (fs : List Filing). IsPutReply old c (slice_get fs c) (slice_get (verdicts old) v) reply) alike.filed_as is))
  board_too (Refute c pattern) is =
      refute_too pattern (case_file start k new c)
      (subst (λ (file : Option (CaseRecord S C R)). IsRefuteReply old passes pattern file reply) (same_file start k old new alike c) is)
  board_too (Ask c) is =
      ask_too c (case_file start k new c)
      (subst (λ (file : Option (CaseRecord S C R)). IsAskReply answer old c file reply) (same_file start k old new alike c) is)
  board_too _ is = tt

-- ---- the certificates with which cases are filed

sessions_many : {C R : Type 0} (es : List (Event C R)) (p : Plan) (s n : ℕ) → length (sealed_sessions es p s n) ≡ n
sessions_many es p s zero = refl
sessions_many es p s (suc n) = ap suc (sessions_many es p (s + 1) n)

-- a refused step files nothing
not_filed : {H : Type 0} (f g : Filing) (refusal : Refusal) (reply : ReplyOf H) → reply ≡ Refused refusal
    → if_filed f reply ≡ if_filed g reply
not_filed {H} f g refusal reply is = subst (λ (r : ReplyOf H). if_filed f r ≡ if_filed g r) (sym is) refl

module _ {S C R : Type 0} (start : S) (k : ℕ) (few : k ≤ 16) where
  -- a history that was sealed has k sessions
  few_sealed : (evs : List (Event C R)) (z : ℕ) (h : HistoryValue S C R) → seal start k evs z ≡ Some h → length h.1 ≤ 16
  few_sealed evs z h e =
      let s = seal_parts start k evs z h e in
      let p : Plan = after_looks (fresh_plan k 256 s.0) (looks z evs) in
      let many : length h.1 ≡ p.lanes = ap (λ (x : HistoryValue S C R). length x.1) (sym s.1.2) ∙ sessions_many evs p 0 p.lanes in
      let lanes : p.lanes ≡ k = ap (λ (q : Plan). q.lanes) (after_is (fresh_plan k 256 s.0) (looks z evs)) in
      omega (arith, many, lanes, few)

  module _ (es : List (Replied S C R)) (z : ℕ) (criterion : Criterion) (certificate : Certificate)
      (reply : ReplyOf (HistoryValue S C R)) where
    abbrev filing : Certificate → Filing
    filing c = record { sealer = z; criterion = criterion; certificate = Some c }

    -- with a certificate of which not all is kept nothing is filed
    filed_as_kept : (o : Option (HistoryValue S C R)) → ((h : HistoryValue S C R) → o ≡ Some h → length h.1 ≤ 16)
        → IsFileReply es criterion (Some (shortened certificate)) o reply
        → if_filed (filing (shortened certificate)) reply ≡ if_filed (filing certificate) reply
    filed_as_kept None few_in is = not_filed (filing (shortened certificate)) (filing certificate) NoSuch reply is
    filed_as_kept (Some h) few_in (inl is) =
        ap (λ (c : Certificate). if_filed (filing c) reply)
        (of_kept_shape h (few_in h refl) certificate (is.0 (shortened certificate) refl).1)
    filed_as_kept (Some h) few_in (inr is) = not_filed (filing (shortened certificate)) (filing certificate) ShapeMismatch reply is.1

    file_of_kept : (o : Option (HistoryValue S C R)) → ((h : HistoryValue S C R) → o ≡ Some h → length h.1 ≤ 16)
        → IsFileReply es criterion (Some (shortened certificate)) o reply → IsFileReply es criterion (Some certificate) o reply
    file_of_kept None few_in is = is
    file_of_kept (Some h) few_in (inl is) =
        let whole = of_kept_shape h (few_in h refl) certificate (is.0 (shortened certificate) refl).1 in
        inl (subst (λ (c : Certificate). IsCaseFile (h, criterion, Some c)) whole is.0, is.1)
    file_of_kept (Some h) few_in (inr is) = inr (not_whole, is.1)
      where
        not_whole : ¬ IsCaseFile (h, criterion, Some certificate)
        not_whole case_file =
            let whole = of_whole_shape h (few_in h refl) certificate (case_file certificate refl).1 in
            is.0 (subst (λ (c : Certificate). IsCaseFile (h, criterion, Some c)) (sym whole) case_file)

  module _ (answer : S → List C → C → R) (passes : HistoryValue S C R → Criterion → Pattern → Type 0)
      (es : List (Replied S C R)) (reply : ReplyOf (HistoryValue S C R)) where
    -- where what is kept of a step has this reply, the step files what is filed by what is kept of it
    same_filed : (step : StepOf C R) → IsBoardReply answer passes start k es (kept_step step) reply
        → filed (kept_step step) reply ≡ filed step reply
    same_filed (File z criterion None) is = refl
    same_filed (File z criterion (Some certificate)) is =
        filed_as_kept es z criterion certificate reply (seal start k (events es) z) (few_sealed (events es) z) is
    same_filed _ is = refl

    -- and has the same reply
    board_of_kept : (step : StepOf C R) → IsBoardReply answer passes start k es (kept_step step) reply
        → IsBoardReply answer passes start k es step reply
    board_of_kept (File z criterion None) is = is
    board_of_kept (File z criterion (Some certificate)) is =
        file_of_kept es z criterion certificate reply (seal start k (events es) z) (few_sealed (events es) z) is
    board_of_kept _ is = is

lane_of_kept : {S C R : Type 0} (fits : C → R → Bool) (start : S) (k : ℕ) (evs : List (Event C R))
    (step : StepOf C R) (reply : ReplyOf (HistoryValue S C R))
    → IsLaneReply fits start k evs (kept_step step) reply → IsLaneReply fits start k evs step reply
lane_of_kept fits start k evs (File z criterion certificate) reply is = tt
lane_of_kept fits start k evs _ reply is = is

-- ---- runs

module _ {S C R : Type 0} (fits : C → R → Bool) (answer : S → List C → C → R) (passes : HistoryValue S C R → Criterion → Pattern → Type 0)
    (start : S) (k : ℕ) (few : k ≤ 16) where
  module _ (es : List (Replied S C R)) (run : IsRun fits answer passes start k (map kept es)) where
    reply_of_kept : (i : ℕ) (step : StepOf C R) (reply : ReplyOf (HistoryValue S C R)) → slice_get es i ≡ Some (step, reply)
        → IsReply fits answer passes start k (map kept (take i es)) (kept_step step) reply
    reply_of_kept i step reply at =
        subst (λ (old : List (Replied S C R)). IsReply fits answer passes start k old (kept_step step) reply) (take-map kept i es)
        (run i (kept_step step) reply (slice_get-map kept es i ∙ ap (option_map kept) at))

    filed_there : (n i : ℕ) (e : Replied S C R) → slice_get (take n es) i ≡ Some e → filed (kept_step e.0) e.1 ≡ filed e.0 e.1
    filed_there n i e at =
        let is = reply_of_kept i e.0 e.1 (take-from n es i e at).1 in
        same_filed start k few answer passes (map kept (take i es)) e.1 e.0 is.1

    -- the same is read off the first steps as off what is kept of them
    first_alike : (n : ℕ) → AreAlike (map kept (take n es)) (take n es)
    first_alike n = record {
      happened = same_picked kept (λ (e : Replied S C R). event e.0 e.1) (take n es) (λ i e at. same_event e.0 e.1);
      filed_as = same_picked kept (λ (e : Replied S C R). filed e.0 e.1) (take n es) (filed_there n);
      given_as = same_picked kept (λ (e : Replied S C R). given e.0 e.1) (take n es) (λ i e at. same_given e.0 e.1);
      put_as = same_picked kept (λ (e : Replied S C R). put e.0 e.1) (take n es) (λ i e at. same_put e.0 e.1);
      refuted_as = λ c. same_picked kept (λ (e : Replied S C R). refuted c e.0 e.1) (take n es) (λ i e at. same_refuted c e.0 e.1);
      taken_as = same_picked kept (λ (e : Replied S C R). took e.0 e.1) (take n es) (λ i e at. same_took e.0 e.1);
    }

    run_of_kept : IsRun fits answer passes start k es
    run_of_kept i step reply at =
        let old : List (Replied S C R) = map kept (take i es) in
        let is = reply_of_kept i step reply at in
        let alike = first_alike i in
        let lane = lane_of_kept fits start k (events old) step reply is.0 in
        let board = board_of_kept start k few answer passes old reply step is.1 in (
          subst (λ (evs : List (Event C R)). IsLaneReply fits start k evs step reply) alike.happened lane,
          board_too answer passes start k old (take i es) alike reply step board,
        )

  pub of_kept_run : (steps : List (StepOf C R)) (replies : List (ReplyOf (HistoryValue S C R)))
      → IsRun fits answer passes start k (zip (map kept_step steps) replies) → IsRun fits answer passes start k (zip steps replies)
  of_kept_run steps replies run =
      run_of_kept (zip steps replies) (subst (IsRun fits answer passes start k) (zip_kept steps replies) run)
