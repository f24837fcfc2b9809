-- Which operation of the history of a log an operation of that of a cut is.
use Rattle.std.proofs.Common.{◌≡◌, ℕ, zero, suc, ◌<◌, Bool, true, false, List, take, drop, refl, ap, sym, subst, ◌∙◌, inl, inr, ⊎_elim, arith}
use Rattle.std.specs.Prelude.{◌≢◌, ◌⊎◌, ◌&&◌, if◌then◌else◌, Option, Some, None, slice_get}
use Rattle.std.proofs.lemmas.Bool.{cases_Bool}
use Rattle.std.proofs.lemmas.Option.{same_Some}
use Rattle.model_objects.specs.declared.register.RegisterRet.TheVariants.{Value}
use Rattle.model_history.specs.declared.op_id.OpId.{OpId}
use Rattle.model_history.specs.History.{session, entry}
use Rattle.order_causal.proofs.Fronts.{take-from}
use Rattle.log_events.specs.declared.event.ClientCall.{ClientCall}
use Rattle.log_events.specs.declared.event.ClientCall.TheVariants.{WriteTo, ReadOf, DeleteOf}
use Rattle.log_events.specs.declared.event.Ending.{Ending}
use Rattle.log_events.specs.declared.event.Ending.TheVariants.{Answered, Got, GotNothing, Failed, Lost}
use Rattle.log_events.specs.declared.event.Event.{Event}
use Rattle.log_events.specs.declared.event.Event.TheVariants.{Begins}
use Rattle.log_events.specs.Events.{Call, run_calls, ending_in}
use Rattle.log_events.specs.Histories.{Operation, key, nothing, read, is_deleted, operation, history_of}
use Rattle.log_events.proofs.CallOperations.{memory_call}
use Rattle.log_events.proofs.CallPlaces.{calls-from, ended-from, ended-to}
use Rattle.log_events.proofs.CallSlots.{IsSlot, IsCallBegun, same-call, slot-op, slot-of, slot-once, slot-one, call-begun, at-slot}
use Rattle.log_events.proofs.CutLogs.{ended-of_cut}
use Rattle.log_events.proofs.ListPlaces.{slice_get-found}

-- what was found, if it was
module _ (holds : OpId → Type 0) where
  abbrev pub chosen : ((b : OpId) × holds b) ⊎ ((b : OpId) → ¬ holds b) → Option OpId
  chosen (inl found) = Some found.0
  chosen (inr none) = None

  pub chosen-from : (found : ((b : OpId) × holds b) ⊎ ((b : OpId) → ¬ holds b)) (b : OpId) → chosen found ≡ Some b → holds b
  chosen-from (inl r) b is = subst holds (same_Some _ _ is) r.1
  chosen-from (inr none) b is = absurd cc

  pub chosen-to : (found : ((b : OpId) × holds b) ⊎ ((b : OpId) → ¬ holds b)) (b : OpId) → holds b → ((a d : OpId) → holds a → holds d → a ≡ d)
      → chosen found ≡ Some b
  chosen-to (inl r) b is once = ap (λ (o : OpId). Some o) (once r.0 b r.1 is)
  chosen-to (inr none) b is once = absurd (none b is)

abbrev pub is_open : Option Ending → Bool
is_open None = true
is_open (Some ending) = false

abbrev pub is_lost : Option Ending → Bool
is_lost None = false
is_lost (Some Answered) = false
is_lost (Some (Got v)) = false
is_lost (Some GotNothing) = false
is_lost (Some Failed) = false
is_lost (Some Lost) = true

pub lost-is : (o : Option Ending) → is_lost o ≡ true → o ≡ Some Lost
lost-is None is = absurd cc
lost-is (Some Answered) is = absurd cc
lost-is (Some (Got v)) is = absurd cc
lost-is (Some GotNothing) is = absurd cc
lost-is (Some Failed) is = absurd cc
lost-is (Some Lost) is = refl

-- a call that was not lost has an operation with its own call
pub operation-call : (es : List Event) (place : ℕ) (call : ClientCall) (o : Option Ending) (d : Operation) → operation es place call o ≡ Some d
    → o ≢ Some Lost → d.0 ≡ memory_call place call
operation-call es place (WriteTo x v) None d is other = sym (ap (λ (e : Operation). e.0) (same_Some _ _ is))
operation-call es place (WriteTo x v) (Some Answered) d is other = sym (ap (λ (e : Operation). e.0) (same_Some _ _ is))
operation-call es place (WriteTo x v) (Some (Got w)) d is other = absurd cc
operation-call es place (WriteTo x v) (Some GotNothing) d is other = absurd cc
operation-call es place (WriteTo x v) (Some Failed) d is other = absurd cc
operation-call es place (WriteTo x v) (Some Lost) d is other = absurd (other refl)
operation-call es place (ReadOf x) None d is other = sym (ap (λ (e : Operation). e.0) (same_Some _ _ is))
operation-call es place (ReadOf x) (Some Answered) d is other = absurd cc
operation-call es place (ReadOf x) (Some (Got w)) d is other = sym (ap (λ (e : Operation). e.0) (same_Some _ _ is))
operation-call es place (ReadOf x) (Some GotNothing) d is other =
    elim (is_deleted es x) as (λ b. (if b then None else Some (read (key x) (Some (Value nothing)))) ≡ Some d → d.0 ≡ memory_call place (ReadOf x)) [
      | true ↦ λ none. absurd cc
      | false ↦ λ same. sym (ap (λ (e : Operation). e.0) (same_Some _ _ same))
    ] is
operation-call es place (ReadOf x) (Some Failed) d is other = absurd cc
operation-call es place (ReadOf x) (Some Lost) d is other = absurd cc
operation-call es place (DeleteOf x) None d is other = sym (ap (λ (e : Operation). e.0) (same_Some _ _ is))
operation-call es place (DeleteOf x) (Some Answered) d is other = sym (ap (λ (e : Operation). e.0) (same_Some _ _ is))
operation-call es place (DeleteOf x) (Some (Got w)) d is other = absurd cc
operation-call es place (DeleteOf x) (Some GotNothing) d is other = absurd cc
operation-call es place (DeleteOf x) (Some Failed) d is other = absurd cc
operation-call es place (DeleteOf x) (Some Lost) d is other = absurd cc

module _ (es : List Event) (n : ℕ) where
  abbrev cut : List Event
  cut = take n es

  -- a call in the cut and the same one in the log
  pub record IsLinked (a b : Call) : Type 0 where
    pub client : a.client ≡ b.client
    pub call : a.call ≡ b.call
    pub ended : (ending : Ending) → a.ending ≡ Some ending → b.ending ≡ Some ending
    pub early : a.place < n

  pub linked : (a b : Call) (k m : ℕ) → slice_get (run_calls cut) k ≡ Some a → slice_get (run_calls es) m ≡ Some b → a.place ≡ b.place → IsLinked a b
  linked a b k m first second places =
      let (i, place, here) = calls-from 0 cut k a first in
      let (j, place2, there) = calls-from 0 es m b second in
      let same : i ≡ j = omega arith in
      let (below, begun) = take-from n es i (Begins a.client a.call) here.begun in
      let event : Begins a.client a.call ≡ Begins b.client b.call = same_Some _ _ (sym begun ∙ ap (slice_get es) same ∙ there.begun) in
      let client_same : a.client ≡ b.client = cc in
      record {
        client = client_same;
        call = cc;
        ended = λ ending is.
            let end = ended-from cut i a ending here is in
            let stays = ended-to es a.client a.call i end.0 ending (ended-of_cut es n a.client a.call i end.0 ending end.1) in
            there.ended ∙ sym (λ t. ending_in (client_same t) (drop (suc (same t)) es)) ∙ stays;
        early = omega arith;
      }

  -- the call at a place is pending in the cut and lost in the log: its write moves to a fork, if it is there
  pending_of : (p : ℕ) → IsCallBegun cut p ⊎ ((a : Call) (k : ℕ) → slice_get (run_calls cut) k ≡ Some a → a.place ≢ p) → Bool
  pending_of p (inl found) = is_open found.0.ending
  pending_of p (inr none) = false

  lost_of : (p : ℕ) → IsCallBegun es p ⊎ ((a : Call) (k : ℕ) → slice_get (run_calls es) k ≡ Some a → a.place ≢ p) → Bool
  lost_of p (inl found) = is_lost found.0.ending
  lost_of p (inr none) = false

  pending-is : (p : ℕ) (found : IsCallBegun cut p ⊎ ((a : Call) (k : ℕ) → slice_get (run_calls cut) k ≡ Some a → a.place ≢ p)) (a : Call) (k : ℕ)
      → slice_get (run_calls cut) k ≡ Some a → a.place ≡ p → pending_of p found ≡ is_open a.ending
  unfolding pending_of
  pending-is p (inl found) a k at place =
      ap (λ (c : Call). is_open c.ending) (same-call cut found.0 a found.1 k found.2 at (found.3 ∙ sym place)).1
  pending-is p (inr none) a k at place = absurd (none a k at place)

  lost_of-is : (p : ℕ) (found : IsCallBegun es p ⊎ ((a : Call) (k : ℕ) → slice_get (run_calls es) k ≡ Some a → a.place ≢ p)) (a : Call) (k : ℕ)
      → slice_get (run_calls es) k ≡ Some a → a.place ≡ p → lost_of p found ≡ is_lost a.ending
  unfolding lost_of
  lost_of-is p (inl found) a k at place =
      ap (λ (c : Call). is_lost c.ending) (same-call es found.0 a found.1 k found.2 at (found.3 ∙ sym place)).1
  lost_of-is p (inr none) a k at place = absurd (none a k at place)

  pub moves : ℕ → Bool
  moves p = pending_of p (call-begun cut p) && lost_of p (call-begun es p)

  pub moves-is : (p : ℕ) (a b : Call) (k m : ℕ) → slice_get (run_calls cut) k ≡ Some a → slice_get (run_calls es) m ≡ Some b → a.place ≡ p → b.place ≡ p
      → moves p ≡ (is_open a.ending && is_lost b.ending)
  unfolding moves
  moves-is p a b k m first second place1 place2 =
      λ i. pending-is p (call-begun cut p) a k first place1 i && lost_of-is p (call-begun es p) b m second place2 i

  -- a slot in the cut and in the log: a write that moves is in its client's session in the cut, and the second of its fork in the log
  abbrev pub Shifts : ℕ → ℕ → ℕ → Type 0
  Shifts p kind other = ((moves p ≡ true) × (kind ≡ 0) × (other ≡ 2)) ⊎ ((moves p ≡ false) × (kind ≡ other))

  clash : (p q : ℕ) → p ≡ q → moves p ≡ true → moves q ≡ false → ⊥
  clash p q same first second = let wrong : true ≡ false = sym first ∙ ap moves same ∙ second in absurd cc

  shifts-right : (p q kind kind2 other other2 : ℕ) → p ≡ q → kind ≡ kind2 → Shifts p kind other → Shifts q kind2 other2 → other ≡ other2
  shifts-right p q kind kind2 other other2 same kinds (inl (move, is, to)) (inl (move2, is2, to2)) = omega arith
  shifts-right p q kind kind2 other other2 same kinds (inl (move, is, to)) (inr (stay, is2)) = absurd (clash p q same move stay)
  shifts-right p q kind kind2 other other2 same kinds (inr (stay, is)) (inl (move2, is2, to2)) = absurd (clash q p (sym same) move2 stay)
  shifts-right p q kind kind2 other other2 same kinds (inr (stay, is)) (inr (stay2, is2)) = omega arith

  shifts-left : (p q kind kind2 other other2 : ℕ) → p ≡ q → other ≡ other2 → Shifts p kind other → Shifts q kind2 other2 → kind ≡ kind2
  shifts-left p q kind kind2 other other2 same others (inl (move, is, to)) (inl (move2, is2, to2)) = omega arith
  shifts-left p q kind kind2 other other2 same others (inl (move, is, to)) (inr (stay, is2)) = absurd (clash p q same move stay)
  shifts-left p q kind kind2 other other2 same others (inr (stay, is)) (inl (move2, is2, to2)) = absurd (clash q p (sym same) move2 stay)
  shifts-left p q kind kind2 other other2 same others (inr (stay, is)) (inr (stay2, is2)) = omega arith

  shift-to : (p kind : ℕ) → ((other : ℕ) × Shifts p kind other) ⊎ ((other : ℕ) → ¬ Shifts p kind other)
  shift-to p zero = ⊎_elim
      (λ (move : moves p ≡ true). inl (2, inl (move, refl, refl)))
      (λ (stay : moves p ≡ false). inl (0, inr (stay, refl)))
      (cases_Bool (moves p))
  shift-to p (suc i) = ⊎_elim
      (λ (move : moves p ≡ true). inr (none move))
      (λ (stay : moves p ≡ false). inl (suc i, inr (stay, refl)))
      (cases_Bool (moves p))
    where
      none : moves p ≡ true → (other : ℕ) → ¬ Shifts p (suc i) other
      none move other (inl (_, is, _)) = absurd (omega arith)
      none move other (inr (stay, _)) = clash p p refl move stay

  shift-from : (p other : ℕ) → ((kind : ℕ) × Shifts p kind other) ⊎ ((kind : ℕ) → ¬ Shifts p kind other)
  shift-from p zero = ⊎_elim
      (λ (move : moves p ≡ true). inr (none move))
      (λ (stay : moves p ≡ false). inl (0, inr (stay, refl)))
      (cases_Bool (moves p))
    where
      none : moves p ≡ true → (kind : ℕ) → ¬ Shifts p kind 0
      none move kind (inl (_, _, is)) = absurd (omega arith)
      none move kind (inr (stay, _)) = clash p p refl move stay
  shift-from p (suc zero) = ⊎_elim
      (λ (move : moves p ≡ true). inr (none move))
      (λ (stay : moves p ≡ false). inl (1, inr (stay, refl)))
      (cases_Bool (moves p))
    where
      none : moves p ≡ true → (kind : ℕ) → ¬ Shifts p kind 1
      none move kind (inl (_, _, is)) = absurd (omega arith)
      none move kind (inr (stay, _)) = clash p p refl move stay
  shift-from p (suc (suc zero)) = ⊎_elim
      (λ (move : moves p ≡ true). inl (0, inl (move, refl, refl)))
      (λ (stay : moves p ≡ false). inl (2, inr (stay, refl)))
      (cases_Bool (moves p))
  shift-from p (suc (suc (suc i))) = ⊎_elim
      (λ (move : moves p ≡ true). inr (none move))
      (λ (stay : moves p ≡ false). inl (suc (suc (suc i)), inr (stay, refl)))
      (cases_Bool (moves p))
    where
      none : moves p ≡ true → (kind : ℕ) → ¬ Shifts p kind (suc (suc (suc i)))
      none move kind (inl (_, _, is)) = absurd (omega arith)
      none move kind (inr (stay, _)) = clash p p refl move stay

  -- the operation a of the cut is the operation b of the log
  pub record IsImage (a b : OpId) : Type 0 where
    pub p : ℕ
    pub kind : ℕ
    pub other : ℕ
    pub in_cut : IsSlot cut p kind a
    pub in_log : IsSlot es p other b
    pub shifts : Shifts p kind other

  pub image-right : (a b d : OpId) → IsImage a b → IsImage a d → b ≡ d
  image-right a b d first second =
      let (places, kinds) = slot-one cut first.p second.p first.kind second.kind a first.in_cut second.in_cut in
      let others = shifts-right first.p second.p first.kind second.kind first.other second.other places kinds first.shifts second.shifts in
      slot-once es first.p first.other b d first.in_log
      (subst (λ (k : ℕ). IsSlot es first.p k d) (sym others) (subst (λ (p : ℕ). IsSlot es p second.other d) (sym places) second.in_log))

  pub image-left : (a d b : OpId) → IsImage a b → IsImage d b → a ≡ d
  image-left a d b first second =
      let (places, others) = slot-one es first.p second.p first.other second.other b first.in_log second.in_log in
      let kinds = shifts-left first.p second.p first.kind second.kind first.other second.other places others first.shifts second.shifts in
      slot-once cut first.p first.kind a d first.in_cut
      (subst (λ (k : ℕ). IsSlot cut first.p k d) (sym kinds) (subst (λ (p : ℕ). IsSlot cut p second.kind d) (sym places) second.in_cut))

  image-found : (a : OpId) → ((b : OpId) × IsImage a b) ⊎ ((b : OpId) → ¬ IsImage a b)
  image-found a =
      elim (entry (history_of cut) a) as (λ o. entry (history_of cut) a ≡ o → ((b : OpId) × IsImage a b) ⊎ ((b : OpId) → ¬ IsImage a b)) [
        | None ↦ λ none. inr (λ b im.
            let e = slice_get-found (session (history_of cut) a.session) a.index (slot-op cut im.p im.kind a im.in_cut) in
            let wrong : Some e.0 ≡ None = sym e.1 ∙ none in absurd cc)
        | Some e ↦ λ some. let (p, kind, slot) = slot-of cut a e some in ⊎_elim
            (λ (shift : (other : ℕ) × Shifts p kind other). ⊎_elim
            (λ (found : (b : OpId) × IsSlot es p shift.0 b).
            inl (found.0, record { p = p; kind = kind; other = shift.0; in_cut = slot; in_log = found.1; shifts = shift.1 }))
            (λ (none : (b : OpId) → ¬ IsSlot es p shift.0 b). inr (λ b im.
            let (places, kinds) = slot-one cut p im.p kind im.kind a slot im.in_cut in
            let others = shifts-right p im.p kind im.kind shift.0 im.other places kinds shift.1 im.shifts in
            none b (subst (λ (k : ℕ). IsSlot es p k b) (sym others) (subst (λ (q : ℕ). IsSlot es q im.other b) (sym places) im.in_log))))
            (at-slot es p shift.0))
            (λ (none : (other : ℕ) → ¬ Shifts p kind other). inr (λ b im.
            let (places, kinds) = slot-one cut p im.p kind im.kind a slot im.in_cut in
            none im.other (subst (λ (q : ℕ). Shifts q kind im.other) (sym places) (subst (λ (k : ℕ). Shifts im.p k im.other) (sym kinds) im.shifts))))
            (shift-to p kind)
      ] refl

  origin-found : (b : OpId) → ((a : OpId) × IsImage a b) ⊎ ((a : OpId) → ¬ IsImage a b)
  origin-found b =
      elim (entry (history_of es) b) as (λ o. entry (history_of es) b ≡ o → ((a : OpId) × IsImage a b) ⊎ ((a : OpId) → ¬ IsImage a b)) [
        | None ↦ λ none. inr (λ a im.
            let e = slice_get-found (session (history_of es) b.session) b.index (slot-op es im.p im.other b im.in_log) in
            let wrong : Some e.0 ≡ None = sym e.1 ∙ none in absurd cc)
        | Some e ↦ λ some. let (p, other, slot) = slot-of es b e some in ⊎_elim
            (λ (shift : (kind : ℕ) × Shifts p kind other). ⊎_elim
            (λ (found : (a : OpId) × IsSlot cut p shift.0 a).
            inl (found.0, record { p = p; kind = shift.0; other = other; in_cut = found.1; in_log = slot; shifts = shift.1 }))
            (λ (none : (a : OpId) → ¬ IsSlot cut p shift.0 a). inr (λ a im.
            let (places, others) = slot-one es p im.p other im.other b slot im.in_log in
            let kinds = shifts-left p im.p shift.0 im.kind other im.other places others shift.1 im.shifts in
            none a (subst (λ (k : ℕ). IsSlot cut p k a) (sym kinds) (subst (λ (q : ℕ). IsSlot cut q im.kind a) (sym places) im.in_cut))))
            (at-slot cut p shift.0))
            (λ (none : (kind : ℕ) → ¬ Shifts p kind other). inr (λ a im.
            let (places, others) = slot-one es p im.p other im.other b slot im.in_log in
            none im.kind (subst (λ (q : ℕ). Shifts q im.kind other) (sym places) (subst (λ (k : ℕ). Shifts im.p im.kind k) (sym others) im.shifts))))
            (shift-from p other)
      ] refl

  pub image : OpId → Option OpId
  image a = chosen (IsImage a) (image-found a)

  pub origin : OpId → Option OpId
  origin b = chosen (λ (a : OpId). IsImage a b) (origin-found b)

  pub image-from : (a b : OpId) → image a ≡ Some b → IsImage a b
  unfolding image
  image-from a b is = chosen-from (IsImage a) (image-found a) b is

  pub image-to : (a b : OpId) → IsImage a b → image a ≡ Some b
  unfolding image
  image-to a b is = chosen-to (IsImage a) (image-found a) b is (image-right a)

  pub origin-from : (a b : OpId) → origin b ≡ Some a → IsImage a b
  unfolding origin
  origin-from a b is = chosen-from (λ (d : OpId). IsImage d b) (origin-found b) a is

  pub origin-to : (a b : OpId) → IsImage a b → origin b ≡ Some a
  unfolding origin
  origin-to a b is = chosen-to (λ (d : OpId). IsImage d b) (origin-found b) a is (λ d e. image-left d e b)
