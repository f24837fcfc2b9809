-- The history of a log by a choice is a long history.
use Rattle.std.proofs.Common.{ℕ, ◌≤◌, List, refl, ap, subst, arith, length}
use Rattle.std.specs.Prelude.{All, filter_map}
use Rattle.std.proofs.lemmas.Option.{slice_get_within, get_or_from_slice_get}
use Rattle.order_causal.specs.Orders.{op}
use Rattle.judge_memory.specs.LongHistories.{IsLongHistory}
use Rattle.log_events.specs.declared.event.Event.{Event}
use Rattle.log_events.specs.declared.event.Event.TheVariants.{Starts}
use Rattle.log_events.specs.declared.limits.TheConstants.{MAX_EVENTS}
use Rattle.log_events.specs.Events.{IsAllowed, run_calls}
use Rattle.log_events.specs.Histories.{key, value, start_entry, history_of}
use Rattle.log_events.specs.Kept.{IsSmallCall}
use Rattle.log_events.specs.Shapes.{HasSmallKeys, IsShaped, NamesSmallKeys}
use Rattle.log_events.proofs.CallPlaces.{calls-to, call_at}
use Rattle.log_events.proofs.ListPlaces.{filter_map-to}
use Rattle.log_choices.specs.Choices.{Choice}
use Rattle.log_choices.specs.ChosenHistories.{history_by}
use Rattle.log_choices.proofs.ChosenShapes.{chosen-keys, chosen-shaped}

module _ (es : List Event) (allowed : IsAllowed es) (few : length es ≤ MAX_EVENTS) (plain : IsLongHistory (history_of es))
    (small_calls : All IsSmallCall (run_calls es)) where
  small_names : NamesSmallKeys es
  small_names = record {
    starts = λ i x v at.
        let r = filter_map-to start_entry es i (Starts x v) (key x, value v) at refl in
        let within = slice_get_within (filter_map start_entry es) r.0 (key x, value v) r.1 in
        let less = plain.start.small r.0 (0, 0) within in
        let same = ap (λ (entry : ℕ × ℕ). entry.0) (get_or_from_slice_get (filter_map start_entry es) r.0 (key x, value v) (0, 0) r.1) in
        omega arith;
    calls = λ i c call at.
        let r = calls-to 0 es i c call at in
        let a = call_at 0 i es c call in
        let small = small_calls r.0 a (slice_get_within (run_calls es) r.0 a r.1) in
        let own = subst IsSmallCall (get_or_from_slice_get (run_calls es) r.0 a a r.1) small in
        let bound = own.key in
        omega arith;
  }

  pub chosen-long : (f : Choice) → IsLongHistory (history_by es f)
  chosen-long f =
      let shaped : IsShaped (history_by es f) = chosen-shaped es f allowed in
      let small : HasSmallKeys (history_by es f) = chosen-keys es f allowed (omega arith) small_names in record {
        start = record {
          rising = shaped.rising;
          small = small.start;
          not_plain = shaped.not_plain;
        };
        each = λ s. record {
          fitting = λ i c r at. shaped.fitting (op s i) c r at;
          known_first = λ i j c d r before at there. shaped.known_first (op s i) (op s j) c d r (refl, before) at there;
        };
        calls = λ s i c r at. small.calls s i c r at;
      }
