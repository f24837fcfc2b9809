use Rattle.std.proofs.Common.{◌≡◌, ◌≤◌, ◌+◌, ◌<◌, ◌++◌, ◌∷◌, List, ℕ, [], length, take, get_or, sym, ap, subst, ◌∙◌, arith}
use Rattle.std.specs.Prelude.{Some, slice_get}
use Rattle.std.proofs.lemmas.Grind.{get_or_default_zero}
use Rattle.std.proofs.lemmas.Option.{slice_get-get_or}
use Rattle.order_causal.specs.Schedules.{placed}
use Rattle.order_causal.specs.Vectors.{Counts}
use Rattle.order_causal.proofs.Walked.{room, room-push}
use Rattle.cert_make_cc.specs.Steps.Cuts.{AreClosed, IsCut, IsWalkOfAll}
use Rattle.cert_make_cc.proofs.CutWalks.{cut_ends, cut_reaches, session-held}
use Rattle.cert_make_cc.proofs.CutsGoOn.{cut_more, cut_now}
use Rattle.cert_make_cc.proofs.cutting.Cutting.go_on.Goals as goal
use Rattle.cert_make_cc.proofs.cutting.Cutting.go_on.Goals.{then-placed-from+in_ok-place, else-placed-from}

pub returns-then-left-eq0-clause-full : goal.returns-then-left-eq0-clause-full
returns-then-left-eq0-clause-full c =
    let v = c.args.vectors.now in
    let whole = c.args.whole.now in
    let limits = c.args.self.now.limits.items in
    let before = c.loop-place.invariant in
    let most = before.left in
    let none = c.if-left-eq0.true in
    let at = cut_now whole limits c.loop-place.self.starts.items c.loop-place.self.walk before.cut v c.requires.whole c.requires.closed
    c.loop-place.place (omega arith) before.end in
    cut_reaches v whole c.requires.whole limits c.requires.closed c.loop-place.place c.loop-place.self.walk at (omega arith)

pub returns-clause-full : goal.returns-clause-full
returns-clause-full c =
    let v = c.args.vectors.now in
    let whole = c.args.whole.now in
    let limits = c.args.self.now.limits.items in
    let before = c.loop-place.invariant in
    let past = c.loop-place-test.false in
    let same = ap (λ (xs : List ℕ). length xs) c.schedule-place-end.ensures in
    let at = cut_now whole limits c.loop-place.self.starts.items c.loop-place.self.walk before.cut v c.requires.whole c.requires.closed
    c.loop-place.place (omega arith) before.end in
    cut_ends v whole c.requires.whole limits c.requires.closed c.loop-place.place (omega arith) c.loop-place.self.walk at

-- the session that the walk names at a place
here-named : (items whole : List ℕ) (k s : ℕ) → items ≡ whole → k < length whole → s ≡ get_or items k 0 → slice_get whole k ≡ Some s
here-named items whole k s same below is =
    slice_get-get_or whole k 0 below ∙ ap (λ (t : ℕ). Some t) (ap (λ (xs : List ℕ). get_or xs k 0) (sym same) ∙ sym is)

-- the session that a walk names next is there
next-held : (v : Counts) (whole limits starts walk : List ℕ) → IsWalkOfAll v whole → AreClosed v limits → IsCut whole limits starts walk
    → (k s : ℕ) → length starts ≡ k + 1 → length walk ≡ get_or starts k 0 → slice_get whole k ≡ Some s → s < length v
next-held v whole limits starts walk all closed cut k s size end here =
    session-held v whole all limits closed k s here walk (cut_now whole limits starts walk cut v all closed k (omega arith) end)

pub index-requires : goal.index-requires
index-requires c =
    let k = c.loop-place.place in
    let s = c.from-session.result in
    let before = c.loop-place.invariant in
    let within = c.loop-place-test.true in
    let same = ap (λ (xs : List ℕ). length xs) c.schedule-place-end.ensures in
    let here = here-named c.schedule.result.now c.args.whole.now k s c.schedule.ensures (omega arith) c.from-session.ensures in
    let held = next-held c.args.vectors.now c.args.whole.now c.args.self.now.limits.items c.loop-place.self.starts.items c.loop-place.self.walk
    c.requires.whole c.requires.closed before.cut k s before.starts before.end here in
    let size = c.requires.limits in
    let kept = ap (λ (xs : List ℕ). length xs) before.limits in
    omega arith

pub place-requires-clause-few : goal.place-requires-clause-few
place-requires-clause-few c =
    let k = c.loop-place.place in
    let s = c.from-session.result in
    let before = c.loop-place.invariant in
    let within = c.loop-place-test.true in
    let same = ap (λ (xs : List ℕ). length xs) c.schedule-place-end.ensures in
    let here = here-named c.schedule.result.now c.args.whole.now k s c.schedule.ensures (omega arith) c.from-session.ensures in
    let held = next-held c.args.vectors.now c.args.whole.now c.args.self.now.limits.items c.loop-place.self.starts.items c.loop-place.self.walk
    c.requires.whole c.requires.closed before.cut k s before.starts before.end here in
    let few = c.requires.few in
    omega arith

-- the limit of a session
limit-read : (items limits : List ℕ) (s now limit : ℕ) → items ≡ limits → s < length limits → now ≡ get_or items s now → limit ≡ now → limit ≡ get_or limits s 0
limit-read items limits s now limit same inside read is =
    let here : get_or items s now ≡ get_or limits s now = ap (λ (xs : List ℕ). get_or xs s now) same in
    let zero = get_or_default_zero limits s now inside in
    omega arith

-- how many are placed is put behind the starts
pushed-items : (items starts old longer schedule : List ℕ) → items ≡ old ++ length schedule ∷ [] → old ≡ starts → schedule ≡ longer
    → items ≡ starts ++ length longer ∷ []
pushed-items items starts old longer schedule pushed same is =
    pushed ∙ ap (λ (xs : List ℕ). xs ++ length schedule ∷ []) same ∙ ap (λ (xs : List ℕ). starts ++ length xs ∷ []) is

pub loop-place-preserved : goal.loop-place-preserved
loop-place-preserved c =
    let v = c.args.vectors.now in
    let whole = c.args.whole.now in
    let limits = c.args.self.now.limits.items in
    let starts = c.loop-place.self.starts.items in
    let walk : List ℕ = c.loop-place.self.walk in
    let longer : List ℕ = c.if-placed-from.self.walk in
    let k : ℕ = c.loop-place.place in
    let s : ℕ = c.from-session.result in
    let before = c.loop-place.invariant in
    let within = c.loop-place-test.true in
    let same = ap (λ (xs : List ℕ). length xs) c.schedule-place-end.ensures in
    let here = here-named c.schedule.result.now whole k s c.schedule.ensures (omega arith) c.from-session.ensures in
    let at = cut_now whole limits starts walk before.cut v c.requires.whole c.requires.closed k (omega arith) before.end in
    let counts = at.counts s in
    let held = next-held v whole limits starts walk c.requires.whole c.requires.closed before.cut k s before.starts before.end here in
    let size = c.requires.limits in
    let is_placed = c.placed.ensures in
    let is_limit = limit-read c.loop-place.self.limits.items limits s c.index.result.now c.from.result before.limits (omega arith) c.index.ensures c.from.ensures in
    let pushed : c.if-placed-from.self.starts.items ≡ starts → c.push.new.self.items ≡ starts ++ length longer ∷ [] = λ kept.
    pushed-items c.push.new.self.items starts c.if-placed-from.self.starts.items longer c.schedule-in-loop-place.result.now
    c.in_ok-push.ensures.items kept c.schedule-in-loop-place.ensures in
    let most = before.left in
    elim c.if-placed-from.branch [
      | then-placed-from+in_ok-place w ↦
          let below = w.if-placed-from.true in
          let left = w.left-is in
          let grown : longer ≡ walk ++ s ∷ [] = ap (λ x. x.walk) w.self-is ∙ w.in_ok-place.ensures.ok in
          let less = room-push (length limits) limits walk s (omega arith) (omega arith) in
          let most_now : room (length limits) limits (walk ++ s ∷ []) ≤ c.if-placed-from.left = omega arith in
          let reached : get_or limits s 0 ≤ placed (take k whole) s → longer ≡ walk = λ over. absurd (omega arith) in
          let more = cut_more whole limits starts walk before.cut k s (sym before.starts) before.end here longer (λ free. grown) reached
          c.push.new.self.items (pushed (ap (λ x. x.starts.items) w.self-is)) in
          record {
            limits = ap (λ x. x.limits.items) w.self-is ∙ before.limits;
            cut = more.0;
            starts = more.1;
            end = more.2;
            left = subst (λ (xs : List ℕ). room (length limits) limits xs ≤ c.if-placed-from.left) (sym grown) most_now;
          }
      | else-placed-from w ↦
          let over = w.if-placed-from.false in
          let left = w.left-is in
          let kept : longer ≡ walk = ap (λ x. x.walk) w.self-is in
          let most_now : room (length limits) limits walk ≤ c.if-placed-from.left = omega arith in
          let free : placed (take k whole) s < get_or limits s 0 → longer ≡ walk ++ s ∷ [] = λ below. absurd (omega arith) in
          let more = cut_more whole limits starts walk before.cut k s (sym before.starts) before.end here longer free (λ reached. kept)
          c.push.new.self.items (pushed (ap (λ x. x.starts.items) w.self-is)) in
          record {
            limits = ap (λ x. x.limits.items) w.self-is ∙ before.limits;
            cut = more.0;
            starts = more.1;
            end = more.2;
            left = subst (λ (xs : List ℕ). room (length limits) limits xs ≤ c.if-placed-from.left) (sym kept) most_now;
          }
    ]
