use Rattle.std.proofs.Common.{◌≡◌, length, ap, ◌∙◌, arith, subst, sym, inl, inr}
use Rattle.std.specs.Prelude.{slice_get}
use Rattle.live_recorder.proofs.Telling.{get_push_cases, length_push}
use Rattle.live_driver.proofs.seating.read_seats.Goals as goal

pub loop-seat-preserved : goal.loop-seat-preserved
loop-seat-preserved g c =
    let old = c.loop-seat in
    let left = c.pop.new.self.items in
    let seat = c.in-Some.seat in
    let e = c.in-Some.ensures.items in
    record {
      left = λ s p there. elim (get_push_cases old.results.items c.in_ok-left.left s p (ap (λ ps. slice_get ps s) (sym c.in_ok-push.ensures.items) ∙ there)) [
        | inl before ↦ old.invariant.left s p before
        | inr last ↦
            let here : c.len.result ≡ s = omega (arith, c.len.ensures, old.results.ok.0, last.0) in
            subst (λ n. g.K.RunName.left n p) here (subst (λ q. g.K.RunName.left c.len.result q) last.1 c.in_ok-left.ensures.left)
      ];
      many = omega (arith, ap length e ∙ length_push left seat, c.in_ok-push.ensures.len, old.invariant.many);
    }
