-- What a memory answers, with other values.
use Rattle.std.proofs.Common.{◌≡◌, ℕ, Bool, true, false, List, [], ◌∷◌, map, refl, ap, eqb-true}
use Rattle.std.specs.Prelude.{◌==◌, filter, if◌then◌else◌}
use Rattle.model_objects.specs.Keyed.{calls_at}
use Rattle.model_objects.specs.Register.{last_written, answer}
use Rattle.model_objects.specs.declared.register.RegisterCall.{RegisterCall}
use Rattle.model_objects.specs.declared.register.RegisterCall.TheVariants.{Write, Read}
use Rattle.model_objects.specs.declared.register.RegisterRet.TheVariants.{Value}
use Rattle.order_memory.specs.Memory.{MemoryCall}
use Rattle.judge_witnesses.specs.Renamed.{Renaming, renamed_at_key, renamed_call, renamed_return}

module _ (become : ℕ → ℕ) where
  written-renamed : (s : ℕ) (cs : List RegisterCall) → last_written (become s) (map (renamed_call become) cs) ≡ become (last_written s cs)
  written-renamed s [] = refl
  written-renamed s (Write v ∷ cs) = written-renamed v cs
  written-renamed s (Read ∷ cs) = written-renamed s cs

  pub answer-renamed : (s : ℕ) (cs : List RegisterCall) (c : RegisterCall)
      → answer (become s) (map (renamed_call become) cs) (renamed_call become c) ≡ renamed_return become (answer s cs c)
  answer-renamed s cs (Write v) = refl
  answer-renamed s cs Read = ap Value (written-renamed s cs)

module _ (renaming : Renaming) (x : ℕ) where
  pub calls_at-renamed : (cs : List MemoryCall)
      → calls_at x (map (renamed_at_key renaming) cs) ≡ map (renamed_call (renaming x)) (calls_at x cs)
  calls_at-renamed [] = refl
  calls_at-renamed (c ∷ cs) =
      elim (c.key == x) as (λ b. (c.key == x) ≡ b →
      map (λ (d : MemoryCall). d.call) (if b then (renamed_at_key renaming c ∷ filter (λ (d : MemoryCall). d.key == x) (map (renamed_at_key renaming) cs)) else filter (λ (d : MemoryCall). d.key == x) (map (renamed_at_key renaming) cs))
      ≡ map (renamed_call (renaming x)) (map (λ (d : MemoryCall). d.call) (if b then (c ∷ filter (λ (d : MemoryCall). d.key == x) cs) else filter (λ (d : MemoryCall). d.key == x) cs))) [
        | true ↦ λ here. let same : c.key ≡ x = eqb-true c.key x here in (λ i. renamed_call (renaming (same i)) c.call ∷ calls_at-renamed cs i)
        | false ↦ λ other. calls_at-renamed cs
      ] refl
