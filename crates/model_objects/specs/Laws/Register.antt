-- What holds of the answers of a register: the laws of an object, and that equality is equality of values.
use Rattle.std.specs.Prelude.{◌≡◌, ℕ, List, [], ◌∷◌, ◌++◌, true, false, refl}
use Rattle.std.proofs.Common.{ap, eqb, eq-eqb}
use Rattle.std.proofs.lemmas.Bool.{eqb-true}
use Rattle.model_objects.specs.Register.{last_written, answer, is_read, depends, matches, settles}
use Rattle.model_objects.specs.declared.register.RegisterCall.{RegisterCall}
use Rattle.model_objects.specs.declared.register.RegisterCall.TheVariants.{Write, Read}
use Rattle.model_objects.specs.declared.register.RegisterRet.TheVariants.{Done, Value}

pub answer_fits : (start : ℕ) (calls : List RegisterCall) (call : RegisterCall) → matches call (answer start calls call) ≡ true
answer_fits start calls (Write v) = refl
answer_fits start calls Read = refl

pub last_written-query : (start : ℕ) (before after : List RegisterCall) (q : RegisterCall) → is_read q ≡ true
    → last_written start (before ++ q ∷ after) ≡ last_written start (before ++ after)
last_written-query start [] after Read e = refl
last_written-query start [] after (Write v) e = absurd cc
last_written-query start (Write v ∷ before) after q e = last_written-query v before after q e
last_written-query start (Read ∷ before) after q e = last_written-query start before after q e

pub query_changes_nothing : (start : ℕ) (before after : List RegisterCall) (q call : RegisterCall) → is_read q ≡ true
    → answer start (before ++ q ∷ after) call ≡ answer start (before ++ after) call
query_changes_nothing start before after q (Write v) e = refl
query_changes_nothing start before after q Read e = rw (last_written-query start before after q e) refl

pub others_change_nothing : (start : ℕ) (before after : List RegisterCall) (other call : RegisterCall) → depends call other ≡ false
    → answer start (before ++ other ∷ after) call ≡ answer start (before ++ after) call
others_change_nothing start before after other (Write v) e = refl
others_change_nothing start before after Read Read e = rw (last_written-query start before after Read refl) refl
others_change_nothing start before after (Write u) Read e = absurd cc

pub last_written-settled : (start : ℕ) (before after : List RegisterCall) (v : ℕ) → last_written start (before ++ Write v ∷ after) ≡ last_written v after
last_written-settled start [] after v = refl
last_written-settled start (Write u ∷ before) after v = last_written-settled u before after v
last_written-settled start (Read ∷ before) after v = last_written-settled start before after v

pub settled : (start : ℕ) (before after : List RegisterCall) (other call : RegisterCall) → settles call other ≡ true
    → answer start (before ++ other ∷ after) call ≡ answer start (other ∷ after) call
settled start before after other (Write v) e = refl
settled start before after (Write u) Read e = rw (last_written-settled start before after u) refl
settled start before after Read Read e = absurd cc

-- equality of calls and of returns is equality of values, by constructors

pub same_writes : (u v : ℕ) → (eqb u v ≡ true → Write u ≡ Write v) × (Write u ≡ Write v → eqb u v ≡ true)
same_writes u v = (λ e. ap Write (eqb-true u v e), λ e. let h : u ≡ v = cc in eq-eqb u v h)

pub write_and_read : (v : ℕ) → (false ≡ true → Write v ≡ Read) × (Write v ≡ Read → false ≡ true)
write_and_read v = (λ e. absurd cc, λ e. absurd cc)

pub read_and_write : (v : ℕ) → (false ≡ true → Read ≡ Write v) × (Read ≡ Write v → false ≡ true)
read_and_write v = (λ e. absurd cc, λ e. absurd cc)

pub same_values : (u v : ℕ) → (eqb u v ≡ true → Value u ≡ Value v) × (Value u ≡ Value v → eqb u v ≡ true)
same_values u v = (λ e. ap Value (eqb-true u v e), λ e. let h : u ≡ v = cc in eq-eqb u v h)

pub done_and_value : (v : ℕ) → (false ≡ true → Done ≡ Value v) × (Done ≡ Value v → false ≡ true)
done_and_value v = (λ e. absurd cc, λ e. absurd cc)

pub value_and_done : (v : ℕ) → (false ≡ true → Value v ≡ Done) × (Value v ≡ Done → false ≡ true)
value_and_done v = (λ e. absurd cc, λ e. absurd cc)
