use Rattle.std.proofs.Common.{◌++◌, Option, Some, None, ◌≡◌, refl, subst}
use Rattle.std.proofs.lemmas.Result.{on_ok_weaker}
use Rattle.order_memory.specs.Memory.{MemoryCall}
use Rattle.model_objects.specs.declared.register.RegisterRet.{RegisterRet}
use Rattle.json_histories.specs.Json.{list}
use Rattle.judge_writer.specs.Steps.{IsWritten, call_elements, operation_form, return_elements}
use Rattle.judge_writer.proofs.Written.{list_written, more_written}
use Rattle.judge_writer.proofs.operation.write_operation.Goals as goal

-- an operation is the list of the elements of its call and of its return
elements_form : (c : MemoryCall) (r : Option RegisterRet) → list (call_elements c ++ return_elements r) ≡ operation_form c r
elements_form c None = refl
elements_form c (Some r) = refl

pub returns : goal.returns
returns c =
    let e = c.args.entry.now in
    on_ok_weaker c.end_array.result (λ after.
    subst (λ d. IsWritten d c.args.out.now c.end_array.new.self) (elements_form e.0 e.1)
    (list_written (call_elements e.0 ++ return_elements e.1) _ _ _ _ (c.begin_array.ensures.room.0, c.in_ok-begin_array.ensures.ok)
    (more_written (call_elements e.0) (return_elements e.1) _ _ _ c.in_ok-write_call.ensures c.in_ok-write_return.ensures)
    (c.end_array.ensures.room.0, after))) c.end_array.ensures.ok
