-- Lists of items that belong to operations, gathered operation by operation.
use Rattle.std.specs.Prelude.{List, Contains}
use Rattle.model_history.specs.declared.op_id.OpId.{OpId}
use Rattle.order_causal.specs.Orders.{IsEarlier}

module _ {X : Type 0} (op_of : X → OpId) (belongs : X → Type 0) where
  -- a list names the items that belong to operations earlier than o, and nothing but such items of some operation
  pub record ListsBefore (o : OpId) (items : List X) : Type 0 where
    pub each : (x : X) → belongs x → IsEarlier (op_of x) o → Contains items x
    pub no_other : (x : X) → Contains items x → belongs x
