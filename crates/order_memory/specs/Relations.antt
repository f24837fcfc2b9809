-- The relations of Bouajjani, Enea, Guerraoui and Hamza on the operations of a memory history ("On Verifying Causal
-- Consistency", POPL 2017, the section on bad patterns).
use Rattle.std.specs.Prelude.{◌≡◌, ◌≢◌, ◌⊎◌, ℕ, IsTrue}
use Rattle.model_history.specs.declared.op_id.OpId.{OpId}
use Rattle.model_history.specs.History.{IsOp, Precedes}
use Rattle.order_causal.specs.Orders.{Order, program_past, Leads}
use Rattle.order_memory.specs.Memory.{MemoryHistory, initial, Writes, Reads}

module _ (h : MemoryHistory) where
  -- reads-from: a write of a value that is not the initial one, and a known read of it
  abbrev pub ReadsFrom : OpId → OpId → Type 0
  ReadsFrom w r = (x v : ℕ) × Writes h w x v × Reads h r x v × (v ≢ initial h x)

  -- an edge of the causal order: program order or reads-from
  abbrev pub IsEdge : OpId → OpId → Type 0
  IsEdge a b = (Precedes a b × IsOp h b) ⊎ ReadsFrom a b

  -- the causal order: the transitive closure of program order and reads-from
  abbrev pub CO : OpId → OpId → Type 0
  CO a b = Leads IsEdge a b

  -- two different writes of one variable
  abbrev pub AreRivalWrites : OpId → OpId → Type 0
  AreRivalWrites a b = (a ≢ b) × ((x u v : ℕ) × Writes h a x u × Writes h b x v)

  -- the conflict relation: a write that is in CO before a read of another write of its variable comes before that write
  abbrev pub CF : OpId → OpId → Type 0
  CF a b = AreRivalWrites a b × ((r : OpId) × CO a r × ReadsFrom b r)

  -- the past of o in CO, o among it
  abbrev pub IsPast : OpId → OpId → Type 0
  IsPast o a = (a ≡ o) ⊎ CO a o

  -- an order that contains CO on the past of o, is transitive, and puts a write that comes before a read of another write
  -- of its variable before that write, where the read is o or before o in program order; it may relate operations outside
  -- the past of o too
  pub record IsClosed (o : OpId) (order : Order) : Type 0 where
    pub causal : (a b : OpId) → IsPast o a → IsPast o b → CO a b → IsTrue (order a b)
    pub transitive : (a b c : OpId) → IsTrue (order a b) → IsTrue (order b c) → IsTrue (order a c)
    pub read : (a b r : OpId) → AreRivalWrites a b → ReadsFrom b r → IsTrue (program_past o r) → IsTrue (order a r) → IsTrue (order a b)

  -- the happened-before relation of o: what every such order has
  abbrev pub HB : OpId → OpId → OpId → Type 0
  HB o a b = (order : Order) → IsClosed o order → IsTrue (order a b)

  -- such an order that relates operations of the past of o alone
  pub record IsClosedWithin (o : OpId) (order : Order) : Type 0 where
    pub closed : IsClosed o order
    pub within : (a b : OpId) → IsTrue (order a b) → IsPast o a × IsPast o b

  -- the happened-before relation of o with orders on the past of o alone: what every one of these has
  abbrev pub HBWithin : OpId → OpId → OpId → Type 0
  HBWithin o a b = (order : Order) → IsClosedWithin o order → IsTrue (order a b)
