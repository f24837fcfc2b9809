-- When a store's word decides of a memory history, and when the sources of its reads do (this project's profile).
use Rattle.std.specs.Prelude.{Bool, List, Option}
use Rattle.model_objects.specs.Register.{is_read}
use Rattle.model_history.specs.declared.advice.Advice.{Advice}
use Rattle.order_memory.specs.Memory.{MemoryCall, MemoryHistory, IsDifferentiated}
use Rattle.cert_check.specs.declared.certificate.Certificate.{Certificate}
use Rattle.cert_make.specs.Advice.{IsAdvised}
use Rattle.cert_make.specs.ByAdvice.{IsByAdvice}

-- the queries of a memory are its reads
abbrev pub memory_query : MemoryCall → Bool
memory_query c = is_read c.call

-- advice decides where there is any and values are not distinct
pub record AdviceDecides (h : MemoryHistory) (advice : List (Option Advice)) : Type 0 where
  pub repeated : ¬ IsDifferentiated h
  pub advised : IsAdvised h advice

-- the certificate of a memory history by advice
abbrev pub IsMemoryByAdvice : MemoryHistory → List (Option Advice) → Certificate → Type 0
IsMemoryByAdvice = IsByAdvice memory_query
