-- The names of guarantees.
use Rattle.std.specs.Prelude.{ℕ, List, codes}
use Rattle.show_words.specs.declared.guarantees.Guarantee.{Guarantee}
use Rattle.show_words.specs.declared.guarantees.Guarantee.TheVariants.{ReadYourWrites, MonotonicReads, MonotonicWrites, WritesFollowReads, CausalOrder}

abbrev pub guarantee_name : Guarantee → List ℕ
guarantee_name ReadYourWrites = codes "read your writes"
guarantee_name MonotonicReads = codes "monotonic reads"
guarantee_name MonotonicWrites = codes "monotonic writes"
guarantee_name WritesFollowReads = codes "writes follow reads"
guarantee_name CausalOrder = codes "causal order"
