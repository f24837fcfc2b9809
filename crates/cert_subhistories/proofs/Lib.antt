pub mod KeptLists
pub mod KeptParts
pub mod KeptHistories
pub mod Embeddings
pub mod Cuts
pub mod PartEmbeddings
pub mod KeyedParts
pub mod SourceParts
