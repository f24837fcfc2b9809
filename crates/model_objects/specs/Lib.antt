pub mod AddRemoveSet
pub mod Counter
pub mod Keyed
pub mod Laws
pub mod Queue
pub mod Register
pub mod Table
