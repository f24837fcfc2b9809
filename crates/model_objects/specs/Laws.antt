-- What follows from the definitions, for implementations that name it as a law: nobody has to believe it.
pub mod AddRemoveSet
pub mod Counter
pub mod Equal
pub mod Keyed
pub mod Queue
pub mod Register
