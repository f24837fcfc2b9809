-- What follows from the definitions, for implementations that name it as a law: nobody has to believe it.
pub mod Stamp
