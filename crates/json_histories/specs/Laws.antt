-- What follows from the definitions, for implementations that name it as a law: nobody has to believe it.
pub mod Call
pub mod CounterForm
pub mod Json
pub mod KeyedForm
pub mod PlainForm
pub mod QueueForm
pub mod RegisterForm
pub mod SetForm
pub mod Spelled
pub mod TableForm
