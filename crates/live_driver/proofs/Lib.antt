pub mod Calls
pub mod FirstCalls
pub mod Gathered
pub mod Lists
pub mod Receiving
pub mod Recorders
pub mod Results
