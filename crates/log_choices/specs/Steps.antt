pub mod ChosenCalls
