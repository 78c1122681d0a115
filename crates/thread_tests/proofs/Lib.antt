pub mod FailedCalls
