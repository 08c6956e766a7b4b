pub mod Own
pub mod Shared
pub mod AloneCalls
