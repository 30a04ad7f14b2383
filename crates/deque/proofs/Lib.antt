pub mod Fitting
pub mod Windows
pub mod Queues
