pub mod Examples
pub mod Stacks
