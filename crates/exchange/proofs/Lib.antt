pub mod Pairings
pub mod EntryParts
pub mod Newest
pub mod Moves
pub mod Turns
pub mod RingSteps
pub mod RingFresh
pub mod PoolSteps
