pub mod Circle
pub mod Ends
pub mod Promises
pub mod Laws
pub mod Calls
