pub mod Laid
pub mod Filled
pub mod Sections
