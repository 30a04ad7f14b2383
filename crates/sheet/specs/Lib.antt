pub mod Texts
pub mod Judged
