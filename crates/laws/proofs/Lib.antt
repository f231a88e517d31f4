pub mod Behind
pub mod Counts
pub mod Exactly
pub mod Judged
pub mod Least
pub mod Log
