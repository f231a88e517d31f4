pub mod ArcLaws
pub mod ArcLate
