pub mod EntryLaws
pub mod CellLaws
