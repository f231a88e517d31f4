pub mod Run
pub mod RunLaws
pub mod CellRuns
pub mod Late
pub mod TouchLaws
