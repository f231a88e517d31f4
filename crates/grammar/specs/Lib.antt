pub mod Ll
pub mod Machine
pub mod Grammar
pub mod Meaning
pub mod Reading
pub mod Outcome
pub mod Answers
