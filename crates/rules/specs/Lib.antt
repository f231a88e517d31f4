pub mod Promises
pub mod Rules
pub mod Entries
pub mod Bodies
