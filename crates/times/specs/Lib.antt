pub mod Exponent
pub mod Reading
pub mod Grammar
pub mod Plain
pub mod Standing
pub mod StandingLaws
pub mod Exact
pub mod Worked
