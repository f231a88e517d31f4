pub mod Choice
pub mod Each
pub mod Text
pub mod Classes
pub mod ClassLaws
pub mod Answers
