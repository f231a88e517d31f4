pub mod ByPath
