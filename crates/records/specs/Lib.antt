pub mod Annotating
