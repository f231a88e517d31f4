pub mod Shaped
pub mod ShapeLaws
