pub mod Slots
pub mod Numbers
pub mod Arcs
pub mod Spelled
pub mod Found
pub mod Shapes
pub mod Current
