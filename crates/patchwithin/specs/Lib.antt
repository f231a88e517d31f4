pub mod Patching
pub mod PatchingLaws
