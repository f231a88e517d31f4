pub mod SwapLaws
