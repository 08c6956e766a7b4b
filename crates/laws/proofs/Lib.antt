pub mod RustInteriors
pub mod RustJunctions
pub mod RustPasses
