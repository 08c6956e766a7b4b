pub mod Chunks
pub mod Copying
pub mod AccessionLaws
pub mod DateLaws
pub mod TermLaws
pub mod PoolLaws
