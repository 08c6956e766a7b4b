-- Pass 1 as the Rust writes it (ramp_boundaries.rs), and that it is the definitions' pass.
pub mod Stars
pub mod Triangles
pub mod MouthLiteral
pub mod MouthLoop
pub mod MouthFound
pub mod MouthKept
pub mod MouthChain
pub mod Separations
pub mod Selection1
pub mod MouthsAsRust
