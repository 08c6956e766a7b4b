-- Pass 3 as the Rust writes it (junctions.rs), and that it is the definitions' pass.
pub mod BridgeGroups
pub mod Bridges
pub mod JunctionsAsRust
