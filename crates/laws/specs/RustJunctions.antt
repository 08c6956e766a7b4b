-- Pass 3 as the Rust writes it (junctions.rs), and that it is the definitions' pass.
pub mod Ports
pub mod Exteriors
pub mod WidestPort
pub mod JunctionProposals
pub mod Unions
pub mod UnionRegions
pub mod Ranking
pub mod FormedProposals
pub mod Selection3
pub mod BridgeGroups
pub mod Bridges
pub mod JunctionsAsRust
