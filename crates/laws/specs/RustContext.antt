-- context.rs as the Rust writes it, and what the context of a map that passes the checks always meets.
pub mod SoundContext
pub mod SoundMaps
pub mod CheckedContext
pub mod CheckedMaps
pub mod FullCut
pub mod IncidentMap
pub mod IncidentTable
pub mod Incidents
pub mod CompareBoundaries
pub mod CanonicalOutput
pub mod RampFlag
pub mod ElevationMasks
pub mod AllowedElevations
