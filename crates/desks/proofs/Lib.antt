pub mod Alone
pub mod DeskLaws
pub mod SameGround
pub mod SharedCalls
