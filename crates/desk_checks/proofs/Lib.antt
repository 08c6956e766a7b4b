mod SharedRefusals
pub mod DeskReady
