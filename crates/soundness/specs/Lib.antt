pub mod Safe
pub mod Claim
pub mod Shown
