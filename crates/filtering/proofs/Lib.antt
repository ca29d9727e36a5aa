pub mod Best
pub mod Cuts
pub mod Joined
pub mod Kept
pub mod Pass
pub mod Tally
pub mod Twice
pub mod Verdicts
