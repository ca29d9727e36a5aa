pub mod Caps
pub mod Faults
pub mod Rehearsals
pub mod Saved
pub mod Saving
pub mod SoundStores
pub mod TrialStores
pub mod Trials
