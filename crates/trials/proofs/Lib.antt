pub mod Calls
pub mod Ending
pub mod Layers
pub mod Places
pub mod SoundStores
pub mod Soundness
