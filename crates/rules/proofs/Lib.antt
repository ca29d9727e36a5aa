pub mod Best
pub mod Laws
pub mod OnePass
pub mod Places
