pub mod Digits
pub mod Written
pub mod Ends
pub mod Faults
pub mod Files
pub mod Replies
pub mod Surveying
