mod Cutting
mod Gathering
mod Writing
