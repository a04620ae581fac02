pub mod Shown
pub mod Places
pub mod Facts
pub mod Rising
