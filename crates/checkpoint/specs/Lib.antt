pub mod States
pub mod Texts
pub mod Refusals
pub mod Steps
pub mod Readers
pub mod Bodies
