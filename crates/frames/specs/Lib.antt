pub mod Meaning
pub mod Format
pub mod Kinds
pub mod Addressed
pub mod Frames
pub mod Texts
pub mod Figures
