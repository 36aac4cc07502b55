pub mod Reports
pub mod Tallies
pub mod Dumping
pub mod Kinds
