pub mod Places
pub mod Exchanges
pub mod Takes
