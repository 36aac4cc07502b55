pub mod CellOf
pub mod Laying
