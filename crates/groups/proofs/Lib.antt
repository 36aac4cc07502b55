pub mod Basics
pub mod TableCalls
pub mod RowCalls
pub mod AnyGroup
pub mod RecordPlaces
pub mod RecordCounts
pub mod RecordWrites
pub mod RecordCells
