pub mod Shapes
pub mod RowsMeant
