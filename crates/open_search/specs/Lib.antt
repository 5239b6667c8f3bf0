pub mod Left
pub mod Model
