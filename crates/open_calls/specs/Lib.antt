pub mod OneByOne
pub mod Model
