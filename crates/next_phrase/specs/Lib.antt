pub mod NextPhrase
pub mod Table
