pub mod Rearranged
pub mod Lists
