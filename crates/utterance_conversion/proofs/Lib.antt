pub mod Utterances
