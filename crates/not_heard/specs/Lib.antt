pub mod NotHeard
