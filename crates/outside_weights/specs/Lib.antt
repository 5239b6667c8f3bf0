-- What `outside_weights` states.
pub mod Model
