-- The bytes of an output.
mod Outputs
