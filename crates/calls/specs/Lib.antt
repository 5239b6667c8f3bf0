pub mod RearrangedCalls
pub mod ChangedCalls
pub mod OpenCalls
