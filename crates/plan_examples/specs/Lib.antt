pub mod Limits
pub mod LimitsLemmas
pub mod SampleBytes
pub mod Worked
