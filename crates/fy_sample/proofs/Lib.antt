-- Statement by statement, and how long a sample is
pub mod SampleLemmas
