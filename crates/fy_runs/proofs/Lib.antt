-- What sources gave and sinks gained, one piece behind the other
pub mod Outer
-- Laws of runs, step by step
pub mod Runs
-- Runs over a source and a sink, step by step
pub mod Reached
-- How runs over a source and a sink close
pub mod Closes
