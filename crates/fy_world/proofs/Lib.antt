-- What the objects hold, step by step
pub mod Contents
-- What the counts of faults and of calls tell, step by step
pub mod Counting
-- The note that is told of an end
pub mod Endings
-- Lines of notes, put one after another
pub mod Lines
-- How a run of a machine ends within a limit: each one ends in one way
pub mod WholeRuns
-- Doing what is due, or a part of it
pub mod Parts
-- Where work was stopped: at a file that wasn't kept, a read, or a put
pub mod Stopping
-- The run of a machine over the objects of a call
pub mod Executing
-- The run of a phrase by the copy rule over the objects of a call
pub mod Copying
-- The last words of a run, line by line
pub mod Tracing
-- Images that are kept, and runs after that
pub mod Keeping
-- Runs whose output is followed by a summary
pub mod Sampling
-- Runs of push-enter code over a source and a sink, step by step, with their lines
pub mod Stepwise
-- One step of push-enter code: its line, its byte or text, and what is known where it was stopped
pub mod StepLines
-- From the steps of push-enter code to what is due for its run
pub mod StepRuns
-- Listings, line by line
pub mod Listing
