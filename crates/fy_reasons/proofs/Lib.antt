-- What is advised is above, and is what is asked
pub mod AdviceLemmas
-- What is asked, by the numbers of a table
pub mod AskLemmas
-- What a type lacks of another is found by halves
pub mod LackLemmas
-- Without its reasons, judging is as it was
pub mod ReasonLemmas
-- Where judging stops: below which node, and for which reason
pub mod StopLemmas
-- One step down to the node at which judging stops, in numbers
pub mod WalkLemmas
