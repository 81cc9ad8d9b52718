-- The loops that cut the code
pub mod Cuts
-- The loop that marks words
pub mod Marking
-- The loops that look for a window, and where pieces begin
pub mod Finding
-- The loops that make the windows behind a piece
pub mod Behind
-- When the conditions of an entry hold
pub mod Entries
-- The loop that judges the pieces
pub mod Judging
-- The loop that reads the code, and what holds of all pieces
pub mod CodeRead
