-- Runs of the machine of an image: later states have put as much and more, and an end stays
pub mod MachineRuns
-- The image of code that follows the copy rule runs as the copy rule
pub mod Headlines
-- The program of an image of assembled words
pub mod Words
-- The image of code that follows the copy rule runs as the copy rule, by the laws of runs and of selection
pub mod Whole
-- Two images of a phrase that run as the copy rule agree
pub mod Agreeing
-- What one run of an image shows of the copy rule
pub mod Shown
-- What is selected for code can be assembled, and becomes an image
pub mod SelectedLemmas
-- Why a derivation is refused: for one cause, and never where a table of its shapes keeps the limits
pub mod Refusals
-- The image of the code of a phrase
pub mod Imaging
-- Code in which constants are handed as data hands none as a thunk
pub mod Direct
