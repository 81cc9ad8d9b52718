-- What holds of the core phrase of a judged text, so that code is made of it
pub mod Programs
-- From the parts of a command's work to what is due for the words
pub mod Serving
-- From the parts of the commands on texts that run no image to what is due for the words
pub mod TextCommands
-- From the parts of the commands on images to what is due for the words
pub mod ImageCommands
-- From the parts of the commands on ELF files to what is due for the words
pub mod ElfCommands
-- Derivations that are named, and what they show of texts
pub mod Derived
-- What many have, no shorter list has whole
pub mod Pigeons
-- Derivations of a phrase with the same demand shapes keep and pass the same limits
pub mod Alike
-- What is within the limits is taken, and a run whose bounds fit comes to its end
pub mod Completing
-- Derivations that are named within the limits are accepted
pub mod Named
-- From what a command did and how the call concluded to its answer
pub mod Answering
-- Lists of units: bytes in lines, and the names that the lines are
pub mod Lists
-- Units in the files on a list, read one after another
pub mod ReadUnits
-- The units on a list in a file: read, and put together
pub mod Linking
-- From the parts of the commands of units to what is due for the words
pub mod UnitCommands
-- From what judging a derivation came to, to what is due for `judge`, and what writing lines below a note did
pub mod Judging
-- From what was told of a text, to what is due for `why`
pub mod Explaining
-- From what drawing a derivation came to, to what is due for `tree`
pub mod Drawing
