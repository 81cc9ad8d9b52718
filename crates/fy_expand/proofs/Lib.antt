-- What stands for names under several binders
pub mod ScopeLemmas
-- What the core phrases of written ones measure
pub mod MeasureLemmas
-- The nesting of parts is below that of the whole
pub mod NestingLemmas
-- The sizes of types
pub mod TypeLemmas
-- Things joined by halves
pub mod HalvesLemmas
-- Visits, as far as numbers of 64 bits tell them
pub mod MeasureVisits
-- The sizes of things joined by halves
pub mod MeasureHalves
-- How much there is to build of what names of types stand for
pub mod ScopeWeights
-- What the core phrases of some written forms measure
pub mod MeasureForms
-- The core phrase of a program has no variable without its binder
pub mod ClosedLemmas
-- Each binder of a program's core phrase carries the number of binders around it
pub mod DepthLemmas
-- The core phrase of a program without a fault has a part in each list of parts and a right operand of its kind in each merge
pub mod MadeLemmas
-- Each `seq` of a tree that some tokens spell has a part
pub mod SpelledLemmas
-- The recursions of a program without a fault are written with types that nest at most 258
pub mod WrittenLemmas
-- The names in a program's core phrase are those in the program, and the name `len`
pub mod NameLemmas
-- Each meet in the types that a program's core phrase is written with has two members or more
pub mod FullLemmas
-- The types of a tree that some tokens spell are full
pub mod FullSpelled
-- What holds of a program's core phrase
pub mod ExpansionLemmas
-- What holds of the core phrase of a judged text
pub mod PhraseLemmas
-- The items of a sequence, joined from the last one on
pub mod JoinLemmas
-- A text is judged one way
pub mod JudgedLemmas
-- Where a whole is shallow, so are its parts, with the binders around them
pub mod ShallowLemmas
-- Lists of parts
pub mod PartLemmas
-- Faults, one step on
pub mod FaultLemmas
-- Loops over written lists: the next member is shallow where the rest is, and what one more step gives
pub mod LoopLemmas
-- A program within the limit on nesting is shallow
pub mod WithinLemmas
-- The sizes that are kept around a program
pub mod ProgramFrames
-- Scopes in which a phrase means the same but for the numbers of its variables
pub mod AlikeScopes
-- What a phrase means in two scopes in which its names stand for the same
pub mod AlikeLemmas
-- What a phrase under its imports means under the earlier names
pub mod ImportLemmas
-- A phrase without a fault under its imports has none under the earlier names
pub mod ClearLemmas
