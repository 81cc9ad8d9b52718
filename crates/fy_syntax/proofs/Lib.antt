-- What the readings give at one level
pub mod ReadLemmas
-- What tests of tokens say, and which levels a token goes on with
pub mod SignLemmas
-- What a test of the next tokens says of them
pub mod TokenLemmas
-- Types are read where tokens spell them
pub mod TypesComplete
-- Which tokens a phrase begins with, and which come behind its parts
pub mod Fronts
-- What tokens spell is read, where the next token doesn't go on
pub mod Complete
-- At most one tree spells a list of tokens: each is what reading gives, at the greater nesting
pub mod Unique
-- Each name in a tree that some tokens spell is that of an identifier among them
pub mod NameLemmas
-- The tokens of a tree are within the ranges of the program's types, and none is the end
pub mod RangeLemmas
-- The texts of tokens, as they are written
pub mod KindTexts
-- The text of a tree is the texts of the tokens that spell it, each with one blank behind it
pub mod WrittenLemmas
-- Tokens in other places spell the same tree but for places, before any rest
pub mod PlaceLemmas
-- Pieces that spell tokens, with one blank between two, are read as these tokens
pub mod LexedLemmas
-- The text of a tree but for its last blank spells the tree but for places
pub mod PrintLemmas
