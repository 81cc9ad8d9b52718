-- The pieces that the productions of the grammar are made of
pub mod Pieces
-- What completes a piece of which nothing stands yet
pub mod Fresh
-- Completing: what was read, or stands before a fault, followed by tokens that make it whole, whatever comes behind them
pub mod Completing
-- Single tokens that are read can be completed
pub mod SignsCompleted
-- The productions of types: their pieces, one behind the other, are the type
pub mod TypesSpelled
-- Where reading a type stops, the tokens before can be completed
pub mod TypesCompleted
-- The productions of phrases: their pieces, one behind the other, are the phrase
pub mod PhrasesSpelled
-- The productions of the forms that a word begins
pub mod FormsSpelled
-- Where reading a list stops, the tokens before can be completed
pub mod ListsCompleted
-- Where reading a form stops, behind its first token, the tokens before can be completed
pub mod FormsCompleted
-- Where reading a phrase stops, the tokens before can be completed
pub mod PhrasesCompleted
-- Two readings are alike up to a token
pub mod Alike
-- What readings are made of keeps them alike
pub mod Following
-- Lists are read alike
pub mod LoopsFollow
-- Where two tokens are looked at, and where a token at least is taken
pub mod LooksFollow
-- Types are read alike
pub mod TypesFollow
-- The lists in phrases are read alike
pub mod ListsFollow
-- The forms are read alike, behind the token that begins them
pub mod FormsFollow
-- Operands, arguments and chains of operators are read alike
pub mod OperandsFollow
-- Phrases are read alike, and with more nodes allowed but for a fault of depth
pub mod PhrasesFollow
-- Beginnings of lists of tokens
pub mod Beginnings
-- The place where reading stops is that of the first bad token
pub mod Exact
-- There is one first bad token at most
pub mod OnePlace
-- Lists of tokens whose first bad token is known
pub mod Examples
