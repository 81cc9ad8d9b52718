-- Trees without a fault in scopes of known names
pub mod FaultLemmas
-- Where a token before other bytes is the longest
pub mod EndLemmas
-- Tokens that are read one after another, and tokens of known kinds
pub mod ReadLemmas
-- Texts of types by their parts: how they are read, and what their tokens spell
pub mod TypeLemmas
-- The names that are predefined for types
pub mod NamedLemmas
-- Short texts of types are read again
pub mod ShortLemmas
-- Literals and strings are read again
pub mod LiteralLemmas
-- Texts of phrases by their parts: how they are read, and what their tokens spell. Names are those of a list that has them
pub mod PhraseLemmas
-- Texts of operators between and in front of parts
pub mod OperatorLemmas
-- Texts of literals, prefix operators, selections, merges and fields
pub mod FormLemmas
-- Texts of phrases with a separator between them: sequences, and the parts of `seq`
pub mod SequenceLemmas
-- Texts of forms that bind one name
pub mod BinderLemmas
-- Texts of `letrec`
pub mod LetrecLemmas
-- A text at its level of the grammar is one at each lower level, and in parentheses one at each level
pub mod LevelLemmas
-- Names under binders: what is used from outside stands for what it stood for
pub mod StandingLemmas
-- The fields of a `letrec` by the names that they are shown with, and the index of a sequence
pub mod RecordLemmas
-- What `seq(..)` and strings mean, and their texts
pub mod CallLemmas
-- Parts of phrases as they are shown: variables, fields of records, operators, merges, sequences, types
pub mod PartLemmas
-- Which phrases programs are: forms that the grammar has, with variables that names stand for
pub mod ShapeLemmas
-- The core phrase of a written phrase without a fault is one of the forms that the grammar has
pub mod FormedLemmas
-- A phrase within the core limits uses fewer names than are tried
pub mod FewLemmas
-- A phrase of the forms that the grammar has, with full types, identifiers and bound names, is readable
pub mod CombineLemmas
-- What the tokens of a text say of the tree that they spell: integers from 0 on, bytes, and no empty lists
pub mod FineLemmas
-- Texts of phrases are read again, form by form
pub mod ReadAgainLemmas
-- The whole text of a phrase inside the prelude is read again
pub mod ProgramLemmas
-- The phrase of a judged text is readable, and its text is read again
pub mod JudgedLemmas
