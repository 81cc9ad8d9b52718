-- Worked values: least types, blame, and what the limits count
mod Examples
-- Answers about equal paths, places and numbers; and refusals that are handed on
pub mod AnswerLemmas
-- What finding answers of a phrase, said of the form of the phrase
pub mod ArmLemmas
-- What the parts of a least type keep of the order of paths
pub mod BelowLemmas
-- Where a part is blamed
pub mod BlameLemmas
-- The paths of an abstraction's bodies, alternative by alternative
pub mod CallLemmas
-- Limits on types, visit by visit: visits that are put together, and what the limits say of them all
pub mod CountLemmas
-- Least types have each path once, so that a list of calls of one has no repeats to be left out
pub mod DistinctLemmas
-- What is found of the first of several phrases, or under the first of several alternatives, and of one more
pub mod EachFound
-- A refusal that is handed on as it is
pub mod ErrorLemmas
-- The answer of finding, from what is found of the whole phrase
pub mod FindLemmas
-- What is made of path forms whose fields all have a property has no others
pub mod FormFields
-- What is found of forms whose parts are taken at their least types
pub mod FormFound
-- What is found of a phrase, from what is found of its parts
pub mod FoundLemmas
-- The joins of a case's parts, from the left
pub mod JoinLemmas
-- What is found of abstractions
pub mod LamFound
-- The layers of derivations that are made of others
pub mod LayerLemmas
-- The fields of a least type are those of its phrase and of the context
pub mod LeastFields
-- The least type follows the order of contexts, and each type of a phrase is above it
pub mod LeastLemmas
-- Lists of derivations that are made of what is found, one after another; sums and blame over what is found
pub mod MadeLemmas
-- What is found of cases
pub mod ManyFound
-- Premises that are taken at a type of data that serves
pub mod OperandLemmas
-- The pairs that a derivation has of the parts of a phrase, and those of each derivation of the phrase
pub mod PairLemmas
-- One more part, or alternative, of which something is found
pub mod PartLemmas
-- A phrase has its least type, and so exactly the types above it
pub mod PrincipalLemmas
-- The derivations that are made of others are written as texts where these are
pub mod PrintableLemmas
-- Why a phrase whose parts keep the limits is refused, and a phrase with a part that is
pub mod RefusedLemmas
-- What is found of forms whose premises are atoms
pub mod RuleFound
-- A scope by its form
pub mod ScopeLemmas
-- The demands of the paths of a sequence's variable
pub mod SequenceLemmas
-- Each pair of node and shape of a derivation is a pair of the least types
pub mod ShapeLemmas
-- The number of a phrase's visits is at most that of its nodes, each as often as it is visited
pub mod VisitLemmas
-- Path forms of written types, each path once
pub mod WrittenLemmas
