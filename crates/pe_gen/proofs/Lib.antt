-- Members of lists by their places
pub mod Gets
-- The keys of a set after one more is put in
pub mod KeyLists
-- The nodes of a phrase by their numbers: the node with a number is the member of the preorder at its place
pub mod NodeLists
-- Lists of nodes that are made from their ends
pub mod SeenLemmas
-- A part of a list is smaller than the list, and has at most the list's nodes
pub mod PartSizes
-- What is so of a whole program is so of each of its nodes
pub mod ScopeLemmas
-- The nodes that thunks are made of: node by node, how many, and that each node's own are among them
pub mod ThunkLemmas
-- The shapes of a table by their first demands
pub mod StepLemmas
-- Lists of entries: one more put in, one entry for each node and shape, and where it leads
pub mod EntryLists
-- The sites, as far as they are made
pub mod SiteLists
-- The tests of pairs and of steps decide equality
pub mod KeyTests
-- The instruction of each form, from where its parts are entered
pub mod InsnLemmas
-- Look-ups in a plan
pub mod PlanLemmas
-- The operands of a merge in a list of nodes
pub mod MergeLemmas
-- What the table of an accepted derivation is
pub mod TableLemmas
-- What is so of the nodes, steps, pairs and sites of a phrase and the table of an accepted derivation
pub mod BegunLemmas
-- Each pair of an accepted derivation fits its node's form
pub mod FitLemmas
-- What a pair's form asks of its parts is in the table, since the table is closed
pub mod AskLemmas
-- Pairs in order of node and shape
pub mod OrderLemmas
-- Where demands land: at a node that is no merge and is asked for the same shape
pub mod LandLemmas
-- The addresses of pairs, from the last pair to the first
pub mod AddressLemmas
-- Lists in which nothing stands twice: how long they are
pub mod Injections
-- Code that evaluates no node in one step, by the number of the binders around each node
pub mod PlainLemmas
-- Code that is made of a site for each pair whose node is no merge is the code of the phrase and the table
pub mod CodeLemmas
-- The parts that the items of cases pick from are entered at different addresses
pub mod PartLemmas
-- Code that is made so is valid
pub mod SoundLemmas
-- The frames that code makes are no deeper than the phrase's binders
pub mod FrameLemmas
-- What is known by where nodes are entered holds in all code with the same entries
pub mod MovedLemmas
-- Code in which constants are handed as data is valid and of its phrase's sizes where the code given is
pub mod KeptLemmas
-- Entries in order that are put in one by one
pub mod CopyLemmas
-- Code in which constants among the nodes of a phrase are handed as data
pub mod HandingLemmas
-- Right code stays right where constants are handed as data
pub mod DirectLemmas
-- Code that is right, valid and laid out is one
pub mod OneCode
-- A scope by its form
pub mod BinderLemmas
-- Postfix forms: what stands in them, and how long they are
pub mod PostfixLemmas
-- The manners of a phrase's nodes, by its parts: a node that is entered has its own
pub mod MannerLemmas
-- The manners of nodes inside, place by place
pub mod RangeLemmas
-- Which node each item of laid out code is of
pub mod OwnerLemmas
-- Right code stays right where nodes are evaluated in one step
pub mod StraightLemmas
