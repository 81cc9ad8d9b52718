-- The numbers that are kept of a code.
use Rattle.std.specs.Prelude.{◌≡◌, ℕ, ◌+◌, ◌^◌, ◌<◌, ◌≤◌, nat_eq, List, length, take, slice_get, unwrap_or, Some}
use Rattle.std.specs.declared.hash.FoldHasher.{FoldHasher}
use Rattle.std.specs.declared.hash.BuildHasherDefault.{BuildHasherDefault}
use Rattle.indexmap.specs.IndexMap.{IndexMap, get}
use Rattle.pe_code.specs.declared.code.PeItem.{PeItem}
use Rattle.pe_code.specs.declared.code.PeCode.{PeCode}
use Rattle.pe_code.specs.Valid.{IsValid}
use Rattle.rv_select.specs.declared.numbers.Start.{Start}
use Rattle.rv_select.specs.Numbers.{first_item, fixed_entries, blocks_in, entries_in, place_in, label_of, entry_number}

-- where the item at an address begins
pub record IsStart (code : PeCode) (address : ℕ) (start : Start) : Type 0 where
  pub label : start.label ≡ label_of code address
  pub entry : start.entry ≡ entry_number code address
  -- so that those of its own can be added
  pub few_labels : start.label ≤ 2 ^ 20
  pub few_entries : start.entry ≤ 2 ^ 20

abbrev pub start_in : List PeItem → ℕ → Start
start_in items a = record { label = first_item + blocks_in (take a items); entry = length fixed_entries + entries_in (take a items) }

-- where each item begins, and where the last one ends
abbrev pub AreStarts : List PeItem → List Start → Type 0
AreStarts items starts = (a : ℕ) → a ≤ length items → slice_get starts a ≡ Some (start_in items a)

-- a map from nodes to places
abbrev pub Places : Type 0
Places = IndexMap ℕ ℕ (BuildHasherDefault FoldHasher)

-- each node has its first place, or the number of nodes
pub record AreColumns (nodes : List ℕ) (columns : Places) : Type 0 where
  pub few : length nodes < 2 ^ 60
  pub places : (n : ℕ) → unwrap_or (get nat_eq columns n) (length nodes) ≡ place_in nodes n

pub record AreNumbers (code : PeCode) (starts : List Start) (columns : Places) : Type 0 where
  pub valid : IsValid code
  pub begun : AreStarts code.items starts
  pub placed : AreColumns code.thunks columns
