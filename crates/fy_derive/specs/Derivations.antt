-- Derivations as plain data, and how large they are.
use Rattle.std.specs.Prelude.{ℕ, ◌+◌, ◌-◌, ◌^◌, min, max}
use Rattle.fy_types.specs.Types.{PlainType}

mutual
  pub data PlainDerivation : Type 0 where
    -- the phrase has the type `ns`
    by_ns : PlainDerivation
    -- subsumption to the type
    sub : PlainType → PlainDerivation → PlainDerivation
    -- the meet of what the derivations conclude
    meets : PlainDerivations → PlainDerivation
    -- the alternative of an abstraction
    alt : ℕ → PlainDerivation → PlainDerivation
    -- the operands of a merge
    left : PlainDerivation → PlainDerivation
    right : PlainDerivation → PlainDerivation
    -- the rule of any other form, with its premises
    rule : PlainDerivations → PlainDerivation

  pub data PlainDerivations : Type 0 where
    no_derivations : PlainDerivations
    and_derivation : PlainDerivation → PlainDerivations → PlainDerivations

-- the number of members
abbrev pub count : PlainDerivations → ℕ
count no_derivations = 0
count (and_derivation d ds) = 1 + count ds

abbrev mutual
  -- the number of nodes
  pub nodes : PlainDerivation → ℕ
  nodes by_ns = 1
  nodes (sub T d) = 1 + nodes d
  nodes (meets ds) = 1 + all_nodes ds
  nodes (alt i d) = 1 + nodes d
  nodes (left d) = 1 + nodes d
  nodes (right d) = 1 + nodes d
  nodes (rule ds) = 1 + all_nodes ds

  pub all_nodes : PlainDerivations → ℕ
  all_nodes no_derivations = 0
  all_nodes (and_derivation d ds) = nodes d + all_nodes ds

abbrev mutual
  -- the greatest number of nodes on one path
  pub nesting : PlainDerivation → ℕ
  nesting by_ns = 1
  nesting (sub T d) = 1 + nesting d
  nesting (meets ds) = 1 + all_nesting ds
  nesting (alt i d) = 1 + nesting d
  nesting (left d) = 1 + nesting d
  nesting (right d) = 1 + nesting d
  nesting (rule ds) = 1 + all_nesting ds

  pub all_nesting : PlainDerivations → ℕ
  all_nesting no_derivations = 0
  all_nesting (and_derivation d ds) = max (nesting d) (all_nesting ds)

-- the limits on a derivation that is handed in
abbrev pub most_nodes : ℕ
most_nodes = 262144

abbrev pub most_nesting : ℕ
most_nesting = 2048

-- a number, or the greatest of 32 bits
abbrev pub capped : ℕ → ℕ
capped n = min n (2 ^ 32 - 1)
