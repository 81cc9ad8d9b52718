-- The order of entries: by node, then by shape.
use Rattle.std.specs.Prelude.{◌≡◌, ℕ, ◌==◌, nat_lt, Bool, false, ◌&&◌, ◌||◌, if◌then◌else◌, List, [], ◌∷◌, AllPairs}
use Rattle.pe_code.specs.declared.code.Entry.{Entry}

-- whether an entry is before those for the node and the shape
abbrev pub is_before : ℕ → ℕ → Entry → Bool
is_before node shape e = nat_lt e.node node || ((e.node == node) && nat_lt e.shape shape)

-- no entry is before an earlier one
abbrev pub AreInOrder : List Entry → Type 0
AreInOrder es = AllPairs (λ d e. is_before d.node d.shape e ≡ false) es

-- the entries with one more, which goes behind those that are not greater
abbrev pub with_entry : Entry → List Entry → List Entry
with_entry e [] = e ∷ []
with_entry e (d ∷ ds) = if is_before d.node d.shape e then e ∷ d ∷ ds else d ∷ with_entry e ds
