-- The labels that items mark, by their numbers, and their addresses.
use Rattle.std.proofs.Common.{◌≡◌, ℕ, zero, suc, ◌%◌, ◌<◌, ◌≤◌, List, [], ◌∷◌, ◌++◌, length, Some, Bool, true, false, ◌||◌, nat_eq, refl, sym, ap, ◌∙◌, arith, if◌then◌else◌}
use Rattle.std.specs.List.{slice_index, Contains, position, list_any}
use Rattle.std.proofs.lemmas.Bool.{eqb-true, eq-eqb, eqb-false, ne_eqb, true≢false}
use Rattle.std.proofs.lemmas.List.Quantifiers.{position-Some}
use Rattle.rv_asm.specs.declared.items.Item.{Item}
use Rattle.rv_asm.specs.declared.items.Item.TheVariants.{Mark, Plain, BranchTo, JumpTo, FarTo, CallTo, AddressOf, Constant}
use Rattle.rv_asm.specs.declared.items.LabelAt.{LabelAt}
use Rattle.rv_asm.specs.Items.{marks_of}
use Rattle.rv_asm.specs.Assembly.{address_of, label_address}
use Rattle.rv_asm.specs.Planning.{labelled}

-- ---- addresses

-- every label's address is a word's
pub even_address : (labels : List LabelAt) (label : ℕ) → label_address labels label % 4 ≡ 0
even_address [] label = refl
even_address (l ∷ labels) label = elim (nat_eq l.label label) as (λ b. (if b then address_of l.word else label_address labels label) % 4 ≡ 0) [
  | true ↦ omega arith
  | false ↦ even_address labels label
]

-- the first place of a label is its address
pub address_at : (labels places : List ℕ) (label k : ℕ) → length places ≡ length labels → k < length labels → nat_eq label (slice_index labels k) ≡ true → ((j : ℕ) → j < k → nat_eq label (slice_index labels j) ≡ false)
    → label_address (labelled labels places) label ≡ address_of (slice_index places k)
address_at [] places label k e below here before = absurd (let none : ⊥ = omega arith in none)
address_at (l ∷ labels) [] label k e below here before = absurd (let none : ⊥ = omega arith in none)
address_at (l ∷ labels) (place ∷ places) label zero e below here before =
    let same : nat_eq l label ≡ true = eq-eqb l label (sym (eqb-true label l here)) in
    ap (λ b. if b then address_of place else label_address (labelled labels places) label) same
address_at (l ∷ labels) (place ∷ places) label (suc k) e below here before =
    let other : nat_eq l label ≡ false = ne_eqb l label (λ q. eqb-false label l (before 0 (omega arith)) (sym q)) in
    ap (λ b. if b then address_of place else label_address (labelled labels places) label) other
    ∙ address_at labels places label k (omega arith) (omega arith) here (λ j h. before (suc j) (omega arith))

pub address_is : (labels places : List ℕ) (label k : ℕ) → length places ≡ length labels → position (nat_eq label) labels ≡ Some k → label_address (labelled labels places) label ≡ address_of (slice_index places k)
address_is labels places label k e at =
    let p = position-Some (nat_eq label) labels k 0 at in
    address_at labels places label k e p.0 p.1 p.2

-- ---- what is contained

pub contained : (labels : List ℕ) (label : ℕ) → list_any (nat_eq label) labels ≡ true → Contains labels label
contained [] label h = absurd (true≢false (sym h))
contained (l ∷ labels) label h = by (nat_eq label l) refl (λ rest. contained labels label rest)
  where
    by : (b : Bool) → nat_eq label l ≡ b → (list_any (nat_eq label) labels ≡ true → Contains labels label) → Contains (l ∷ labels) label
    by true e further = (0, omega arith, sym (eqb-true label l e))
    by false e further =
        let c : Contains labels label = further (ap (λ b. b || list_any (nat_eq label) labels) (sym e) ∙ h) in
        (suc c.0, omega (arith, c.1), c.2)

pub found : (labels : List ℕ) (label k : ℕ) → k < length labels → slice_index labels k ≡ label → list_any (nat_eq label) labels ≡ true
found [] label k below e = absurd (let none : ⊥ = omega arith in none)
found (l ∷ labels) label zero below e = let same : nat_eq label l ≡ true = eq-eqb label l (sym e) in rw same refl
found (l ∷ labels) label (suc k) below e = by (nat_eq label l) (found labels label k (omega arith) e)
  where
    by : (b : Bool) → list_any (nat_eq label) labels ≡ true → (b || list_any (nat_eq label) labels) ≡ true
    by true h = refl
    by false h = h

pub marks_of-append : (xs ys : List Item) → marks_of (xs ++ ys) ≡ marks_of xs ++ marks_of ys
marks_of-append [] ys = refl
marks_of-append (Mark label ∷ xs) ys = ap (λ ls. label ∷ ls) (marks_of-append xs ys)
marks_of-append (Plain insn ∷ xs) ys = marks_of-append xs ys
marks_of-append (BranchTo op rs1 rs2 label ∷ xs) ys = marks_of-append xs ys
marks_of-append (JumpTo label ∷ xs) ys = marks_of-append xs ys
marks_of-append (FarTo label ∷ xs) ys = marks_of-append xs ys
marks_of-append (CallTo rd label ∷ xs) ys = marks_of-append xs ys
marks_of-append (AddressOf rd label ∷ xs) ys = marks_of-append xs ys
marks_of-append (Constant rd value ∷ xs) ys = marks_of-append xs ys

one_most : (item : Item) (items : List Item) → length (marks_of (item ∷ items)) ≤ suc (length (marks_of items))
one_most (Mark label) items = omega arith
one_most (Plain insn) items = omega arith
one_most (BranchTo op rs1 rs2 label) items = omega arith
one_most (JumpTo label) items = omega arith
one_most (FarTo label) items = omega arith
one_most (CallTo rd label) items = omega arith
one_most (AddressOf rd label) items = omega arith
one_most (Constant rd value) items = omega arith

pub marks_most : (items : List Item) → length (marks_of items) ≤ length items
marks_most [] = omega arith
marks_most (item ∷ items) = omega (arith, one_most item items, marks_most items)
