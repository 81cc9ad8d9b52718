-- The first second mark, and the first usage of a label that isn't marked.
use Rattle.std.proofs.Common.{◌≡◌, ℕ, ◌+◌, ◌<◌, ◌≤◌, List, [], ◌∷◌, ◌++◌, length, take, get_or, Some, None, Bool, true, false, cond, nat_eq, nat_lt, refl, sym, ap, ◌∙◌, subst, arith, inl, inr, true≢false}
use Rattle.std.specs.List.{slice_get, slice_index, Contains, position, position_or_len, list_any}
use Rattle.std.proofs.lemmas.Bool.{cases_lt, eqb-true, eq-eqb, ltb-false}
use Rattle.std.proofs.lemmas.List.{append-nil, take_more, length_push, map_push, get_or_append_left, get_or_push, get_or_default, length-map}
use Rattle.std.proofs.lemmas.List.Elements.{All-push}
use Rattle.std.proofs.lemmas.List.Quantifiers.{position-Some}
use Rattle.std.proofs.lemmas.List.Sums.{fails_before_first}
use Rattle.std.proofs.lemmas.Option.{slice_get-get_or, slice_get_within}
use Rattle.rv_asm.specs.declared.error.AsmError.{AsmError}
use Rattle.rv_asm.specs.declared.error.AsmError.TheVariants.{UnknownLabel, DoubleLabel, OutOfMemory}
use Rattle.rv_asm.specs.declared.items.Item.{Item}
use Rattle.rv_asm.specs.declared.items.Item.TheVariants.{Mark, Plain, BranchTo, JumpTo, FarTo, CallTo, AddressOf, Constant}
use Rattle.rv_asm.specs.declared.planning.Choice.{Choice}
use Rattle.rv_asm.specs.Items.{marks_of, named_by, IsSecondMark, IsUnknownUse, IsFirstDouble, AreDistinct, AreKnown}
use Rattle.rv_asm.specs.Assembly.{IsRefusal}
use Rattle.rv_asm.specs.Planning.{IsTargetOf, IsUnknownIn, AreAimed, AreFar, targets_of}
use Rattle.rv_asm.proofs.Labels.{contained, found, marks_of-append}

-- ---- second marks

-- no item before the one with the number k marks a label for the second time
abbrev pub DistinctTo : List Item → ℕ → Type 0
DistinctTo items k = (j other : ℕ) → j < k → ¬ IsSecondMark items j other

pub mark_taken : (items : List Item) (k label : ℕ) → slice_get items k ≡ Some (Mark label) → marks_of (take (k + 1) items) ≡ marks_of (take k items) ++ label ∷ []
mark_taken items k label there =
    let below : k < length items = slice_get_within items k (Mark label) there in
    let is : get_or items k (Mark label) ≡ Mark label = (let e : Some (get_or items k (Mark label)) ≡ Some (Mark label) = sym (slice_get-get_or items k (Mark label) below) ∙ there in cc) in
    ap (λ (is : List Item). marks_of is) (take_more items k (Mark label) below) ∙ marks_of-append (take k items) (get_or items k (Mark label) ∷ []) ∙ ap (λ i. marks_of (take k items) ++ marks_of (i ∷ [])) is

no_mark : (item : Item) → ((label : ℕ) → item ≡ Mark label → ⊥) → marks_of (item ∷ []) ≡ []
no_mark (Mark label) h = absurd (h label refl)
no_mark (Plain insn) h = refl
no_mark (BranchTo op rs1 rs2 label) h = refl
no_mark (JumpTo label) h = refl
no_mark (FarTo label) h = refl
no_mark (CallTo rd label) h = refl
no_mark (AddressOf rd label) h = refl
no_mark (Constant rd value) h = refl

pub other_taken : (items : List Item) (k : ℕ) (item : Item) → slice_get items k ≡ Some item → ((label : ℕ) → item ≡ Mark label → ⊥) → marks_of (take (k + 1) items) ≡ marks_of (take k items)
other_taken items k item there other =
    let below : k < length items = slice_get_within items k item there in
    let is : get_or items k item ≡ item = (let e : Some (get_or items k item) ≡ Some item = sym (slice_get-get_or items k item below) ∙ there in cc) in
    ap (λ (is : List Item). marks_of is) (take_more items k item below) ∙ marks_of-append (take k items) (get_or items k item ∷ []) ∙ ap (λ i. marks_of (take k items) ++ marks_of (i ∷ [])) is
    ∙ ap (λ ls. marks_of (take k items) ++ ls) (no_mark item other) ∙ append-nil (marks_of (take k items))

one_more : (items : List Item) (k : ℕ) → DistinctTo items k → ((other : ℕ) → ¬ IsSecondMark items k other) → DistinctTo items (k + 1)
one_more items k before here j other below second = elim (cases_lt j k) [
  | inl lower ↦ before j other lower second
  | inr last ↦ (let same : j ≡ k = omega arith in let P : ℕ → Type 0 = λ n. IsSecondMark items n other in here other (subst P same second))
]

pub distinct_mark : (items : List Item) (k label : ℕ) (labels : List ℕ) → labels ≡ marks_of (take k items) → slice_get items k ≡ Some (Mark label) → list_any (nat_eq label) labels ≡ false → DistinctTo items k → DistinctTo items (k + 1)
distinct_mark items k label labels are there fresh before = one_more items k before (λ other second.
    let same : other ≡ label = (let e : Some (Mark other) ≡ Some (Mark label) = sym second.marks ∙ there in cc) in
    let P : ℕ → Type 0 = λ l. Contains (marks_of (take k items)) l in
    let c : Contains (marks_of (take k items)) label = subst P same second.before in
    let Q : List ℕ → Type 0 = λ ls. list_any (nat_eq label) ls ≡ false in
    true≢false (sym (found (marks_of (take k items)) label c.0 c.1 (sym (at_zero (marks_of (take k items)) c.0 label c.1) ∙ c.2)) ∙ subst Q are fresh))
  where
    at_zero : (xs : List ℕ) (i d : ℕ) → i < length xs → get_or xs i d ≡ get_or xs i 0
    at_zero xs i d h = get_or_default xs i d 0 h

pub distinct_other : (items : List Item) (k : ℕ) (item : Item) → slice_get items k ≡ Some item → ((label : ℕ) → item ≡ Mark label → ⊥) → DistinctTo items k → DistinctTo items (k + 1)
distinct_other items k item there other before = one_more items k before (λ label second. other label (let e : Some item ≡ Some (Mark label) = sym there ∙ second.marks in cc))

pub first_double : (items : List Item) (k label : ℕ) (labels : List ℕ) → labels ≡ marks_of (take k items) → slice_get items k ≡ Some (Mark label) → list_any (nat_eq label) labels ≡ true → DistinctTo items k → IsFirstDouble items label
first_double items k label labels are there double before =
    let Q : List ℕ → Type 0 = λ ls. Contains ls label in
    record { k = k; is = record { marks = there; before = subst Q are (contained labels label double) }; first = before }

pub all_distinct : (items : List Item) (k : ℕ) → length items ≤ k → DistinctTo items k → AreDistinct items
all_distinct items k long before j label second = before j label (omega (arith, slice_get_within items j (Mark label) second.marks)) second

-- ---- unknown labels

none_there : (labels : List ℕ) (label : ℕ) → position (nat_eq label) labels ≡ None → Contains labels label → ⊥
none_there labels label none c = by (nat_lt (position_or_len (nat_eq label) labels) (length labels)) refl
  where
    by : (b : Bool) → nat_lt (position_or_len (nat_eq label) labels) (length labels) ≡ b → ⊥
    by true e = let p : position (nat_eq label) labels ≡ Some (position_or_len (nat_eq label) labels) = ap (λ t. cond t (Some (position_or_len (nat_eq label) labels)) None) e in (let q : Some (position_or_len (nat_eq label) labels) ≡ None = sym p ∙ none in cc)
    by false e =
        let far : length labels ≤ position_or_len (nat_eq label) labels = ltb-false _ _ e in
        let f : nat_eq label (get_or labels c.0 label) ≡ false = fails_before_first (nat_eq label) labels c.0 label (omega (arith, c.1)) in
        true≢false (sym (eq-eqb label (get_or labels c.0 label) (sym c.2)) ∙ f)

some_there : (labels : List ℕ) (label k : ℕ) → position (nat_eq label) labels ≡ Some k → Contains labels label
some_there labels label k at =
    let p = position-Some (nat_eq label) labels k label at in
    (k, p.0, sym (eqb-true label (get_or labels k label) p.1))

pub no_unknown : (items : List Item) (k label target : ℕ) (item : Item) → slice_get items k ≡ Some item → IsTargetOf (marks_of items) item target → ¬ IsUnknownUse items k label
no_unknown items k label target item there aims usage =
    let same : usage.item ≡ item = (let e : Some usage.item ≡ Some item = sym usage.there ∙ there in cc) in
    let names : named_by item ≡ Some label = ap named_by (sym same) ∙ usage.names in
    usage.unknown (some_there (marks_of items) label target (aims label names))

-- the first choices aim where they should
pub record AimedTo (items : List Item) (k : ℕ) (choices : List Choice) : Type 0 where
  pub count : length choices ≡ k
  pub each : (j : ℕ) (item : Item) → j < k → slice_get items j ≡ Some item → IsTargetOf (marks_of items) item (slice_index (targets_of choices) j)
  pub far : AreFar choices

pub aimed_more : (items : List Item) (k : ℕ) (choices : List Choice) (choice : Choice) (item : Item) → AimedTo items k choices → slice_get items k ≡ Some item → choice.near ≡ false → IsTargetOf (marks_of items) item choice.target
    → AimedTo items (k + 1) (choices ++ choice ∷ [])
aimed_more items k choices choice item a there near aims =
    let targets : List ℕ = targets_of choices in
    let pushed : targets_of (choices ++ choice ∷ []) ≡ targets ++ choice.target ∷ [] = map_push (λ (c : Choice). c.target) choices choice in
    let count : length targets ≡ k = length-map choices (λ (c : Choice). c.target) ∙ a.count in
    record {
      count = length_push choices choice ∙ ap (λ n. n + 1) a.count;
      each = λ j i below at. elim (cases_lt j k) [
        | inl lower ↦
            (let same : slice_index (targets_of (choices ++ choice ∷ [])) j ≡ slice_index targets j = ap (λ (ts : List ℕ). slice_index ts j) pushed ∙ get_or_append_left targets (choice.target ∷ []) 0 j (omega arith) in
            let P : ℕ → Type 0 = λ t. IsTargetOf (marks_of items) i t in
            subst P (sym same) (a.each j i lower at))
        | inr last ↦
            (let last_is : j ≡ k = omega arith in
            let same : slice_index (targets_of (choices ++ choice ∷ [])) j ≡ choice.target = ap (λ (ts : List ℕ). slice_index ts j) pushed ∙ get_or_push targets choice.target 0 j (omega arith) in
            let item_is : item ≡ i = (let e : Some item ≡ Some i = sym there ∙ ap (λ n. slice_get items n) (sym last_is) ∙ at in cc) in
            let P : ℕ → Type 0 = λ t. IsTargetOf (marks_of items) i t in
            let Q : Item → Type 0 = λ x. IsTargetOf (marks_of items) x choice.target in
            subst P (sym same) (subst Q item_is aims))
      ];
      far = All-push (λ (c : Choice). c.near ≡ false) choices choice a.far near;
    }

pub aimed_all : (items : List Item) (k : ℕ) (choices : List Choice) → k ≡ length items → AimedTo items k choices → AreAimed items (targets_of choices)
aimed_all items k choices e a = record {
  same_length = length-map choices (λ (c : Choice). c.target) ∙ a.count ∙ e;
  each = λ j item there. a.each j item (omega (arith, slice_get_within items j item there)) there;
}

pub all_known : (items : List Item) (targets : List ℕ) → AreAimed items targets → AreKnown items
all_known items targets aimed k label usage = no_unknown items k label (slice_index targets k) usage.item usage.there (aimed.each k usage.item usage.there) usage

-- the refusal of an item that names no marked label
pub refused : (items : List Item) (k : ℕ) (choices : List Choice) (item : Item) (e : AsmError) → AreDistinct items → AimedTo items k choices → slice_get items k ≡ Some item → IsUnknownIn (marks_of items) item e → IsRefusal items e
refused items k choices item (UnknownLabel label) distinct a there unknown = (
  distinct,
  record {
    k = k;
    is = record { item = item; there = there; names = unknown.0; unknown = none_there (marks_of items) label unknown.1 };
    first = λ j other below usage. no_unknown items j other _ usage.item usage.there (a.each j usage.item below usage.there) usage;
  },
)
refused items k choices item (DoubleLabel label) distinct a there unknown = absurd unknown
refused items k choices item OutOfMemory distinct a there unknown = absurd unknown
