-- What a plan gives each item: its form, the word before which it stands, and the words before which labels stand.
use Rattle.std.proofs.Common.{◌≡◌, ℕ, zero, suc, ◌+◌, ◌*◌, ◌≤◌, ℤ, List, [], ◌∷◌, ◌++◌, length, take, Some, Bool, true, false, not, ◌||◌, refl, sym, ap, ◌∙◌, subst, arith, if◌then◌else◌, add-zero}
use Rattle.std.specs.List.{slice_get, slice_index}
use Rattle.std.proofs.lemmas.List.{length-append, get_or_past}
use Rattle.std.proofs.lemmas.List.Elements.{All-head, All-tail}
use Rattle.rv_insn.specs.declared.instructions.Insn.{Insn}
use Rattle.rv_asm.specs.declared.items.Item.{Item}
use Rattle.rv_asm.specs.declared.items.Item.TheVariants.{Mark, Plain, BranchTo, JumpTo, FarTo, CallTo, AddressOf, Constant}
use Rattle.rv_asm.specs.declared.items.LabelAt.{LabelAt}
use Rattle.rv_asm.specs.declared.planning.Choice.{Choice}
use Rattle.rv_asm.specs.Items.{marks_of}
use Rattle.rv_asm.specs.Forms.{has_bits, constant_words}
use Rattle.rv_asm.specs.Assembly.{joined, word_of, labels_of}
use Rattle.rv_asm.specs.Choosing.{form_of, size_of, reaches, is_reached, constant_form}
use Rattle.rv_asm.specs.Planning.{place_of, places_of, forms_of, AllReach, AreFar, labelled}

-- ---- sizes

branched : (near : Bool) (a b : List Insn) (m n : ℕ) → length a ≡ m → length b ≡ n → length (if near then a else b) ≡ (if near then m else n)
branched true a b m n e f = e
branched false a b m n e f = f

length-constant_form : (rd : ℕ) (value : ℤ) → length (constant_form rd value) ≡ constant_words value
length-constant_form rd value = branched (has_bits 12 value) _ _ 1 _ refl (branched (has_bits 32 value) _ _ 2 8 refl refl)

pub length-form_of : (near : Bool) (here to : ℕ) (item : Item) → length (form_of near here to item) ≡ size_of near item
length-form_of near here to (Mark label) = refl
length-form_of near here to (Plain insn) = refl
length-form_of near here to (BranchTo op rs1 rs2 label) = branched near _ _ 1 3 refl refl
length-form_of near here to (JumpTo label) = branched near _ _ 1 2 refl refl
length-form_of near here to (FarTo label) = refl
length-form_of near here to (CallTo rd label) = branched near _ _ 1 2 refl refl
length-form_of near here to (AddressOf rd label) = refl
length-form_of near here to (Constant rd value) = length-constant_form rd value

one_of : (b : Bool) (m n : ℕ) → m ≤ 8 → n ≤ 8 → (if b then m else n) ≤ 8
one_of true m n h k = h
one_of false m n h k = k

pub size_most : (near : Bool) (item : Item) → size_of near item ≤ 8
size_most near (Mark label) = omega arith
size_most near (Plain insn) = omega arith
size_most near (BranchTo op rs1 rs2 label) = one_of near 1 3 (omega arith) (omega arith)
size_most near (JumpTo label) = one_of near 1 2 (omega arith) (omega arith)
size_most near (FarTo label) = omega arith
size_most near (CallTo rd label) = one_of near 1 2 (omega arith) (omega arith)
size_most near (AddressOf rd label) = omega arith
size_most near (Constant rd value) = one_of (has_bits 12 value) 1 _ (omega arith) (one_of (has_bits 32 value) 2 8 (omega arith) (omega arith))

-- ---- forms

pub length-forms_of : (places : List ℕ) (word : ℕ) (items : List Item) (choices : List Choice) → length choices ≡ length items → length (forms_of places word items choices) ≡ length items
length-forms_of places word [] choices e = refl
length-forms_of places word (item ∷ items) [] e = absurd (let none : ⊥ = omega arith in none)
length-forms_of places word (item ∷ items) (choice ∷ choices) e = ap suc (length-forms_of places (word + size_of choice.near item) items choices (omega arith))

-- what an item is given, where the items stand from a word on
pub record Given (places : List ℕ) (word : ℕ) (items : List Item) (choices : List Choice) (k : ℕ) (item : Item) : Type 0 where
  pub choice : Choice
  pub chosen : slice_get choices k ≡ Some choice
  pub here : ℕ
  pub here_is : here ≡ word + word_of (forms_of places word items choices) k
  pub low : here ≤ word + 8 * k
  pub form_is : slice_get (forms_of places word items choices) k ≡ Some (form_of choice.near here (slice_index places choice.target) item)
  pub next_is : word_of (forms_of places word items choices) (suc k) ≡ word_of (forms_of places word items choices) k + length (form_of choice.near here (slice_index places choice.target) item)
  pub reached : AllReach places word items choices → is_reached choice.near item here (slice_index places choice.target) ≡ true

pub given : (places : List ℕ) (word : ℕ) (items : List Item) (choices : List Choice) (k : ℕ) (item : Item) → length choices ≡ length items → slice_get items k ≡ Some item → Given places word items choices k item
given places word [] choices k item e there = absurd (let none : ⊥ = cc in none)
given places word (first ∷ items) [] k item e there = absurd (let none : ⊥ = omega arith in none)
given places word (first ∷ items) (choice ∷ choices) zero item e there =
    let same : first ≡ item = cc in
    let form : Item → List Insn = λ i. form_of choice.near word (slice_index places choice.target) i in
    let F : Item → Type 0 = λ i. is_reached choice.near i word (slice_index places choice.target) ≡ true in
    record {
      choice = choice;
      chosen = refl;
      here = word;
      here_is = sym (add-zero word);
      low = omega arith;
      form_is = ap (λ i. Some (form i)) same;
      next_is = length-append (form first) [] ∙ (let n : length (form first) ≡ length (form item) = ap (λ i. length (form i)) same in omega arith);
      reached = λ r. subst F same r.0;
    }
given places word (first ∷ items) (choice ∷ choices) (suc k) item e there =
    let form : List Insn = form_of choice.near word (slice_index places choice.target) first in
    let size : ℕ = size_of choice.near first in
    let long : length form ≡ size = length-form_of choice.near word (slice_index places choice.target) first in
    let most : size ≤ 8 = size_most choice.near first in
    let forms : List (List Insn) = forms_of places (word + size) items choices in
    let rest : Given places (word + size) items choices k item = given places (word + size) items choices k item (omega arith) there in
    let before : length (form ++ joined (take k forms)) ≡ size + word_of forms k = length-append form (joined (take k forms)) ∙ ap (λ n. n + word_of forms k) long in
    let through : length (form ++ joined (take (suc k) forms)) ≡ size + word_of forms (suc k) = length-append form (joined (take (suc k) forms)) ∙ ap (λ n. n + word_of forms (suc k)) long in
    record {
      choice = rest.choice;
      chosen = rest.chosen;
      here = rest.here;
      here_is = rest.here_is ∙ (omega (arith, before));
      low = omega (arith, rest.low, most);
      form_is = rest.form_is;
      next_is = through ∙ (omega (arith, before, rest.next_is));
      reached = λ r. rest.reached r.1;
    }

-- where no item is near, each has its form
pub far_reach : (places : List ℕ) (word : ℕ) (items : List Item) (choices : List Choice) → AreFar choices → AllReach places word items choices
far_reach places word [] choices far = tt
far_reach places word (item ∷ items) [] far = tt
far_reach places word (item ∷ items) (choice ∷ choices) far =
    let P : Choice → Type 0 = λ c. c.near ≡ false in
    let here : choice.near ≡ false = All-head P choice choices far in (
      ap (λ b. not b || reaches item word (slice_index places choice.target)) here,
      far_reach places (word + size_of choice.near item) items choices (All-tail P choice choices far),
    )

-- ---- places

marks_first : (word : ℕ) (item : Item) (items : List Item) → length (place_of word item) + length (marks_of items) ≡ length (marks_of (item ∷ items))
marks_first word (Mark label) items = omega arith
marks_first word (Plain insn) items = omega arith
marks_first word (BranchTo op rs1 rs2 label) items = omega arith
marks_first word (JumpTo label) items = omega arith
marks_first word (FarTo label) items = omega arith
marks_first word (CallTo rd label) items = omega arith
marks_first word (AddressOf rd label) items = omega arith
marks_first word (Constant rd value) items = omega arith

pub length-places_of : (word : ℕ) (items : List Item) (choices : List Choice) → length choices ≡ length items → length (places_of word items choices) ≡ length (marks_of items)
length-places_of word [] choices e = refl
length-places_of word (item ∷ items) [] e = absurd (let none : ⊥ = omega arith in none)
length-places_of word (item ∷ items) (choice ∷ choices) e =
    length-append (place_of word item) _ ∙ ap (λ n. length (place_of word item) + n) (length-places_of (word + size_of choice.near item) items choices (omega arith)) ∙ marks_first word item items

-- places lie behind the start, and not far
low_first : (word most : ℕ) (item : Item) (places : List ℕ) (j : ℕ) → word ≤ most → ((i : ℕ) → slice_index places i ≤ most) → slice_index (place_of word item ++ places) j ≤ most
low_first word most (Mark label) places zero h k = h
low_first word most (Mark label) places (suc j) h k = k j
low_first word most (Plain insn) places j h k = k j
low_first word most (BranchTo op rs1 rs2 label) places j h k = k j
low_first word most (JumpTo label) places j h k = k j
low_first word most (FarTo label) places j h k = k j
low_first word most (CallTo rd label) places j h k = k j
low_first word most (AddressOf rd label) places j h k = k j
low_first word most (Constant rd value) places j h k = k j

pub places_low : (word most : ℕ) (items : List Item) (choices : List Choice) (j : ℕ) → word + 8 * length items ≤ most → slice_index (places_of word items choices) j ≤ most
places_low word most [] choices j h = omega (arith, get_or_past {X = ℕ} [] j 0 (omega arith))
places_low word most (item ∷ items) [] j h = omega (arith, get_or_past {X = ℕ} [] j 0 (omega arith))
places_low word most (item ∷ items) (choice ∷ choices) j h =
    low_first word most item (places_of (word + size_of choice.near item) items choices) j (omega arith)
    (λ i. places_low (word + size_of choice.near item) most items choices i (omega (arith, size_most choice.near item)))

-- the labels where the items stand
later : (to word : ℕ) (items : List Item) (choices : List Choice) (forms : List (List Insn)) (near : Bool) (item : Item) → labelled (marks_of items) (places_of (word + size_of near item) items choices) ≡ labels_of (word + size_of near item) items forms
    → labelled (marks_of items) (places_of (word + size_of near item) items choices) ≡ labels_of (word + length (form_of near word to item)) items forms
later to word items choices forms near item e = e ∙ ap (λ n. labels_of (word + n) items forms) (sym (length-form_of near word to item))

pub labelled_places : (places : List ℕ) (word : ℕ) (items : List Item) (choices : List Choice) → length choices ≡ length items → labelled (marks_of items) (places_of word items choices) ≡ labels_of word items (forms_of places word items choices)
labelled_places places word [] choices e = refl
labelled_places places word (item ∷ items) [] e = absurd (let none : ⊥ = omega arith in none)
labelled_places places word (item ∷ items) (choice ∷ choices) e =
    let size : ℕ = size_of choice.near item in
    let rest : labelled (marks_of items) (places_of (word + size) items choices) ≡ labels_of (word + size) items (forms_of places (word + size) items choices) = labelled_places places (word + size) items choices (omega arith) in
    by item (later (slice_index places choice.target) word items choices (forms_of places (word + size) items choices) choice.near item rest)
  where
    by : (i : Item) → labelled (marks_of items) (places_of (word + size_of choice.near i) items choices) ≡ labels_of (word + length (form_of choice.near word (slice_index places choice.target) i)) items (forms_of places (word + size_of choice.near i) items choices)
        → labelled (marks_of (i ∷ items)) (places_of word (i ∷ items) (choice ∷ choices)) ≡ labels_of word (i ∷ items) (forms_of places word (i ∷ items) (choice ∷ choices))
    by (Mark label) r = ap (λ (ls : List LabelAt). (record { label = label; word = word }) ∷ ls) r
    by (Plain insn) r = r
    by (BranchTo op rs1 rs2 label) r = r
    by (JumpTo label) r = r
    by (FarTo label) r = r
    by (CallTo rd label) r = r
    by (AddressOf rd label) r = r
    by (Constant rd value) r = r
