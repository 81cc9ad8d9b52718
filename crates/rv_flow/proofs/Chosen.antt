-- Every assembly of code's items has chosen for its parts: the words are those of pieces, and the labels stand before them.
use Rattle.std.proofs.Common.{◌≡◌, ◌⊎◌, ℕ, suc, ◌+◌, ℤ, pos, List, [], ◌∷◌, ◌++◌, length, take, slice_get, Some, arith, refl, sym, ap, ◌∙◌, subst, length-append, inl, inr}
use Rattle.rv_insn.specs.declared.instructions.BranchOp.{BranchOp}
use Rattle.rv_insn.specs.declared.instructions.Insn.{Insn}
use Rattle.rv_insn.specs.declared.instructions.Insn.TheVariants.{Branch}
use Rattle.rv_guard.specs.declared.pieces.Piece.{Piece}
use Rattle.rv_guard.specs.Patterns.{instructions_of, word_count}
use Rattle.rv_asm.specs.declared.items.Item.{Item}
use Rattle.rv_asm.specs.declared.items.LabelAt.{LabelAt}
use Rattle.rv_asm.specs.Items.{named_by}
use Rattle.rv_asm.specs.Forms.{IsFormOf, IsNearBranch, IsFarBranch, IsNearJump, IsFar, IsConstant, leads_far, opposite}
use Rattle.rv_asm.specs.Assembly.{joined, word_of, address_of, labels_of, label_address, target_in}
use Rattle.rv_flow.specs.Lowering.{plain}
use Rattle.rv_flow.proofs.Parts.{Part, mark, stays, constant, branch, jump, far, items_in}
use Rattle.rv_flow.proofs.Choices.{Choice, part_pieces, behind, Choices, pieces_in, marked_by, labels_in, insns_of, insns_append, insns_singles, behind_is}

-- ---- the forms of items, one behind the other from word k on

abbrev pub AreForms : List LabelAt → ℕ → List Item → List (List Insn) → Type 0
AreForms labels k [] [] = Unit {0}
AreForms labels k [] (form ∷ forms) = ⊥
AreForms labels k (item ∷ items) [] = ⊥
AreForms labels k (item ∷ items) (form ∷ forms) =
    IsFormOf item (address_of k) (target_in labels (named_by item)) form × AreForms labels (k + length form) items forms

-- each item has its form, at its place
abbrev pub EachForm : List LabelAt → ℕ → List Item → List (List Insn) → Type 0
EachForm labels k items forms =
    (j : ℕ) (item : Item) (form : List Insn) → slice_get items j ≡ Some item → slice_get forms j ≡ Some form
    → IsFormOf item (address_of (k + word_of forms j)) (target_in labels (named_by item)) form

first_form : (labels : List LabelAt) (k : ℕ) (item : Item) (items : List Item) (form : List Insn) (forms : List (List Insn)) → EachForm labels k (item ∷ items) (form ∷ forms)
    → IsFormOf item (address_of k) (target_in labels (named_by item)) form
first_form labels k item items form forms each =
    let here : k + 0 ≡ k = omega arith in
    subst (λ (w : ℕ). IsFormOf item (address_of w) (target_in labels (named_by item)) form) here (each 0 item form refl refl)

later_forms : (labels : List LabelAt) (k : ℕ) (item : Item) (items : List Item) (form : List Insn) (forms : List (List Insn)) → EachForm labels k (item ∷ items) (form ∷ forms)
    → EachForm labels (k + length form) items forms
later_forms labels k item items form forms each j i f a b =
    let there : k + word_of (form ∷ forms) (suc j) ≡ k + length form + word_of forms j = omega (arith, length-append form (joined (take j forms))) in
    subst (λ (w : ℕ). IsFormOf i (address_of w) (target_in labels (named_by i)) f) there (each (suc j) i f a b)

pub forms_from : (labels : List LabelAt) (k : ℕ) (items : List Item) (forms : List (List Insn)) → length forms ≡ length items → EachForm labels k items forms → AreForms labels k items forms
forms_from labels k [] [] e each = tt
forms_from labels k [] (form ∷ forms) e each = absurd (omega arith)
forms_from labels k (item ∷ items) [] e each = absurd (omega arith)
forms_from labels k (item ∷ items) (form ∷ forms) e each = (
  first_form labels k item items form forms each,
  forms_from labels (k + length form) items forms (omega arith) (later_forms labels k item items form forms each),
)

-- ---- instructions as they are

record AreThen (labels : List LabelAt) (k : ℕ) (insns : List Insn) (items : List Item) (forms : List (List Insn)) : Type 0 where
  rest : List (List Insn)
  same : joined forms ≡ insns ++ joined rest
  forms_are : AreForms labels (k + length insns) items rest
  marks : labels_of k (plain insns ++ items) forms ≡ labels_of (k + length insns) items rest

plain_forms : (labels : List LabelAt) (k : ℕ) (insns : List Insn) (items : List Item) (forms : List (List Insn)) → AreForms labels k (plain insns ++ items) forms → AreThen labels k insns items forms
plain_forms labels k [] items forms h =
    let here : k ≡ k + 0 = omega arith in
    record { rest = forms; same = refl; forms_are = subst (λ (j : ℕ). AreForms labels j items forms) here h; marks = ap (λ (j : ℕ). labels_of j items forms) here }
plain_forms labels k (i ∷ is) items [] h = absurd h
plain_forms labels k (i ∷ is) items (form ∷ forms) h =
    let one : k + length form ≡ k + 1 = ap (λ (f : List Insn). k + length f) h.0 in
    let r : AreThen labels (k + 1) is items forms = plain_forms labels (k + 1) is items forms (subst (λ (j : ℕ). AreForms labels j (plain is ++ items) forms) one h.1) in
    let there : k + 1 + length is ≡ k + suc (length is) = omega arith in
    record {
      rest = r.rest;
      same = ap (λ (f : List Insn). f ++ joined forms) h.0 ∙ ap (λ (l : List Insn). i ∷ l) r.same;
      forms_are = subst (λ (j : ℕ). AreForms labels j items r.rest) there r.forms_are;
      marks = ap (λ (j : ℕ). labels_of j (plain is ++ items) forms) one ∙ r.marks ∙ ap (λ (j : ℕ). labels_of j items r.rest) there;
    }

-- ---- one item's choice

record IsChosen (at : ℕ → ℕ) (k : ℕ) (part : Part) (form : List Insn) : Type 0 where
  choice : Choice at k part
  same : form ≡ insns_of (part_pieces at k part choice)

branch_chosen : (at : ℕ → ℕ) (k : ℕ) (op : BranchOp) (rs1 rs2 label : ℕ) (form : List Insn)
    → IsNearBranch op rs1 rs2 (address_of k) (at label) form ⊎ IsFarBranch op rs1 rs2 (address_of k) (at label) form → IsChosen at k (branch op rs1 rs2 label) form
branch_chosen at k op rs1 rs2 label form (inl h) = record { choice = inl (h.offset, h.leads); same = h.is }
branch_chosen at k op rs1 rs2 label form (inr h) =
    let there : address_of k + 4 ≡ address_of (k + 1) = omega arith in
    let away = h.far in
    record {
      choice = inr (away.high, away.low, subst (λ (a : ℕ). leads_far a away.high away.low ≡ at label) there away.leads);
      same = h.is ∙ ap (λ (l : List Insn). Branch (opposite op) rs1 rs2 (pos 12) ∷ l) away.is;
    }

jump_chosen : (at : ℕ → ℕ) (k label : ℕ) (form : List Insn) → IsNearJump 0 (address_of k) (at label) form ⊎ IsFar 0 (address_of k) (at label) form → IsChosen at k (jump label) form
jump_chosen at k label form (inl h) = record { choice = inl (h.offset, h.leads); same = h.is }
jump_chosen at k label form (inr h) = record { choice = inr (h.high, h.low, h.leads); same = h.is }

far_chosen : (at : ℕ → ℕ) (k label : ℕ) (form : List Insn) → IsFar 0 (address_of k) (at label) form → IsChosen at k (far label) form
far_chosen at k label form h = record { choice = (h.high, h.low, h.leads); same = h.is }

constant_chosen : (at : ℕ → ℕ) (k rd : ℕ) (value : ℤ) (form : List Insn) → IsConstant rd value form → IsChosen at k (constant rd value) form
constant_chosen at k rd value form h = record { choice = (form, h); same = sym (insns_singles form) }

-- ---- all

pub record AreChosen (labels : List LabelAt) (k : ℕ) (parts : List Part) (forms : List (List Insn)) : Type 0 where
  pub choices : Choices (label_address labels) k parts
  pub same : joined forms ≡ insns_of (pieces_in (label_address labels) k parts choices)
  pub marks : labels_of k (items_in parts) forms ≡ labels_in (label_address labels) k parts choices

-- a part of one item, and the parts behind it
chosen_then : (labels : List LabelAt) (k : ℕ) (part : Part) (parts : List Part) (form : List Insn) (forms : List (List Insn)) → IsChosen (label_address labels) k part form
    → AreForms labels (k + length form) (items_in parts) forms → ((j : ℕ) → AreForms labels j (items_in parts) forms → AreChosen labels j parts forms)
    → labels_of k (items_in (part ∷ parts)) (form ∷ forms) ≡ marked_by k part ++ labels_of (k + length form) (items_in parts) forms → AreChosen labels k (part ∷ parts) (form ∷ forms)
chosen_then labels k part parts form forms c h go m =
    let at : ℕ → ℕ = label_address labels in
    let pieces : List Piece = part_pieces at k part c.choice in
    let next : k + length form ≡ behind k pieces = ap (λ (f : List Insn). k + length f) c.same ∙ sym (behind_is k pieces) in
    let r : AreChosen labels (behind k pieces) parts forms = go (behind k pieces) (subst (λ (j : ℕ). AreForms labels j (items_in parts) forms) next h) in
    let more : List Piece = pieces_in at (behind k pieces) parts r.choices in
    record {
      choices = (c.choice, r.choices);
      same = ap (λ (f : List Insn). f ++ joined forms) c.same ∙ ap (λ (l : List Insn). insns_of pieces ++ l) r.same ∙ sym (insns_append pieces more);
      marks = m ∙ ap (λ (j : ℕ). marked_by k part ++ labels_of j (items_in parts) forms) next ∙ ap (λ (l : List LabelAt). marked_by k part ++ l) r.marks;
    }

pub chosen : (labels : List LabelAt) (k : ℕ) (parts : List Part) (forms : List (List Insn)) → AreForms labels k (items_in parts) forms → AreChosen labels k parts forms
chosen labels k [] [] h = record { choices = tt; same = refl; marks = refl }
chosen labels k [] (form ∷ forms) h = absurd h
chosen labels k (stays piece ∷ parts) forms h =
    let r : AreThen labels k (instructions_of piece) (items_in parts) forms = plain_forms labels k (instructions_of piece) (items_in parts) forms h in
    let more : AreChosen labels (k + word_count piece) parts r.rest = chosen labels (k + word_count piece) parts r.rest r.forms_are in
    record { choices = (tt, more.choices); same = r.same ∙ ap (λ (l : List Insn). instructions_of piece ++ l) more.same; marks = r.marks ∙ more.marks }
chosen labels k (mark label ∷ parts) (form ∷ forms) h =
    chosen_then labels k (mark label) parts form forms (record { choice = tt; same = h.0 }) h.1 (λ j g. chosen labels j parts forms g) refl
chosen labels k (constant rd value ∷ parts) (form ∷ forms) h =
    chosen_then labels k (constant rd value) parts form forms (constant_chosen (label_address labels) k rd value form h.0) h.1 (λ j g. chosen labels j parts forms g) refl
chosen labels k (branch op rs1 rs2 label ∷ parts) (form ∷ forms) h =
    chosen_then labels k (branch op rs1 rs2 label) parts form forms (branch_chosen (label_address labels) k op rs1 rs2 label form h.0) h.1 (λ j g. chosen labels j parts forms g) refl
chosen labels k (jump label ∷ parts) (form ∷ forms) h =
    chosen_then labels k (jump label) parts form forms (jump_chosen (label_address labels) k label form h.0) h.1 (λ j g. chosen labels j parts forms g) refl
chosen labels k (far label ∷ parts) (form ∷ forms) h =
    chosen_then labels k (far label) parts form forms (far_chosen (label_address labels) k label form h.0) h.1 (λ j g. chosen labels j parts forms g) refl
chosen labels k (part ∷ parts) [] h = absurd h
