-- The words at which windows may end: those before which labels stand, and those behind branches. Jumps lead to no others.
use Rattle.std.proofs.Common.{◌≡◌, ◌⊎◌, ℕ, ◌+◌, ◌≤◌, ℤ, pos, negsuc, Bool, true, false, ◌||◌, nat_eq, if◌then◌else◌, List, [], ◌∷◌, ◌++◌, All, Option, Some, None, arith, refl, sym, ◌∙◌, subst, inl, inr}
use Rattle.std.proofs.lemmas.Bool.{or_cases, or_left, or_right, eqb-true, true≢false}
use Rattle.std.proofs.lemmas.List.Elements.{All-head, All-tail}
use Rattle.rv_insn.specs.declared.instructions.BranchOp.{BranchOp}
use Rattle.rv_insn.specs.declared.instructions.Insn.{Insn}
use Rattle.rv_insn.specs.Program.{code_start}
use Rattle.rv_insn.specs.Step.{displaced}
use Rattle.rv_guard.specs.declared.pieces.Piece.{Piece}
use Rattle.rv_guard.specs.declared.pieces.Piece.TheVariants.{FarJump, Single}
use Rattle.rv_guard.specs.Patterns.{Setting, word_count}
use Rattle.rv_guard.specs.Rules.{address_of, branch_target, target_of, is_at, is_target}
use Rattle.rv_asm.specs.declared.items.LabelAt.{LabelAt}
use Rattle.rv_asm.specs.Forms.{Builds}
use Rattle.rv_asm.specs.Assembly.{label_address}
use Rattle.rv_flow.proofs.Parts.{Part, mark, stays, constant, branch, jump, far}
use Rattle.rv_flow.proofs.Choices.{Choice, singles, branch_pieces, jump_pieces, part_pieces, behind, Choices, pieces_in, labels_in, behind_append, behind_grows}
use Rattle.rv_flow.proofs.Safe.{IsSafe, AreSafe}

-- a part from word k to word j opens the word
abbrev pub Opens : ℕ → ℕ → Part → ℕ → Type 0
Opens k j (mark label) w = w ≡ k
Opens k j (branch op rs1 rs2 label) w = w ≡ j
Opens k j _ w = ⊥

abbrev pub IsOpen : (at : ℕ → ℕ) (k : ℕ) (parts : List Part) → Choices at k parts → ℕ → Type 0
IsOpen at k [] cs w = ⊥
IsOpen at k (part ∷ parts) cs w = Opens k (behind k (part_pieces at k part cs.0)) part w ⊎ IsOpen at (behind k (part_pieces at k part cs.0)) parts cs.1 w

-- the address is that of an open word
pub record IsAtOpen (at : ℕ → ℕ) (k : ℕ) (parts : List Part) (cs : Choices at k parts) (address : ℕ) : Type 0 where
  pub word : ℕ
  pub is : address ≡ address_of word
  pub open_word : IsOpen at k parts cs word

-- ---- labels stand at open words

opened_later : (at : ℕ → ℕ) (k : ℕ) (part : Part) (parts : List Part) (cs : Choices at k (part ∷ parts)) (a : ℕ) → IsAtOpen at (behind k (part_pieces at k part cs.0)) parts cs.1 a → IsAtOpen at k (part ∷ parts) cs a
opened_later at k part parts cs a h = record { word = h.word; is = h.is; open_word = inr h.open_word }

label_later : (at : ℕ → ℕ) (k : ℕ) (part : Part) (parts : List Part) (cs : Choices at k (part ∷ parts)) (a : ℕ)
    → (a ≡ code_start) ⊎ IsAtOpen at (behind k (part_pieces at k part cs.0)) parts cs.1 a → (a ≡ code_start) ⊎ IsAtOpen at k (part ∷ parts) cs a
label_later at k part parts cs a (inl h) = inl h
label_later at k part parts cs a (inr h) = inr (opened_later at k part parts cs a h)

-- a label's address is where code begins, if none marks it, or that of an open word
pub label_open : (at : ℕ → ℕ) (k : ℕ) (parts : List Part) (cs : Choices at k parts) (label : ℕ)
    → (label_address (labels_in at k parts cs) label ≡ code_start) ⊎ IsAtOpen at k parts cs (label_address (labels_in at k parts cs) label)
label_open at k [] cs label = inl refl
label_open at k (mark other ∷ parts) cs label =
    let rest : List LabelAt = labels_in at k parts cs.1 in
    let P : Bool → Type 0 = λ b. ((if b then address_of k else label_address rest label) ≡ code_start) ⊎ IsAtOpen at k (mark other ∷ parts) cs (if b then address_of k else label_address rest label) in
    elim (nat_eq other label) as P [
      | true ↦ inr (record { word = k; is = refl; open_word = inl refl })
      | false ↦ label_later at k (mark other) parts cs (label_address rest label) (label_open at k parts cs.1 label)
    ]
label_open at k (stays piece ∷ parts) cs label = label_later at k (stays piece) parts cs _ (label_open at (behind k (piece ∷ [])) parts cs.1 label)
label_open at k (constant rd value ∷ parts) cs label = label_later at k (constant rd value) parts cs _ (label_open at (behind k (singles cs.0.0)) parts cs.1 label)
label_open at k (branch op rs1 rs2 l ∷ parts) cs label = label_later at k (branch op rs1 rs2 l) parts cs _ (label_open at (behind k (branch_pieces k (at l) op rs1 rs2 cs.0)) parts cs.1 label)
label_open at k (jump l ∷ parts) cs label = label_later at k (jump l) parts cs _ (label_open at (behind k (jump_pieces k (at l) cs.0)) parts cs.1 label)
label_open at k (far l ∷ parts) cs label = label_later at k (far l) parts cs _ (label_open at (behind k (FarJump 0 cs.0.0 cs.0.1 ∷ [])) parts cs.1 label)

-- ---- jumps lead to labels and open words

hits_append : (a k : ℕ) (xs ys : List Piece) → is_target a k (xs ++ ys) ≡ true → (is_target a k xs ≡ true) ⊎ (is_target a (behind k xs) ys ≡ true)
hits_append a k [] ys h = inr h
hits_append a k (x ∷ xs) ys h = elim (or_cases (is_at a (target_of k x)) (is_target a (k + word_count x) (xs ++ ys)) h) [
  | inl here ↦ inl (or_left (is_at a (target_of k x)) (is_target a (k + word_count x) xs) here)
  | inr there ↦ elim (hits_append a (k + word_count x) xs ys there) [
    | inl e ↦ inl (or_right (is_at a (target_of k x)) (is_target a (k + word_count x) xs) e)
    | inr e ↦ inr e
  ]
]

-- a piece that jumps nowhere
no_hit : (a : ℕ) (target : Option ℕ) (b : Bool) → target ≡ None → is_at a target || b ≡ true → b ≡ true
no_hit a target b none h = subst (λ (t : Option ℕ). is_at a t || b ≡ true) none h

build_still : (k rd : ℕ) (i : Insn) → Builds rd i → target_of k (Single i) ≡ None
build_still k rd i (Builds.upper high) = refl
build_still k rd i (Builds.first low) = refl
build_still k rd i (Builds.more low) = refl
build_still k rd i (Builds.more_word low) = refl
build_still k rd i (Builds.moved amount) = refl

singles_miss : (a k rd : ℕ) (form : List Insn) → All (Builds rd) form → is_target a k (singles form) ≡ true → ⊥
singles_miss a k rd [] each h = true≢false (sym h)
singles_miss a k rd (i ∷ is) each h =
    singles_miss a (k + 1) rd is (All-tail (Builds rd) i is each) (no_hit a (target_of k (Single i)) (is_target a (k + 1) (singles is)) (build_still k rd i (All-head (Builds rd) i is each)) h)

branch_hit : (a here : ℕ) (offset : ℤ) → is_at a (branch_target here offset) ≡ true → a ≡ displaced here offset
branch_hit a here (negsuc n) h = sym (eqb-true (displaced here (negsuc n)) a h)
branch_hit a here (pos n) h =
    let P : Bool → Type 0 = λ b. is_at a (if b then None else Some (displaced here (pos n))) ≡ true → a ≡ displaced here (pos n) in
    (elim (nat_eq n 0) as P [ true ↦ λ e. absurd (true≢false (sym e)) | false ↦ λ e. sym (eqb-true (displaced here (pos n)) a e) ]) h

-- over a far jump
skipped : (k : ℕ) → k ≤ 4194304 → displaced (address_of k) (pos 12) ≡ address_of (k + 1 + 2)
skipped k h = omega arith

-- a label's address, or a word that the part opens
abbrev pub IsAim : (ℕ → ℕ) → ℕ → ℕ → Part → ℕ → Type 0
IsAim at k j part a = ((label : ℕ) × (a ≡ at label)) ⊎ ((w : ℕ) × (a ≡ address_of w) × Opens k j part w)

aim_one : (a t : ℕ) → nat_eq t a || false ≡ true → a ≡ t
aim_one a t h = elim (or_cases (nat_eq t a) false h) [ inl e ↦ sym (eqb-true t a e) | inr e ↦ absurd (true≢false (sym e)) ]

branch_aims : (at : ℕ → ℕ) (k : ℕ) (op : BranchOp) (rs1 rs2 label a : ℕ) (c : Choice at k (branch op rs1 rs2 label)) → k ≤ 4194304 → is_target a k (branch_pieces k (at label) op rs1 rs2 c) ≡ true
    → IsAim at k (behind k (branch_pieces k (at label) op rs1 rs2 c)) (branch op rs1 rs2 label) a
branch_aims at k op rs1 rs2 label a (inl near) low h =
    elim (or_cases (is_at a (branch_target (address_of k) near.0)) false h) [
      | inl e ↦ inl (label, branch_hit a (address_of k) near.0 e ∙ near.1)
      | inr e ↦ absurd (true≢false (sym e))
    ]
branch_aims at k op rs1 rs2 label a (inr away) low h =
    let behind_it : Bool = is_target a (k + 1) (FarJump 0 away.0 away.1 ∷ []) in
    elim (or_cases (is_at a (branch_target (address_of k) (pos 12))) behind_it h) [
      | inl e ↦ inr (k + 1 + 2, branch_hit a (address_of k) (pos 12) e ∙ skipped k low, refl)
      | inr e ↦ inl (label, aim_one a _ e ∙ away.2)
    ]

jump_aims : (at : ℕ → ℕ) (k label a : ℕ) (c : Choice at k (jump label)) → is_target a k (jump_pieces k (at label) c) ≡ true → IsAim at k (behind k (jump_pieces k (at label) c)) (jump label) a
jump_aims at k label a (inl near) h = inl (label, aim_one a (displaced (address_of k) near.0) h ∙ near.1)
jump_aims at k label a (inr away) h = inl (label, aim_one a _ h ∙ away.2)

part_aims : (setting : Setting) (at : ℕ → ℕ) (k : ℕ) (part : Part) (c : Choice at k part) (a : ℕ) → IsSafe setting part → k ≤ 4194304 → is_target a k (part_pieces at k part c) ≡ true
    → IsAim at k (behind k (part_pieces at k part c)) part a
part_aims setting at k (mark label) c a s low h = absurd (true≢false (sym h))
part_aims setting at k (stays piece) c a s low h = absurd (true≢false (sym (no_hit a (target_of k piece) false (s.still k) h)))
part_aims setting at k (constant rd value) c a s low h = absurd (singles_miss a k rd c.0 c.1.each h)
part_aims setting at k (branch op rs1 rs2 label) c a s low h = branch_aims at k op rs1 rs2 label a c low h
part_aims setting at k (jump label) c a s low h = jump_aims at k label a c h
part_aims setting at k (far label) c a s low h = inl (label, aim_one a _ h ∙ c.2)

-- it is that of a label, or of an open word
abbrev pub IsReached : (at : ℕ → ℕ) (k : ℕ) (parts : List Part) → Choices at k parts → ℕ → Type 0
IsReached at k parts cs a = ((label : ℕ) × (a ≡ at label)) ⊎ IsAtOpen at k parts cs a

-- a target is a label's address, or that of an open word
pub aims : (setting : Setting) (at : ℕ → ℕ) (k : ℕ) (parts : List Part) (cs : Choices at k parts) (a : ℕ) → AreSafe setting parts → behind k (pieces_in at k parts cs) ≤ 4194304
    → is_target a k (pieces_in at k parts cs) ≡ true → IsReached at k parts cs a
aims setting at k [] cs a s most h = absurd (true≢false (sym h))
aims setting at k (part ∷ parts) cs a s most h =
    let here : List Piece = part_pieces at k part cs.0 in
    let next : ℕ = behind k here in
    let more : List Piece = pieces_in at next parts cs.1 in
    let split : behind k (here ++ more) ≡ behind next more = behind_append k here more in
    let low : k ≤ next = behind_grows k here in
    let high : next ≤ behind next more = behind_grows next more in
    elim (hits_append a k here more h) [
      | inl e ↦ elim (part_aims setting at k part cs.0 a s.0 (omega arith) e) [
        | inl t ↦ inl t
        | inr t ↦ inr (record { word = t.0; is = t.1; open_word = inl t.2 })
      ]
      | inr e ↦ elim (aims setting at next parts cs.1 a s.1 (omega arith) e) [
        | inl t ↦ inl t
        | inr t ↦ inr (opened_later at k part parts cs a t)
      ]
    ]
