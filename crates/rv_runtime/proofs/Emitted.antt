-- Items of the routines' blocks, appended part by part.
use Rattle.std.proofs.Common.{◌≡◌, ℕ, suc, ◌+◌, ◌-◌, ◌<◌, ◌≤◌, pos, List, [], ◌∷◌, ◌++◌, length, drop, get_or, sym, ap, ◌∙◌, append_assoc, Result, Ok, Err, OnOk, arith}
use Rattle.std.proofs.lemmas.List.{at_drop_more, at_drop_all}
use Rattle.rv_asm.specs.declared.items.Item.{Item}
use Rattle.rv_asm.specs.declared.items.Item.TheVariants.{Mark}
use Rattle.rv_insn.specs.declared.instructions.RegOp.TheVariants.{Sub}
use Rattle.rv_insn.specs.declared.instructions.ImmOp.TheVariants.{Addi, Sltiu}
use Rattle.rv_insn.specs.declared.instructions.BranchOp.TheVariants.{Bne}
use Rattle.rv_word.specs.declared.micros.Register.TheVariants.{Zero, Top, First, Second, Third}
use Rattle.rv_word.specs.declared.micros.Micro.{Micro}
use Rattle.rv_word.specs.declared.micros.Micro.TheVariants.{Set, Imm, Alu, Window, Get, Save, Test, Jump, Put}
use Rattle.rv_flow.specs.Lowering.{lowered, micro_items}
use Rattle.rv_runtime.specs.Routines.{meet, go, copy_display, copy_few, text_block, copied_words}
use Rattle.rv_runtime.specs.Emission.{AppendsCopied}

-- ---- outcomes

pub if_ok : {T E P Q : Type 0} (r : Result T E) → (P → Q) → OnOk r P → OnOk r Q
if_ok (Ok x) f p = f p
if_ok (Err e) f p = tt

-- ---- texts

-- the items of what is left of a text
abbrev text_items : List ℕ → List Item
text_items text = micro_items 0 0 (text_block text)

pub text_less : (text : List ℕ) (k d : ℕ) (items set new whole : List Item) → k < length text → items ++ text_items (drop k text) ≡ whole → set ≡ items ++ lowered 0 0 (Set Second (get_or text k d)) → new ≡ set ++ lowered 0 0 (Put Second)
    → new ++ text_items (drop (k + 1) text) ≡ whole
text_less text k d items set new whole h left e f =
    let rest : List Item = text_items (drop (k + 1) text) in
    let put : List Item = lowered 0 0 (Put Second) in
    ap (λ l. l ++ rest) f
    ∙ append_assoc set put rest
    ∙ ap (λ l. l ++ (put ++ rest)) e
    ∙ append_assoc items (lowered 0 0 (Set Second (get_or text k d))) (put ++ rest)
    ∙ sym (ap (λ l. items ++ l) (at_drop_more text_items text k d h))
    ∙ left

pub text_none : (text : List ℕ) (k : ℕ) (items new whole : List Item) → length text ≤ k → items ++ text_items (drop k text) ≡ whole → new ≡ items ++ lowered 0 0 (Jump meet) → new ≡ whole
text_none text k items new whole h left e = e ∙ sym (ap (λ l. items ++ l) (at_drop_all text_items text k h)) ∙ left

-- ---- copied words

pub copied_less : (count k : ℕ) (items got new old : List Item) → k < count
    → ((rest : List Micro) → items ++ micro_items 0 0 (copied_words (count - k) k rest) ≡ old ++ micro_items 0 0 (copied_words count 0 rest))
    → got ≡ items ++ lowered 0 0 (Get First Third k) → new ≡ got ++ lowered 0 0 (Save Top k First)
    → (rest : List Micro) → new ++ micro_items 0 0 (copied_words (count - (k + 1)) (k + 1) rest) ≡ old ++ micro_items 0 0 (copied_words count 0 rest)
copied_less count k items got new old h left e f rest =
    let less : ℕ = count - (k + 1) in
    let get : List Item = lowered 0 0 (Get First Third k) in
    let save : List Item = lowered 0 0 (Save Top k First) in
    let behind : List Item = micro_items 0 0 (copied_words less (k + 1) rest) in
    let here : suc less ≡ count - k = omega arith in
    let there : k + 1 ≡ suc k = omega arith in
    ap (λ l. l ++ behind) f
    ∙ append_assoc got save behind
    ∙ ap (λ l. l ++ (save ++ behind)) e
    ∙ append_assoc items get (save ++ behind)
    ∙ ap (λ n. items ++ (get ++ (save ++ micro_items 0 0 (copied_words less n rest)))) there
    ∙ ap (λ n. items ++ micro_items 0 0 (copied_words n k rest)) here
    ∙ left rest

pub copied_none : (count k : ℕ) (items old : List Item) → count ≤ k → ((rest : List Micro) → items ++ micro_items 0 0 (copied_words (count - k) k rest) ≡ old ++ micro_items 0 0 (copied_words count 0 rest)) → AppendsCopied count old items
copied_none count k items old h left rest = let none : 0 ≡ count - k = omega arith in ap (λ n. items ++ micro_items 0 0 (copied_words n k rest)) none ∙ left rest

-- a block with copied words between others
pub copying : (count label : ℕ) (first last : List Micro) (old marked begun copied new : List Item) → marked ≡ old ++ Mark label ∷ [] → begun ≡ marked ++ micro_items 0 0 first → AppendsCopied count begun copied → new ≡ copied ++ micro_items 0 0 last
    → new ≡ old ++ (Mark label ∷ (micro_items 0 0 first ++ micro_items 0 0 (copied_words count 0 last)))
copying count label first last old marked begun copied new m f c l =
    let middle : List Item = micro_items 0 0 (copied_words count 0 last) in
    l
    ∙ c last
    ∙ ap (λ i. i ++ middle) (f ∙ ap (λ i. i ++ micro_items 0 0 first) m ∙ append_assoc old (Mark label ∷ []) (micro_items 0 0 first))
    ∙ append_assoc old (Mark label ∷ micro_items 0 0 first) middle

-- ---- the parts of the blocks that copy

abbrev pub display_first : List Micro
display_first = Alu Sub First Second Top ∷ Imm Sltiu First First (pos 64) ∷ Test Bne First Zero copy_few ∷ Window Third 8 ∷ Window Top 8 ∷ []

abbrev pub display_last : List Micro
display_last = Imm Addi Third Third (pos 64) ∷ Imm Addi Top Top (pos 64) ∷ Test Bne Top Second copy_display ∷ Jump go ∷ []

abbrev pub few_first : List Micro
few_first = Window Third 4 ∷ Window Top 4 ∷ []

abbrev pub few_last : List Micro
few_last = Imm Addi Top Top (pos 32) ∷ Jump go ∷ []
