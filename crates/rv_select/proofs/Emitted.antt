-- Blocks appended to items one behind the other.
use Rattle.std.proofs.Common.{◌≡◌, ℕ, zero, suc, ◌+◌, ◌<◌, ◌≤◌, List, [], ◌∷◌, ◌++◌, length, get_or, drop, refl, sym, ap, ◌∙◌, append_assoc, append-nil, arith, Result, Ok, Err, OnOk, Some}
use Rattle.std.specs.Prelude.{slice_get}
use Rattle.std.proofs.Math.Seq.{drop-cons}
use Rattle.std.proofs.lemmas.Option.{slice_get_read}
use Rattle.pe_code.specs.declared.code.PeItem.{PeItem}
use Rattle.pe_code.specs.declared.code.PeCode.{PeCode}
use Rattle.rv_asm.specs.declared.items.Item.{Item}
use Rattle.rv_asm.specs.declared.items.Item.TheVariants.{Mark}
use Rattle.rv_word.specs.declared.micros.Micro.{Micro}
use Rattle.rv_word.specs.Word.{Code}
use Rattle.rv_flow.specs.Lowering.{lowered, micro_items, block_items, blocks_items, entry_items, items_of}
use Rattle.rv_select.specs.declared.emission.Sizes.{Sizes}
use Rattle.rv_select.specs.Numbers.{label_of}
use Rattle.rv_select.specs.Blocks.{blocks_of}
use Rattle.rv_select.specs.Program.{item_blocks, word_code}
use Rattle.rv_select.specs.Emission.{AddsBlocks}
use Rattle.rv_select.proofs.NumberingLemmas.{blocks_more}
use Rattle.rv_select.proofs.Placed.{blocks_length}

-- three parts behind one another
pub three_joined : (old xs ys zs first second new : List Micro) → first ≡ old ++ xs → second ≡ first ++ ys → new ≡ second ++ zs → new ≡ old ++ (xs ++ (ys ++ zs))
three_joined old xs ys zs first second new p q r =
    r ∙ (ap (λ (l : List Micro). l ++ zs) (q ∙ ap (λ (l : List Micro). l ++ ys) p) ∙ (append_assoc (old ++ xs) ys zs ∙ append_assoc old xs (ys ++ zs)))

pub if_ok : {T E P Q : Type 0} (r : Result T E) → (P → Q) → OnOk r P → OnOk r Q
if_ok (Ok x) f p = f p
if_ok (Err e) f p = tt

-- ---- lists of blocks

pub micro_items-append : (e t : ℕ) (xs ys : List Micro) → micro_items e t (xs ++ ys) ≡ micro_items e t xs ++ micro_items e t ys
micro_items-append e t [] ys = refl
micro_items-append e t (m ∷ xs) ys = ap (λ (l : List Item). lowered e t m ++ l) (micro_items-append e t xs ys) ∙ sym (append_assoc (lowered e t m) (micro_items e t xs) (micro_items e t ys))

pub blocks_items-append : (e t label : ℕ) (xs ys : List (List Micro)) → blocks_items e t label (xs ++ ys) ≡ blocks_items e t label xs ++ blocks_items e t (label + length xs) ys
blocks_items-append e t label [] ys = let same : label ≡ label + 0 = omega arith in ap (λ (n : ℕ). blocks_items e t n ys) same
blocks_items-append e t label (b ∷ xs) ys =
    let first : List Item = block_items e t label b in
    let same : suc label + length xs ≡ label + suc (length xs) = omega arith in
    ap (λ (l : List Item). first ++ l) (blocks_items-append e t (suc label) xs ys)
    ∙ sym (append_assoc first (blocks_items e t (suc label) xs) (blocks_items e t (suc label + length xs) ys))
    ∙ ap (λ (n : ℕ). (first ++ blocks_items e t (suc label) xs) ++ blocks_items e t n ys) same

abbrev pub all_items : Sizes → ℕ → List (List Micro) → List Item
all_items sizes label blocks = blocks_items sizes.entries sizes.table_words label blocks

module _ {sizes : Sizes} where
  -- blocks before others
  pub blocks_before : {label next : ℕ} {xs ys : List (List Micro)} {a b c : List Item} → AddsBlocks sizes label xs a b → AddsBlocks sizes next ys b c → label + length xs ≡ next → AddsBlocks sizes label (xs ++ ys) a c
  blocks_before {label} {next} {xs} {ys} {a} h k e = record {
    is =
        k.is ∙ ap (λ (l : List Item). l ++ all_items sizes next ys) h.is ∙ append_assoc a (all_items sizes label xs) (all_items sizes next ys)
        ∙ ap (λ (n : ℕ). a ++ (all_items sizes label xs ++ all_items sizes n ys)) (sym e)
        ∙ ap (λ (l : List Item). a ++ l) (sym (blocks_items-append sizes.entries sizes.table_words label xs ys));
  }

  pub same_blocks : {label : ℕ} {xs ys : List (List Micro)} {a b : List Item} → AddsBlocks sizes label xs a b → xs ≡ ys → AddsBlocks sizes label ys a b
  same_blocks {label} {xs} {ys} {a} h e = record { is = h.is ∙ ap (λ (l : List (List Micro)). a ++ all_items sizes label l) e }

  -- one block, which was appended as it is
  pub one_block : (label : ℕ) (block : List Micro) (a b : List Item) → b ≡ a ++ block_items sizes.entries sizes.table_words label block → AddsBlocks sizes label (block ∷ []) a b
  one_block label block a b h = record { is = h ∙ ap (λ (l : List Item). a ++ l) (sym (append-nil (block_items sizes.entries sizes.table_words label block))) }

  -- a block, and behind it the rest of it
  pub rest_behind : (label : ℕ) (first rest : List Micro) (a b c : List Item) → AddsBlocks sizes label (first ∷ []) a b → c ≡ b ++ micro_items sizes.entries sizes.table_words rest → AddsBlocks sizes label ((first ++ rest) ∷ []) a c
  rest_behind label first rest a b c h k =
      let F : List Item = micro_items sizes.entries sizes.table_words first in
      let R : List Item = micro_items sizes.entries sizes.table_words rest in
      let all : List Item = micro_items sizes.entries sizes.table_words (first ++ rest) in
      record {
        is =
            k ∙ ap (λ (l : List Item). l ++ R) h.is ∙ append_assoc a (Mark label ∷ (F ++ [])) R
            ∙ ap (λ (l : List Item). a ++ (Mark label ∷ (l ++ R))) (append-nil F)
            ∙ ap (λ (l : List Item). a ++ (Mark label ∷ l)) (sym (micro_items-append sizes.entries sizes.table_words first rest) ∙ sym (append-nil all));
      }

  -- one block more of many
  pub block_more : (label k at : ℕ) (block : List Micro) (blocks : List (List Micro)) (a b : List Item) → k < length blocks → at ≡ label + k → block ≡ get_or blocks k [] → AddsBlocks sizes at (block ∷ []) a b
      → b ++ all_items sizes (label + (k + 1)) (drop (k + 1) blocks) ≡ a ++ all_items sizes (label + k) (drop k blocks)
  block_more label k at block blocks a b lt at_is block_is h =
      let here : List Item = block_items sizes.entries sizes.table_words at block in
      let behind : List Item = all_items sizes (label + (k + 1)) (drop (k + 1) blocks) in
      let label_is : label + (k + 1) ≡ suc (label + k) = omega arith in
      let next : k + 1 ≡ suc k = omega arith in
      ap (λ (l : List Item). l ++ behind) h.is
      ∙ append_assoc a (here ++ []) behind
      ∙ ap (λ (l : List Item). a ++ (l ++ behind)) (append-nil here)
      ∙ ap (λ (n : ℕ). a ++ (here ++ all_items sizes (label + (k + 1)) (drop n blocks))) next
      ∙ ap (λ (n : ℕ). a ++ (here ++ all_items sizes n (drop (suc k) blocks))) label_is
      ∙ ap (λ (n : ℕ). a ++ (block_items sizes.entries sizes.table_words n block ++ all_items sizes (suc (label + k)) (drop (suc k) blocks))) at_is
      ∙ ap (λ (b : List Micro). a ++ (block_items sizes.entries sizes.table_words (label + k) b ++ all_items sizes (suc (label + k)) (drop (suc k) blocks))) block_is
      ∙ ap (λ (bs : List (List Micro)). a ++ all_items sizes (label + k) bs) (sym (drop-cons blocks k [] lt))

  -- and no more
  pub blocks_end : (label k : ℕ) (blocks : List (List Micro)) (a c : List Item) → length blocks ≤ k → c ++ all_items sizes (label + k) (drop k blocks) ≡ a ++ all_items sizes label blocks → AddsBlocks sizes label blocks a c
  blocks_end label k blocks a c le h =
      record { is = sym (append-nil c) ∙ ap (λ (bs : List (List Micro)). c ++ all_items sizes (label + k) bs) (sym (drop_past blocks k le)) ∙ h }
    where
      drop_past : (bs : List (List Micro)) (k : ℕ) → length bs ≤ k → drop k bs ≡ []
      drop_past [] zero h = refl
      drop_past [] (suc k) h = refl
      drop_past (b ∷ bs) zero h = absurd (omega arith)
      drop_past (b ∷ bs) (suc k) h = drop_past bs k (omega arith)

  -- the blocks of one item more
  pub item_more : (code : PeCode) (a : ℕ) (i : PeItem) (old new : List Item) → a < length code.items → i ≡ get_or code.items a i → AddsBlocks sizes (label_of code a) (blocks_of code a i.depth i.insn) old new
      → new ++ all_items sizes (label_of code (a + 1)) (item_blocks code (a + 1) (drop (a + 1) code.items)) ≡ old ++ all_items sizes (label_of code a) (item_blocks code a (drop a code.items))
  item_more code a i old new lt is h =
      let stands : slice_get code.items a ≡ Some i = slice_get_read code.items (length code.items) a i refl lt is in
      let own : List (List Micro) = blocks_of code a i.depth i.insn in
      let others : List (List Micro) = item_blocks code (suc a) (drop (suc a) code.items) in
      let more = blocks_more code.items a i stands in
      let size = blocks_length code a i.depth i.insn in
      let next : a + 1 ≡ suc a = omega arith in
      let label_is : label_of code (suc a) ≡ label_of code a + length own = omega arith in
      let behind : List Item = all_items sizes (label_of code (a + 1)) (item_blocks code (a + 1) (drop (a + 1) code.items)) in
      ap (λ (l : List Item). l ++ behind) h.is
      ∙ append_assoc old (all_items sizes (label_of code a) own) behind
      ∙ ap (λ (n : ℕ). old ++ (all_items sizes (label_of code a) own ++ all_items sizes (label_of code n) (item_blocks code n (drop n code.items)))) next
      ∙ ap (λ (n : ℕ). old ++ (all_items sizes (label_of code a) own ++ all_items sizes n others)) label_is
      ∙ ap (λ (l : List Item). old ++ l) (sym (blocks_items-append sizes.entries sizes.table_words (label_of code a) own others))
      ∙ ap (λ (is : List PeItem). old ++ all_items sizes (label_of code a) (item_blocks code a is)) (sym (drop-cons code.items a i lt ∙ ap (λ (j : PeItem). j ∷ drop (suc a) code.items) (sym is)))

-- ---- all items

pub all_selected : (code numbers : PeCode) (labels table : List ℕ) (sizes : Sizes) (none first all : List Item) → numbers ≡ code → labels ≡ (word_code numbers).entries → table ≡ (word_code numbers).table
    → sizes ≡ record { entries = length labels; table_words = length table } → none ≡ [] → first ≡ none ++ entry_items labels → AddsBlocks sizes 0 (word_code numbers).blocks first all → all ≡ items_of (word_code code)
all_selected code numbers labels table sizes none first all same labels_are table_is sizes_are nothing before h =
    let w : Code = word_code code in
    let entries : labels ≡ w.entries = labels_are ∙ ap (λ (z : PeCode). (word_code z).entries) same in
    let words : table ≡ w.table = table_is ∙ ap (λ (z : PeCode). (word_code z).table) same in
    let count : sizes.entries ≡ length w.entries = ap (λ (z : Sizes). z.entries) sizes_are ∙ ap (λ (l : List ℕ). length l) entries in
    let size : sizes.table_words ≡ length w.table = ap (λ (z : Sizes). z.table_words) sizes_are ∙ ap (λ (l : List ℕ). length l) words in
    h.is
    ∙ ap (λ (z : PeCode). first ++ all_items sizes 0 (word_code z).blocks) same
    ∙ ap (λ (n : ℕ). first ++ blocks_items n sizes.table_words 0 w.blocks) count
    ∙ ap (λ (n : ℕ). first ++ blocks_items (length w.entries) n 0 w.blocks) size
    ∙ ap (λ (l : List Item). l ++ blocks_items (length w.entries) (length w.table) 0 w.blocks)
    (before ∙ ap (λ (l : List Item). l ++ entry_items labels) nothing ∙ ap (λ (l : List ℕ). entry_items l) entries)
