-- Blocks appended one behind the other.
use Rattle.std.proofs.Common.{◌≡◌, ℕ, suc, ◌+◌, List, [], ◌∷◌, ◌++◌, length, refl, sym, ap, ◌∙◌, append_assoc, append-nil, arith, subst, Result, Ok, Err, OnOk, OnErr}
use Rattle.rv_asm.specs.declared.items.Item.{Item}
use Rattle.rv_asm.specs.declared.items.Item.TheVariants.{Mark}
use Rattle.rv_word.specs.declared.micros.Micro.{Micro}
use Rattle.rv_flow.specs.Emission.{Extends}
use Rattle.rv_flow.specs.Lowering.{lowered, micro_items, block_items, blocks_items}
use Rattle.rv_operators.specs.Emission.{AddsBlock, AddsBlocks}

pub if_ok : {T E P Q : Type 0} (r : Result T E) → (P → Q) → OnOk r P → OnOk r Q
if_ok (Ok x) f p = f p
if_ok (Err e) f p = tt

pub if_err : {T E P Q : Type 0} (r : Result T E) → (P → Q) → OnErr r P → OnErr r Q
if_err (Ok x) f p = tt
if_err (Err e) f p = f p

-- the last block, and one before others
pub last_block : {entries label : ℕ} {micros : List Micro} {a b : List Item} → AddsBlock entries label micros a b → AddsBlocks entries label (micros ∷ []) a b
last_block {entries} {label} {micros} {a} h = record { is = h.is ∙ sym (ap (λ (l : List Item). a ++ l) (append-nil (block_items entries 0 label micros))) }

pub block_before : {entries label next : ℕ} {micros : List Micro} {blocks : List (List Micro)} {a b c : List Item} → AddsBlock entries label micros a b → AddsBlocks entries next blocks b c → suc label ≡ next
    → AddsBlocks entries label (micros ∷ blocks) a c
block_before {entries} {label} {next} {micros} {blocks} {a} h k e =
    let first : List Item = block_items entries 0 label micros in
    let rest : List Item = blocks_items entries 0 next blocks in
    record {
      is =
          k.is ∙ ap (λ (l : List Item). l ++ rest) h.is ∙ append_assoc a first rest
          ∙ ap (λ (n : ℕ). a ++ (first ++ blocks_items entries 0 n blocks)) (sym e);
    }

blocks_items-append : (entries label : ℕ) (xs ys : List (List Micro)) → blocks_items entries 0 label (xs ++ ys) ≡ blocks_items entries 0 label xs ++ blocks_items entries 0 (label + length xs) ys
blocks_items-append entries label [] ys = let same : label ≡ label + 0 = omega arith in ap (λ (n : ℕ). blocks_items entries 0 n ys) same
blocks_items-append entries label (micros ∷ xs) ys =
    let first : List Item = block_items entries 0 label micros in
    let same : suc label + length xs ≡ label + suc (length xs) = omega arith in
    ap (λ (l : List Item). first ++ l) (blocks_items-append entries (suc label) xs ys)
    ∙ sym (append_assoc first (blocks_items entries 0 (suc label) xs) (blocks_items entries 0 (suc label + length xs) ys))
    ∙ ap (λ (n : ℕ). (first ++ blocks_items entries 0 (suc label) xs) ++ blocks_items entries 0 n ys) same

-- blocks before others
pub blocks_before : {entries label next : ℕ} {xs ys : List (List Micro)} {a b c : List Item} → AddsBlocks entries label xs a b → AddsBlocks entries next ys b c → label + length xs ≡ next
    → AddsBlocks entries label (xs ++ ys) a c
blocks_before {entries} {label} {next} {xs} {ys} {a} h k e =
    let first : List Item = blocks_items entries 0 label xs in
    let rest : List Item = blocks_items entries 0 next ys in
    record {
      is =
          k.is ∙ ap (λ (l : List Item). l ++ rest) h.is ∙ append_assoc a first rest
          ∙ ap (λ (n : ℕ). a ++ (first ++ blocks_items entries 0 n ys)) (sym e)
          ∙ ap (λ (l : List Item). a ++ l) (sym (blocks_items-append entries label xs ys));
    }

-- what begins the items with blocks begins those with more
pub begins : {entries label : ℕ} {blocks : List (List Micro)} {a b c : List Item} → AddsBlocks entries label blocks a b → Extends b c → Extends a c
begins {entries} {label} {blocks} {a} h k =
    let first : List Item = blocks_items entries 0 label blocks in
    record { more = first ++ k.more; is = k.is ∙ ap (λ (l : List Item). l ++ k.more) h.is ∙ append_assoc a first k.more }

micro_items-append : (entries : ℕ) (xs ys : List Micro) → micro_items entries 0 (xs ++ ys) ≡ micro_items entries 0 xs ++ micro_items entries 0 ys
micro_items-append entries [] ys = refl
micro_items-append entries (m ∷ xs) ys =
    ap (λ (l : List Item). lowered entries 0 m ++ l) (micro_items-append entries xs ys)
    ∙ sym (append_assoc (lowered entries 0 m) (micro_items entries 0 xs) (micro_items entries 0 ys))

-- the work of an operator behind what leaves its context
pub work_behind : (entries label : ℕ) (first work : List Micro) (a b c : List Item) → b ≡ a ++ block_items entries 0 label first → c ≡ b ++ micro_items entries 0 work
    → AddsBlock entries label (first ++ work) a c
work_behind entries label first work a b c h k =
    let mark : List Item = Mark label ∷ micro_items entries 0 first in
    record {
      is =
          k ∙ ap (λ (l : List Item). l ++ micro_items entries 0 work) h ∙ append_assoc a mark (micro_items entries 0 work)
          ∙ ap (λ (l : List Item). a ++ (Mark label ∷ l)) (sym (micro_items-append entries first work));
    }

-- a block under the same label
pub relabelled : {entries other label : ℕ} {micros : List Micro} {a b : List Item} → other ≡ label → AddsBlock entries other micros a b → AddsBlock entries label micros a b
relabelled {entries} {other} {label} {micros} {a} {b} e h = let P : ℕ → Type 0 = λ n. AddsBlock entries n micros a b in subst P e h
