-- The numbers that are kept of a code: where its items begin, and the places of its thunk nodes.
use Rattle.std.proofs.Common.{◌≡◌, ℕ, zero, suc, ◌+◌, ◌-◌, ◌*◌, ◌^◌, ◌<◌, ◌≤◌, Bool, true, false, cond, min, nat_eq, List, [], ◌∷◌, ◌++◌, length, get_or, take, drop, unwrap_or, Option, Some, ⊎_elim, refl, sym, ap, ◌∙◌, append_assoc, arith}
use Rattle.std.specs.Prelude.{slice_get}
use Rattle.std.specs.HashMap.{Updates, IsEmpty}
use Rattle.std.specs.Map.{lookup}
use Rattle.std.proofs.Math.Seq.{drop-cons}
use Rattle.fy_base.specs.declared.data.UnOp.TheVariants.{Neg, Not, Ord, Chr}
use Rattle.fy_base.specs.declared.data.BinOp.TheVariants.{Add, Sub, Mul, Div, Rem}
use Rattle.pe_code.specs.declared.code.PeInsn.TheVariants as insn
use Rattle.pe_code.specs.declared.code.Purpose.TheVariants as purpose
use Rattle.std.proofs.lemmas.Bool.{cases_lt, cond_both}
use Rattle.std.proofs.lemmas.List.{take_all}
use Rattle.std.proofs.lemmas.Option.{same_Some, get_or_from_slice_get}
use Rattle.indexmap.specs.IndexMap.{get}
use Rattle.pe_code.specs.declared.code.PeInsn.{PeInsn}
use Rattle.pe_code.specs.declared.code.PeItem.{PeItem}
use Rattle.pe_code.specs.declared.code.PeCode.{PeCode}
use Rattle.pe_code.specs.Code.{picked_from}
use Rattle.pe_code.specs.Valid.{all_picked_from, parts_run_by, all_parts_run, places_in, all_places_in, IsValid}
use Rattle.rv_straight.proofs.Sizes.{faults_few}
use Rattle.rv_select.specs.declared.numbers.Start.{Start}
use Rattle.rv_select.specs.Numbers.{first_item, fixed_entries, block_count, entry_count, blocks_in, entries_in, place_in}
use Rattle.rv_select.specs.Program.{row, rows}
use Rattle.rv_select.specs.Numbering.{Places, AreStarts, IsStart, start_in}
use Rattle.rv_select.proofs.Placed.{entries_few}

-- ---- sums

pub blocks_more : (is : List PeItem) (k : ℕ) (i : PeItem) → slice_get is k ≡ Some i → blocks_in (take (suc k) is) ≡ blocks_in (take k is) + block_count i.insn
blocks_more [] k i h = absurd (cc)
blocks_more (j ∷ is) zero i h = let same = ap (λ (z : PeItem). block_count z.insn) (same_Some j i h) in omega arith
blocks_more (j ∷ is) (suc k) i h = let rest = blocks_more is k i h in omega arith

pub entries_more : (is : List PeItem) (k : ℕ) (i : PeItem) → slice_get is k ≡ Some i → entries_in (take (suc k) is) ≡ entries_in (take k is) + entry_count i.insn
entries_more [] k i h = absurd (cc)
entries_more (j ∷ is) zero i h = let same = ap (λ (z : PeItem). entry_count z.insn) (same_Some j i h) in omega arith
entries_more (j ∷ is) (suc k) i h = let rest = entries_more is k i h in omega arith

blocks_of_part : (is : List PeItem) (k : ℕ) → blocks_in (take k is) ≤ blocks_in is
blocks_of_part [] zero = omega arith
blocks_of_part [] (suc k) = omega arith
blocks_of_part (j ∷ is) zero = omega arith
blocks_of_part (j ∷ is) (suc k) = let rest = blocks_of_part is k in omega arith

entries_of_part : (is : List PeItem) (k : ℕ) → entries_in (take k is) ≤ entries_in is
entries_of_part [] zero = omega arith
entries_of_part [] (suc k) = omega arith
entries_of_part (j ∷ is) zero = omega arith
entries_of_part (j ∷ is) (suc k) = let rest = entries_of_part is k in omega arith

block_count_few : (i : PeInsn) → block_count i ≤ 4 + 2 * parts_run_by i
block_count_few (insn.Op1 Neg x) = omega arith
block_count_few (insn.Op1 Not x) = omega arith
block_count_few (insn.Op1 Ord x) = omega arith
block_count_few (insn.Op1 Chr x) = omega arith
block_count_few (insn.Op2 Add x y) = omega arith
block_count_few (insn.Op2 Sub x y) = omega arith
block_count_few (insn.Op2 Mul x y) = omega arith
block_count_few (insn.Op2 Div x y) = omega arith
block_count_few (insn.Op2 Rem x y) = omega arith
block_count_few (insn.Op2 op x y) = omega arith
block_count_few (insn.Eval ss) = let faults = faults_few ss in omega arith
block_count_few (insn.Set k ss) = let faults = faults_few ss in omega arith
block_count_few (insn.EvalFor ss (purpose.Repeat x)) = let faults = faults_few ss in omega arith
block_count_few (insn.EvalFor ss u) = let faults = faults_few ss in omega arith
block_count_few i = omega arith

blocks_few : (is : List PeItem) → blocks_in is ≤ 4 * length is + 2 * all_parts_run is
blocks_few [] = omega arith
blocks_few (i ∷ is) = let rest = blocks_few is in let here = block_count_few i.insn in omega arith

-- an item is one place at most
place_few : (i : PeInsn) → places_in i ≤ 1
place_few (insn.Eval ss) = omega arith
place_few (insn.Set k ss) = omega arith
place_few (insn.EvalFor ss u) = omega arith
place_few insn.Done = omega arith
place_few i = omega arith

pub places_few : (is : List PeItem) → all_places_in is ≤ length is
places_few [] = omega arith
places_few (i ∷ is) = let rest = places_few is in let here = place_few i.insn in omega arith

parts_few : (is : List PeItem) (k : ℕ) (i : PeItem) → slice_get is k ≡ Some i → length (picked_from i.insn) ≤ all_picked_from is
parts_few [] k i h = absurd (cc)
parts_few (j ∷ is) zero i h = let same = ap (λ (z : PeItem). length (picked_from z.insn)) (same_Some j i h) in omega arith
parts_few (j ∷ is) (suc k) i h = let rest = parts_few is k i h in omega arith

-- ---- where items begin

slice_get_left : (xs ys : List Start) (a : ℕ) → a < length xs → slice_get (xs ++ ys) a ≡ slice_get xs a
slice_get_left [] ys a h = absurd (omega arith)
slice_get_left (x ∷ xs) ys zero h = refl
slice_get_left (x ∷ xs) ys (suc a) h = slice_get_left xs ys a (omega arith)

slice_get_last : (xs : List Start) (y : Start) → slice_get (xs ++ y ∷ []) (length xs) ≡ Some y
slice_get_last [] y = refl
slice_get_last (x ∷ xs) y = slice_get_last xs y

pub start_first : (is : List PeItem) → start_in is 0 ≡ record { label = first_item; entry = length fixed_entries }
start_first [] = refl
start_first (i ∷ is) = refl

pub start_next : (is : List PeItem) (k : ℕ) (i : PeItem) (start next : Start) → slice_get is k ≡ Some i → start ≡ start_in is k → next ≡ record { label = start.label + block_count i.insn; entry = start.entry + entry_count i.insn }
    → next ≡ start_in is (k + 1)
start_next is k i start next h s n =
    let blocks = blocks_more is k i h in
    let entries = entries_more is k i h in
    let suc_is : suc k ≡ k + 1 = omega arith in
    let label : start.label + block_count i.insn ≡ first_item + blocks_in (take (suc k) is) = (let begun = ap (λ (z : Start). z.label) s in omega arith) in
    let entry : start.entry + entry_count i.insn ≡ length fixed_entries + entries_in (take (suc k) is) = (let begun = ap (λ (z : Start). z.entry) s in omega arith) in
    let both : record { label = start.label + block_count i.insn; entry = start.entry + entry_count i.insn } ≡ start_in is (suc k) = cc in
    n ∙ both ∙ ap (λ m. start_in is m) suc_is

-- one start more
pub begun_more : (is : List PeItem) (starts : List Start) (next : Start) (more : List Start) (k : ℕ) → ((a : ℕ) → a ≤ k → slice_get starts a ≡ Some (start_in is a)) → length starts ≡ k + 1 → next ≡ start_in is (k + 1) → more ≡ starts ++ next ∷ []
    → (a : ℕ) → a ≤ k + 1 → slice_get more a ≡ Some (start_in is a)
begun_more is starts next more k before size n e a h =
    ⊎_elim
    (λ (lt : a < k + 1).
    let inside : a < length starts = omega arith in
    ap (λ (l : List Start). slice_get l a) e ∙ slice_get_left starts (next ∷ []) a inside ∙ before a (omega arith))
    (λ (le : k + 1 ≤ a).
    let last : a ≡ length starts = omega arith in
    let same : length starts ≡ k + 1 = size in
    ap (λ (l : List Start). slice_get l a) e ∙ ap (λ j. slice_get (starts ++ next ∷ []) j) last ∙ slice_get_last starts next ∙ ap (λ (z : Start). Some z) (n ∙ ap (λ j. start_in is j) (sym same ∙ sym last)))
    (cases_lt a (k + 1))

pub labels_fit : (is : List PeItem) (a : ℕ) → length is ≤ 65536 → all_parts_run is ≤ all_places_in is → (start_in is a).label ≤ 393269
labels_fit is a few run = let part = blocks_of_part is a in let whole = blocks_few is in let places = places_few is in omega arith

pub entries_fit : (is : List PeItem) (a : ℕ) → length is ≤ 65536 → all_picked_from is ≤ length is → (start_in is a).entry ≤ 393231
entries_fit is a few parts = let part = entries_of_part is a in let whole = entries_few is in omega arith

pub next_label_fits : (is : List PeItem) (k : ℕ) (i : PeItem) (start : Start) → slice_get is k ≡ Some i → start ≡ start_in is k → length is ≤ 65536 → all_parts_run is ≤ all_places_in is → start.label + block_count i.insn < 2 ^ 32
next_label_fits is k i start h s few run =
    let begun = ap (λ (z : Start). z.label) s in
    let more = blocks_more is k i h in
    let fit = labels_fit is (suc k) few run in
    omega arith

pub next_entry_fits : (is : List PeItem) (k : ℕ) (i : PeItem) (start : Start) → slice_get is k ≡ Some i → start ≡ start_in is k → length is ≤ 65536 → all_picked_from is ≤ length is → start.entry + entry_count i.insn < 2 ^ 32
next_entry_fits is k i start h s few parts =
    let begun = ap (λ (z : Start). z.entry) s in
    let more = entries_more is k i h in
    let fit = entries_fit is (suc k) few parts in
    omega arith

pub parts_fit : (is : List PeItem) (k : ℕ) (i : PeItem) → slice_get is k ≡ Some i → length is ≤ 65536 → all_picked_from is ≤ length is → length (picked_from i.insn) ≤ 65536
parts_fit is k i h few parts = let own = parts_few is k i h in omega arith

-- past the last item as far as there are items
same_start : (is : List PeItem) (a : ℕ) → start_in is (min (length is) a) ≡ start_in is a
same_start is a =
    ⊎_elim
    (λ (lt : a < length is). let least : min (length is) a ≡ a = omega arith in ap (λ j. start_in is j) least)
    (λ (le : length is ≤ a).
    let least : min (length is) a ≡ length is = omega arith in
    let items : take (min (length is) a) is ≡ take a is = ap (λ j. take j is) least ∙ take_all (length is) is (omega arith) ∙ sym (take_all a is le) in
    let start : List PeItem → Start = λ l. record { label = first_item + blocks_in l; entry = length fixed_entries + entries_in l } in
    ap start items)
    (cases_lt a (length is))

pub start_at : (code : PeCode) (starts : List Start) (a j : ℕ) (s : Start) → IsValid code → AreStarts code.items starts → j ≡ min (length code.items) a → s ≡ get_or starts j s → IsStart code a s
start_at code starts a j s valid begun least read =
    let here : slice_get starts j ≡ Some (start_in code.items j) = begun j (omega arith) in
    let is : s ≡ start_in code.items a = read ∙ get_or_from_slice_get starts j (start_in code.items j) s here ∙ ap (λ k. start_in code.items k) least ∙ same_start code.items a in
    let label = ap (λ (z : Start). z.label) is in
    let entry = ap (λ (z : Start). z.entry) is in
    let few = valid.few in
    let parts = valid.parts in
    let labels = labels_fit code.items a few valid.straight in
    let entries = entries_fit code.items a few parts in
    record { label = label; entry = entry; few_labels = omega arith; few_entries = omega arith }

-- ---- places of nodes

drop_all : (nodes : List ℕ) → drop (length nodes) nodes ≡ []
drop_all [] = refl
drop_all (x ∷ xs) = drop_all xs

pub placed_none : (nodes : List ℕ) (m : Places) → IsEmpty m → (n : ℕ) → unwrap_or (get nat_eq m n) (length nodes) ≡ length nodes + place_in (drop (length nodes) nodes) n
placed_none nodes m none n =
    let no_more : place_in (drop (length nodes) nodes) n ≡ 0 = ap (λ (l : List ℕ). place_in l n) (drop_all nodes) in
    ap (λ (es : List (ℕ × ℕ)). unwrap_or (lookup (nat_eq n) es) (length nodes)) none ∙ omega arith

-- one node more, in front of those whose places stand in the map
pub placed_more : (nodes : List ℕ) (k p : ℕ) (m m' : Places) → suc p ≡ k → k ≤ length nodes → Updates nat_eq m m' (get_or nodes p 0) (Some p)
    → ((n : ℕ) → unwrap_or (get nat_eq m n) (length nodes) ≡ k + place_in (drop k nodes) n)
    → (n : ℕ) → unwrap_or (get nat_eq m' n) (length nodes) ≡ p + place_in (drop p nodes) n
placed_more nodes k p m m' next h u before n =
    let first : ℕ = get_or nodes p 0 in
    let rest : List ℕ = drop (suc p) nodes in
    let split : drop p nodes ≡ first ∷ rest = drop-cons nodes p 0 (omega arith) in
    let earlier : unwrap_or (get nat_eq m n) (length nodes) ≡ suc p + place_in rest n = before n ∙ ap (λ j. j + place_in (drop j nodes) n) (sym next) in
    ap (λ (o : Option ℕ). unwrap_or o (length nodes)) (u.0 n)
    ∙ chosen (nat_eq first n) (get nat_eq m n) (length nodes) p (place_in rest n) earlier
    ∙ sym (ap (λ (l : List ℕ). p + place_in l n) split)
  where
    chosen : (b : Bool) (o : Option ℕ) (d k p : ℕ) → unwrap_or o d ≡ suc k + p → unwrap_or (cond b (Some k) o) d ≡ k + cond b 0 (suc p)
    chosen true o d k p e = omega arith
    chosen false o d k p e = e ∙ omega arith

pub all_placed : (nodes : List ℕ) (k : ℕ) (m : Places) → k ≤ 0 → ((n : ℕ) → unwrap_or (get nat_eq m n) (length nodes) ≡ k + place_in (drop k nodes) n)
    → (n : ℕ) → unwrap_or (get nat_eq m n) (length nodes) ≡ place_in nodes n
all_placed nodes zero m h before n = before n ∙ omega arith
all_placed nodes (suc k) m h before n = absurd (omega arith)

pub place_inside : (nodes : List ℕ) (n : ℕ) → place_in nodes n ≤ length nodes
place_inside [] n = omega arith
place_inside (x ∷ xs) n = cond_both (nat_eq x n) 0 (suc (place_in xs n)) (λ p. p ≤ suc (length xs)) (λ e. omega arith) (λ e. let rest = place_inside xs n in omega arith)

-- ---- rows of the table

-- one row more
pub rows_more : (code : PeCode) (s n : ℕ) (words more whole : List ℕ) → s < n → n ≡ code.shapes → words ++ rows code s (code.shapes - s) ≡ whole → more ≡ words ++ row code s → more ++ rows code (s + 1) (code.shapes - (s + 1)) ≡ whole
rows_more code s n words more whole lt same before e =
    let next : s + 1 ≡ suc s = omega arith in
    let left : suc (code.shapes - (s + 1)) ≡ code.shapes - s = omega arith in
    let rest : List ℕ = rows code (s + 1) (code.shapes - (s + 1)) in
    ap (λ (l : List ℕ). l ++ rest) e
    ∙ append_assoc words (row code s) rest
    ∙ ap (λ j. words ++ (row code s ++ rows code j (code.shapes - (s + 1)))) next
    ∙ ap (λ j. words ++ rows code s j) left
    ∙ before
