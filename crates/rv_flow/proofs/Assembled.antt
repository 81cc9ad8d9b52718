-- The items of disciplined code can be assembled.
use Rattle.std.proofs.Common.{◌≡◌, ℕ, zero, suc, ◌+◌, ◌<◌, ◌≤◌, true, ◌&&◌, nat_le, List, [], ◌∷◌, length, take, slice_get, All, Contains, Some, arith, sym, ap, ◌∙◌, subst, length-append}
use Rattle.std.proofs.lemmas.Bool.{and_parts}
use Rattle.std.proofs.lemmas.List.{length-map}
use Rattle.std.proofs.lemmas.List.Elements.{All-nil, All-cons}
use Rattle.rv_asm.specs.declared.items.Item.{Item}
use Rattle.rv_asm.specs.Items.{marks_of, named_by, IsFit, AreDistinct, AreKnown}
use Rattle.rv_word.specs.Word.{Code}
use Rattle.rv_word.specs.Discipline.{are_disciplined, are_below, bounds_of, is_disciplined}
use Rattle.rv_flow.specs.Lowering.{items_of, entry_items, blocks_items}
use Rattle.rv_flow.specs.Laws.{HasSizes, CanBeAssembled}
use Rattle.rv_flow.proofs.Parts.{code_is}
use Rattle.rv_flow.proofs.Fits.{ItemsFit, code_fits}
use Rattle.rv_flow.proofs.Marks.{counted, code_marks, counted_once, counted_has, IsMarkedAt, marked_at}

all_fit : (n : ℕ) (items : List Item) → ItemsFit n items → All IsFit items
all_fit n [] h = All-nil IsFit
all_fit n (item ∷ items) h = All-cons IsFit item items h.0.fit (all_fit n items h.1)

name_below : (n : ℕ) (items : List Item) (k label : ℕ) (item : Item) → ItemsFit n items → slice_get items k ≡ Some item → named_by item ≡ Some label → label < n
name_below n [] k label item h e names = absurd (cc)
name_below n (first ∷ items) zero label item h e names = let same : first ≡ item = cc in h.0.names label (ap named_by same ∙ names)
name_below n (first ∷ items) (suc k) label item h e names = name_below n items k label item h.1 e names

-- marks that count up are distinct
distinct : (n : ℕ) (items : List Item) → marks_of items ≡ counted 0 n → AreDistinct items
distinct n items is k label second =
    let m : IsMarkedAt items k label = marked_at items k label second.marks in
    let c = second.before in
    counted_once 0 n (marks_of (take k items)) label m.more c.0 (sym is ∙ m.is) c.1 c.2

known : (n : ℕ) (items : List Item) → ItemsFit n items → marks_of items ≡ counted 0 n → AreKnown items
known n items h is k label use_of =
    let below : label < n = name_below n items k label use_of.item h use_of.there use_of.names in
    use_of.unknown (subst (λ (marks : List ℕ). Contains marks label) (sym is) (counted_has n label below))

few_entries : (code : Code) → length (items_of code) ≤ 4194304 → length code.entries ≤ 4194304
few_entries code few =
    let rest : List Item = blocks_items (length code.entries) (length code.table) 0 code.blocks in
    let size : length (items_of code) ≡ length (entry_items code.entries) + length rest = length-append (entry_items code.entries) rest in
    let heads : length (entry_items code.entries) ≡ length code.entries = length-map code.entries _ in
    omega (arith, size, heads, few)

pub code_can_be_assembled : (code : Code) → is_disciplined code ≡ true → HasSizes code → length (items_of code) ≤ 4194304 → CanBeAssembled code
code_can_be_assembled code h sizes few =
    let a = and_parts (are_disciplined (bounds_of code) code.blocks) (are_below (length code.blocks) code.entries && nat_le 1 (length code.entries)) h in
    let b = and_parts (are_below (length code.blocks) code.entries) (nat_le 1 (length code.entries)) a.1 in
    let fits : ItemsFit (length code.blocks) (items_of code) =
    subst (λ (items : List Item). ItemsFit (length code.blocks) items) (code_is code) (code_fits code (few_entries code few) sizes.table sizes.places a.0 b.0) in
    record {
      items = record { few = few; fit = all_fit (length code.blocks) (items_of code) fits };
      distinct = distinct (length code.blocks) (items_of code) (code_marks code);
      known = known (length code.blocks) (items_of code) fits (code_marks code);
    }
