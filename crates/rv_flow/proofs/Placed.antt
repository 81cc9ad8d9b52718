-- Where the items of code stand in a program that has the words of their assembly.
use Rattle.std.proofs.Common.{◌≡◌, ℕ, zero, suc, ◌+◌, ◌*◌, ◌^◌, ◌<◌, ◌≤◌, Bool, true, false, nat_eq, if◌then◌else◌, List, [], ◌∷◌, ◌++◌, length, take, drop, slice_index, slice_index_or, All, Contains, Some, refl, sym, ◌∙◌, ap, arith, length-append, add-zero, add-one}
use Rattle.std.specs.List.{slice_get}
use Rattle.std.proofs.lemmas.Bool.{eqb-true}
use Rattle.std.proofs.lemmas.List.{length-map}
use Rattle.std.proofs.lemmas.Option.{slice_get-get_or, slice_get_within}
use Rattle.fy_image.specs.declared.image.Image.{Image}
use Rattle.fy_image.specs.Machine.{IsProgramOf}
use Rattle.rv_insn.specs.declared.instructions.Insn.{Insn}
use Rattle.rv_insn.specs.Program.{Program}
use Rattle.rv_asm.specs.declared.items.Item.{Item}
use Rattle.rv_asm.specs.declared.items.Item.TheVariants.{Mark, Plain, FarTo}
use Rattle.rv_asm.specs.declared.items.Assembled.{Assembled}
use Rattle.rv_asm.specs.Items.{marks_of, named_by}
use Rattle.rv_asm.specs.Forms.{IsFar}
use Rattle.rv_asm.specs.Assembly.{joined, word_of, address_of, labels_of, label_address, target_in, IsAssembly}
use Rattle.rv_word.specs.declared.micros.Micro.{Micro}
use Rattle.rv_word.specs.Word.{Code, block}
use Rattle.rv_flow.specs.Lowering.{micro_items, block_items, blocks_items, entry_items, items_of}
use Rattle.rv_flow.proofs.Lists.{second_is}
use Rattle.rv_flow.proofs.Reached.{IsPlaced, entry_item}

-- ---- the words before an item

word_next : (forms : List (List Insn)) (k : ℕ) (form : List Insn) → slice_get forms k ≡ Some form → word_of forms (suc k) ≡ word_of forms k + length form
word_next [] k form e = absurd (cc)
word_next (x ∷ forms) zero form e =
    let same : x ≡ form = cc in
    let long : length x ≡ length form = ap length same in
    omega (arith, length-append x [])
word_next (x ∷ forms) (suc k) form e =
    let rest : word_of forms (suc k) ≡ word_of forms k + length form = word_next forms k form e in
    omega (arith, length-append x (joined (take (suc k) forms)), length-append x (joined (take k forms)))

word_within : (forms : List (List Insn)) (k : ℕ) → word_of forms k ≤ length (joined forms)
word_within forms zero = omega arith
word_within [] (suc k) = omega arith
word_within (x ∷ forms) (suc k) = omega (arith, length-append x (joined (take k forms)), length-append x (joined forms), word_within forms k)

-- an item has a form
pub record HasForm (forms : List (List Insn)) (k : ℕ) : Type 0 where
  pub form : List Insn
  pub is : slice_get forms k ≡ Some form

form_there : (items : List Item) (forms : List (List Insn)) (k : ℕ) (item : Item) → length forms ≡ length items → slice_get items k ≡ Some item → HasForm forms k
form_there items forms k item count e =
    let below : k < length items = slice_get_within items k item e in
    record { form = slice_index_or forms k []; is = slice_get-get_or forms k [] (omega arith) }

-- ---- labels

abbrev Unmarked : List Item → ℕ → ℕ → Type 0
Unmarked items k label = Contains (marks_of (take k items)) label → ⊥

-- the address of a label is that of its first mark
label_found : (word : ℕ) (items : List Item) (forms : List (List Insn)) (k label : ℕ) → length forms ≡ length items → slice_get items k ≡ Some (Mark label) → Unmarked items k label
    → label_address (labels_of word items forms) label ≡ address_of (word + word_of forms k)
label_found word [] forms k label count e new = absurd (cc)
label_found word (item ∷ items) [] k label count e new = absurd (let none : 0 ≡ suc (length items) = count in let not_so : ⊥ = omega arith in not_so)
label_found word (Mark x ∷ items) (form ∷ forms) zero label count e new =
    let same : x ≡ label = cc in
    let found : nat_eq x label ≡ true = (let s = same in grind arith) in
    rw found (ap address_of (sym (add-zero word)))
label_found word (Mark x ∷ items) (form ∷ forms) (suc k) label count e new =
    past (nat_eq x label) refl (label_found (word + length form) items forms k label (omega arith) e (λ c. new (suc c.0, (let below = c.1 in omega arith), c.2)))
  where
    past : (b : Bool) → nat_eq x label ≡ b → label_address (labels_of (word + length form) items forms) label ≡ address_of (word + length form + word_of forms k)
        → (if b then address_of word else label_address (labels_of (word + length form) items forms) label) ≡ address_of (word + length (form ++ joined (take k forms)))
    past true h rest = absurd (new (zero, omega arith, eqb-true x label h))
    past false h rest = rest ∙ ap address_of (omega (arith, length-append form (joined (take k forms))))
label_found word (item ∷ items) (form ∷ forms) zero label count e new = absurd (cc)
label_found word (item ∷ items) (form ∷ forms) (suc k) label count e new =
    label_found (word + length form) items forms k label (omega arith) e new
    ∙ ap address_of (omega (arith, length-append form (joined (take k forms))))

-- ---- entries

far_words : (here to : ℕ) (form : List Insn) → IsFar 0 here to form → length form ≡ 2
far_words here to form far = ap length far.is

-- ---- blocks

-- a block stands behind its mark
pub record HasBlock (entries table_words : ℕ) (items : List Item) (label : ℕ) (ms : List Micro) : Type 0 where
  pub k : ℕ
  pub tail : List Item
  pub is : drop k items ≡ Mark label ∷ (micro_items entries table_words ms ++ tail)

block_there : (entries table_words label : ℕ) (blocks : List (List Micro)) (i to : ℕ) → i < length blocks → label + i ≡ to → HasBlock entries table_words (blocks_items entries table_words label blocks) to (slice_index_or blocks i [])
block_there entries table_words label [] i to below e = absurd (let none : ⊥ = omega arith in none)
block_there entries table_words label (ms ∷ blocks) zero to below e =
    let tail : List Item = blocks_items entries table_words (suc label) blocks in
    let same : label ≡ to = omega arith in
    record { k = 0; tail = tail; is = ap (λ l. Mark l ∷ (micro_items entries table_words ms ++ tail)) same }
block_there entries table_words label (ms ∷ blocks) (suc i) to below e =
    let first : List Item = block_items entries table_words label ms in
    let others : List Item = blocks_items entries table_words (suc label) blocks in
    let h : HasBlock entries table_words others to (slice_index_or blocks i []) = block_there entries table_words (suc label) blocks i to (omega arith) (omega arith) in
    record { k = length first + h.k; tail = h.tail; is = second_is first others h.k ∙ h.is }

pub block_stands : (code : Code) (label : ℕ) → label < length code.blocks → HasBlock (length code.entries) (length code.table) (items_of code) label (block code label)
block_stands code label below =
    let first : List Item = entry_items code.entries in
    let others : List Item = blocks_items (length code.entries) (length code.table) 0 code.blocks in
    let h : HasBlock (length code.entries) (length code.table) others label (block code label) = block_there (length code.entries) (length code.table) 0 code.blocks label label below (omega arith) in
    record { k = length first + h.k; tail = h.tail; is = second_is first others h.k ∙ h.is }

-- ---- the whole

module _ (code : Code) (assembled : Assembled) (a : IsAssembly (items_of code) assembled) where
  -- the address of the item with a number
  abbrev pub item_at : ℕ → ℕ
  item_at k = address_of (word_of a.forms k)

  abbrev pub label_at : ℕ → ℕ
  label_at label = label_address assembled.labels label

  words_count : length (joined a.forms) ≡ length assembled.words
  words_count = sym (length-map (joined a.forms) (λ insn. Some insn)) ∙ a.words_are.same_length

  next_plain : (k : ℕ) (i : Insn) → slice_get (items_of code) k ≡ Some (Plain i) → item_at (k + 1) ≡ item_at k + 4
  next_plain k i e =
      let f : HasForm a.forms k = form_there (items_of code) a.forms k (Plain i) a.count e in
      let is : f.form ≡ i ∷ [] = a.each k (Plain i) f.form e f.is in
      let long : length f.form ≡ 1 = ap length is in
      let next : word_of a.forms (suc k) ≡ word_of a.forms k + length f.form = word_next a.forms k f.form f.is in
      rw (add-one k) (omega arith)

  entry_word : (k : ℕ) → k ≤ length code.entries → word_of a.forms k ≡ 2 * k
  entry_word zero h = refl
  entry_word (suc k) h =
      let item : Item = FarTo (slice_index code.entries k) in
      let there : slice_get (items_of code) k ≡ Some item = entry_item code k h in
      let f : HasForm a.forms k = form_there (items_of code) a.forms k item a.count there in
      let far : IsFar 0 (item_at k) (target_in assembled.labels (named_by item)) f.form = a.each k item f.form there f.is in
      let long : length f.form ≡ 2 = ap length far.is in
      let next : word_of a.forms (suc k) ≡ word_of a.forms k + length f.form = word_next a.forms k f.form f.is in
      let before : word_of a.forms k ≡ 2 * k = entry_word k (omega arith) in
      omega arith

  mark_at : (k label : ℕ) → slice_get (items_of code) k ≡ Some (Mark label) → label_at label ≡ item_at k
  mark_at k label e =
      ap (λ l. label_address l label) a.labels_are
      ∙ label_found 0 (items_of code) a.forms k label a.count e (λ c. a.distinct k label (record { marks = e; before = c }))
      ∙ ap address_of (omega arith)

  pub placed : (image : Image) (p : Program) → IsProgramOf image p → image.code ≡ assembled.words → image.table ≡ code.table → image.places ≡ code.places → length image.code ≤ 4194304 → length image.table ≤ 1048576
      → length image.places ≤ 524288 → All (λ w. w < 2 ^ 64) code.table → IsPlaced code p item_at label_at
  placed image p program words_are table_is places_are few table_few places_few table_fits =
      let same : p.words ≡ assembled.words = program.words_are ∙ words_are in
      let many : length image.code ≡ length assembled.words = ap length words_are in
      let table_same : length image.table ≡ length code.table = ap length table_is in
      let places_same : length image.places ≡ length code.places = ap length places_are in
      let count : length (joined a.forms) ≤ 4194304 = omega (arith, words_count) in
      let heads : word_of a.forms (length code.entries) ≡ 2 * length code.entries = entry_word (length code.entries) (omega arith) in
      record {
        does = λ k item core e at. a.does k item p core e (record { words_are = same; read = program.read; pc_is = at.pc_is; count = at.count; zero_is = at.zero_is });
        behind = next_plain;
        low = λ k. omega (arith, word_within a.forms k);
        entries = λ k h. omega (arith, entry_word k h);
        marks = mark_at;
        entries_few = omega (arith, word_within a.forms (length code.entries));
        table_is = program.table_is ∙ table_is;
        table_few = omega arith;
        table_fits = table_fits;
        places_are = program.places_are ∙ places_are;
        places_few = omega arith;
      }
