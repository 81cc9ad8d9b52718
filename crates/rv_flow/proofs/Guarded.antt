-- The image of disciplined code is guarded.
use Rattle.std.proofs.Common.{◌≡◌, ◌⊎◌, ℕ, zero, suc, ◌+◌, ◌*◌, ◌≤◌, true, ◌&&◌, nat_le, List, [], ◌∷◌, length, map, slice_get, Some, arith, refl, sym, ap, ◌∙◌, subst, inl, inr}
use Rattle.std.proofs.lemmas.Bool.{and_parts, leb-true}
use Rattle.std.proofs.lemmas.List.{length-map}
use Rattle.fy_image.specs.declared.image.Image.{Image}
use Rattle.fy_image.specs.Ranges.{IsImage}
use Rattle.rv_insn.specs.declared.instructions.Insn.{Insn}
use Rattle.rv_guard.specs.declared.pieces.Piece.{Piece}
use Rattle.rv_guard.specs.declared.pieces.Window.{Window}
use Rattle.rv_guard.specs.Patterns.{Setting, HasHead, word_count}
use Rattle.rv_guard.specs.Windows.{windows_behind}
use Rattle.rv_guard.specs.Rules.{address_of, is_target, is_start, windows_at}
use Rattle.rv_guard.specs.Joining.{PartKeepsRules}
use Rattle.rv_guard.specs.Guarded.{AreWordsOf, IsGuarded, setting_of}
use Rattle.rv_guard.proofs.Joined.{closed_parts}
use Rattle.rv_asm.specs.declared.items.Item.{Item}
use Rattle.rv_asm.specs.declared.items.LabelAt.{LabelAt}
use Rattle.rv_asm.specs.Items.{named_by}
use Rattle.rv_asm.specs.Forms.{IsFormOf}
use Rattle.rv_asm.specs.Assembly.{word_of, labels_of, label_address, target_in}
use Rattle.rv_word.specs.Word.{Code}
use Rattle.rv_word.specs.Discipline.{are_disciplined, are_below, bounds_of, is_disciplined}
use Rattle.rv_flow.specs.Lowering.{items_of}
use Rattle.rv_flow.specs.Laws.{IsImageOf}
use Rattle.rv_flow.proofs.Parts.{Part, blocks_parts, entry_parts, parts_in, code_is}
use Rattle.rv_flow.proofs.Choices.{Choices, pieces_in, labels_in, insns_of, behind, behind_is}
use Rattle.rv_flow.proofs.Chosen.{AreForms, EachForm, forms_from, AreChosen, chosen}
use Rattle.rv_flow.proofs.Safe.{AreSafe, AreGood, all_good, all_cut}
use Rattle.rv_flow.proofs.SafeMicros.{Suits, code_safe}
use Rattle.rv_flow.proofs.Opened.{IsOpen, label_open, aims}
use Rattle.rv_flow.proofs.PieceStarts.{LastLeadsAway, parts_start, open_start, parts_closed, AllJump, all_jump}
use Rattle.rv_flow.proofs.Away.{code_away}
use Rattle.rv_flow.proofs.Accesses.{HaveAccess}
use Rattle.rv_flow.proofs.Disciplined.{code_access}

-- what is chosen for the parts of code, with the words of an image
pub record IsBuilt (code : Code) (image : Image) : Type 0 where
  pub at : ℕ → ℕ
  pub choices : Choices at 0 (parts_in code)
  pub labels_are : (label : ℕ) → at label ≡ label_address (labels_in at 0 (parts_in code) choices) label
  pub read : AreWordsOf (insns_of (pieces_in at 0 (parts_in code) choices)) image.code

-- ---- of an assembly

pub each_form : (items : List Item) (labels : List LabelAt) (forms : List (List Insn))
    → ((j : ℕ) (item : Item) (form : List Insn) → slice_get items j ≡ Some item → slice_get forms j ≡ Some form
    → IsFormOf item (address_of (word_of forms j)) (target_in labels (named_by item)) form) → EachForm labels 0 items forms
each_form items labels forms each j item form a b =
    let here : word_of forms j ≡ 0 + word_of forms j = omega arith in
    subst (λ (w : ℕ). IsFormOf item (address_of w) (target_in labels (named_by item)) form) here (each j item form a b)

pub built : (code : Code) (image : Image) → IsImageOf code image → IsBuilt code image
built code image h =
    let a = h.assembly in
    let labels : List LabelAt = h.assembled.labels in
    let forms : AreForms labels 0 (items_of code) a.forms = forms_from labels 0 (items_of code) a.forms a.count (each_form (items_of code) labels a.forms a.each) in
    let c : AreChosen labels 0 (parts_in code) a.forms = chosen labels 0 (parts_in code) a.forms (subst (λ (items : List Item). AreForms labels 0 items a.forms) (sym (code_is code)) forms) in
    let same : labels ≡ labels_in (label_address labels) 0 (parts_in code) c.choices = a.labels_are ∙ ap (λ (items : List Item). labels_of 0 items a.forms) (sym (code_is code)) ∙ c.marks in
    record {
      at = label_address labels;
      choices = c.choices;
      labels_are = λ label. ap (λ (l : List LabelAt). label_address l label) same;
      read = subst (λ (words : List ℕ). AreWordsOf (insns_of (pieces_in (label_address labels) 0 (parts_in code) c.choices)) words) (sym h.words_are)
          (subst (λ (insns : List Insn). AreWordsOf insns h.assembled.words) c.same a.words_are);
    }

-- ---- rules of pieces

part_rules : (setting : Setting) (all : List Piece) (k : ℕ) (windows : List Window) (pieces : List Piece) → AreGood setting pieces → AllJump all k pieces → HaveAccess all k windows pieces
    → PartKeepsRules all k windows pieces
part_rules setting all k windows [] good jumps access = tt
part_rules setting all k windows (piece ∷ pieces) good jumps access = (
  record { bounds = good.0.bounds; plain = good.0.plain; jumps = jumps.0; access = access.0 },
  part_rules setting all (k + word_count piece) (windows_behind piece (windows_at all k windows)) pieces good.1 jumps.1 access.1,
)

-- ---- the head

head_of : (at : ℕ → ℕ) (k : ℕ) (labels : List ℕ) (rest : List Part) (cs : Choices at k (entry_parts labels rest)) → HasHead (length labels) (insns_of (pieces_in at k (entry_parts labels rest) cs))
head_of at k [] rest cs = tt
head_of at k (label ∷ labels) rest cs = (0, cs.0.0, cs.0.1, insns_of (pieces_in at (k + 2) (entry_parts labels rest) cs.1), refl, head_of at (k + 2) labels rest cs.1)

head_size : (g : ℕ) (code : List Insn) → HasHead g code → 2 * g ≤ length code
head_size zero code h = omega arith
head_size (suc g) code h =
    let size : length code ≡ suc (suc (length h.3)) = ap length h.4 in
    let rest : 2 * g ≤ length h.3 = head_size g h.3 h.5 in
    omega (arith, size, rest)

pub read_size : (insns : List Insn) (words : List ℕ) → AreWordsOf insns words → length insns ≡ length words
read_size insns words r = let e : length (map (λ i. Some i) insns) ≡ length insns = length-map insns (λ i. Some i) in sym e ∙ r.same_length

-- ---- whole images

module _ (code : Code) (image : Image) (b : IsBuilt code image) (h : is_disciplined code ≡ true) (ranges : IsImage image) (table_is : image.table ≡ code.table) (places_are : image.places ≡ code.places) where
  abbrev all : List Piece
  all = pieces_in b.at 0 (parts_in code) b.choices

  abbrev setting : Setting
  setting = setting_of image (insns_of all)

  blocks_fine : are_disciplined (bounds_of code) code.blocks ≡ true
  blocks_fine = (and_parts (are_disciplined (bounds_of code) code.blocks) (are_below (length code.blocks) code.entries && nat_le 1 (length code.entries)) h).0

  entries_fine : (are_below (length code.blocks) code.entries ≡ true) × (nat_le 1 (length code.entries) ≡ true)
  entries_fine =
      and_parts (are_below (length code.blocks) code.entries) (nat_le 1 (length code.entries)) (and_parts (are_disciplined (bounds_of code) code.blocks) (are_below (length code.blocks) code.entries && nat_le 1 (length code.entries)) h).1

  some : 1 ≤ length code.entries
  some = leb-true 1 (length code.entries) entries_fine.1

  few_words : length (insns_of all) ≤ 4194304
  few_words = let size : length (insns_of all) ≡ length image.code = read_size (insns_of all) image.code b.read in let most : length image.code ≤ 4194304 = ranges.code_most in omega (arith, size, most)

  suits : Suits code setting
  suits =
      let head : HasHead (length code.entries) (insns_of all) = head_of b.at 0 code.entries (blocks_parts (length code.entries) (length code.table) 0 code.blocks) b.choices in
      let size : 2 * length code.entries ≤ length (insns_of all) = head_size (length code.entries) (insns_of all) head in
      let words : length image.table ≡ length code.table = ap length table_is in
      let words_most : length image.table ≤ 1048576 = ranges.table_most in
      let places : length image.places ≡ length code.places = ap length places_are in
      let places_most : length image.places ≤ 524288 = ranges.places_most in
      let few : length (insns_of all) ≤ 4194304 = few_words in
      record { some_entries = some; few_entries = omega arith; head = head; table_is = words; table_most = omega arith; places_are = places; places_most = omega arith }

  safe : AreSafe setting (parts_in code)
  safe = code_safe code setting suits blocks_fine

  good : AreGood setting all
  good = all_good setting b.at 0 (parts_in code) b.choices safe

  last : LastLeadsAway (parts_in code)
  last = code_away code blocks_fine entries_fine.0 some

  -- windows end where code begins, and at open words
  abbrev Ended : ℕ → Type 0
  Ended w = (w ≡ 0) ⊎ IsOpen b.at 0 (parts_in code) b.choices w

  record EndsAt (a : ℕ) : Type 0 where
    word : ℕ
    is : a ≡ address_of word
    ended : Ended word

  label_ended : (label : ℕ) → EndsAt (label_address (labels_in b.at 0 (parts_in code) b.choices) label)
  label_ended label = elim (label_open b.at 0 (parts_in code) b.choices label) [
    | inl e ↦ record { word = 0; is = e; ended = inl refl }
    | inr o ↦ record { word = o.word; is = o.is; ended = inr o.open_word }
  ]

  target_ended : (a : ℕ) → is_target a 0 all ≡ true → EndsAt a
  target_ended a t =
      let most : behind 0 all ≤ 4194304 = (let size : behind 0 all ≡ 0 + length (insns_of all) = behind_is 0 all in let few : length (insns_of all) ≤ 4194304 = few_words in omega arith) in
      elim (aims setting b.at 0 (parts_in code) b.choices a safe most t) [
        | inl l ↦ let e : EndsAt (label_address (labels_in b.at 0 (parts_in code) b.choices) l.0) = label_ended l.0 in record { word = e.word; is = l.1 ∙ b.labels_are l.0 ∙ e.is; ended = e.ended }
        | inr o ↦ record { word = o.word; is = o.is; ended = inr o.open_word }
      ]

  hits : (w : ℕ) → is_target (address_of w) 0 all ≡ true → Ended w
  hits w t =
      let e : EndsAt (address_of w) = target_ended (address_of w) t in
      let same : e.word ≡ w = (let is : address_of w ≡ address_of e.word = e.is in omega arith) in
      subst Ended same e.ended

  ended_start : (w : ℕ) → Ended w → is_start (address_of w) 0 all ≡ true
  ended_start w (inl e) = subst (λ (j : ℕ). is_start (address_of j) 0 all ≡ true) (sym e) (parts_start b.at 0 (parts_in code) b.choices last)
  ended_start w (inr o) = open_start b.at 0 (parts_in code) b.choices w last o

  lands : (a : ℕ) → is_target a 0 all ≡ true → is_start a 0 all ≡ true
  lands a t =
      let e : EndsAt a = target_ended a t in
      subst (λ (x : ℕ). is_start x 0 all ≡ true) (sym e.is) (ended_start e.word e.ended)

  up_to_start : (w : ℕ) → Ended w → (w ≤ 0) ⊎ IsOpen b.at 0 (parts_in code) b.choices w
  up_to_start w (inl e) = inl (omega arith)
  up_to_start w (inr o) = inr o

  pub guarded : IsGuarded image
  guarded = record {
    code = insns_of all;
    read = b.read;
    pieces = all;
    cut = all_cut setting all good;
    rules = closed_parts all 0 [] all
        (part_rules setting all 0 [] all good (all_jump all 0 all lands)
        (code_access all b.at Ended hits (bounds_of code) (length code.entries) (length code.table) code.entries code.blocks blocks_fine 0 b.choices [] up_to_start))
        (parts_closed b.at 0 (parts_in code) b.choices last);
  }

pub images_are_guarded : (code : Code) (image : Image) → IsImageOf code image → IsGuarded image
images_are_guarded code image h = guarded code image (built code image h) h.disciplined h.ranges h.table_is h.places_are
