-- What is selected for code can be assembled, and becomes an image.
use Rattle.std.proofs.Common.{◌≡◌, ℕ, ◌≤◌, List, [], ◌∷◌, length, map, Some, refl, ap, ◌∙◌, subst, arith, length-append}
use Rattle.std.proofs.lemmas.List.{length-map}
use Rattle.std.specs.Prelude.{slice_get}
use Rattle.rv_insn.specs.declared.instructions.Insn.{Insn}
use Rattle.rv_asm.specs.declared.items.Item.{Item}
use Rattle.rv_asm.specs.declared.items.Item.TheVariants.{FarTo}
use Rattle.rv_asm.specs.declared.items.LabelAt.{LabelAt}
use Rattle.rv_asm.specs.Items.{named_by}
use Rattle.rv_asm.specs.Forms.{IsFormOf, IsFar}
use Rattle.rv_asm.specs.Assembly.{joined, word_of, address_of, target_in, IsAssembly}
use Rattle.rv_flow.specs.Lowering.{items_of}
use Rattle.rv_flow.specs.Laws.{CodeCanBeAssembled, CodeIsShort}
use Rattle.rv_select.specs.Numbers.{start_label}
use Rattle.rv_select.specs.Program.{word_code}
use Rattle.rv_select.specs.Laws.{SelectionIsDisciplined, SelectionIsShort}
use Rattle.rv_select.specs.Sizes.{SelectionIsCounted}
use Rattle.fy_build.specs.Selecting.{SelectionsCanBeAssembled, SelectionsBecomeImages}

pub can_be_assembled : SelectionIsDisciplined → SelectionIsShort → SelectionIsCounted → CodeCanBeAssembled → SelectionsCanBeAssembled
can_be_assembled disciplined short counted can code ok =
    let sizes = short code ok in
    can (word_code code) (disciplined code ok)
    (record { table = (let few = sizes.table in omega arith); places = (let all = sizes.places in let few = ok.valid.few in omega arith) })
    (counted code ok).items

-- what begins with a far jump becomes some words
some_words : (items : List Item) (label : ℕ) (forms : List (List Insn)) (labels : List LabelAt) → length forms ≡ length items → slice_get items 0 ≡ Some (FarTo label)
    → ((k : ℕ) (item : Item) (form : List Insn) → slice_get items k ≡ Some item → slice_get forms k ≡ Some form → IsFormOf item (address_of (word_of forms k)) (target_in labels (named_by item)) form)
    → 1 ≤ length (joined forms)
some_words [] label forms labels size first each = absurd (cc)
some_words (item ∷ items) label [] labels size first each = absurd (omega arith)
some_words (item ∷ items) label (form ∷ forms) labels size first each =
    let far : IsFar 0 (address_of (word_of (form ∷ forms) 0)) (target_in labels (Some label)) form = each 0 (FarTo label) form first refl in
    let two : length form ≡ 2 = ap length far.is in
    omega (arith, length-append form (joined forms))

pub become_images : SelectionIsDisciplined → SelectionIsShort → SelectionIsCounted → CodeIsShort → SelectionsBecomeImages
become_images disciplined short counted brief code selected assembled image ok is made =
    let assembly : IsAssembly (items_of (word_code code)) assembled = subst (λ (items : List Item). IsAssembly items assembled) is.items made.assembly in
    let sizes = short code ok in
    let items = ok.valid.few in
    let words : length image.code ≡ length assembled.words = ap length made.words_are in
    let read : length (map (λ (i : Insn). Some i) (joined assembly.forms)) ≡ length assembled.words = assembly.words_are.same_length in
    let some = some_words (items_of (word_code code)) start_label assembly.forms assembled.labels assembly.count (counted code ok).first assembly.each in
    let most = brief (word_code code) assembled assembly in
    let table = ap length (made.table_is ∙ is.table) in
    let places = ap length (made.places_are ∙ is.places) in
    record {
      selectable = ok;
      image_of = record {
        disciplined = disciplined code ok;
        assembled = assembled;
        assembly = assembly;
        words_are = made.words_are;
        table_is = made.table_is ∙ is.table;
        places_are = made.places_are ∙ is.places;
        ranges = record {
          stack_least = made.stack.least;
          stack_most = made.stack.most;
          code_least = omega (arith, length-map (joined assembly.forms) (λ (i : Insn). Some i));
          code_most = (let few = sizes.words in omega arith);
          table_most = (let few = sizes.table in omega arith);
          places_most = (let all = sizes.places in omega arith);
        };
        table_fits = sizes.table_fits;
      };
    }
