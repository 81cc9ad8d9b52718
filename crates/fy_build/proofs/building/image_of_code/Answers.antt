use Rattle.std.proofs.Common.{List, refl, sym, ◌∙◌, subst}
use Rattle.rv_asm.specs.Items.{AreItems, AreDistinct, AreKnown}
use Rattle.rv_asm.specs.Assembly.{IsAssembly}
use Rattle.rv_asm.specs.declared.items.Item.{Item}
use Rattle.fy_build.proofs.building.image_of_code.Goals as goal

pub words_of-requires : goal.words_of-requires
words_of-requires c =
    let can = c.selections_can_be_assembled.ensures c.args.code.now c.requires.selectable in
    let same = sym (c.as_slice.ensures ∙ c.in_ok-selected.ensures.items) in
    record {
      items = subst (λ (items : List Item). AreItems items) same can.items;
      distinct = subst (λ (items : List Item). AreDistinct items) same can.distinct;
      known = subst (λ (items : List Item). AreKnown items) same can.known;
    }

pub returns-clause-selection : goal.returns-clause-selection
returns-clause-selection c =
    let assembled = c.in_ok-assembled.assembled in
    let assembly = subst (λ (items : List Item). IsAssembly items assembled) c.as_slice.ensures c.in_ok-assembled.ensures in
    c.selections_become_images.ensures c.args.code.now c.in_ok-selected.selected assembled _ c.requires.selectable c.in_ok-selected.ensures
    (record { assembly = assembly; words_are = refl; table_is = refl; places_are = refl; stack = c.requires.stack })
