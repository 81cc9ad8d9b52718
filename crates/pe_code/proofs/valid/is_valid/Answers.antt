use Rattle.std.proofs.Common.{sym, ◌∙◌}
use Rattle.std.proofs.lemmas.Bool.{both_ways}
use Rattle.pe_code.proofs.valid.is_valid.Goals as goal
use Rattle.pe_code.proofs.valid.is_valid.Goals.{then-is_item_count, else-is_item_count, then-leads_to, else-leads_to, then-are_sound_items, else-are_sound_items, then-have_few_parts, else-have_few_parts, then-are_sound_entries, else-are_sound_entries, then-are_once, else-are_once}

pub returns-then-are_sound_shapes : goal.returns-then-are_sound_shapes
returns-then-are_sound_shapes c = elim c.if-are_once.branch [
  | else-are_once u ↦ absurd (both_ways _ (u.value-is ∙ u.if-are_once.false) c.if-are_sound_shapes.true)
  | then-are_once u ↦ elim c.if-are_sound_entries.branch [
    | else-are_sound_entries v ↦ absurd (both_ways _ (v.value-is ∙ v.if-are_sound_entries.false) u.if-are_once.true)
    | then-are_sound_entries v ↦ elim c.if-have_few_parts.branch [
      | else-have_few_parts w ↦ absurd (both_ways _ (w.value-is ∙ w.if-have_few_parts.false) v.if-are_sound_entries.true)
      | then-have_few_parts w ↦ elim c.if-are_sound_items.branch [
        | else-are_sound_items x ↦ absurd (both_ways _ (x.value-is ∙ x.if-are_sound_items.false) w.if-have_few_parts.true)
        | then-are_sound_items x ↦ elim c.if-leads_to.branch [
          | else-leads_to y ↦ absurd (both_ways _ (y.value-is ∙ y.if-leads_to.false) x.if-are_sound_items.true)
          | then-leads_to y ↦ elim c.if-is_item_count.branch [
            | else-is_item_count z ↦ absurd (both_ways _ (z.value-is ∙ z.if-is_item_count.false) y.if-leads_to.true)
            | then-is_item_count z ↦ (
              λ t.
                  let count = rw c.as_slice-items.ensures at (c.is_item_count.ensures.0 z.if-is_item_count.true) in
                  record {
                    some = count.0;
                    few = count.1;
                    program = z.leads_to.ensures.0 (sym z.value-is ∙ y.if-leads_to.true);
                    items = rw c.as_slice-items.ensures at (y.are_sound_items.ensures.0 (sym y.value-is ∙ x.if-are_sound_items.true));
                    parts = rw c.as_slice-items.ensures at (x.have_few_parts.ensures.0 (sym x.value-is ∙ w.if-have_few_parts.true)).0;
                    straight = rw c.as_slice-items.ensures at (x.have_few_parts.ensures.0 (sym x.value-is ∙ w.if-have_few_parts.true)).1;
                    entries = rw c.as_slice-entries.ensures.entries at (w.are_sound_entries.ensures.0 (sym w.value-is ∙ v.if-are_sound_entries.true));
                    once = rw c.as_slice-entries.ensures.entries at (v.are_once.ensures.0 (sym v.value-is ∙ u.if-are_once.true));
                    asked = u.are_sound_shapes.ensures.0 (sym u.value-is ∙ c.if-are_sound_shapes.true);
                    words = rw c.as_slice.ensures at (c.are_few_words.ensures.0 t);
                  },
              λ valid. c.are_few_words.ensures.1 (rw c.as_slice.ensures valid.words),
            )
          ]
        ]
      ]
    ]
  ]
]

pub returns-else-are_sound_shapes : goal.returns-else-are_sound_shapes
returns-else-are_sound_shapes c = (
  λ t. absurd (both_ways _ c.if-are_sound_shapes.false t),
  λ valid. elim c.if-are_once.branch [
    | then-are_once u ↦ u.value-is ∙ u.are_sound_shapes.ensures.1 valid.asked
    | else-are_once u ↦ absurd (both_ways _ u.if-are_once.false (elim c.if-are_sound_entries.branch [
      | then-are_sound_entries v ↦ v.value-is ∙ v.are_once.ensures.1 (rw c.as_slice-entries.ensures.entries valid.once)
      | else-are_sound_entries v ↦ absurd (both_ways _ v.if-are_sound_entries.false (elim c.if-have_few_parts.branch [
        | then-have_few_parts w ↦ w.value-is ∙ w.are_sound_entries.ensures.1 (rw c.as_slice-entries.ensures.entries valid.entries)
        | else-have_few_parts w ↦ absurd (both_ways _ w.if-have_few_parts.false (elim c.if-are_sound_items.branch [
          | then-are_sound_items x ↦ x.value-is ∙ x.have_few_parts.ensures.1 (rw c.as_slice-items.ensures (valid.parts, valid.straight))
          | else-are_sound_items x ↦ absurd (both_ways _ x.if-are_sound_items.false (elim c.if-leads_to.branch [
            | then-leads_to y ↦ y.value-is ∙ y.are_sound_items.ensures.1 (rw c.as_slice-items.ensures valid.items)
            | else-leads_to y ↦ absurd (both_ways _ y.if-leads_to.false (elim c.if-is_item_count.branch [
              | then-is_item_count z ↦ z.value-is ∙ z.leads_to.ensures.1 valid.program
              | else-is_item_count z ↦ absurd (both_ways _ z.if-is_item_count.false (c.is_item_count.ensures.1 (rw c.as_slice-items.ensures (valid.some, valid.few))))
            ]))
          ]))
        ]))
      ]))
    ]))
  ],
)
