use Rattle.std.proofs.Common.{sym, ◌∙◌, arith}
use Rattle.std.proofs.lemmas.Bool.{both_ways, leb-true}
use Rattle.pe_code.proofs.valid.is_sound_item.Goals as goal
use Rattle.pe_code.proofs.valid.is_sound_item.Goals.{then-item-le-MOST_DEPTH, else-item-le-MOST_DEPTH, then-has_sound_parts, else-has_sound_parts, then-has_sound_body, else-has_sound_body, then-is_below, else-is_below}

pub returns-then-is_below-2 : goal.returns-then-is_below-2
returns-then-is_below-2 c = elim c.if-is_below.branch [
  | else-is_below w ↦ absurd (both_ways _ (w.value-is ∙ w.if-is_below.false) c.if-is_below-2.true)
  | then-is_below w ↦ elim c.if-has_sound_body.branch [
    | else-has_sound_body x ↦ absurd (both_ways _ (x.value-is ∙ x.if-has_sound_body.false) w.if-is_below.true)
    | then-has_sound_body x ↦ elim c.if-has_sound_parts.branch [
      | else-has_sound_parts y ↦ absurd (both_ways _ (y.value-is ∙ y.if-has_sound_parts.false) x.if-has_sound_body.true)
      | then-has_sound_parts y ↦ elim c.if-item-le-MOST_DEPTH.branch [
        | else-item-le-MOST_DEPTH z ↦ let small = leb-true _ _ (sym z.value-is ∙ y.if-has_sound_parts.true) in let deep = z.if-item-le-MOST_DEPTH.false in absurd (omega arith)
        | then-item-le-MOST_DEPTH z ↦ (
          λ t. record {
            depth = z.if-item-le-MOST_DEPTH.true;
            beside_it = z.has_sound_parts.ensures.0 (sym z.value-is ∙ y.if-has_sound_parts.true);
            body = rw y.body.ensures at (y.has_sound_body.ensures.0 (sym y.value-is ∙ x.if-has_sound_body.true));
            variable = rw x.variable.ensures at (x.is_below.ensures.0 (sym x.value-is ∙ w.if-is_below.true));
            shape = rw w.shape.ensures at (w.is_below-then-is_below.ensures.0 (sym w.value-is ∙ c.if-is_below-2.true));
            thunk = (c.has_sound_rest.ensures.0 t).0;
            straight = (c.has_sound_rest.ensures.0 t).1;
          },
          λ sound. c.has_sound_rest.ensures.1 (sound.thunk, sound.straight),
        )
      ]
    ]
  ]
]

pub returns-else-is_below-2 : goal.returns-else-is_below-2
returns-else-is_below-2 c = (
  λ t. absurd (both_ways _ c.if-is_below-2.false t),
  λ sound. elim c.if-is_below.branch [
    | then-is_below w ↦ w.value-is ∙ w.is_below-then-is_below.ensures.1 (rw w.shape.ensures sound.shape)
    | else-is_below w ↦ absurd (both_ways _ w.if-is_below.false (elim c.if-has_sound_body.branch [
      | then-has_sound_body x ↦ x.value-is ∙ x.is_below.ensures.1 (rw x.variable.ensures sound.variable)
      | else-has_sound_body x ↦ absurd (both_ways _ x.if-has_sound_body.false (elim c.if-has_sound_parts.branch [
        | then-has_sound_parts y ↦ y.value-is ∙ y.has_sound_body.ensures.1 (rw y.body.ensures sound.body)
        | else-has_sound_parts y ↦ absurd (both_ways _ y.if-has_sound_parts.false (elim c.if-item-le-MOST_DEPTH.branch [
          | then-item-le-MOST_DEPTH z ↦ z.value-is ∙ z.has_sound_parts.ensures.1 sound.beside_it
          | else-item-le-MOST_DEPTH z ↦ let deep = z.if-item-le-MOST_DEPTH.false in let shallow = sound.depth in absurd (omega arith)
        ]))
      ]))
    ]))
  ],
)
