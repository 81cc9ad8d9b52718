use Rattle.std.proofs.Common.{sym, ◌∙◌, arith}
use Rattle.std.proofs.lemmas.Bool.{both_ways, leb-true}
use Rattle.pe_code.proofs.valid.is_sound_straight.Goals as goal
use Rattle.pe_code.proofs.valid.is_sound_straight.Goals.{then-parts-le-MOST_PARTS, else-parts-le-MOST_PARTS}

pub returns-then-leave_one : goal.returns-then-leave_one
returns-then-leave_one c = elim c.if-parts-le-MOST_PARTS.branch [
  | else-parts-le-MOST_PARTS w ↦ let small = leb-true _ _ (sym w.value-is ∙ c.if-leave_one.true) in let many = w.if-parts-le-MOST_PARTS.false in absurd (omega arith)
  | then-parts-le-MOST_PARTS w ↦ (
    λ t. record {
      short = w.if-parts-le-MOST_PARTS.true;
      one = w.leave_one.ensures.0 (sym w.value-is ∙ c.if-leave_one.true);
      parts = c.are_sound_parts.ensures.0 t;
    },
    λ sound. c.are_sound_parts.ensures.1 sound.parts,
  )
]

pub returns-else-leave_one : goal.returns-else-leave_one
returns-else-leave_one c = (
  λ t. absurd (both_ways _ c.if-leave_one.false t),
  λ sound. elim c.if-parts-le-MOST_PARTS.branch [
    | then-parts-le-MOST_PARTS w ↦ w.value-is ∙ w.leave_one.ensures.1 sound.one
    | else-parts-le-MOST_PARTS w ↦ let many = w.if-parts-le-MOST_PARTS.false in let few = sound.short in absurd (omega arith)
  ],
)
