use Rattle.std.proofs.lemmas.Bool.{both_ways}
use Rattle.pe_code.proofs.valid.has_sound_rest.Goals as goal

pub returns-then-has_sound_node : goal.returns-then-has_sound_node
returns-then-has_sound_node c = (
  λ t. (rw c.node.ensures at (c.has_sound_node.ensures.0 c.if-has_sound_node.true), c.has_sound_straight.ensures.0 t),
  λ sound. c.has_sound_straight.ensures.1 sound.1,
)

pub returns-else-has_sound_node : goal.returns-else-has_sound_node
returns-else-has_sound_node c = (
  λ t. absurd (both_ways _ c.if-has_sound_node.false t),
  λ sound. c.has_sound_node.ensures.1 (rw c.node.ensures sound.0),
)
