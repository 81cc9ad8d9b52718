use Rattle.std.proofs.Common.{ap, ◌∙◌, arith}
use Rattle.std.specs.Int.{w64, from_le_bytes}
use Rattle.std.proofs.lemmas.Nat.{le_bytes_8}
use Rattle.fy_image.proofs.fields.double_of.Goals as goal

pub returns : goal.returns
returns c =
    le_bytes_8 c.args.bytes.now c.from_le_bytes.result c.requires (λ i. omega (arith, c.type_inv.bytes i)) (c.from_le_bytes.ensures ∙ ap (λ b. from_le_bytes w64 b) c.copy_from_slice.ensures.after)
