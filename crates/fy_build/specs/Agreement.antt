-- Images of one phrase agree, from whatever derivations they were made.
use Rattle.std.specs.Prelude.{◌≡◌, ◌⊎◌, ℕ}
use Rattle.fy_base.specs.Outside.{Bytes, IsPrefix}
use Rattle.fy_phrase.specs.Tree.{Tree}
use Rattle.fy_phrase.specs.Bounds.{instruction_bound, copy_bound}
use Rattle.fy_image.specs.declared.image.Image.{Image}
use Rattle.fy_image.specs.Machine.{machine_after}
use Rattle.rv_insn.specs.Run.{World}
use Rattle.rv_insn.specs.declared.events.Event.TheVariants.{Exhausted}
use Rattle.fy_build.specs.Headline.{IsOverEvent, AreBytes, RunsAsCopyRule}

-- the two have ended, or faulted, in the same way and with the same output and rest of input
pub record IsSameEnding (one other : World) : Type 0 where
  pub end : other.ending ≡ one.ending
  pub output : other.output ≡ one.output
  pub rest : other.input ≡ one.input

-- all that the one has done, the other has done
pub record IsNoFurther (one other : World) : Type 0 where
  pub output : IsPrefix one.output other.output
  pub over : IsOverEvent one.ending → IsSameEnding one other

-- the instructions within which an image of a phrase does what another one does in n
abbrev pub agreement_bound : Tree → ℕ → ℕ
agreement_bound p n = instruction_bound p (copy_bound p n)

-- where its stack suffices, an image of a phrase does what another image of the phrase does
abbrev pub ImagesAgree : Type 0
ImagesAgree =
    (p : Tree) (one other : Image) (a : RunsAsCopyRule p one) (b : RunsAsCopyRule p other) (input : Bytes) (n : ℕ) → AreBytes input
    → ((machine_after b.program other input (agreement_bound p n)).ending ≡ Exhausted)
    ⊎ IsNoFurther (machine_after a.program one input n) (machine_after b.program other input (agreement_bound p n))
