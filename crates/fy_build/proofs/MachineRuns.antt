-- Runs of the machine of an image: later states have put as much and more, and an end stays.
use Rattle.std.proofs.Common.{◌≡◌, ◌≢◌, ℕ, ◌+◌, ◌-◌, ◌≤◌, ap, ◌∙◌, subst, arith}
use Rattle.fy_base.specs.Outside.{Bytes, IsPrefix}
use Rattle.fy_image.specs.declared.image.Image.{Image}
use Rattle.fy_image.specs.Machine.{start_of, going_world, machine_after}
use Rattle.rv_insn.specs.declared.events.Event.TheVariants.{Going}
use Rattle.rv_insn.specs.Laws.{RunsSplit, OutputGrows, EndedRunsStay}
use Rattle.rv_insn.specs.Program.{Program}
use Rattle.rv_insn.specs.Run.{World}

-- the laws of runs
pub record RunLaws : Type 0 where
  pub split : RunsSplit
  pub grows : OutputGrows
  pub stays : EndedRunsStay

module _ (laws : RunLaws) (program : Program) (image : Image) (input : Bytes) where
  abbrev after : ℕ → World
  after n = machine_after program image input n

  pub machine_grows : (n m : ℕ) → n ≤ m → IsPrefix (after n).output (after m).output
  machine_grows n m le =
      let same : n + (m - n) ≡ m = omega arith in
      let P : ℕ → Type 0 = λ k. IsPrefix (after n).output (after k).output in
      subst P same (laws.grows program n (m - n) (going_world (start_of image) input))

  pub machine_stays : (n m : ℕ) → n ≤ m → (after n).ending ≢ Going → after m ≡ after n
  machine_stays n m le over =
      let same : m ≡ n + (m - n) = omega arith in
      ap after same ∙ laws.split program n (m - n) (going_world (start_of image) input) ∙ laws.stays program (m - n) (after n) over
