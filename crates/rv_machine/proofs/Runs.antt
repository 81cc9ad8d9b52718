-- Runs, by their counts of instructions.
use Rattle.std.proofs.Common.{◌≡◌, ◌≢◌, ℕ, ◌+◌, ◌≤◌, sym, ap, ◌∙◌, arith, add-one, inl, inr}
use Rattle.std.proofs.lemmas.Bool.{cases_lt}
use Rattle.fy_base.specs.Outside.{IsPrefix}
use Rattle.rv_insn.specs.Program.{Program}
use Rattle.rv_insn.specs.declared.events.Event.{Event}
use Rattle.rv_insn.specs.declared.events.Event.TheVariants.{Going}
use Rattle.rv_insn.proofs.Runs as insn
use Rattle.rv_machine.specs.Run.{World, run, tick}
use Rattle.rv_machine.specs.Ends.{StandsAt}

-- no instruction
pub run_none : (program : Program) (world : World) → run program 0 world ≡ world
run_none program world = insn.run_none program world

-- one more instruction
pub run_more : (program : Program) (n : ℕ) (world : World) → run program (n + 1) world ≡ tick program (run program n world)
run_more program n world = rw (add-one n) (insn.run_more program n world)

-- n instructions and then m more
pub run_split : (program : Program) (n m : ℕ) (world : World) → run program (n + m) world ≡ run program m (run program n world)
run_split program n m world = insn.run_splits program n m world

-- a world that is over stays
pub over_stays : (program : Program) (n : ℕ) (world : World) → world.ending ≢ Going → run program n world ≡ world
over_stays program n world over = insn.ended_stays program n world over

-- a run that is over stays
pub run_stays : (program : Program) (n m : ℕ) (world : World) → (run program n world).ending ≢ Going → n ≤ m → run program m world ≡ run program n world
run_stays program n m world over le = insn.ended_later program n m world over le

-- the output of a longer run begins with that of a shorter one
pub outputs_grow : (program : Program) (n m : ℕ) (world : World) → n ≤ m → IsPrefix (run program n world).output (run program m world).output
outputs_grow program n m world le = insn.outputs_grow program n m world le

-- a run that stands over at a count stands so at each later one
pub stands_stays : (program : Program) (world : World) (n m : ℕ) (event : Event) → event ≢ Going → StandsAt program world n event → n ≤ m → run program m world ≡ run program n world
stands_stays program world n m event over stands le = run_stays program n m world (λ going. over (sym stands.here ∙ going)) le

-- a run goes on at no count from where it is over
pub stands_over : (program : Program) (world : World) (n m : ℕ) (event : Event) → event ≢ Going → StandsAt program world n event → n ≤ m → (run program m world).ending ≢ Going
stands_over program world n m event over stands le = λ going. over (sym stands.here ∙ ap (λ w. w.ending) (sym (stands_stays program world n m event over stands le)) ∙ going)

-- a run is over by one event, at one count
pub stands_once : (program : Program) (world : World) (n m : ℕ) (event other : Event) → event ≢ Going → other ≢ Going → StandsAt program world n event → StandsAt program world m other → (n ≡ m) × (event ≡ other)
stands_once program world n m event other over off stands also =
    let same : n ≡ m = elim (cases_lt n m) [
      | inl less ↦ absurd (over (sym stands.here ∙ also.below n less))
      | inr more ↦ elim (cases_lt m n) [ inl less ↦ absurd (off (sym also.here ∙ stands.below m less)) | inr both ↦ omega arith ]
    ] in
    (same, sym stands.here ∙ ap (λ k. (run program k world).ending) same ∙ also.here)
