-- What one run of an image shows of the copy rule.
use Rattle.std.proofs.Common.{◌≡◌, ◌≢◌, ◌⊎◌, inl, inr, ℕ, ◌≤◌, refl, sym, ap, ◌∙◌, subst}
use Rattle.fy_base.specs.Outside.{Bytes, IsPrefix}
use Rattle.fy_base.specs.declared.data.Place.{Place}
use Rattle.fy_base.specs.declared.data.FaultKind.{FaultKind}
use Rattle.fy_runs.proofs.Outer.{prefix_more}
use Rattle.fy_phrase.specs.Tree.{Tree}
use Rattle.fy_phrase.specs.Copy.{Standing, going, ended, faulted, stuck, copy_after}
use Rattle.fy_phrase.specs.Bounds.{instruction_bound}
use Rattle.fy_derive.specs.Safety.{IsNeverStuck}
use Rattle.fy_image.specs.declared.image.Image.{Image}
use Rattle.fy_image.specs.Machine.{machine_after}
use Rattle.rv_insn.specs.declared.events.Event.{Event}
use Rattle.rv_insn.specs.declared.events.Event.TheVariants.{Going, Ended, Fault, Exhausted}
use Rattle.rv_insn.specs.Run.{World}
use Rattle.fy_build.specs.Headline.{IsSameEnd, both_ended, both_faulted, IsOverEvent, IsOverStanding, Reaches, AreBytes, RunsAsCopyRule}
use Rattle.fy_build.specs.Shown as ends
use Rattle.fy_build.specs.Shown.{RunsShowCopyRule}
use Rattle.fy_build.proofs.MachineRuns.{RunLaws, machine_grows, machine_stays}

ended_too : (event : Event) (standing : Standing) → IsSameEnd event standing → event ≡ Ended → standing ≡ ended
ended_too event standing both_ended is = refl
ended_too event standing (both_faulted kind at) is = cc

faulted_too : (event : Event) (standing : Standing) (kind : FaultKind) (at : Place) → IsSameEnd event standing → event ≡ Fault kind at → standing ≡ faulted kind at
faulted_too event standing kind at both_ended is = cc
faulted_too event standing kind at (both_faulted kind' at') is =
    let same_kind : kind' ≡ kind = cc in
    let same_at : at' ≡ at = cc in
    cc

not_going : (event : Event) (standing : Standing) → IsSameEnd event standing → event ≢ Going
not_going event standing both_ended e = cc
not_going event standing (both_faulted kind at) e = cc

-- what is neither over nor stuck goes on
goes_on : (s : Standing) → ¬ IsOverStanding s → s ≢ stuck → s ≡ going
goes_on going on free = refl
goes_on ended on free = absurd (on tt)
goes_on (faulted kind at) on free = absurd (on tt)
goes_on stuck on free = absurd (free refl)

module _ (laws : RunLaws) (p : Tree) (image : Image) (runs : RunsAsCopyRule p image) (input : Bytes) (bytes : AreBytes input) where
  abbrev after : ℕ → World
  after n = machine_after runs.program image input n

  -- at a bound that a run that goes on has passed, the copy rule isn't over, and all that it has put is put
  still_going : (n m : ℕ) → (after n).ending ≡ Going → instruction_bound p m ≤ n → (¬ IsOverStanding (copy_after p input m).standing) × IsPrefix (copy_after p input m).output (after n).output
  still_going n m goes le = by (runs.reaches_what_the_copy_rule_reaches input m bytes)
    where
      here : (after (instruction_bound p m)).ending ≢ Going → ⊥
      here off = off (sym (ap (λ (w : World). w.ending) (machine_stays laws runs.program image input (instruction_bound p m) n le off)) ∙ goes)

      by : ((after (instruction_bound p m)).ending ≡ Exhausted) ⊎ Reaches (after (instruction_bound p m)) (copy_after p input m)
          → (¬ IsOverStanding (copy_after p input m).standing) × IsPrefix (copy_after p input m).output (after n).output
      by (inl exhausted) = absurd (here (λ e. let clash : Exhausted ≡ Going = sym exhausted ∙ e in cc))
      by (inr reached) = (
        λ over. here (not_going (after (instruction_bound p m)).ending (copy_after p input m).standing (reached.end over).end),
        prefix_more (copy_after p input m).output (after (instruction_bound p m)).output (after n).output reached.output (machine_grows laws runs.program image input (instruction_bound p m) n le),
      )

pub runs_show : RunLaws → RunsShowCopyRule
unfolding IsNeverStuck
runs_show laws p image runs input n limit ends.ended never bytes so =
    let same = runs.end_is_the_copy_rules input n bytes (subst IsOverEvent (sym so.here) tt) in
    (ended_too _ _ same.end so.here, same.output)
runs_show laws p image runs input n limit (ends.faulted kind at) never bytes so =
    let same = runs.end_is_the_copy_rules input n bytes (subst IsOverEvent (sym so.here) tt) in
    (faulted_too _ _ kind at same.end so.here, same.output)
runs_show laws p image runs input n limit ends.exhausted never bytes so =
    (runs.exhausted_only_past_the_stack input n bytes so.here, runs.output_is_prefix input n bytes)
runs_show laws p image runs input n limit ends.spent never bytes so = (
  runs.output_is_prefix input n bytes,
  λ m le. let s = still_going laws p image runs input bytes n m so.going.here le in (goes_on _ s.0 (never input m), s.1),
)
runs_show laws p image runs input n limit (ends.trapped kind) never bytes so = runs.never_traps input n kind bytes so.here
