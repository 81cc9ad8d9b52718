-- The image of code that follows the copy rule runs as the copy rule.
use Rattle.std.proofs.Common.{◌≡◌, ◌≢◌, ◌⊎◌, inl, inr, ℕ, zero, suc, ◌+◌, ◌*◌, ◌<◌, ◌≤◌, Option, sym, ap, ◌∙◌, subst, arith}
use Rattle.std.proofs.Math.Nat.{mul-le-mul_left, mul-le-mul_right}
use Rattle.fy_base.specs.Outside.{Bytes, IsPrefix}
use Rattle.fy_base.specs.declared.data.Datum.{Datum}
use Rattle.fy_runs.proofs.Outer.{prefix_more, prefix_of}
use Rattle.fy_phrase.specs.Bounds.{instruction_bound, copy_bound}
use Rattle.fy_phrase.specs.Copy as copy
use Rattle.fy_phrase.specs.Copy.{CopyRun, start_run, copy_after, peak_load}
use Rattle.fy_phrase.specs.Sizes.{nodes, depth}
use Rattle.fy_phrase.specs.Tree.{Tree}
use Rattle.fy_phrase.proofs.Runs.{over_later, outputs_grow, load_within}
use Rattle.fy_image.specs.declared.image.Image.{Image}
use Rattle.fy_image.specs.Machine.{machine_after}
use Rattle.rv_insn.specs.declared.events.Event.{Event}
use Rattle.rv_insn.specs.declared.events.Event.TheVariants.{Going, Ended, Fault, Exhausted}
use Rattle.rv_insn.specs.Program.{Program}
use Rattle.rv_insn.specs.Run.{World}
use Rattle.pe_code.specs.declared.code.PeCode.{PeCode}
use Rattle.pe_machine.specs.Run.{PeRun, Standing, going, ended, faulted, stuck, gone, pe_after, pe_peak_load}
use Rattle.pe_machine.proofs.RunLemmas.{peak_zero, peak_suc}
use Rattle.pe_right.specs.Follows.{StandAlike, StandNearlyAlike, FollowsCopyRule}
use Rattle.rv_select.specs.Images.{step_bound, ImageDoesRun}
use Rattle.rv_select.specs.Images as selected
use Rattle.rv_select.specs.Laws.{deepest}
use Rattle.fy_build.specs.Headline.{IsSameEnd, both_ended, both_faulted, IsOverEvent, IsOverStanding, IsSameOver, Reaches}
use Rattle.fy_build.proofs.MachineRuns.{RunLaws, machine_grows, machine_stays}

-- ---- ends

selected_over : (e : Event) → IsOverEvent e → selected.IsOverEvent e
selected_over Ended over = tt
selected_over (Fault kind at) over = tt
selected_over _ over = absurd over

-- what the machine of items ends with is what the copy rule ends with
end_through : (e : Event) (s : Standing) (t : copy.Standing) → selected.IsSameEnd e s → StandNearlyAlike s t → IsSameEnd e t
end_through e s t selected.both_ended like = subst (λ u. IsSameEnd Ended u) (sym like) both_ended
end_through e s t (selected.both_faulted kind at) like = subst (λ u. IsSameEnd (Fault kind at) u) (sym like) (both_faulted kind at)

nearly_alike : (s : Standing) (t : copy.Standing) → StandAlike s t → StandNearlyAlike s t
nearly_alike going t like = inl like
nearly_alike ended t like = like
nearly_alike (faulted kind at) t like = like
nearly_alike stuck t like = like
nearly_alike gone t like = like

copy_not_going : (e : Event) (t : copy.Standing) → IsSameEnd e t → t ≢ copy.going
copy_not_going e t both_ended g = cc
copy_not_going e t (both_faulted kind at) g = cc

event_not_going : (e : Event) (t : copy.Standing) → IsSameEnd e t → e ≢ Going
event_not_going e t both_ended g = cc
event_not_going e t (both_faulted kind at) g = cc

over_not_going : (t : copy.Standing) → IsOverStanding t → t ≢ copy.going
over_not_going copy.going over g = over
over_not_going copy.ended over g = cc
over_not_going (copy.faulted kind at) over g = cc
over_not_going copy.stuck over g = over

-- where the copy rule is over, so is what stands as it does
over_alike : (s : Standing) (t : copy.Standing) → StandAlike s t → IsOverStanding t → selected.IsOverStanding s
over_alike going t like over = subst IsOverStanding like over
over_alike ended t like over = tt
over_alike (faulted kind at) t like over = tt
over_alike stuck t like over = absurd like
over_alike gone t like over = absurd like

-- ---- bounds

-- the steps of n instructions are within the bound
steps_within : (p : Tree) (steps n : ℕ) → steps ≤ n * (nodes p + 1) → steps ≤ copy_bound p n
steps_within p steps n few = let more : n * (nodes p + 1) ≤ (n + 1) * (nodes p + 1) = mul-le-mul_right (nodes p + 1) (omega arith) in omega arith

-- the instructions of three times m steps and three more are within the bound
instructions_within : (p : Tree) (code : PeCode) (m : ℕ) → deepest code.items ≤ depth p → step_bound code (3 * (m + 1)) ≤ instruction_bound p m
instructions_within p code m deep =
    let wide : 250 * (3 * (m + 1) + 1) * (deepest code.items + 4) ≤ 1000 * (m + 1) * (deepest code.items + 4) = mul-le-mul_right (deepest code.items + 4) (omega arith) in
    let high : 1000 * (m + 1) * (deepest code.items + 4) ≤ 1000 * (m + 1) * (depth p + 4) = mul-le-mul_left (1000 * (m + 1)) (omega arith) in
    omega arith

-- ---- the greatest load

-- no load of n steps of the code is above the greatest of the copy rule within the bound
peak_below : (handed : Tree → Option Datum) (p : Tree) (code : PeCode) (input : Bytes) (n m : ℕ) → FollowsCopyRule handed p code → n * (nodes p + 1) ≤ m → pe_peak_load code input n ≤ peak_load p input m
peak_below handed p code input zero m follows le =
    let there = follows.reads_back input 0 in
    let load = there.same.load in
    let few = there.few in
    let below = load_within p input there.steps m (omega arith) in
    let e = peak_zero code input in
    omega arith
peak_below handed p code input (suc n) m follows le =
    let there = follows.reads_back input (suc n) in
    let load = there.same.load in
    let few = there.few in
    let below = load_within p input there.steps m (omega arith) in
    let less : n * (nodes p + 1) ≤ suc n * (nodes p + 1) = mul-le-mul_right (nodes p + 1) (omega arith) in
    let before = peak_below handed p code input n m follows (omega arith) in
    let e = peak_suc code input n in
    omega arith

-- ---- the clauses, for one input

module _ (laws : RunLaws) (handed : Tree → Option Datum) (p : Tree) (code : PeCode) (image : Image) (program : Program) (input : Bytes)
    (follows : FollowsCopyRule handed p code) (deep : deepest code.items ≤ depth p) (does : ImageDoesRun code image program input) where
  abbrev after : ℕ → World
  after n = machine_after program image input n

  abbrev copied : ℕ → CopyRun
  copied m = copy_after p input m

  abbrev run : ℕ → PeRun
  run k = pe_after code input k

  pub output_is_prefix : (n : ℕ) → IsPrefix (after n).output (copied (copy_bound p n)).output
  output_is_prefix n =
      let there = follows.reads_back input n in
      let grown = outputs_grow p input there.steps (copy_bound p n) (steps_within p there.steps n there.few) in
      prefix_more (after n).output (run n).output (copied (copy_bound p n)).output
      (does.follows n).output (prefix_of (run n).output (copied there.steps).output (copied (copy_bound p n)).output there.same.output grown)

  pub end_is_the_copy_rules : (n : ℕ) → IsOverEvent (after n).ending → IsSameOver (after n) (copied (copy_bound p n))
  end_is_the_copy_rules n over =
      let there = follows.reads_back input n in
      let same = (does.follows n).over (selected_over (after n).ending over) in
      let end = end_through (after n).ending (run n).standing (copied there.steps).standing same.end there.same.standing in
      let here : IsSameOver (after n) (copied there.steps) = record {
        end = end;
        output = same.output ∙ there.same.output;
        rest = same.rest ∙ there.same.input;
      } in
      let stays : copied (copy_bound p n) ≡ copied there.steps =
      over_later there.steps (copy_bound p n) (start_run p input) (copy_not_going (after n).ending (copied there.steps).standing end) (steps_within p there.steps n there.few) in
      let P : CopyRun → Type 0 = λ r. IsSameOver (after n) r in
      subst P (sym stays) here

  -- what the machine of items reaches, the copy rule reaches
  far_enough : (m n : ℕ) → step_bound code (3 * (m + 1)) ≤ n → selected.IsAsFarAs (after (step_bound code (3 * (m + 1)))) (run (3 * (m + 1))) → Reaches (after n) (copied m)
  far_enough m n le far =
      let k : ℕ = step_bound code (3 * (m + 1)) in
      let kept = follows.keeps_up input m in
      let begun : IsPrefix (copied m).output (run (3 * (m + 1))).output = record { rest = kept.more; is = kept.output } in
      let put = prefix_more (copied m).output (run (3 * (m + 1))).output (after k).output begun far.output in
      record {
        output = prefix_more (copied m).output (after k).output (after n).output put (machine_grows laws program image input k n le);
        end = λ over.
            let alike = kept.over (over_not_going (copied m).standing over) in
            let same = far.over (over_alike (run (3 * (m + 1))).standing (copied m).standing alike.0 over) in
            let end = end_through (after k).ending (run (3 * (m + 1))).standing (copied m).standing same.end (nearly_alike (run (3 * (m + 1))).standing (copied m).standing alike.0) in
            let here : IsSameOver (after k) (copied m) = record { end = end; output = same.output ∙ alike.1; rest = same.rest ∙ alike.2 } in
            let P : World → Type 0 = λ w. IsSameOver w (copied m) in
            subst P (sym (machine_stays laws program image input k n le (event_not_going (after k).ending (copied m).standing end))) here;
      }

  pub reaches_what_the_copy_rule_reaches : (m : ℕ) → ((after (instruction_bound p m)).ending ≡ Exhausted) ⊎ Reaches (after (instruction_bound p m)) (copied m)
  reaches_what_the_copy_rule_reaches m =
      let le = instructions_within p code m deep in
      elim (does.keeps_up (3 * (m + 1))) [
        | inl exhausted ↦ inl (ap (λ (w : World). w.ending) (machine_stays laws program image input (step_bound code (3 * (m + 1))) (instruction_bound p m) le (λ g. clash (sym exhausted ∙ g))) ∙ exhausted)
        | inr far ↦ inr (far_enough m (instruction_bound p m) le far)
      ]
    where
      clash : Exhausted ≢ Going
      clash g = cc

  pub exhausted_only_past_the_stack : (n : ℕ) → (after n).ending ≡ Exhausted → image.stack_words < peak_load p input (copy_bound p n)
  exhausted_only_past_the_stack n e =
      let past = does.exhausted n e in
      let below = peak_below handed p code input n (copy_bound p n) follows (steps_within p (n * (nodes p + 1)) n (omega arith)) in
      omega arith
