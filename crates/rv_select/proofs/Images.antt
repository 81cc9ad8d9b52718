-- The image of selected code does what the push-enter code does: from the word machine's image, the runs of items and the lockstep.
use Rattle.std.proofs.Common.{◌≡◌, ◌≢◌, ◌⊎◌, ℕ, ◌+◌, ◌-◌, ◌<◌, ◌≤◌, List, [], ◌∷◌, length, All, refl, sym, ap, ◌∙◌, subst, inl, inr, arith}
use Rattle.fy_base.specs.Outside.{Bytes, IsPrefix}
use Rattle.fy_runs.proofs.Outer.{prefix_all, prefix_more}
use Rattle.fy_image.specs.declared.image.Image.{Image}
use Rattle.fy_image.specs.Machine.{IsProgramOf, start_of as image_start, going_world, machine_after}
use Rattle.rv_insn.specs.declared.events.Event.{Event}
use Rattle.rv_insn.specs.declared.events.Event.TheVariants as event
use Rattle.rv_insn.specs.Program.{Program}
use Rattle.rv_insn.specs.Run.{World, run}
use Rattle.rv_insn.proofs.Runs.{run_splits, output_grows, ended_stays}
use Rattle.pe_code.specs.declared.code.PeCode.{PeCode}
use Rattle.pe_machine.specs.Run.{PeRun, Standing, going, ended, faulted, stuck, gone, pe_after, pe_peak_load}
use Rattle.pe_machine.proofs.RunLemmas.{load_within}
use Rattle.pe_items.specs.Items.{Item, words}
use Rattle.pe_items.specs.Run.{ItemRun, items_after}
use Rattle.pe_items.specs.Laws.{IsInStep, InStepAs}
use Rattle.pe_items.proofs.RunLemmas.{items_in_step}
use Rattle.rv_word.specs.Word.{Data, Led, stops, word_run}
use Rattle.rv_word.specs.Laws.{output_of}
use Rattle.rv_flow.specs.Laws.{IsAsLed, IsSameOutside, HasEndedSo, IsBehindLed}
use Rattle.rv_flow.proofs.Runs.{images_reach, images_follow, never_trap}
use Rattle.rv_flow.proofs.Guarded.{images_are_guarded}
use Rattle.rv_select.specs.Program.{word_code}
use Rattle.rv_select.specs.Laws.{IsOutside, start_of, IsSameAs, StandsAs, WordsPass, Reaches, RunsReach, IsEndOf, IsBehind, RunsFollow}
use Rattle.rv_select.specs.Images.{IsSelectionImage, NeverFails, IsSameEnd, both_ended, both_faulted, IsOverEvent, IsOverStanding, IsSameOver, IsBehindRun, IsAsFarAs, step_bound, SelectionsFollow}

-- ---- lockstep

-- where the push-enter run neither is stuck nor gone, the items stand as it does
in_step : (s : Standing) (r : PeRun) (i : ItemRun) → s ≢ stuck → s ≢ gone → InStepAs s r i → IsInStep r i
in_step going r i a b h = h
in_step ended r i a b h = h
in_step (faulted kind at) r i a b h = h
in_step stuck r i a b h = absurd (a refl)
in_step gone r i a b h = absurd (b refl)

-- ---- items

some_item : (is : List Item) → 1 ≤ words is → 1 ≤ length is
some_item [] h = omega (arith, h)
some_item (i ∷ is) h = omega arith

-- ---- later

module _ (program : Program) (image : Image) (input : Bytes) where
  abbrev pub after : ℕ → World
  after n = machine_after program image input n

  later_is : (n m : ℕ) → n ≤ m → after m ≡ run program (m - n) (after n)
  later_is n m le =
      let sum : n + (m - n) ≡ m = omega arith in
      ap after (sym sum) ∙ run_splits program n (m - n) (going_world (image_start image) input)

  later_grows : (n m : ℕ) → n ≤ m → IsPrefix (after n).output (after m).output
  later_grows n m le =
      let sum : n + (m - n) ≡ m = omega arith in
      let P : ℕ → Type 0 = λ k. IsPrefix (after n).output (after k).output in
      subst P sum (output_grows program n (m - n) (going_world (image_start image) input))

  later_stays : (n m : ℕ) → n ≤ m → (after n).ending ≢ event.Going → after m ≡ after n
  later_stays n m le over = later_is n m le ∙ ended_stays program (m - n) (after n) over

-- ---- the whole

module _ (reach : RunsReach) (follow : RunsFollow) (code : PeCode) (image : Image) (program : Program) (input : Bytes) (is : IsSelectionImage code image) (never : NeverFails code) (of : IsProgramOf image program)
    (bytes : All (λ byte. byte < 256) input) where
  abbrev pub size : ℕ
  size = image.stack_words

  outside : IsOutside size input
  outside =
      let least = is.image_of.ranges.stack_least in
      let most = is.image_of.ranges.stack_most in
      record { least = least; most = omega arith; bytes = bytes }

  abbrev pub led : ℕ → Led
  led n = word_run (word_code code) n (start_of code size input)

  same : (n : ℕ) → IsInStep (pe_after code input n) (items_after code input n)
  same n = in_step (pe_after code input n).standing (pe_after code input n) (items_after code input n) (never.never_stuck input n) (never.never_gone input n) (items_in_step code input n)

  free : (n : ℕ) → (items_after code input n).standing ≢ stuck
  free n e = never.never_stuck input n (sym (same n).standing ∙ e)

  behind : (n : ℕ) → IsBehindLed (after program image input n) (led n)
  behind n = images_follow (word_code code) image program input n is.image_of of bytes

  on_items : (n : ℕ) → IsBehind code size input n (led n)
  on_items n = follow code size input n is.selectable outside (free n)

  -- ---- the machine is behind the code

  over_by : (n : ℕ) (ending : Event) → (after program image input n).ending ≡ ending → IsOverEvent ending → IsSameOver (after program image input n) (pe_after code input n)
  over_by n event.Ended e o =
      let h : HasEndedSo (after program image input n) (led n) = (behind n).ends (λ q. ended_going (sym e ∙ q)) in
      let there : led n ≡ stops event.Ended h.held = h.is ∙ ap (λ x. stops x h.held) e in
      let r : ((items_after code input n).standing ≡ ended) × IsSameAs (items_after code input n) h.held = subst (IsEndOf code input n size) there (on_items n).end in
      let stands : (pe_after code input n).standing ≡ ended = sym (same n).standing ∙ r.0 in
      record {
        end = subst (λ s. IsSameEnd (after program image input n).ending s) (sym stands) (subst (λ x. IsSameEnd x ended) (sym e) both_ended);
        output = h.same.output ∙ r.1.output ∙ (same n).output;
        rest = h.same.input ∙ r.1.input ∙ (same n).input;
      }
    where
      ended_going : event.Ended ≢ event.Going
      ended_going q = cc
  over_by n (event.Fault kind at) e o =
      let h : HasEndedSo (after program image input n) (led n) = (behind n).ends (λ q. fault_going (sym e ∙ q)) in
      let there : led n ≡ stops (event.Fault kind at) h.held = h.is ∙ ap (λ x. stops x h.held) e in
      let r : ((items_after code input n).standing ≡ faulted kind at) × IsSameAs (items_after code input n) h.held = subst (IsEndOf code input n size) there (on_items n).end in
      let stands : (pe_after code input n).standing ≡ faulted kind at = sym (same n).standing ∙ r.0 in
      record {
        end = subst (λ s. IsSameEnd (after program image input n).ending s) (sym stands) (subst (λ x. IsSameEnd x (faulted kind at)) (sym e) (both_faulted kind at));
        output = h.same.output ∙ r.1.output ∙ (same n).output;
        rest = h.same.input ∙ r.1.input ∙ (same n).input;
      }
    where
      fault_going : event.Fault kind at ≢ event.Going
      fault_going q = cc
  over_by n event.Going e o = absurd o
  over_by n (event.Put b) e o = absurd o
  over_by n event.WantByte e o = absurd o
  over_by n event.Exhausted e o = absurd o
  over_by n (event.Trap t) e o = absurd o

  pub follows : (n : ℕ) → IsBehindRun (after program image input n) (pe_after code input n)
  follows n =
      let P : Bytes → Type 0 = λ o. IsPrefix (output_of (led n)) o in
      record {
        output = prefix_more (after program image input n).output (output_of (led n)) (pe_after code input n).output (behind n).output (subst P (same n).output (on_items n).output);
        over = over_by n (after program image input n).ending refl;
      }

  -- ---- it runs out only past the stack

  pub exhausted : (n : ℕ) → (after program image input n).ending ≡ event.Exhausted → image.stack_words < pe_peak_load code input n
  exhausted n e =
      let h : HasEndedSo (after program image input n) (led n) = (behind n).ends (λ q. exhausted_going (sym e ∙ q)) in
      let there : led n ≡ stops event.Exhausted h.held = h.is ∙ ap (λ x. stops x h.held) e in
      let passes : WordsPass code input n size = subst (IsEndOf code input n size) there (on_items n).end in
      let past = passes.past in
      let least = is.image_of.ranges.stack_least in
      let some = some_item (items_after code input passes.step).state.items (omega arith) in
      let load = (same passes.step).load in
      let most = load_within code input passes.step n passes.is_within in
      omega arith
    where
      exhausted_going : event.Exhausted ≢ event.Going
      exhausted_going q = cc

  -- ---- it keeps up

  far : (k c : ℕ) (e : Data) → c ≤ step_bound code k → IsSameAs (items_after code input k) e → IsSameOutside (after program image input c) e → (after program image input c).ending ≡ event.Going → (pe_after code input k).standing ≡ going
      → IsAsFarAs (after program image input (step_bound code k)) (pe_after code input k)
  far k c e le like out on stands =
      let there : (after program image input c).output ≡ (pe_after code input k).output = out.output ∙ like.output ∙ (same k).output in
      let P : Bytes → Type 0 = λ o. IsPrefix o (after program image input (step_bound code k)).output in
      record {
        output = subst P there (later_grows program image input c (step_bound code k) le);
        over = λ o. absurd (subst IsOverStanding stands o);
      }

  far_over : (k c : ℕ) (e : Data) (how : Event) (s : Standing) → c ≤ step_bound code k → IsSameAs (items_after code input k) e → IsSameOutside (after program image input c) e → (after program image input c).ending ≡ how → how ≢ event.Going
      → IsSameEnd how s → (pe_after code input k).standing ≡ s → IsAsFarAs (after program image input (step_bound code k)) (pe_after code input k)
  far_over k c e how s le like out on over alike stands =
      let stays : after program image input (step_bound code k) ≡ after program image input c = later_stays program image input c (step_bound code k) le (λ q. over (sym on ∙ q)) in
      let there : (after program image input c).output ≡ (pe_after code input k).output = out.output ∙ like.output ∙ (same k).output in
      let rest : (after program image input c).input ≡ (pe_after code input k).input = out.input ∙ like.input ∙ (same k).input in
      let end : IsSameEnd (after program image input c).ending (pe_after code input k).standing = subst (λ x. IsSameEnd (after program image input c).ending x) (sym stands) (subst (λ x. IsSameEnd x s) (sym on) alike) in
      let P : World → Type 0 = λ w. IsAsFarAs w (pe_after code input k) in
      subst P (sym stays) (record {
        output = subst (λ o. IsPrefix o (after program image input c).output) there (prefix_all (after program image input c).output);
        over = λ o. record { end = end; output = there; rest = rest };
      })

  by_standing : (k count c : ℕ) (s : Standing) → (pe_after code input k).standing ≡ s → c ≤ step_bound code k → IsAsLed (after program image input) c (led count) → StandsAs s (items_after code input k) (led count)
      → IsAsFarAs (after program image input (step_bound code k)) (pe_after code input k)
  by_standing k count c going e le like h =
      let at : ((after program image input c).ending ≡ event.Going) × IsSameOutside (after program image input c) h.0.held = subst (IsAsLed (after program image input) c) h.1 like in
      far k c h.0.held le h.2 at.1 at.0 e
  by_standing k count c ended e le like h =
      let at : ((after program image input c).ending ≡ event.Ended) × IsSameOutside (after program image input c) h.0 = subst (IsAsLed (after program image input) c) h.1 like in
      far_over k c h.0 event.Ended ended le h.2 at.1 at.0 (λ q. cc) both_ended e
  by_standing k count c (faulted kind at) e le like h =
      let there : ((after program image input c).ending ≡ event.Fault kind at) × IsSameOutside (after program image input c) h.0 = subst (IsAsLed (after program image input) c) h.1 like in
      far_over k c h.0 (event.Fault kind at) (faulted kind at) le h.2 there.1 there.0 (λ q. cc) (both_faulted kind at) e
  by_standing k count c stuck e le like h = absurd (never.never_stuck input k e)
  by_standing k count c gone e le like h = absurd (never.never_gone input k e)

  pub keeps_up : (k : ℕ) → ((after program image input (step_bound code k)).ending ≡ event.Exhausted) ⊎ IsAsFarAs (after program image input (step_bound code k)) (pe_after code input k)
  keeps_up k =
      let r : Reaches code size input k = reach code size input k is.selectable outside (free k) in
      let m = images_reach (word_code code) image program input r.count is.image_of of bytes in
      let cost = r.cost in
      let below = m.below in
      let le : m.count ≤ step_bound code k = omega arith in
      elim r.is [
        | inl stands ↦ inr (by_standing k r.count m.count (pe_after code input k).standing refl le m.is (subst (λ s. StandsAs s (items_after code input k) (led r.count)) (same k).standing stands))
        | inr ran ↦ inl (ran_out k r.count m.count ran.0 le m.is ran.1)
      ]
    where
      ran_out : (k count c : ℕ) (e : Data) → c ≤ step_bound code k → IsAsLed (after program image input) c (led count) → led count ≡ stops event.Exhausted e → (after program image input (step_bound code k)).ending ≡ event.Exhausted
      ran_out k count c e le like h =
          let at : ((after program image input c).ending ≡ event.Exhausted) × IsSameOutside (after program image input c) e = subst (IsAsLed (after program image input) c) h like in
          ap (λ (w : World). w.ending) (later_stays program image input c (step_bound code k) le (λ q. going_not (sym at.0 ∙ q))) ∙ at.0
        where
          going_not : event.Exhausted ≢ event.Going
          going_not q = cc

pub selections_follow : RunsReach → RunsFollow → SelectionsFollow
selections_follow reach follow code image program input is never of bytes =
    record {
      follows = follows reach follow code image program input is never of bytes;
      keeps_up = keeps_up reach follow code image program input is never of bytes;
      exhausted = exhausted reach follow code image program input is never of bytes;
      never_traps = λ n kind. never_trap images_are_guarded (word_code code) image program input n kind is.image_of of;
    }
