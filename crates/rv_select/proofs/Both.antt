-- Whole runs, in both directions.
use Rattle.std.proofs.Common.{◌≡◌, ℕ, ◌<◌, List, [], ◌∷◌, ◌++◌, length, drop, refl, sym, ap, ◌∙◌, subst, inl, inr, arith}
use Rattle.std.proofs.lemmas.Bool.{cond_both, eqb-true}
use Rattle.std.specs.Prelude.{slice_get, nat_eq}
use Rattle.fy_base.specs.Outside.{Bytes}
use Rattle.fy_base.specs.declared.data.Place.{Place}
use Rattle.fy_base.specs.declared.data.FaultKind.{FaultKind}
use Rattle.rv_insn.specs.declared.events.Event.TheVariants as event
use Rattle.pe_code.specs.declared.code.PeCode.{PeCode}
use Rattle.pe_machine.specs.States.{Focus, code_at, value, completed}
use Rattle.pe_machine.specs.Run.{Standing, going, ended, faulted, stuck}
use Rattle.pe_items.specs.Items.{address_on, ItemState}
use Rattle.pe_items.specs.Step as item
use Rattle.pe_items.specs.Step.{ItemMove, item_step}
use Rattle.pe_items.specs.Run.{standing_at, standing_of, ItemRun, settled, ticked, tick}
use Rattle.rv_word.specs.declared.micros.Register.TheVariants.{Context, First}
use Rattle.rv_word.specs.declared.micros.Micro.{Micro}
use Rattle.rv_word.specs.declared.micros.Micro.TheVariants.{Window, Get, Enter, End}
use Rattle.rv_word.specs.Word.{Data, Code, State, Led, goes, hangs, stops, wrong, word_address, led_on}
use Rattle.rv_select.specs.Numbers.{meet, end_label, end_entry, entry_word}
use Rattle.rv_select.specs.Layout.{HasItems, HasFocus, Stands}
use Rattle.rv_select.specs.Laws.{IsSelectable, deepest, IsSameAs}
use Rattle.rv_select.proofs.Runs.{Reach}
use Rattle.rv_select.proofs.Wp.{with_value, by_block, by_blocks}
use Rattle.rv_select.proofs.SelectedCode.{IsSelected}
use Rattle.rv_select.proofs.ItemSteps.{Helpers, ComesTo, Follows, step_cost}
use Rattle.rv_select.proofs.Step.{step}

-- the word machine stands for a run that hasn't ended otherwise
pub record Tracks (code : PeCode) (w : Code) (size : ℕ) (r : ItemRun) (t : State) : Type 0 where
  pub standing : r.standing ≡ standing_of r.state
  pub stands : Stands code w r.state t
  pub same : IsSameAs r t.held
  pub size_is : length t.held.words ≡ size

-- where a step to a run leads
pub data Lands (code : PeCode) (w : Code) (size : ℕ) (q : ItemRun) (led : Led) : Type 0 where
  lands_on : (t : State) → led ≡ goes t → Tracks code w size q t → Lands code w size q led
  runs_out : (e : Data) → led ≡ stops event.Exhausted e → e.output ≡ q.output → size < address_on q.state.items → Lands code w size q led
  is_told : (kind : FaultKind) (at : Place) (e : Data) → led ≡ stops (event.Fault kind at) e → q.standing ≡ faulted kind at → IsSameAs q e → Lands code w size q led
  is_lost : q.standing ≡ stuck → Lands code w size q led

-- the run has ended, and so has the machine
pub record HasEnded (r : ItemRun) (led : Led) : Type 0 where
  pub held : Data
  pub is : led ≡ stops event.Ended held
  pub same : IsSameAs r held

pub reach_else : (w : Code) (P Q : Led → Type 0) (n : ℕ) (t : State) → ((r : Led) → P r → Q r) → Reach w P n t → Reach w Q n t
reach_else w P Q n t f h = record { count = h.count; some = h.some; cost = h.cost; is = f (led_on w h.count (goes t)) h.is }

module _ (code : PeCode) (w : Code) (size : ℕ) where
  -- a state of items is come to
  comes : (s : ItemState) (input output : Bytes) (led : Led) → ComesTo code w s input output size led → (q : ItemRun) → q.state ≡ s → q.standing ≡ standing_of s → q.input ≡ input → q.output ≡ output → Lands code w size q led
  comes s input output (goes t) h q state standing inp out =
      lands_on t refl (record {
        standing = standing ∙ ap standing_of (sym state);
        stands = subst (λ (z : ItemState). Stands code w z t) (sym state) h.stands;
        same = record { output = h.output_is ∙ sym out; input = h.input_is ∙ sym inp };
        size_is = h.size_is;
      })
  comes s input output (hangs e) h q state standing inp out = absurd h
  comes s input output (stops event.Exhausted e) h q state standing inp out =
      runs_out e refl (h.output_is ∙ sym out) (subst (λ (z : ItemState). size < address_on z.items) (sym state) h.past)
  comes s input output (stops event.Going e) h q state standing inp out = absurd h
  comes s input output (stops (event.Put b) e) h q state standing inp out = absurd h
  comes s input output (stops event.WantByte e) h q state standing inp out = absurd h
  comes s input output (stops event.Ended e) h q state standing inp out = absurd h
  comes s input output (stops (event.Fault k p) e) h q state standing inp out = absurd h
  comes s input output (stops (event.Trap k) e) h q state standing inp out = absurd h
  comes s input output wrong h q state standing inp out = absurd h

  module _ (r : ItemRun) (t : State) (tracks : Tracks code w size r t) where
    -- a step that the word machine makes
    lands : (mv : ItemMove) (led : Led) → Follows code w t.held mv led → Lands code w size (settled mv r) led
    lands (item.goes s) led h =
        comes s t.held.input t.held.output led (subst (λ n. ComesTo code w s t.held.input t.held.output n led) tracks.size_is h) (settled (item.goes s) r) refl refl (sym tracks.same.input) (sym tracks.same.output)
    lands (item.puts text s) led h =
        comes s t.held.input (t.held.output ++ text) led (subst (λ n. ComesTo code w s t.held.input (t.held.output ++ text) n led) tracks.size_is h) (settled (item.puts text s) r) refl refl (sym tracks.same.input)
        (ap (λ o. o ++ text) (sym tracks.same.output))
    lands (item.takes go) led h =
        let from = sym tracks.same.input in
        comes (go (slice_get t.held.input 0)) (drop 1 t.held.input) t.held.output led (subst (λ n. ComesTo code w (go (slice_get t.held.input 0)) (drop 1 t.held.input) t.held.output n led) tracks.size_is h) (settled (item.takes go) r)
        (ap (λ (i : Bytes). go (slice_get i 0)) from) (ap (λ (i : Bytes). standing_of (go (slice_get i 0))) from) (ap (λ (i : Bytes). drop 1 i) from) (sym tracks.same.output)
    lands (item.faults kind at) led h = is_told kind at h.0 h.1 refl (record { output = h.2.output_is ∙ tracks.same.output; input = h.2.input_is ∙ tracks.same.input })
    lands item.sticks led h = is_lost refl

    -- the last steps
    module _ (sel : IsSelected code w) where
      ended_by : (f : Focus) (newest : ℕ) → standing_at f newest ≡ ended → HasFocus code w r.state.items f t.rest t.held → HasItems code t.held.words r.state.items → t.held.named.context ≡ word_address newest → Reach w (HasEnded r) 60 t
      ended_by (code_at p) newest e focus memory at = absurd (cc)
      ended_by (value v) newest e focus memory at = absurd (cc)
      ended_by completed newest e focus memory at =
          let zero' : newest ≡ 0 = cond_both (nat_eq newest 0) ended going (λ (o : Standing). o ≡ ended → newest ≡ 0) (λ yes' _. eqb-true newest 0 yes') (λ no' g. absurd (cc)) e in
          let foot = at ∙ ap word_address zero' in
          let fits = memory.fits in
          let entry = sel.fixed 1 (omega arith) in
          subst (λ (ms : List Micro). Reach w (HasEnded r) 60 (record { rest = ms; held = t.held })) (sym focus)
          (by_blocks w (HasEnded r) meet (Window Context 1 ∷ Get First Context 0 ∷ Enter First ∷ []) t.held 9 60 (sel.callers 0 (omega arith)) (omega arith) (
            0,
            foot,
            omega arith,
            (
              0,
              entry_word end_entry,
              foot,
              omega arith,
              memory.foot,
              (
                end_entry,
                end_label,
                refl,
                entry.inside,
                entry.leads,
                inr (by_block w (HasEnded r) end_label (End ∷ []) (with_value First (entry_word end_entry) t.held) 9 (sel.own 1 (omega arith)) (omega arith)
                    (record { held = with_value First (entry_word end_entry) t.held; is = refl; same = record { output = tracks.same.output; input = tracks.same.input } })),
              ),
            ),
          ))

      pub ends_so : r.standing ≡ ended → Reach w (HasEnded r) 60 t
      ends_so e = by tracks.stands
        where
          by : Stands code w r.state t → Reach w (HasEnded r) 60 t
          by (inl h) = ended_by r.state.focus r.state.newest (sym tracks.standing ∙ e) h.focus h.items.memory h.items.newest_is
          -- no run is over while cells are made
          by (inr h) = absurd (let going' : standing_of r.state ≡ going = ap standing_of h.state in let over = sym tracks.standing ∙ e in cc)

      pub goes_so : (help : Helpers) → IsSelectable code → r.standing ≡ going → Reach w (Lands code w size (tick code r)) (step_cost (deepest code.items)) t
      goes_so help ok e =
          reach_else w (Follows code w t.held (item_step code r.state)) (Lands code w size (tick code r)) (step_cost (deepest code.items)) t
          (λ led h. subst (λ (z : Standing). Lands code w size (ticked code z r) led) (sym e) (lands (item_step code r.state) led h))
          (step code w sel help ok r.state t tracks.stands)
