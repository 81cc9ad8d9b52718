-- Whole runs of images: they reach what the word machine reaches, and are never further.
use Rattle.std.proofs.Common.{◌≡◌, ◌≢◌, ℕ, zero, suc, ◌+◌, ◌-◌, ◌/◌, ◌<◌, ◌≤◌, Bool, true, false, nat_lt, if◌then◌else◌, List, [], ◌∷◌, length, slice_index, slice_set, All, Option, Some, None, inl, inr, refl, sym, ◌∙◌, ap, subst, arith}
use Rattle.std.specs.List.{slice_get}
use Rattle.std.proofs.lemmas.Bool.{cases_lt}
use Rattle.fy_base.specs.Outside.{Bytes, IsPrefix}
use Rattle.fy_base.specs.declared.data.Place.{Place}
use Rattle.fy_base.specs.declared.data.FaultKind.{FaultKind}
use Rattle.fy_base.specs.declared.data.TrapKind.{TrapKind}
use Rattle.fy_image.specs.declared.image.Image.{Image}
use Rattle.fy_image.specs.Machine.{IsProgramOf, start_of, going_world, machine_after}
use Rattle.rv_insn.specs.declared.events.Event.{Event}
use Rattle.rv_insn.specs.declared.events.Event.TheVariants as event
use Rattle.rv_insn.specs.Program.{Program}
use Rattle.rv_insn.specs.Run.{World, tick, run}
use Rattle.rv_insn.proofs.Runs.{run_none, run_more, run_splits, output_grows, ended_stays}
use Rattle.rv_guard.proofs.Theorem.{guarded_images_never_trap}
use Rattle.rv_word.specs.declared.micros.Micro.{Micro}
use Rattle.rv_word.specs.declared.micros.Micro.TheVariants.{Window, Get, Save, Look, Enter, End, Exhaust, Fault}
use Rattle.rv_word.specs.Word.{Data, Code, Led, goes, hangs, stops, wrong, get, block, onward, written, word_number, table_number, has_window, is_in_table, faulted, does, does_first, after_step, led_on, word_run}
use Rattle.rv_word.specs.Costs.{spent}
use Rattle.rv_word.specs.Laws.{IsRight}
use Rattle.rv_word.proofs.Right.{IsDisciplined, discipline_is, entry_fine, entry_within, never_wrong}
use Rattle.rv_flow.specs.Lowering.{items_of}
use Rattle.rv_flow.specs.Laws.{IsImageOf, start_data, start_state, IsSameOutside, ComesToLed, HasEndedSo, IsBehindLed, ImagesAreGuarded}
use Rattle.rv_flow.proofs.Shown.{view}
use Rattle.rv_flow.proofs.Lines.{Away}
use Rattle.rv_flow.proofs.Reached.{IsPlaced}
use Rattle.rv_flow.proofs.Chained.{entry_comes}
use Rattle.rv_flow.proofs.Placed.{item_at, label_at, placed}
use Rattle.rv_flow.proofs.Simulates.{Moves, Simulated, looser, from_reached, run_simulated}
use Rattle.rv_flow.proofs.StartLemmas.{start_scratch, start_shows, start_sound}

-- ---- the word machine stops by an end, a fault or exhaustion alone

abbrev IsEnd : Led → Type 0
IsEnd (stops how e) = how ≢ event.Going
IsEnd r = Unit {0}

end_either : (b : Bool) (x y : Led) → IsEnd x → IsEnd y → IsEnd (if b then x else y)
end_either true x y h k = h
end_either false x y h k = k

fault_end : (o : Option Place) (kind : FaultKind) (e : Data) → IsEnd (faulted o kind e)
fault_end None kind e = tt
fault_end (Some place) kind e = λ h. cc

does_end : (code : Code) (m : Micro) (rest : List Micro) (e : Data) → IsEnd (does code m rest e)
does_end code (Window r k) rest e = end_either (has_window e (get e.named r) k) (onward rest e) (hangs e) tt tt
does_end code (Get r s k) rest e = end_either (has_window e (get e.named s) (k + 1)) (written rest r (slice_index e.words (word_number (get e.named s) + k)) e) wrong tt tt
does_end code (Save s k r) rest e =
    end_either (has_window e (get e.named s) (k + 1)) (onward rest (record e { words = slice_set e.words (word_number (get e.named s) + k) (get e.named r) })) wrong tt tt
does_end code (Look r s) rest e = end_either (is_in_table code (get e.named s)) (written rest r (slice_index code.table (table_number (get e.named s))) e) (hangs e) tt tt
does_end code (Enter r) rest e = end_either (nat_lt (get e.named r / 8) (length code.entries)) (onward (block code (slice_index code.entries (get e.named r / 8))) e) (hangs e) tt tt
does_end code (Fault kind place) rest e = fault_end (slice_get code.places place) kind e
does_end code End rest e = λ h. cc
does_end code Exhaust rest e = λ h. cc
does_end code m rest e = tt

first_end : (code : Code) (rest : List Micro) (e : Data) → IsEnd (does_first code rest e)
first_end code [] e = tt
first_end code (m ∷ rest) e = does_end code m rest e

after_end : (code : Code) (r : Led) → IsEnd r → IsEnd (after_step code r)
after_end code (goes s) h = first_end code s.rest s.held
after_end code (hangs e) h = tt
after_end code (stops how e) h = h
after_end code wrong h = tt

led_end : (code : Code) (n : ℕ) (r : Led) → IsEnd r → IsEnd (led_on code n r)
unfolding led_on
led_end code zero r h = h
led_end code (suc n) r h = after_end code (led_on code n r) (led_end code n r h)

-- ---- runs that have ended, and runs that stick

over_later : (p : Program) (w : World) (m n : ℕ) → m ≤ n → (run p m w).ending ≢ event.Going → run p n w ≡ run p m w
over_later p w m n h over =
    let e : m + (n - m) ≡ n = omega arith in
    ap (λ k. run p k w) (sym e) ∙ run_splits p m (n - m) w ∙ ended_stays p (n - m) (run p m w) over

stuck_always : (p : Program) (w : World) (n : ℕ) → run p 1 w ≡ w → run p n w ≡ w
stuck_always p w zero e = run_none p w
stuck_always p w (suc n) e =
    run_more p n w ∙ ap (λ x. tick p x) (stuck_always p w n e ∙ sym (run_none p w)) ∙ sym (run_more p zero w) ∙ e

output_later : (p : Program) (w : World) (m n : ℕ) (o : List ℕ) → m ≤ n → (run p n w).output ≡ o → IsPrefix (run p m w).output o
output_later p w m n o h e =
    let s : m + (n - m) ≡ n = omega arith in
    let P : ℕ → Type 0 = λ k. IsPrefix (run p m w).output (run p k w).output in
    let Q : List ℕ → Type 0 = λ x. IsPrefix (run p m w).output x in
    subst Q e (subst P s (output_grows p m (n - m) w))

-- a machine that goes on later has not ended
not_over : (p : Program) (w : World) (m n : ℕ) → m ≤ n → (run p n w).ending ≡ event.Going → (run p m w).ending ≢ event.Going → ⊥
not_over p w m n h going over = over (ap (λ x. x.ending) (sym (over_later p w m n h over)) ∙ going)

stuck_later : (p : Program) (w : World) (m n : ℕ) → m ≤ n → run p 1 (run p m w) ≡ run p m w → run p n w ≡ run p m w
stuck_later p w m n h e =
    let s : m + (n - m) ≡ n = omega arith in
    ap (λ k. run p k w) (sym s) ∙ run_splits p m (n - m) w ∙ stuck_always p (run p m w) (n - m) e

module _ (code : Code) (p : Program) (at : ℕ → ℕ) where
  -- forth
  reached : (w : World) (least most : ℕ) (r : Led) → Simulated code p at w least most r → IsRight r → ComesToLed (λ n. run p n w) most r
  reached w least most (goes s) c right =
      let shows = c.matches.shows in
      record { count = c.count; below = c.below; is = (shows.going, record { output = shows.output; input = shows.input }) }
  reached w least most (hangs e) c right =
      let always : (j : ℕ) → run p (c.count + j) w ≡ run p c.count w = λ j. run_splits p c.count j w ∙ stuck_always p (run p c.count w) j c.still in
      let P : World → Type 0 = λ x. IsSameOutside x e in
      record { count = c.count; below = c.below; is = λ j. (ap (λ x. x.ending) (always j) ∙ c.going, subst P (sym (always j)) c.same) }
  reached w least most (stops how e) c right = record { count = c.count; below = c.below; is = (c.ends, c.same) }
  reached w least most wrong c right = absurd right

  -- back
  behind : (w : World) (n most : ℕ) (r : Led) → Simulated code p at w n most r → IsEnd r → IsRight r → IsBehindLed (run p n w) r
  behind w n most (goes s) c ends right =
      let shows = c.matches.shows in
      record { output = output_later p w n c.count s.held.output c.above shows.output; ends = λ over. absurd (not_over p w n c.count c.above shows.going over) }
  behind w n most (hangs e) c ends right = elim (cases_lt n c.count) [
    | inl before ↦
        let below : n ≤ c.count = omega arith in
        record { output = output_later p w n c.count e.output below c.same.output; ends = λ over. absurd (not_over p w n c.count below c.going over) }
    | inr past ↦
        let same : run p n w ≡ run p c.count w = stuck_later p w c.count n past c.still in
        record {
          output = output_later p w n n e.output (omega arith) (ap (λ x. x.output) same ∙ c.same.output);
          ends = λ over. absurd (over (ap (λ x. x.ending) same ∙ c.going));
        }
  ]
  behind w n most (stops how e) c ends right = elim (cases_lt n c.count) [
    | inl before ↦
        let below : n ≤ c.count = omega arith in
        record {
          output = output_later p w n c.count e.output below c.same.output;
          ends = λ over. ended_so w n c.count how e (over_later p w n c.count below over) c.ends c.same;
        }
    | inr past ↦
        let P : Event → Type 0 = λ x. x ≢ event.Going in
        let same : run p n w ≡ run p c.count w = over_later p w c.count n past (subst P (sym c.ends) ends) in
        record {
          output = output_later p w n n e.output (omega arith) (ap (λ x. x.output) same ∙ c.same.output);
          ends = λ over. ended_so w n c.count how e (sym same) c.ends c.same;
        }
  ]
    where
      ended_so : (w : World) (n m : ℕ) (how : Event) (e : Data) → run p m w ≡ run p n w → (run p m w).ending ≡ how → IsSameOutside (run p m w) e → HasEndedSo (run p n w) (stops how e)
      ended_so w n m how e same ends out =
          let P : World → Type 0 = λ x. IsSameOutside x e in
          record { held = e; is = ap (λ x. stops x e) (sym ends ∙ ap (λ x. x.ending) same); same = subst P same out }
  behind w n most wrong c ends right = absurd right

-- ---- images

-- the program of an image of code
pub image_placed : (code : Code) (image : Image) (p : Program) (i : IsImageOf code image) → IsProgramOf image p → IsPlaced code p (item_at code i.assembled i.assembly) (label_at code i.assembled i.assembly)
image_placed code image p i program =
    placed code i.assembled i.assembly image p program i.words_are i.table_is i.places_are i.ranges.code_most i.ranges.table_most i.ranges.places_most i.table_fits

-- after n steps, with the first far jump
image_simulated : (code : Code) (image : Image) (p : Program) (input : Bytes) (n : ℕ) (i : IsImageOf code image) (program : IsProgramOf image p) → All (λ byte. byte < 256) input
    → Simulated code p (item_at code i.assembled i.assembly) (going_world (start_of image) input) (n + 1) (2 + spent code n (start_state code image input))
    (word_run code n (start_state code image input))
image_simulated code image p input n i program bytes =
    let at : ℕ → ℕ = item_at code i.assembled i.assembly in
    let labels : ℕ → ℕ = label_at code i.assembled i.assembly in
    let is : IsPlaced code p at labels = image_placed code image p i program in
    let w : World = going_world (start_of image) input in
    let e : Data = start_data image.stack_words input in
    let d : IsDisciplined code = discipline_is code i.disciplined in
    let some : 0 < length code.entries = d.some in
    let most : image.stack_words ≤ 67108864 = i.ranges.stack_most in
    let sound = start_sound image.stack_words input most bytes in
    let first = entry_comes code p at labels is w 0 (view e start_scratch) some (start_shows image input most) in
    let moves : Moves code p at w 1 2 (start_state code image input) =
    from_reached code p at labels is w 0 (items_of code) [] 1 2 (Away (slice_index code.entries 0) e) refl (record { within = entry_within code 0 i.disciplined some; comes = first }) in
    run_simulated code p at labels is w (start_state code image input) 1 2 n i.disciplined i.table_fits (entry_fine code 0 e i.disciplined some sound.size) sound moves

-- what n steps reach, the machine reaches within what they cost
pub images_reach : (code : Code) (image : Image) (program : Program) (input : Bytes) (n : ℕ) → IsImageOf code image → IsProgramOf image program → All (λ byte. byte < 256) input
    → ComesToLed (machine_after program image input) (2 + spent code n (start_state code image input)) (word_run code n (start_state code image input))
images_reach code image p input n i program bytes =
    let most : image.stack_words ≤ 67108864 = i.ranges.stack_most in
    let d : IsDisciplined code = discipline_is code i.disciplined in
    let sound = start_sound image.stack_words input most bytes in
    reached code p (item_at code i.assembled i.assembly) (going_world (start_of image) input) (n + 1) (2 + spent code n (start_state code image input))
    (word_run code n (start_state code image input)) (image_simulated code image p input n i program bytes) (never_wrong code 0 (start_data image.stack_words input) n i.disciplined d.some sound.size)

-- after n instructions the machine is no further than n steps
pub images_follow : (code : Code) (image : Image) (program : Program) (input : Bytes) (n : ℕ) → IsImageOf code image → IsProgramOf image program → All (λ byte. byte < 256) input
    → IsBehindLed (machine_after program image input n) (word_run code n (start_state code image input))
images_follow code image p input n i program bytes =
    let most : image.stack_words ≤ 67108864 = i.ranges.stack_most in
    let d : IsDisciplined code = discipline_is code i.disciplined in
    let sound = start_sound image.stack_words input most bytes in
    let r : Led = word_run code n (start_state code image input) in
    behind code p (item_at code i.assembled i.assembly) (going_world (start_of image) input) n (2 + spent code n (start_state code image input)) r
    (looser code p (item_at code i.assembled i.assembly) (going_world (start_of image) input) (n + 1) (2 + spent code n (start_state code image input)) r n
    (2 + spent code n (start_state code image input)) (image_simulated code image p input n i program bytes) (omega arith) (omega arith))
    (led_end code n (goes (start_state code image input)) tt) (never_wrong code 0 (start_data image.stack_words input) n i.disciplined d.some sound.size)

-- an image of disciplined code never traps, since it is guarded
pub never_trap : ImagesAreGuarded → (code : Code) (image : Image) (program : Program) (input : Bytes) (n : ℕ) (kind : TrapKind) → IsImageOf code image → IsProgramOf image program
    → (machine_after program image input n).ending ≢ event.Trap kind
never_trap guarded code image p input n kind i program = guarded_images_never_trap image p input n kind i.ranges program (guarded code image i)
