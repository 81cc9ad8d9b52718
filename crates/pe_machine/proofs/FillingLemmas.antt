-- States of the program where a sequence gets its cells, and where none does.
use Rattle.std.proofs.Common.{◌≡◌, ◌<◌, Some, None, ap, ◌∙◌, subst, sym, arith}
use Rattle.std.proofs.lemmas.Bool.{cond-true, cond-false, lt-ltb, le-ltb, eq-eqb, ne_eqb}
use Rattle.std.specs.Prelude.{nat_eq, nat_lt}
use Rattle.std.specs.declared.option.Option.{Option}
use Rattle.pe_code.specs.declared.code.PeCode.{PeCode}
use Rattle.pe_machine.specs.States as states
use Rattle.pe_machine.specs.Step.{PeMove, sticks, one_more, pe_step}
use Rattle.pe_machine.specs.Run.{going, standing_of}
use Rattle.pe_machine.specs.Shown.{filled_state, with_filling}
use Rattle.pe_machine.specs.Turns.{filled_move, kept_of, plan_move, state_of, turn_move}
use Rattle.pe_machine.specs.Seen.{Seen, Halts, StepOf, Stepped, halted, seen, still_seen}
use Rattle.pe_machine.specs.declared.contexts.Filling.{Filling}
use Rattle.pe_machine.specs.declared.events.PeEvent.{PeEvent}
use Rattle.pe_machine.specs.declared.events.Phase.{Phase}
use Rattle.pe_machine.specs.declared.events.Phase.TheVariants as phase
use Rattle.pe_machine.specs.declared.machine.PeState.{PeState}
use Rattle.pe_machine.specs.declared.turns.Plan.{Plan}
use Rattle.pe_machine.specs.declared.turns.Turn.{Turn}

-- what is seen, by the sequence that gets its cells
seen_with : (s : PeState) (o : Option Filling) → s.filling ≡ o → seen s ≡ record (still_seen s) { state = with_filling o (state_of s.core) }
seen_with s o is = ap (λ (p : Option Filling). record (still_seen s) { state = with_filling p (state_of s.core) }) is

-- one more cell, where one is wanting
fills_more : (code : PeCode) (f : Filling) (s : states.PeState) → f.made < f.count → pe_step code (filled_state f s) ≡ one_more f.made (filled_state f s)
fills_more code f s h = cond-true (nat_lt f.made f.count) _ _ (lt-ltb f.made f.count h)

-- the frame, where all are there
fills_all : (code : PeCode) (f : Filling) (s : states.PeState) → f.made ≡ f.count → pe_step code (filled_state f s) ≡ filled_move f s
fills_all code f s h =
    cond-false (nat_lt f.made f.count) _ _ (le-ltb f.made f.count (omega (arith, h)))
    ∙ cond-true (nat_eq f.made f.count) (filled_move f s) sticks (eq-eqb f.made f.count h)

-- more than all are never there
fills_past : (code : PeCode) (f : Filling) (s : states.PeState) → f.count < f.made → pe_step code (filled_state f s) ≡ sticks
fills_past code f s h =
    cond-false (nat_lt f.made f.count) _ _ (le-ltb f.made f.count (omega arith))
    ∙ cond-false (nat_eq f.made f.count) (filled_move f s) sticks (ne_eqb f.made f.count (λ e. omega (arith, e)))

-- ---- the same of what is seen

pub state_with : (s : PeState) (o : Option Filling) → s.filling ≡ o → (seen s).state ≡ with_filling o (state_of s.core)
state_with s o is = ap (λ (p : Option Filling). with_filling p (state_of s.core)) is

pub step_by : (e : PeEvent) (m n : PeMove) (old new : Seen) → m ≡ n → StepOf e m old new → StepOf e n old new
step_by e m n old new is h = let P : PeMove → Type 0 = λ x. StepOf e x old new in subst P is h

step_from : (e : PeEvent) (m : PeMove) (old s new : Seen) → s ≡ old → StepOf e m old new → StepOf e m s new
step_from e m old s new is h = let P : Seen → Type 0 = λ x. StepOf e m x new in subst P (sym is) h

step_to : (e : PeEvent) (m : PeMove) (old new t : Seen) → t ≡ new → StepOf e m old new → StepOf e m old t
step_to e m old new t is h = let P : Seen → Type 0 = λ x. StepOf e m old x in subst P (sym is) h

-- where no sequence gets its cells
module _ (code : PeCode) (s : PeState) (none : s.filling ≡ None) where
  still_move : pe_step code (state_of s.core) ≡ pe_step code (seen s).state
  still_move = ap (λ x. pe_step code x) (sym (state_with s None none))

  pub still_step : (e : PeEvent) (m : PeMove) (new : Seen) → m ≡ pe_step code (state_of s.core) → StepOf e m (still_seen s) new → Stepped e code (seen s) new
  still_step e m new is h =
      step_from e (pe_step code (seen s).state) (still_seen s) (seen s) new (seen_with s None none)
      (step_by e m (pe_step code (seen s).state) (still_seen s) new (is ∙ still_move) h)

  pub still_both : (e : PeEvent) (m : PeMove) (t : PeState) → t.filling ≡ None → m ≡ pe_step code (state_of s.core) → StepOf e m (still_seen s) (still_seen t) → Stepped e code (seen s) (seen t)
  still_both e m t after is h = still_step e m (seen t) is (step_to e m (still_seen s) (still_seen t) (seen t) (seen_with t None after) h)

  pub still_halts : (told : PeMove) (new : Seen) → standing_of (state_of s.core) ≡ going → told ≡ pe_step code (state_of s.core) → new ≡ halted (seen s) → Halts (pe_step code (seen s).state) told (seen s) new
  still_halts told new on is halts = record { going = ap standing_of (state_with s None none) ∙ on; move_is = sym (is ∙ still_move); is = halts }

-- a plan whose turn is known
pub turn_is : (code : PeCode) (plan : Plan) (turn : Turn) (s : states.PeState) → plan.turn ≡ turn → plan_move plan s ≡ pe_step code s → turn_move turn (kept_of plan.kept s) ≡ pe_step code s
turn_is code plan turn s is moves = ap (λ (t : Turn). turn_move t (kept_of plan.kept s)) (sym is) ∙ moves

-- where one does
module _ (f : Filling) (s : PeState) (is : s.filling ≡ Some f) where
  pub seen_goes : standing_of (seen s).state ≡ going
  seen_goes = ap standing_of (state_with s (Some f) is)

  pub moves_more : (code : PeCode) → f.made < f.count → pe_step code (seen s).state ≡ one_more f.made (seen s).state
  moves_more code h =
      let e = state_with s (Some f) is in
      ap (λ x. pe_step code x) e ∙ fills_more code f (state_of s.core) h ∙ ap (λ x. one_more f.made x) (sym e)

  pub moves_all : (code : PeCode) → f.made ≡ f.count → pe_step code (seen s).state ≡ filled_move f (state_of s.core)
  moves_all code h = ap (λ x. pe_step code x) (state_with s (Some f) is) ∙ fills_all code f (state_of s.core) h

  pub moves_past : (code : PeCode) → f.count < f.made → pe_step code (seen s).state ≡ sticks
  moves_past code h = ap (λ x. pe_step code x) (state_with s (Some f) is) ∙ fills_past code f (state_of s.core) h

-- ---- a state that goes on waits for nothing

pub going_not_waiting : {A : Type 0} (p : Phase) → p ≡ phase.Going → p ≡ phase.Waiting → A
going_not_waiting p on waits = absurd (let clash : phase.Going ≡ phase.Waiting = sym on ∙ waits in cc)
