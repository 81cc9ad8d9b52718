-- Runs over a source and a sink, step by step.
use Rattle.std.proofs.Common.{◌≡◌, ℕ, ◌+◌, Bool, IsTrue, [], ◌++◌, sym, ap, ◌∙◌, refl, arith, subst, inl, inr, append_assoc, None}
use Rattle.std.proofs.lemmas.Bool.{cases_lt}
use Rattle.std.specs.Prelude.{drop, slice_get, is_none}
use Rattle.std.specs.Option.{option_to_list}
use Rattle.std.specs.declared.option.Option.{Option}
use Rattle.fy_base.specs.Outside.{Bytes, Gave, IsAtEnd, Drew, Gained}
use Rattle.fy_runs.specs.Runs.{Move, goes, puts, takes, Machine, Run, settled, after, start_run}
use Rattle.fy_runs.specs.Ends.{Limited, IsGoingBelow, IsInsideBelow}
use Rattle.fy_runs.specs.Exchange.{Outer, IsMade, Exchange, went, wrote, took}
use Rattle.fy_runs.proofs.Outer.{gained_none, gained_more, gave_none, gave_more, drew_all, first_of, rest_of}
use Rattle.fy_runs.proofs.Runs.{after_zero, after_more, ticks}

-- a run in this state, which stands as the machine says
pub record Stood {S T : Type 0} (m : Machine S T) (r : Run S T) (s : S) : Type 0 where
  pub state_is : r.state ≡ s
  pub standing_is : r.standing ≡ m.standing s

-- a run as a state and a sink show it, with this input left
pub record Shows {S T : Type 0} (m : Machine S T) (r : Run S T) (s : S) (input : Bytes) (before now : Option Bytes) : Type 0 where
  pub stood : Stood m r s
  pub input_is : r.input ≡ input
  pub output_is : Gained before now r.output

-- a run went on for n steps inside the limit and is shown so, and something else holds of it
pub record Stands {S T : Type 0} (l : Limited S T) (r : Run S T) (n : ℕ) (Also : Type 0) (s : S) (input : Bytes) (before now : Option Bytes) : Type 0 where
  pub below : IsGoingBelow l.machine r n
  pub held : IsInsideBelow l r n
  pub also : Also
  pub shows : Shows l.machine (after l.machine n r) s input before now

-- a run from a state goes on or is at its end after n steps, whatever its source gives yet: it gave some bytes so far
pub record Reached {S T : Type 0} (l : Limited S T) (start : S) (n : ℕ) (Also : Bytes → Type 0) (s : S) (first now : Outer) : Type 0 where
  pub given : Bytes
  pub gave : Gave first.left now.left given
  pub at_end : IsTrue now.over → IsAtEnd now.left
  pub stands : (more : Bytes) → (IsTrue now.over → more ≡ []) → Stands l (start_run l.machine.standing start (given ++ more)) n (Also (given ++ more)) s more first.held now.held

stands_start : {S T : Type 0} (l : Limited S T) (start : S) (fed : Bytes) (Also : Type 0) (held : Option Bytes) → Also → Stands l (start_run l.machine.standing start fed) 0 Also start fed held held
stands_start l start fed Also held also =
    let r = start_run l.machine.standing start fed in
    record {
      below = λ k lt. absurd (omega arith);
      held = λ k lt. absurd (omega arith);
      also = also;
      shows = subst (λ w. Shows l.machine w start fed held held) (sym (after_zero l.machine r))
          (record { stood = record { state_is = refl; standing_is = refl }; input_is = refl; output_is = gained_none held });
    }

pub reached_start : {S T : Type 0} (l : Limited S T) (start : S) (Also : Bytes → Type 0) (first : Outer) → ((fed : Bytes) → Also fed) → (IsTrue first.over → IsAtEnd first.left) → Reached l start 0 Also start first first
reached_start l start Also first also at_end = record {
  given = [];
  gave = gave_none first.left;
  at_end = at_end;
  stands = λ more none. stands_start l start more (Also more) first.held (also more);
}

-- ---- one more step

-- below n and at n
pub below_next : {S T : Type 0} (m : Machine S T) (r : Run S T) (n : ℕ) → IsGoingBelow m r n → (after m n r).standing ≡ m.going → IsGoingBelow m r (n + 1)
below_next m r n below here k lt = elim (cases_lt k n) [
  | inl less ↦ below k less
  | inr more ↦ let last : k ≡ n = omega arith in ap (λ j. (after m j r).standing) last ∙ here
]

pub inside_next : {S T : Type 0} (l : Limited S T) (r : Run S T) (n : ℕ) → IsInsideBelow l r n → l.IsInside (after l.machine n r).state → IsInsideBelow l r (n + 1)
inside_next l r n below here k lt = elim (cases_lt k n) [
  | inl less ↦ below k less
  | inr more ↦ let last : n ≡ k = omega arith in subst (λ j. l.IsInside (after l.machine j r).state) last here
]

-- the run after a step that was made
pub after_made : {S T : Type 0} (l : Limited S T) (r : Run S T) (n : ℕ) (s : S) (move : Move S T) → Stood l.machine (after l.machine n r) s → IsMade l s move → after l.machine (n + 1) r ≡ settled l.machine.standing move (after l.machine n r)
after_made l r n s move stood made =
    after_more l.machine n r ∙ ticks l.machine (after l.machine n r) s move stood.state_is (stood.standing_is ∙ made.going) made.move_is

pub below_made : {S T : Type 0} (l : Limited S T) (r : Run S T) (n : ℕ) (s : S) (move : Move S T) → Stood l.machine (after l.machine n r) s → IsMade l s move → IsGoingBelow l.machine r n → IsGoingBelow l.machine r (n + 1)
below_made l r n s move stood made below = below_next l.machine r n below (stood.standing_is ∙ made.going)

pub inside_made : {S T : Type 0} (l : Limited S T) (r : Run S T) (n : ℕ) (s : S) (move : Move S T) → Stood l.machine (after l.machine n r) s → IsMade l s move → IsInsideBelow l r n → IsInsideBelow l r (n + 1)
inside_made l r n s move stood made below = inside_next l r n below (subst (λ x. l.IsInside x) (sym stood.state_is) made.inside)

-- the run goes on with a step that settles so
stands_next : {S T : Type 0} (l : Limited S T) (r : Run S T) (n : ℕ) (Also Next : Type 0) (s t : S) (move : Move S T) (i j : Bytes) (before g h : Option Bytes) → Stands l r n Also s i before g → IsMade l s move
    → (Stood l.machine (after l.machine n r) s → (after l.machine (n + 1) r).state ≡ t → Also → Next) → Shows l.machine (settled l.machine.standing move (after l.machine n r)) t j before h → Stands l r (n + 1) Next t j before h
stands_next l r n Also Next s t move i j before g h stands made next shows =
    let stood = stands.shows.stood in
    let is = after_made l r n s move stood made in
    record {
      below = below_made l r n s move stood made stands.below;
      held = inside_made l r n s move stood made stands.held;
      also = next stood (ap (λ w. w.state) is ∙ shows.stood.state_is) stands.also;
      shows = subst (λ w. Shows l.machine w t j before h) (sym is) shows;
    }

shows_goes : {S T : Type 0} (m : Machine S T) (r : Run S T) (s t : S) (input : Bytes) (before g : Option Bytes) → Shows m r s input before g → Shows m (settled m.standing (goes t) r) t input before g
shows_goes m r s t input before g shows = record { stood = record { state_is = refl; standing_is = refl }; input_is = shows.input_is; output_is = shows.output_is }

shows_puts : {S T : Type 0} (m : Machine S T) (r : Run S T) (s t : S) (text input : Bytes) (before g h : Option Bytes) → Shows m r s input before g → Gained g h text → Shows m (settled m.standing (puts text t) r) t input before h
shows_puts m r s t text input before g h shows gained =
    record { stood = record { state_is = refl; standing_is = refl }; input_is = shows.input_is; output_is = gained_more before g h r.output text shows.output_is gained }

shows_takes : {S T : Type 0} (m : Machine S T) (r : Run S T) (s : S) (go : Option ℕ → S) (byte : Option ℕ) (input rest : Bytes) (before g : Option Bytes) → Shows m r s input before g → slice_get input 0 ≡ byte → drop 1 input ≡ rest
    → Shows m (settled m.standing (takes go) r) (go byte) rest before g
shows_takes m r s go byte input rest before g shows first others =
    let is : go (slice_get r.input 0) ≡ go byte = ap (λ i. go (slice_get i 0)) shows.input_is ∙ ap go first in
    record { stood = record { state_is = is; standing_is = ap (λ x. m.standing x) is }; input_is = ap (λ i. drop 1 i) shows.input_is ∙ others; output_is = shows.output_is }

-- what else holds after one more step, by what held before it
pub record Steps {S T : Type 0} (l : Limited S T) (start : S) (n : ℕ) (Also Next : Bytes → Type 0) (s t : S) : Type 0 where
  pub by : (fed : Bytes) → Stood l.machine (after l.machine n (start_run l.machine.standing start fed)) s → (after l.machine (n + 1) (start_run l.machine.standing start fed)).state ≡ t → Also fed → Next fed

reached_went : {S T : Type 0} (l : Limited S T) (start : S) (n : ℕ) (Also Next : Bytes → Type 0) (s t : S) (first o : Outer) → Steps l start n Also Next s t → Reached l start n Also s first o → IsMade l s (goes t) → Reached l start (n + 1) Next t first o
reached_went l start n Also Next s t first o steps reached made = record {
  given = reached.given;
  gave = reached.gave;
  at_end = reached.at_end;
  stands = λ more none.
      let fed = reached.given ++ more in
      let stands = reached.stands more none in
      let r = start_run l.machine.standing start fed in
      stands_next l r n (Also fed) (Next fed) s t (goes t) more more first.held o.held o.held stands made (steps.by fed) (shows_goes l.machine (after l.machine n r) s t more first.held o.held stands.shows);
}

reached_wrote : {S T : Type 0} (l : Limited S T) (start : S) (n : ℕ) (Also Next : Bytes → Type 0) (s t : S) (text : Bytes) (first o u : Outer) → Steps l start n Also Next s t → Reached l start n Also s first o → IsMade l s (puts text t)
    → u.left ≡ o.left → u.over ≡ o.over → Gained o.held u.held text → Reached l start (n + 1) Next t first u
reached_wrote l start n Also Next s t text first o u steps reached made left over gained = record {
  given = reached.given;
  gave = subst (λ x. Gave first.left x reached.given) (sym left) reached.gave;
  at_end = λ was. subst IsAtEnd (sym left) (reached.at_end (sym over ∙ was));
  stands = λ more none.
      let fed = reached.given ++ more in
      let stands = reached.stands more (λ was. none (over ∙ was)) in
      let r = start_run l.machine.standing start fed in
      stands_next l r n (Also fed) (Next fed) s t (puts text t) more more first.held o.held u.held stands made (steps.by fed)
      (shows_puts l.machine (after l.machine n r) s t text more first.held o.held u.held stands.shows gained);
}

-- the run stands so on the bytes given so far, these and more
stands_drawn : {S T : Type 0} (l : Limited S T) (start : S) (n : ℕ) (Also : Bytes → Type 0) (s : S) (first o : Outer) (left : Option Bytes) (over : Bool) (bytes : Bytes) (reached : Reached l start n Also s first o) → Drew o.left left o.over over bytes
    → (more : Bytes) → (IsTrue over → more ≡ []) → Stands l (start_run l.machine.standing start ((reached.given ++ bytes) ++ more)) n (Also ((reached.given ++ bytes) ++ more)) s (bytes ++ more) first.held o.held
stands_drawn l start n Also s first o left over bytes reached drew more none =
    subst (λ b. Stands l (start_run l.machine.standing start b) n (Also b) s (bytes ++ more) first.held o.held) (sym (append_assoc reached.given bytes more))
    (reached.stands (bytes ++ more) (drew_all o.left left o.over over bytes more drew none))

reached_took : {S T : Type 0} (l : Limited S T) (start : S) (n : ℕ) (Also Next : Bytes → Type 0) (s t : S) (byte : Option ℕ) (go : Option ℕ → S) (first o u : Outer) → Steps l start n Also Next s t → Reached l start n Also s first o
    → IsMade l s (takes go) → t ≡ go byte → Drew o.left u.left o.over u.over (option_to_list byte) → u.over ≡ is_none byte → u.held ≡ o.held → Reached l start (n + 1) Next t first u
reached_took l start n Also Next s t byte go first o u steps reached made is drew over held =
    let bytes = option_to_list byte in
    record {
      given = reached.given ++ bytes;
      gave = gave_more first.left o.left u.left reached.given bytes reached.gave drew.gave;
      at_end = drew.at_end;
      stands = λ more none.
          let fed = (reached.given ++ bytes) ++ more in
          let stands = stands_drawn l start n Also s first o u.left u.over bytes reached drew more none in
          let r = start_run l.machine.standing start fed in
          let shows = shows_takes l.machine (after l.machine n r) s go byte (bytes ++ more) more first.held o.held stands.shows (first_of byte more u.over over none) (rest_of byte more u.over over none) in
          let there = subst (λ x. Shows l.machine (settled l.machine.standing (takes go) (after l.machine n r)) x more first.held o.held) (sym is) shows in
          stands_next l r n (Also fed) (Next fed) s t (takes go) (bytes ++ more) more first.held o.held u.held stands made (steps.by fed)
          (subst (λ x. Shows l.machine (settled l.machine.standing (takes go) (after l.machine n r)) t more first.held x) (sym held) there);
    }

pub reached_next : {S T : Type 0} (l : Limited S T) (start : S) (n made : ℕ) (Also Next : Bytes → Type 0) (s t : S) (first o u : Outer) → Steps l start n Also Next s t → Reached l start n Also s first o → Exchange l s t o u made None
    → Reached l start (n + 1) Next t first u
reached_next l start n made Also Next s t first o u steps reached (went step same) = subst (λ x. Reached l start (n + 1) Next t first x) (sym same) (reached_went l start n Also Next s t first o steps reached step)
reached_next l start n made Also Next s t first o u steps reached (wrote text step left over gained) = reached_wrote l start n Also Next s t text first o u steps reached step left over gained
reached_next l start n made Also Next s t first o u steps reached (took byte go step is drew over held) = reached_took l start n Also Next s t byte go first o u steps reached step is drew over held
