-- How runs over a source and a sink close.
use Rattle.std.proofs.Common.{◌≡◌, ℕ, ◌+◌, ◌-◌, ◌<◌, ◌≤◌, [], ◌++◌, sym, ap, ◌∙◌, refl, arith, subst, inl, inr, append_assoc, Some}
use Rattle.std.proofs.lemmas.Bool.{cases_lt}
use Rattle.std.specs.Option.{option_map, unwrap_or, ForSome}
use Rattle.std.specs.declared.option.Option.{Option}
use Rattle.fy_base.specs.Outside.{Bytes, IsPrefix, Gave, Gained, GainedPart}
use Rattle.fy_runs.specs.Runs.{puts, takes, stops, Machine, Run, settled, after, start_run}
use Rattle.fy_runs.specs.Ends.{Limited, Close, stands, refused, spent, unread, unwritten, IsGoingBelow, IsInsideBelow, StandsAt, AsksAt, PutsAt, ClosesSo, taken_by, HasPutBy, GainedSinceRead, RunsTo, DoesPart}
use Rattle.fy_runs.specs.Exchange.{Outer, IsMade, Exchange, stopped, was_over, refused_by, unread_by, unwritten_by}
use Rattle.fy_runs.proofs.Outer.{prefix_more, gained_more, part_longer, rest_none, told_of, rest_left}
use Rattle.fy_runs.proofs.Runs.{after_more, ticks, outputs_grow}
use Rattle.fy_runs.proofs.Reached.{Stood, Stands, Reached, after_made, below_made, inside_made}

-- what a run on an input came to
record ClosedOn {S T : Type 0} (l : Limited S T) (r : Run S T) (limit n : ℕ) (close : Close T) (input : Bytes) (before now : Option Bytes) : Type 0 where
  end : ClosesSo l close r n limit
  held : IsInsideBelow l r n
  input_is : (after l.machine (taken_by close n) r).input ≡ input
  output : HasPutBy close before now (after l.machine n r).output
  part : GainedPart before now (after l.machine limit r).output
  unput : close ≡ unwritten → GainedSinceRead l.machine r n before now

-- a run on what a source gave and what is left there is the run of the source
closed : {S T : Type 0} (l : Limited S T) (start : S) (limit n : ℕ) (close : Close T) (End : Bytes → Type 0) (given : Bytes) (left left_now before now : Option Bytes) → Gave left left_now given → End (given ++ unwrap_or left_now [])
    → ClosedOn l (start_run l.machine.standing start (given ++ unwrap_or left_now [])) limit n close (unwrap_or left_now []) before now → RunsTo l start limit n close End left left_now before now
closed l start limit n close End given left left_now before now gave also on = record {
  fed = given ++ unwrap_or left_now [];
  told = told_of given left left_now gave;
  end = on.end;
  held = on.held;
  also = also;
  rest = rest_left given left left_now _ gave on.input_is;
  output = on.output;
  part = on.part;
  unput = on.unput;
}

part_of : {S T : Type 0} (m : Machine S T) (r : Run S T) (n limit : ℕ) (before now : Option Bytes) → n ≤ limit → Gained before now (after m n r).output → GainedPart before now (after m limit r).output
part_of m r n limit before now le gained = record { part = (after m n r).output; gained = gained; begins = outputs_grow m r n limit le }

-- the run on what was given and what is left
here : {S T : Type 0} (l : Limited S T) (start : S) (n : ℕ) (Also : Bytes → Type 0) (s : S) (first o : Outer) (reached : Reached l start n Also s first o)
    → Stands l (start_run l.machine.standing start (reached.given ++ unwrap_or o.left [])) n (Also (reached.given ++ unwrap_or o.left [])) s (unwrap_or o.left []) first.held o.held
here l start n Also s first o reached = reached.stands (unwrap_or o.left []) (rest_none o.left o.over reached.at_end)

-- what else holds at the end, by what held before it
pub record Leaves {S T : Type 0} (l : Limited S T) (start : S) (n : ℕ) (Also End : Bytes → Type 0) (s : S) : Type 0 where
  pub by : (fed : Bytes) → Stood l.machine (after l.machine n (start_run l.machine.standing start fed)) s → Also fed → End fed

-- ---- ends by which no step is made

-- the run stands so after n steps
still : {S T : Type 0} (l : Limited S T) (start : S) (n limit : ℕ) (close : Close T) (Also End : Bytes → Type 0) (s : S) (first o : Outer) → n ≤ limit → Leaves l start n Also End s → Reached l start n Also s first o
    → ((r : Run S T) → StandsAt l.machine r n (l.machine.standing s) → (after l.machine n r).state ≡ s → ClosesSo l close r n limit) → taken_by close n ≡ n
    → ((before now : Option Bytes) (output : Bytes) → Gained before now output → HasPutBy close before now output) → ¬ (close ≡ unwritten) → RunsTo l start limit n close End first.left o.left first.held o.held
still l start n limit close Also End s first o le leaves reached closes taken has_put other =
    let fed = reached.given ++ unwrap_or o.left [] in
    let r = start_run l.machine.standing start fed in
    let at = here l start n Also s first o reached in
    let stood = at.shows.stood in
    closed l start limit n close End reached.given first.left o.left first.held o.held reached.gave (leaves.by fed stood at.also) (record {
      end = closes r (record { below = at.below; here = stood.standing_is }) stood.state_is;
      held = at.held;
      input_is = ap (λ k. (after l.machine k r).input) taken ∙ at.shows.input_is;
      output = has_put first.held o.held (after l.machine n r).output at.shows.output_is;
      part = part_of l.machine r n limit first.held o.held le at.shows.output_is;
      unput = λ clash. absurd (other clash);
    })

-- the run is over, or stands so for another reason
pub runs_over : {S T : Type 0} (l : Limited S T) (start : S) (n limit : ℕ) (t : T) (Also End : Bytes → Type 0) (s : S) (first o : Outer) → n ≤ limit → Leaves l start n Also End s → Reached l start n Also s first o → l.machine.standing s ≡ t
    → RunsTo l start limit n (stands t) End first.left o.left first.held o.held
runs_over l start n limit t Also End s first o le leaves reached is =
    still l start n limit (stands t) Also End s first o le leaves reached (λ r at state. record { below = at.below; here = at.here ∙ is }) refl (λ before now output gained. gained) (λ clash. cc)

-- all steps were made, and the run goes on
pub runs_spent : {S T : Type 0} (l : Limited S T) (start : S) (n limit : ℕ) (Also End : Bytes → Type 0) (s : S) (first o : Outer) → n ≡ limit → Leaves l start n Also End s → Reached l start n Also s first o → l.machine.standing s ≡ l.machine.going
    → RunsTo l start limit n spent End first.left o.left first.held o.held
runs_spent l start n limit Also End s first o all leaves reached goes_on =
    still l start n limit spent Also End s first o (omega arith) leaves reached (λ r at state. record { all = all; going = record { below = at.below; here = at.here ∙ goes_on } }) refl (λ before now output gained. gained) (λ clash. cc)

-- the next step would pass the limit
runs_refused : {S T : Type 0} (l : Limited S T) (start : S) (n limit : ℕ) (Also End : Bytes → Type 0) (s : S) (first o : Outer) → n < limit → Leaves l start n Also End s → Reached l start n Also s first o → l.machine.standing s ≡ l.machine.going
    → l.IsPast s → RunsTo l start limit n refused End first.left o.left first.held o.held
runs_refused l start n limit Also End s first o lt leaves reached goes_on big =
    still l start n limit refused Also End s first o (omega arith) leaves reached
    (λ r at state. record { fewer = lt; going = record { below = at.below; here = at.here ∙ goes_on }; big = subst (λ x. l.IsPast x) (sym state) big }) refl (λ before now output gained. gained) (λ clash. cc)

-- ---- steps that read and put

-- the next step asks for a byte
pub asks_next : {S T : Type 0} (m : Machine S T) (r : Run S T) (n : ℕ) (s : S) (go : Option ℕ → S) → IsGoingBelow m r (n + 1) → (after m n r).state ≡ s → m.step s ≡ takes go → AsksAt m r (n + 1)
asks_next m r n s go going state asks =
    let same : (n + 1) - 1 ≡ n = omega arith in
    record { some = omega arith; below = going; go = go; asks = ap (λ k. m.step (after m k r).state) same ∙ ap (λ x. m.step x) state ∙ asks }

-- or puts a text
pub puts_next : {S T : Type 0} (m : Machine S T) (r : Run S T) (n : ℕ) (s : S) (text : Bytes) (next : S) → IsGoingBelow m r (n + 1) → (after m n r).state ≡ s → m.step s ≡ puts text next → PutsAt m r (n + 1)
puts_next m r n s text next going state step =
    let same : (n + 1) - 1 ≡ n = omega arith in
    record { some = omega arith; below = going; text = text; then_state = next; puts = ap (λ k. m.step (after m k r).state) same ∙ ap (λ x. m.step x) state ∙ step }

-- a step that reads puts nothing
pub ask_puts_none : {S T : Type 0} (m : Machine S T) (r : Run S T) (n : ℕ) → AsksAt m r n → (after m n r).output ≡ (after m (n - 1) r).output
ask_puts_none m r n at =
    let some = at.some in
    let last : n ≡ (n - 1) + 1 = omega arith in
    ap (λ k. (after m k r).output) last ∙ ap (λ x. x.output) (after_more m (n - 1) r ∙ ticks m (after m (n - 1) r) (after m (n - 1) r).state (takes at.go) refl (at.below (n - 1) (omega arith)) at.asks)

-- and one that puts takes nothing
pub put_takes_none : {S T : Type 0} (m : Machine S T) (r : Run S T) (n : ℕ) → PutsAt m r n → (after m n r).input ≡ (after m (n - 1) r).input
put_takes_none m r n at =
    let some = at.some in
    let last : n ≡ (n - 1) + 1 = omega arith in
    ap (λ k. (after m k r).input) last
    ∙ ap (λ x. x.input) (after_more m (n - 1) r ∙ ticks m (after m (n - 1) r) (after m (n - 1) r).state (puts at.text at.then_state) refl (at.below (n - 1) (omega arith)) at.puts)

-- ---- ends by a step

-- the machine stopped
runs_stopped : {S T : Type 0} (l : Limited S T) (start : S) (n limit : ℕ) (t : T) (Also End : Bytes → Type 0) (s now : S) (first o : Outer) → n < limit → Leaves l start n Also End s → Reached l start n Also s first o → IsMade l s (stops t now)
    → RunsTo l start limit (n + 1) (stands t) End first.left o.left first.held o.held
runs_stopped l start n limit t Also End s now first o lt leaves reached made =
    let fed = reached.given ++ unwrap_or o.left [] in
    let r = start_run l.machine.standing start fed in
    let at = here l start n Also s first o reached in
    let stood = at.shows.stood in
    let is = after_made l r n s (stops t now) stood made in
    let output : Gained first.held o.held (after l.machine (n + 1) r).output = subst (λ b. Gained first.held o.held b) (ap (λ w. w.output) (sym is)) at.shows.output_is in
    closed l start limit (n + 1) (stands t) End reached.given first.left o.left first.held o.held reached.gave (leaves.by fed stood at.also) (record {
      end = record { below = below_made l r n s (stops t now) stood made at.below; here = ap (λ w. w.standing) is };
      held = inside_made l r n s (stops t now) stood made at.held;
      input_is = ap (λ w. w.input) is ∙ at.shows.input_is;
      output = output;
      part = part_of l.machine r (n + 1) limit first.held o.held (omega arith) output;
      unput = λ clash. cc;
    })

-- a read failed
runs_unread : {S T : Type 0} (l : Limited S T) (start : S) (n limit : ℕ) (Also End : Bytes → Type 0) (s : S) (go : Option ℕ → S) (first o : Outer) → n < limit → Leaves l start n Also End s → Reached l start n Also s first o → IsMade l s (takes go)
    → RunsTo l start limit (n + 1) unread End first.left o.left first.held o.held
runs_unread l start n limit Also End s go first o lt leaves reached made =
    let fed = reached.given ++ unwrap_or o.left [] in
    let r = start_run l.machine.standing start fed in
    let at = here l start n Also s first o reached in
    let stood = at.shows.stood in
    let same : n ≡ (n + 1) - 1 = omega arith in
    let is = after_made l r n s (takes go) stood made in
    let output : Gained first.held o.held (after l.machine (n + 1) r).output = subst (λ b. Gained first.held o.held b) (ap (λ w. w.output) (sym is)) at.shows.output_is in
    closed l start limit (n + 1) unread End reached.given first.left o.left first.held o.held reached.gave (leaves.by fed stood at.also) (record {
      end = asks_next l.machine r n s go (below_made l r n s (takes go) stood made at.below) stood.state_is made.move_is;
      held = inside_made l r n s (takes go) stood made at.held;
      input_is = ap (λ k. (after l.machine k r).input) (sym same) ∙ at.shows.input_is;
      output = output;
      part = part_of l.machine r (n + 1) limit first.held o.held (omega arith) output;
      unput = λ clash. cc;
    })

-- what a put that failed left: all that was put before it, and so before each read
pub since_read : {S T : Type 0} (m : Machine S T) (r : Run S T) (n : ℕ) (text : Bytes) (next : S) (part : Bytes) (before now : Option Bytes) → m.step (after m n r).state ≡ puts text next → Gained before now ((after m n r).output ++ part)
    → IsPrefix ((after m n r).output ++ part) (after m (n + 1) r).output → GainedSinceRead m r (n + 1) before now
since_read m r n text next part before now step gained begins = record {
  part = (after m n r).output ++ part;
  gained = gained;
  begins = begins;
  reads = λ k few asks. elim (cases_lt k (n + 1)) [
    | inl less ↦ prefix_more (after m k r).output (after m n r).output _ (outputs_grow m r k n (omega arith)) (record { rest = part; is = refl })
    | inr more ↦ (
        let same : k - 1 ≡ n = omega arith in
        absurd (let clash : puts text next ≡ takes asks.go = sym step ∙ ap (λ j. m.step (after m j r).state) (sym same) ∙ asks.asks in cc)
        )
  ];
}

-- a put failed
runs_unwritten : {S T : Type 0} (l : Limited S T) (start : S) (n limit : ℕ) (Also End : Bytes → Type 0) (s t : S) (text : Bytes) (first o u : Outer) → n < limit → Leaves l start n Also End s → Reached l start n Also s first o → IsMade l s (puts text t)
    → u.left ≡ o.left → GainedPart o.held u.held text → RunsTo l start limit (n + 1) unwritten End first.left u.left first.held u.held
runs_unwritten l start n limit Also End s t text first o u lt leaves reached made left gained =
    let fed = reached.given ++ unwrap_or o.left [] in
    let r = start_run l.machine.standing start fed in
    let at = here l start n Also s first o reached in
    let stood = at.shows.stood in
    let step : l.machine.step (after l.machine n r).state ≡ puts text t = ap (λ x. l.machine.step x) stood.state_is ∙ made.move_is in
    let is = after_made l r n s (puts text t) stood made in
    let so_far = (after l.machine n r).output in
    let begins : IsPrefix (so_far ++ gained.part) (after l.machine (n + 1) r).output =
    record { rest = gained.begins.rest; is = ap (λ w. w.output) is ∙ ap (λ b. so_far ++ b) gained.begins.is ∙ sym (append_assoc so_far gained.part gained.begins.rest) } in
    let all : Gained first.held u.held (so_far ++ gained.part) = gained_more first.held o.held u.held so_far gained.part at.shows.output_is gained.gained in
    let output : GainedPart first.held u.held (after l.machine (n + 1) r).output = record { part = so_far ++ gained.part; gained = all; begins = begins } in
    subst (λ x. RunsTo l start limit (n + 1) unwritten End first.left x first.held u.held) (sym left)
    (closed l start limit (n + 1) unwritten End reached.given first.left o.left first.held u.held reached.gave (leaves.by fed stood at.also) (record {
      end = puts_next l.machine r n s text t (below_made l r n s (puts text t) stood made at.below) stood.state_is made.move_is;
      held = inside_made l r n s (puts text t) stood made at.held;
      input_is = ap (λ w. w.input) is ∙ at.shows.input_is;
      output = output;
      part = part_longer first.held u.held (after l.machine (n + 1) r).output (after l.machine limit r).output output (outputs_grow l.machine r (n + 1) limit (omega arith));
      unput = λ _. since_read l.machine r n text t gained.part first.held u.held step all begins;
    }))

-- where nothing changed outside
unchanged : {S T : Type 0} (l : Limited S T) (start : S) (limit n : ℕ) (close : Close T) (End : Bytes → Type 0) (first o u : Outer) → u ≡ o → RunsTo l start limit n close End first.left o.left first.held o.held
    → RunsTo l start limit n close End first.left u.left first.held u.held
unchanged l start limit n close End first o u same runs = subst (λ x. RunsTo l start limit n close End first.left x.left first.held x.held) (sym same) runs

-- and no step was made
none_made : {S T : Type 0} (l : Limited S T) (start : S) (limit n : ℕ) (close : Close T) (End : Bytes → Type 0) (first o u : Outer) → u ≡ o → RunsTo l start limit n close End first.left o.left first.held o.held
    → RunsTo l start limit (n + 0) close End first.left u.left first.held u.held
none_made l start limit n close End first o u same runs =
    let e : n ≡ n + 0 = omega arith in
    unchanged l start limit (n + 0) close End first o u same (subst (λ k. RunsTo l start limit k close End first.left o.left first.held o.held) e runs)

-- the run closed by its step number n + 1, or before it
pub runs_end : {S T : Type 0} (l : Limited S T) (start : S) (n limit made : ℕ) (close : Close T) (Also End : Bytes → Type 0) (s t : S) (first o u : Outer) → n < limit → Leaves l start n Also End s → Reached l start n Also s first o
    → Exchange l s t o u made (Some close) → RunsTo l start limit (n + made) close End first.left u.left first.held u.held
runs_end l start n limit made close Also End s t first o u lt leaves reached (stopped stop now step same) =
    unchanged l start limit (n + 1) (stands stop) End first o u same (runs_stopped l start n limit stop Also End s now first o lt leaves reached step)
runs_end l start n limit made close Also End s t first o u lt leaves reached (was_over stop is same) =
    none_made l start limit n (stands stop) End first o u same (runs_over l start n limit stop Also End s first o (omega arith) leaves reached is)
runs_end l start n limit made close Also End s t first o u lt leaves reached (refused_by going big same) =
    none_made l start limit n refused End first o u same (runs_refused l start n limit Also End s first o lt leaves reached going big)
runs_end l start n limit made close Also End s t first o u lt leaves reached (unread_by go step same) =
    unchanged l start limit (n + 1) unread End first o u same (runs_unread l start n limit Also End s go first o lt leaves reached step)
runs_end l start n limit made close Also End s t first o u lt leaves reached (unwritten_by text step left over gained) =
    runs_unwritten l start n limit Also End s t text first o u lt leaves reached step left gained

-- no memory was found at some step
pub does_part : {S T : Type 0} (l : Limited S T) (start : S) (n limit : ℕ) (Also : Bytes → Type 0) (s : S) (first o : Outer) (left now : Option Bytes) → n ≤ limit → Reached l start n Also s first o → left ≡ o.left → now ≡ o.held
    → DoesPart l start limit first.left left first.held now
does_part l start n limit Also s first o left now le reached untaken same =
    let fed = reached.given ++ unwrap_or o.left [] in
    let r = start_run l.machine.standing start fed in
    let at = here l start n Also s first o reached in
    record {
      fed = fed;
      told = told_of reached.given first.left o.left reached.gave;
      made = n;
      within = le;
      going = at.below;
      held = at.held;
      rest = untaken ∙ rest_left reached.given first.left o.left (after l.machine n r).input reached.gave at.shows.input_is;
      output = subst (λ x. Gained first.held x (after l.machine n r).output) (sym same) at.shows.output_is;
    }

-- ---- a step that was begun

-- what a run has made before a step within the limit, and would make with it
pub record Begun {S T : Type 0} (l : Limited S T) (start : S) (n : ℕ) (Also : Bytes → Type 0) (s : S) (left left_now before now : Option Bytes) : Type 0 where
  pub fed : Bytes
  pub told : ForSome left (λ bytes. fed ≡ bytes)
  pub going : IsGoingBelow l.machine (start_run l.machine.standing start fed) (n + 1)
  pub inside : IsInsideBelow l (start_run l.machine.standing start fed) (n + 1)
  pub also : Also fed
  pub state_is : (after l.machine n (start_run l.machine.standing start fed)).state ≡ s
  pub rest : left_now ≡ option_map (λ _. (after l.machine n (start_run l.machine.standing start fed)).input) left
  pub output : Gained before now (after l.machine n (start_run l.machine.standing start fed)).output
  pub next : after l.machine (n + 1) (start_run l.machine.standing start fed) ≡ settled l.machine.standing (l.machine.step s) (after l.machine n (start_run l.machine.standing start fed))

pub begun_at : {S T : Type 0} (l : Limited S T) (start : S) (n : ℕ) (Also : Bytes → Type 0) (s : S) (first o : Outer) → Reached l start n Also s first o → l.machine.standing s ≡ l.machine.going → l.IsInside s
    → Begun l start n Also s first.left o.left first.held o.held
begun_at l start n Also s first o reached goes_on inside =
    let fed = reached.given ++ unwrap_or o.left [] in
    let r = start_run l.machine.standing start fed in
    let at = here l start n Also s first o reached in
    let stood = at.shows.stood in
    let made : IsMade l s (l.machine.step s) = record { going = goes_on; move_is = refl; inside = inside } in
    record {
      fed = fed;
      told = told_of reached.given first.left o.left reached.gave;
      going = below_made l r n s (l.machine.step s) stood made at.below;
      inside = inside_made l r n s (l.machine.step s) stood made at.held;
      also = at.also;
      state_is = stood.state_is;
      rest = rest_left reached.given first.left o.left (after l.machine n r).input reached.gave at.shows.input_is;
      output = at.shows.output_is;
      next = after_made l r n s (l.machine.step s) stood made;
    }
