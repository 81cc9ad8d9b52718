-- Runs over a source and a sink, instruction by instruction.
use Rattle.std.proofs.Common.{◌≡◌, ◌≢◌, ℕ, ◌+◌, ◌-◌, ◌<◌, ◌≤◌, Bool, IsTrue, List, [], ◌∷◌, ◌++◌, length, All, sym, ap, ◌∙◌, refl, arith, subst, append_assoc, Some, None}
use Rattle.std.proofs.lemmas.List.Elements.{All-append, All-nil}
use Rattle.std.specs.Option.{option_map, option_to_list, unwrap_or}
use Rattle.std.specs.declared.option.Option.{Option}
use Rattle.fy_base.specs.Outside.{Bytes, IsPrefix, Gave, IsAtEnd, Gained, GainedPart}
use Rattle.fy_base.specs.declared.data.Ending.{Ending}
use Rattle.fy_base.specs.declared.data.Ending.TheVariants as ends
use Rattle.fy_runs.specs.Runs.{takes, puts}
use Rattle.fy_runs.proofs.Outer.{gained_none, part_longer, gave_none, gave_more, drew_all, rest_none}
use Rattle.fy_runs.proofs.Reached as runs_reached
use Rattle.fy_runs.proofs.Closes as runs_close
use Rattle.fy_runs.proofs.Closes.{asks_next, puts_next, ask_puts_none}
use Rattle.rv_insn.specs.Program.{Program}
use Rattle.rv_insn.specs.Step.{Core, instruction_step, given}
use Rattle.rv_insn.specs.Run.{run_of, move_of, insn_machine}
use Rattle.rv_machine.specs.declared.run.MachineRun.{MachineRun}
use Rattle.rv_machine.specs.Run.{World, going_world, run, tick}
use Rattle.rv_machine.specs.Fetch.{fetched_at, fetches}
use Rattle.rv_machine.specs.declared.watch.Fetched.{Fetched}
use Rattle.rv_machine.specs.Ends.{IsGoingBelow, StandsAt, AsksAt, EndsSo, HasPut, core_after, taken_after, GainedSinceRead, Watched}
use Rattle.rv_machine.specs.Turn.{put_count, Shows, Came, TurnedIn, Turned}
use Rattle.rv_insn.specs.declared.events.Event.{Event}
use Rattle.rv_insn.specs.declared.events.Event.TheVariants as events
use Rattle.circular_buffer.specs.Buffer.{keep_last}
use Rattle.rv_machine.proofs.Runs.{run_none, run_more, outputs_grow}
use Rattle.rv_machine.proofs.Watching.{fetches_more}
use Rattle.rv_machine.proofs.Counting.{tick_puts, over_puts_none}

-- a run that goes on after n instructions, with these words fetched and so many bytes put, as a machine and a sink show it, with this input left
pub record Stands (program : Program) (world : World) (n : ℕ) (seen : List Fetched) (bytes : ℕ) (core : Core) (input : Bytes) (before now : Option Bytes) : Type 0 where
  pub going : IsGoingBelow program world (n + 1)
  pub fetched : seen ≡ fetches program world n
  pub counted : bytes ≡ length (run program n world).output
  pub shows : Shows (run program n world) core input before now

-- a run that goes on after n instructions, with these words fetched and so many bytes put, whatever its source gives yet: it gave some bytes so far
pub record Reached (program : Program) (start : Core) (n : ℕ) (seen : List Fetched) (bytes : ℕ) (core : Core) (left left_now : Option Bytes) (over : Bool) (before now : Option Bytes) : Type 0 where
  pub given : Bytes
  pub small : All (λ byte. byte < 256) given
  pub gave : Gave left left_now given
  pub at_end : IsTrue over → IsAtEnd left_now
  pub stands : (more : Bytes) → (IsTrue over → more ≡ []) → Stands program (going_world start (given ++ more)) n seen bytes core more before now

-- before the first instruction
stands_start : (program : Program) (core : Core) (input : Bytes) (held : Option Bytes) → Stands program (going_world core input) 0 [] 0 core input held held
stands_start program core input held =
    let none : run program 0 (going_world core input) ≡ going_world core input = run_none program (going_world core input) in
    let shows : Shows (going_world core input) core input held held = record { core_is = refl; input_is = refl; output_is = gained_none held } in
    record {
      going = λ k lt. let first : k ≡ 0 = omega arith in ap (λ n. (run program n (going_world core input)).ending) first ∙ ap (λ w. w.ending) none;
      fetched = refl;
      counted = ap (λ w. length w.output) (sym none);
      shows = let P : World → Type 0 = λ w. Shows w core input held held in subst P (sym none) shows;
    }

pub reached_start : (program : Program) (core : Core) (left held : Option Bytes) (over : Bool) → (IsTrue over → IsAtEnd left) → Reached program core 0 [] 0 core left left over held held
reached_start program core left held over at_end = record {
  given = [];
  small = All-nil (λ byte. byte < 256);
  gave = gave_none left;
  at_end = at_end;
  stands = λ more none. stands_start program core more held;
}

-- below n and at n
pub below_next : (program : Program) (world : World) (n : ℕ) → IsGoingBelow program world n → (run program n world).ending ≡ events.Going → IsGoingBelow program world (n + 1)
below_next program world n below here = runs_reached.below_next (insn_machine program) (run_of world) n below here

-- the world after one more instruction is shown so
shown_next : (program : Program) (world : World) (n : ℕ) (core : Core) (input : Bytes) (before now : Option Bytes) → Shows (tick program (run program n world)) core input before now → Shows (run program (n + 1) world) core input before now
shown_next program world n core input before now shows = let P : World → Type 0 = λ w. Shows w core input before now in subst P (sym (run_more program n world)) shows

-- the words fetched with one more instruction
seen_more : (program : Program) (world : World) (n : ℕ) (seen : List Fetched) (bytes : ℕ) (core : Core) (input : Bytes) (before now : Option Bytes) → Stands program world n seen bytes core input before now
    → seen ++ option_to_list (fetched_at program core) ≡ fetches program world (n + 1)
seen_more program world n seen bytes core input before now stands =
    ap (λ l. l ++ option_to_list (fetched_at program core)) stands.fetched ∙ ap (λ c. fetches program world n ++ option_to_list (fetched_at program c)) stands.shows.core_is
    ∙ sym (fetches_more program world n)

-- the bytes put with one more instruction
put_more : (program : Program) (world : World) (n : ℕ) (seen : List Fetched) (bytes : ℕ) (core : Core) (input : Bytes) (before now : Option Bytes) → Stands program world n seen bytes core input before now
    → bytes + put_count (instruction_step program core).event ≡ length (run program (n + 1) world).output
put_more program world n seen bytes core input before now stands =
    ap (λ b. b + put_count (instruction_step program core).event) stands.counted ∙ ap (λ c. length (run program n world).output + put_count (instruction_step program c).event) stands.shows.core_is
    ∙ sym (ap (λ w. length w.output) (run_more program n world) ∙ tick_puts program (run program n world) (stands.going n (omega arith)))

-- one more instruction, and the run goes on
stands_next : (program : Program) (world : World) (n : ℕ) (seen : List Fetched) (bytes : ℕ) (c d : Core) (i j : Bytes) (before g h : Option Bytes) → Stands program world n seen bytes c i before g
    → Came program (run program n world) events.Going d j before h
    → Stands program world (n + 1) (seen ++ option_to_list (fetched_at program c)) (bytes + put_count (instruction_step program c).event) d j before h
stands_next program world n seen bytes c d i j before g h stands came = record {
  going = below_next program world (n + 1) stands.going (ap (λ w. w.ending) (run_more program n world) ∙ came.ending_is);
  fetched = seen_more program world n seen bytes c i before g stands;
  counted = put_more program world n seen bytes c i before g stands;
  shows = shown_next program world n d j before h came.shows;
}

-- one more instruction from where the run stands: on each input that the source may yet give, it stood there, and it turned so
turned_at : (end : Option Ending) (program : Program) (start : Core) (n : ℕ) (seen : List Fetched) (bytes : ℕ) (c d : Core) (left l m : Option Bytes) (o p : Bool) (before g h : Option Bytes)
    (reached : Reached program start n seen bytes c left l o before g) (turned : Turned end program c d l m o p g h) (more : Bytes) → (IsTrue p → more ≡ [])
    → Stands program (going_world start ((reached.given ++ turned.bytes) ++ more)) n seen bytes c (turned.bytes ++ more) before g
    × TurnedIn end program (run program n (going_world start ((reached.given ++ turned.bytes) ++ more))) d more before h
turned_at end program start n seen bytes c d left l m o p before g h reached turned more none =
    let stands : Stands program (going_world start ((reached.given ++ turned.bytes) ++ more)) n seen bytes c (turned.bytes ++ more) before g =
    let P : Bytes → Type 0 = λ b. Stands program (going_world start b) n seen bytes c (turned.bytes ++ more) before g in
    subst P (sym (append_assoc reached.given turned.bytes more)) (reached.stands (turned.bytes ++ more) (drew_all l m o p turned.bytes more turned.drew none)) in
    (stands, turned.did (run program n (going_world start ((reached.given ++ turned.bytes) ++ more))) more before (stands.going n (omega arith)) none stands.shows)

pub reached_next : (program : Program) (start : Core) (n : ℕ) (seen : List Fetched) (bytes : ℕ) (c d : Core) (left l m : Option Bytes) (o p : Bool) (before g h : Option Bytes)
    → Reached program start n seen bytes c left l o before g → Turned None program c d l m o p g h
    → Reached program start (n + 1) (seen ++ option_to_list (fetched_at program c)) (bytes + put_count (instruction_step program c).event) d left m p before h
reached_next program start n seen bytes c d left l m o p before g h reached turned = record {
  given = reached.given ++ turned.bytes;
  small = All-append (λ byte. byte < 256) reached.given turned.bytes reached.small turned.small;
  gave = gave_more left l m reached.given turned.bytes reached.gave turned.drew.gave;
  at_end = turned.drew.at_end;
  stands = λ more none.
      let at = turned_at None program start n seen bytes c d left l m o p before g h reached turned more none in
      stands_next program (going_world start ((reached.given ++ turned.bytes) ++ more)) n seen bytes c d (turned.bytes ++ more) more before g h at.0 at.1;
}

-- what a sink gained is a beginning of what a longer run puts
part_of : (program : Program) (world : World) (n limit : ℕ) (before now : Option Bytes) → n ≤ limit → Gained before now (run program n world).output → GainedPart before now (run program limit world).output
part_of program world n limit before now le gained = record { part = (run program n world).output; gained = gained; begins = outputs_grow program n limit world le }

over_next : (program : Program) (world : World) (n : ℕ) (event : Event) → IsGoingBelow program world (n + 1) → (tick program (run program n world)).ending ≡ event → StandsAt program world (n + 1) event
over_next program world n event below here = record { below = below; here = ap (λ w. w.ending) (run_more program n world) ∙ here }

-- an end that the machine makes
ends_by : (program : Program) (world : World) (n limit : ℕ) (event : Event) (core : Core) (input : Bytes) (before now : Option Bytes) → event ≢ events.Going → IsGoingBelow program world (n + 1) → n < limit
    → Came program (run program n world) event core input before now
    → StandsAt program world (n + 1) event × Shows (run program (n + 1) world) core input before now × GainedPart before now (run program limit world).output
    × ((run program (n + 1) world).output ≡ (run program n world).output)
ends_by program world n limit event core input before now over below lt came =
    let shows = shown_next program world n core input before now came.shows in (
      over_next program world n event below came.ending_is,
      shows,
      part_of program world (n + 1) limit before now (omega arith) shows.output_is,
      ap (λ w. w.output) (run_more program n world) ∙ over_puts_none program (run program n world) (below n (omega arith)) (λ going. over (sym came.ending_is ∙ going)),
    )

-- what the step of a run leads to, in the words of all machines
asks_so : (program : Program) (core : Core) → (instruction_step program core).event ≡ events.WantByte → (insn_machine program).step core ≡ takes (λ byte. given byte (instruction_step program core).core)
asks_so program core asks = ap (λ e. move_of e (instruction_step program core).core) asks

puts_so : (program : Program) (core : Core) (byte : ℕ) → (instruction_step program core).event ≡ events.Put byte → (insn_machine program).step core ≡ puts (byte ∷ []) (instruction_step program core).core
puts_so program core byte puts_it = ap (λ e. move_of e (instruction_step program core).core) puts_it

-- what a put that failed left: all that was put before it, and so before each read
since_read : (program : Program) (world : World) (n byte : ℕ) (before now : Option Bytes) → (instruction_step program (run program n world).core).event ≡ events.Put byte
    → (put : GainedPart before now (tick program (run program n world)).output) → IsPrefix (run program n world).output put.part → GainedSinceRead program world (n + 1) before now
since_read program world n byte before now puts_it put behind =
    let core = (run program n world).core in
    runs_close.since_read (insn_machine program) (run_of world) n (byte ∷ []) (instruction_step program core).core behind.rest before now (puts_so program core byte puts_it)
    (subst (λ b. Gained before now b) behind.is put.gained)
    (subst (λ b. IsPrefix b (run program (n + 1) world).output) behind.is (record { rest = put.begins.rest; is = ap (λ w. w.output) (run_more program n world) ∙ put.begins.is }))

-- what a run on an input came to
record RunsOn (program : Program) (world : World) (limit : ℕ) (done : MachineRun) (after : Core) (input : Bytes) (before now : Option Bytes) : Type 0 where
  end : EndsSo done.end program world done.steps limit
  core_is : after ≡ core_after done.end program world done.steps
  input_is : (run program (taken_after done.end done.steps) world).input ≡ input
  output : HasPut done.end before now (run program done.steps world).output
  part : GainedPart before now (run program limit world).output
  counted : done.end ≢ ends.OutputFault → done.bytes ≡ length (run program done.steps world).output
  unput : done.end ≡ ends.OutputFault → GainedSinceRead program world done.steps before now

-- the run ended by its instruction number n + 1
run_ends : (end : Ending) (program : Program) (world : World) (n limit : ℕ) (seen : List Fetched) (bytes : ℕ) (c d : Core) (i j : Bytes) (before g h : Option Bytes) → Stands program world n seen bytes c i before g → n < limit
    → TurnedIn (Some end) program (run program n world) d j before h → RunsOn program world limit (record { end = end; steps = n + 1; bytes = bytes }) d j before h
run_ends ends.Ended program world n limit seen bytes c d i j before g h stands lt turned =
    let done = ends_by program world n limit events.Ended d j before h (λ going. cc) stands.going lt turned in
    record { end = done.0; core_is = done.1.core_is; input_is = done.1.input_is; output = done.1.output_is; part = done.2; counted = λ _. stands.counted ∙ ap length (sym done.3); unput = λ clash. cc }
run_ends (ends.Fault kind place) program world n limit seen bytes c d i j before g h stands lt turned =
    let done = ends_by program world n limit (events.Fault kind place) d j before h (λ going. cc) stands.going lt turned in
    record { end = done.0; core_is = done.1.core_is; input_is = done.1.input_is; output = done.1.output_is; part = done.2; counted = λ _. stands.counted ∙ ap length (sym done.3); unput = λ clash. cc }
run_ends ends.Exhausted program world n limit seen bytes c d i j before g h stands lt turned =
    let done = ends_by program world n limit events.Exhausted d j before h (λ going. cc) stands.going lt turned in
    record { end = done.0; core_is = done.1.core_is; input_is = done.1.input_is; output = done.1.output_is; part = done.2; counted = λ _. stands.counted ∙ ap length (sym done.3); unput = λ clash. cc }
run_ends (ends.Trap kind) program world n limit seen bytes c d i j before g h stands lt turned =
    let done = ends_by program world n limit (events.Trap kind) d j before h (λ going. cc) stands.going lt turned in
    record { end = done.0; core_is = done.1.core_is; input_is = done.1.input_is; output = done.1.output_is; part = done.2; counted = λ _. stands.counted ∙ ap length (sym done.3); unput = λ clash. cc }
run_ends ends.InputFault program world n limit seen bytes c d i j before g h stands lt turned =
    let same : n ≡ (n + 1) - 1 = omega arith in
    let core = (run program n world).core in
    let at : AsksAt program world (n + 1) = asks_next (insn_machine program) (run_of world) n core (λ byte. given byte (instruction_step program core).core) stands.going refl (asks_so program core turned.asks) in
    let none : (run program (n + 1) world).output ≡ (run program n world).output = ask_puts_none (insn_machine program) (run_of world) (n + 1) at ∙ ap (λ k. (run program k world).output) (sym same) in
    record {
      end = at;
      core_is = turned.core_is ∙ ap (λ k. (instruction_step program (run program k world).core).core) same;
      input_is = ap (λ k. (run program k world).input) (sym same) ∙ turned.input_is;
      output = let P : Bytes → Type 0 = λ b. Gained before h b in subst P (sym none) turned.output_is;
      part = part_of program world n limit before h (omega arith) turned.output_is;
      counted = λ _. stands.counted ∙ ap length (sym none);
      unput = λ clash. cc;
    }
run_ends ends.OutputFault program world n limit seen bytes c d i j before g h stands lt turned =
    let core = (run program n world).core in
    let put : GainedPart before h (run program (n + 1) world).output = let P : World → Type 0 = λ w. GainedPart before h w.output in subst P (sym (run_more program n world)) turned.output_is in
    record {
      end = puts_next (insn_machine program) (run_of world) n core (turned.byte ∷ []) (instruction_step program core).core stands.going refl (puts_so program core turned.byte turned.puts);
      core_is = turned.core_is ∙ ap (λ w. w.core) (sym (run_more program n world));
      input_is = ap (λ w. w.input) (run_more program n world) ∙ turned.input_is;
      output = put;
      part = part_longer before h _ _ put (outputs_grow program (n + 1) limit world (omega arith));
      counted = λ other. absurd (other refl);
      unput = λ _. since_read program world n (turned.byte) before h turned.puts turned.output_is turned.behind;
    }
run_ends ends.Spent program world n limit seen bytes c d i j before g h stands lt turned = absurd turned
run_ends ends.TooBig program world n limit seen bytes c d i j before g h stands lt turned = absurd turned
run_ends ends.Stuck program world n limit seen bytes c d i j before g h stands lt turned = absurd turned
run_ends ends.Gone program world n limit seen bytes c d i j before g h stands lt turned = absurd turned

-- the run made all its instructions
run_spent : (program : Program) (world : World) (n limit : ℕ) (seen : List Fetched) (bytes : ℕ) (c : Core) (i : Bytes) (before g : Option Bytes) → n ≡ limit → Stands program world n seen bytes c i before g
    → RunsOn program world limit (record { end = ends.Spent; steps = limit; bytes = bytes }) c i before g
run_spent program world n limit seen bytes c i before g same stands =
    let P : ℕ → Type 0 = λ k. Stands program world k seen bytes c i before g in
    let there = subst P same stands in
    record {
      end = record { all = refl; going = record { below = λ k lt. there.going k (omega arith); here = there.going limit (omega arith) } };
      core_is = there.shows.core_is;
      input_is = there.shows.input_is;
      output = there.shows.output_is;
      part = part_of program world limit limit before g (omega arith) there.shows.output_is;
      counted = λ _. there.counted;
      unput = λ clash. cc;
    }

-- a run on what a source gave and what is left there is the run of the source
watched_to : (program : Program) (start : Core) (limit : ℕ) (done : MachineRun) (after : Core) (given : Bytes) (left left_now before now : Option Bytes) (room : ℕ) (held held_now seen : List Fetched)
    → All (λ byte. byte < 256) given → Gave left left_now given → held_now ≡ keep_last room (held ++ seen) → seen ≡ fetches program (going_world start (given ++ unwrap_or left_now [])) done.steps
    → RunsOn program (going_world start (given ++ unwrap_or left_now [])) limit done after (unwrap_or left_now []) before now
    → Watched program start limit done after left left_now before now room held held_now
watched_to program start limit done after given left None before now room held held_now seen small gave kept fetched on = record {
  runs = record {
    fed = given ++ [];
    told = λ bytes is. absurd (let none : Some bytes ≡ None = sym is ∙ gave in cc);
    bytes = λ _. All-append (λ byte. byte < 256) given [] small (All-nil (λ byte. byte < 256));
    end = on.end;
    core_is = on.core_is;
    rest = ap (λ o. option_map (λ _. (run program (taken_after done.end done.steps) (going_world start (given ++ []))).input) o) (sym gave);
    output = on.output;
    part = on.part;
    counted = on.counted;
    unput = on.unput;
  };
  watched = kept ∙ ap (λ l. keep_last room (held ++ l)) fetched;
}
watched_to program start limit done after given left (Some rest) before now room held held_now seen small gave kept fetched on = record {
  runs = record {
    fed = given ++ rest;
    told = λ bytes is. let same : Some (given ++ rest) ≡ Some bytes = sym gave ∙ is in cc;
    bytes = λ all. all (given ++ rest) gave;
    end = on.end;
    core_is = on.core_is;
    rest = ap (λ b. Some b) (sym on.input_is) ∙ ap (λ o. option_map (λ _. (run program (taken_after done.end done.steps) (going_world start (given ++ rest))).input) o) (sym gave);
    output = on.output;
    part = on.part;
    counted = on.counted;
    unput = on.unput;
  };
  watched = kept ∙ ap (λ l. keep_last room (held ++ l)) fetched;
}

-- the run ended by its instruction number n + 1
pub watched_ends : (end : Ending) (program : Program) (start : Core) (n limit : ℕ) (seen : List Fetched) (bytes : ℕ) (c d : Core) (left l m : Option Bytes) (o p : Bool) (before g h : Option Bytes) (room : ℕ) (held held_now : List Fetched)
    → Reached program start n seen bytes c left l o before g → n < limit → Turned (Some end) program c d l m o p g h → held_now ≡ keep_last room (held ++ (seen ++ option_to_list (fetched_at program c)))
    → Watched program start limit (record { end = end; steps = n + 1; bytes = bytes }) d left m before h room held held_now
watched_ends end program start n limit seen bytes c d left l m o p before g h room held held_now reached lt turned kept =
    let more = unwrap_or m [] in
    let given = reached.given ++ turned.bytes in
    let at = turned_at (Some end) program start n seen bytes c d left l m o p before g h reached turned more (rest_none m p turned.drew.at_end) in
    watched_to program start limit (record { end = end; steps = n + 1; bytes = bytes }) d given left m before h room held held_now (seen ++ option_to_list (fetched_at program c))
    (All-append (λ byte. byte < 256) reached.given turned.bytes reached.small turned.small) (gave_more left l m reached.given turned.bytes reached.gave turned.drew.gave) kept
    (seen_more program (going_world start (given ++ more)) n seen bytes c (turned.bytes ++ more) before g at.0)
    (run_ends end program (going_world start (given ++ more)) n limit seen bytes c d (turned.bytes ++ more) more before g h at.0 lt at.1)

-- the run made all its instructions
pub watched_spent : (program : Program) (start : Core) (n limit : ℕ) (seen : List Fetched) (bytes : ℕ) (c : Core) (left l : Option Bytes) (o : Bool) (before g : Option Bytes) (room : ℕ) (held held_now : List Fetched)
    → n ≡ limit → Reached program start n seen bytes c left l o before g → held_now ≡ keep_last room (held ++ seen)
    → Watched program start limit (record { end = ends.Spent; steps = limit; bytes = bytes }) c left l before g room held held_now
watched_spent program start n limit seen bytes c left l o before g room held held_now same reached kept =
    let more = unwrap_or l [] in
    let stands = reached.stands more (rest_none l o reached.at_end) in
    watched_to program start limit (record { end = ends.Spent; steps = limit; bytes = bytes }) c reached.given left l before g room held held_now seen reached.small reached.gave kept
    (stands.fetched ∙ ap (λ k. fetches program (going_world start (reached.given ++ more)) k) same)
    (run_spent program (going_world start (reached.given ++ more)) n limit seen bytes c more before g same stands)
