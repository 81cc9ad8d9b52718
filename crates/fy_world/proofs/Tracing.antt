-- The last words of a run, line by line.
use Rattle.std.proofs.Common.{◌≡◌, ℕ, zero, suc, ◌+◌, ◌-◌, ◌/◌, ◌%◌, ◌<◌, ◌≤◌, Bool, true, false, not, if◌then◌else◌, List, [], ◌∷◌, ◌++◌, length, take, drop, map, sym, ap, ◌∙◌, refl, subst, arith, append_assoc, Some, None, inl, inr, All, nat_eq, nat_lt}
use Rattle.std.proofs.lemmas.List.{append-nil, take-append-le, take_all}
use Rattle.std.proofs.lemmas.Bool.{cases_lt}
use Rattle.std.proofs.lemmas.Option.{slice_get_past, get_or_from_slice_get}
use Rattle.std.proofs.Math.Seq.{drop-append_seam, take-append_seam, take-length}
use Rattle.std.proofs.lemmas.List.Elements.{All-nil, All-append, All-drop, All-cons, All-head}
use Rattle.std.specs.Prelude.{slice_get, slice_index_or}
use Rattle.std.specs.Option.{option_map, option_to_list}
use Rattle.std.specs.declared.option.Option.{Option}
use Rattle.std.specs.declared.result.Result.{Result}
use Rattle.std.specs.declared.result.Result.TheVariants.{Ok, Err}
use Rattle.circular_buffer.specs.Buffer.{Buffer, buffer, keep_last}
use Rattle.std.specs.Prelude.{◌⊎◌, min, OnOk, OnErr, IfErr}
use Rattle.fy_base.specs.Outside.{Bytes, appended, GainedPart}
use Rattle.rv_insn.specs.declared.instructions.Insn.{Insn}
use Rattle.rv_insn.specs.Encoding.{IsReadingOf}
use Rattle.rv_insn.specs.Program.{Program, AreRead, code_start}
use Rattle.rv_insn.specs.Step.{Core}
use Rattle.rv_machine.specs.Run.{World, run}
use Rattle.rv_machine.specs.Fetch.{word_at, fetches}
use Rattle.rv_machine.specs.declared.watch.Fetched.{Fetched}
use Rattle.rv_machine.proofs.Watching.{fetches_more}
use Rattle.fy_world.specs.World.{Contents}
use Rattle.fy_world.specs.Note.{ended_lines}
use Rattle.fy_world.specs.Shown.{word_text, insn_at, shown}
use Rattle.fy_world.specs.Working.{AreFetched, ToldPart, TellsLines}
use Rattle.fy_world.specs.declared.world.Stop.{Stop}
use Rattle.fy_world.specs.declared.world.Stop.TheVariants.{Notes, Memory}
use Rattle.fy_world.proofs.Contents.{appended-appended, appended-nil}
use Rattle.fy_world.proofs.Lines.{ended-append}

-- ---- a word's instruction

-- a word has one reading
pub one_reading : (word : ℕ) (a b : Option Insn) → IsReadingOf word a → IsReadingOf word b → a ≡ b
one_reading word None None r s = refl
one_reading word None (Some i) r s = r.complete i s.sound
one_reading word (Some i) b r s = sym (s.complete i r.sound)

word_by : (b c : Bool) (found : Option ℕ) (word : ℕ) → (if b then None else (if c then None else found)) ≡ Some word → found ≡ Some word
word_by true c found word is = absurd (cc)
word_by false true found word is = absurd (cc)
word_by false false found word is = is

word_of : (program : Program) (address word : ℕ) → word_at program address ≡ Some word → slice_get program.words ((address - code_start) / 4) ≡ Some word
unfolding word_at
word_of program address word is = word_by (not (nat_eq (address % 4) 0)) (nat_lt address code_start) (slice_get program.words ((address - code_start) / 4)) word is

-- what stands at a place is among the first ones
within : (words : List ℕ) (k word : ℕ) → slice_get words k ≡ Some word → k < length words
within words k word is = elim (cases_lt k (length words)) [
  | inl less ↦ less
  | inr past ↦ let none : slice_get words k ≡ None = slice_get_past words k (omega arith) in absurd (let clash : None ≡ Some word = sym none ∙ is in cc)
]

-- the word at an address is that of the instruction there
pub insn_by : (program : Program) (k word : ℕ) (insn : Option Insn) → AreRead program.words program.instructions → slice_get program.words k ≡ Some word → IsReadingOf word insn → insn ≡ slice_index_or program.instructions k None
insn_by program k word insn read there reading =
    let lt = within program.words k word there in
    let same = read.same_length in
    let R : ℕ → Type 0 = λ w. IsReadingOf w (slice_index_or program.instructions k None) in
    one_reading word insn _ reading (subst R (get_or_from_slice_get program.words k word 0 there) (read.each k (omega arith)))

insn_there : (program : Program) (address word : ℕ) (insn : Option Insn) → AreRead program.words program.instructions → word_at program address ≡ Some word → IsReadingOf word insn → insn ≡ insn_at program address
insn_there program address word insn read there reading = insn_by program ((address - code_start) / 4) word insn read (word_of program address word there) reading

pub line_is : (program : Program) (fetched : Fetched) (insn : Option Insn) → AreRead program.words program.instructions → word_at program fetched.pc ≡ Some fetched.word → IsReadingOf fetched.word insn
    → word_text fetched insn ≡ shown program fetched
line_is program fetched insn read there reading = ap (λ i. word_text fetched i) (insn_there program fetched.pc fetched.word insn read there reading)

-- ---- the words that a run fetches

abbrev IsThere : Program → Fetched → Type 0
IsThere program fetched = word_at program fetched.pc ≡ Some fetched.word

fetched_there : (program : Program) (core : Core) (word : Option ℕ) → word_at program core.pc ≡ word → All (IsThere program) (option_to_list (option_map (λ w. record { pc = core.pc; word = w }) word))
fetched_there program core None is = All-nil (IsThere program)
fetched_there program core (Some word) is = All-cons (IsThere program) (record { pc = core.pc; word = word }) [] is (All-nil (IsThere program))

all_there : (program : Program) (world : World) (n : ℕ) → All (IsThere program) (fetches program world n)
all_there program world zero = All-nil (IsThere program)
all_there program world (suc n) =
    let P : List Fetched → Type 0 = All (IsThere program) in
    let same : suc n ≡ n + 1 = omega arith in
    subst P (sym (ap (λ k. fetches program world k) same ∙ fetches_more program world n))
    (All-append (IsThere program) (fetches program world n) _ (all_there program world n) (fetched_there program (run program n world).core _ refl))

pub are_fetched : (program : Program) (world : World) (n count : ℕ) → AreRead program.words program.instructions → AreFetched program (keep_last count (fetches program world n))
are_fetched program world n count read = record { read = read; each = All-drop (IsThere program) _ (fetches program world n) (all_there program world n) }

-- ---- line by line

-- the lines of the words so far were told, and these are left
pub record ToldSoFar (program : Program) (all rest : List Fetched) (before now : Contents) : Type 0 where
  so_far : List Fetched
  are : so_far ++ rest ≡ all
  told : now ≡ record before { notes = appended before.notes (ended_lines (map (shown program) so_far)) }

pub told_first : (program : Program) (all : List Fetched) (before : Contents) → ToldSoFar program all all before before
told_first program all before = record { so_far = []; are = refl; told = ap (λ n. record before { notes = n }) (sym (appended-nil before.notes)) }

rest_is : (rest : List Fetched) (fetched : Fetched) → slice_get rest 0 ≡ Some fetched → rest ≡ fetched ∷ drop 1 rest
rest_is [] fetched is = absurd (cc)
rest_is (f ∷ fs) fetched is = let same : f ≡ fetched = cc in ap (λ x. x ∷ fs) same

pub none_left : (rest : List Fetched) → slice_get rest 0 ≡ None → rest ≡ []
none_left [] is = refl
none_left (f ∷ fs) is = absurd (cc)

-- the next word is one that was fetched
next_there : (program : Program) (so_far rest all : List Fetched) (fetched : Fetched) → so_far ++ rest ≡ all → rest ≡ fetched ∷ drop 1 rest → All (IsThere program) all → IsThere program fetched
next_there program so_far rest all fetched are is each =
    let Q : List Fetched → Type 0 = All (IsThere program) in
    let split : all ≡ so_far ++ fetched ∷ drop 1 rest = sym are ∙ ap (λ r. so_far ++ r) is in
    let here : drop (length so_far) (so_far ++ fetched ∷ drop 1 rest) ≡ fetched ∷ drop 1 rest = drop-append_seam so_far (fetched ∷ drop 1 rest) in
    let tail : Q (fetched ∷ drop 1 rest) = subst Q here (All-drop (IsThere program) (length so_far) _ (subst Q split each)) in
    All-head (IsThere program) fetched (drop 1 rest) tail

map-append : (f : Fetched → Bytes) (xs ys : List Fetched) → map f (xs ++ ys) ≡ map f xs ++ map f ys
map-append f [] ys = refl
map-append f (x ∷ xs) ys = ap (λ r. f x ∷ r) (map-append f xs ys)

pub told_next : (program : Program) (all rest next : List Fetched) (fetched : Fetched) (line : Bytes) (insn : Option Insn) (b c d : Contents) → AreFetched program all → Some fetched ≡ slice_get rest 0 → next ≡ drop 1 rest
    → IsReadingOf fetched.word insn → line ≡ word_text fetched insn ++ 10 ∷ [] → ToldSoFar program all rest b c → d ≡ record c { notes = appended c.notes line } → ToldSoFar program all next b d
told_next program all rest next fetched line insn b c d fetched_all first next_is reading line_of t put =
    let is = rest_is rest fetched (sym first) in
    let there = next_there program t.so_far rest all fetched t.are is fetched_all.each in
    let f = shown program in
    let lines = map f t.so_far in
    let text : line ≡ f fetched ++ 10 ∷ [] = line_of ∙ ap (λ x. x ++ 10 ∷ []) (line_is program fetched insn fetched_all.read there reading) in
    let more : ended_lines lines ++ line ≡ ended_lines (map f (t.so_far ++ fetched ∷ [])) =
    ap (λ l. ended_lines lines ++ l) text ∙ sym (ended-append lines (f fetched ∷ [])) ∙ ap ended_lines (sym (map-append f t.so_far (fetched ∷ []))) in
    record {
      so_far = t.so_far ++ fetched ∷ [];
      are = append_assoc t.so_far (fetched ∷ []) next ∙ ap (λ r. t.so_far ++ fetched ∷ r) next_is ∙ ap (λ r. t.so_far ++ r) (sym is) ∙ t.are;
      told = put ∙ ap (λ (x : Contents). record x { notes = appended x.notes line }) t.told ∙ ap (λ n. record b { notes = n }) (appended-appended b.notes (ended_lines lines) line ∙ ap (λ l. appended b.notes l) more);
    }

pub told_all : (program : Program) (all rest : List Fetched) (b c : Contents) → rest ≡ [] → ToldSoFar program all rest b c → c ≡ record b { notes = appended b.notes (ended_lines (map (shown program) all)) }
told_all program all rest b c none t =
    t.told ∙ ap (λ ws. record b { notes = appended b.notes (ended_lines (map (shown program) ws)) }) (sym (append-nil t.so_far) ∙ ap (λ r. t.so_far ++ r) (sym none) ∙ t.are)

lines_split : (program : Program) (so_far rest all : List Fetched) → so_far ++ rest ≡ all → ended_lines (map (shown program) all) ≡ ended_lines (map (shown program) so_far) ++ ended_lines (map (shown program) rest)
lines_split program so_far rest all are = ap (λ ws. ended_lines (map (shown program) ws)) (sym are) ∙ ap ended_lines (map-append (shown program) so_far rest) ∙ ended-append (map (shown program) so_far) (map (shown program) rest)

-- no more lines, since memory was wanting
pub told_short : (program : Program) (all rest : List Fetched) (b c : Contents) (stop : Stop) → ToldSoFar program all rest b c → ToldPart (map (shown program) all) b.notes c.notes stop
told_short program all rest b c stop t =
    let f = shown program in
    let lines = map f t.so_far in
    let gained : c.notes ≡ appended b.notes (ended_lines lines) = ap (λ (x : Contents). x.notes) t.told in
    let first : take (length lines) (map f all) ≡ lines = ap (λ ls. take (length lines) ls) (ap (map f) (sym t.are) ∙ map-append f t.so_far rest) ∙ take-append_seam lines (map f rest) in
    record {
      part = record { part = ended_lines lines; gained = gained; begins = record { rest = ended_lines (map f rest); is = lines_split program t.so_far rest all t.are } };
      whole = λ _. record { count = length lines; gained = gained ∙ ap (λ ls. appended b.notes (ended_lines ls)) (sym first) };
    }

-- a part of the next line was put
pub told_part : (program : Program) (all rest next : List Fetched) (fetched : Fetched) (line : Bytes) (insn : Option Insn) (b c d : Contents) (stop : Stop) → AreFetched program all → Some fetched ≡ slice_get rest 0
    → IsReadingOf fetched.word insn → line ≡ word_text fetched insn ++ 10 ∷ [] → ToldSoFar program all rest b c → GainedPart c.notes d.notes line → stop ≡ Notes → ToldPart (map (shown program) all) b.notes d.notes stop
told_part program all rest next fetched line insn b c d stop fetched_all first reading line_of t part stop_is =
    let is = rest_is rest fetched (sym first) in
    let there = next_there program t.so_far rest all fetched t.are is fetched_all.each in
    let f = shown program in
    let lines = map f t.so_far in
    let text : line ≡ f fetched ++ 10 ∷ [] = line_of ∙ ap (λ x. x ++ 10 ∷ []) (line_is program fetched insn fetched_all.read there reading) in
    let gained : c.notes ≡ appended b.notes (ended_lines lines) = ap (λ (x : Contents). x.notes) t.told in
    let split : ended_lines (map f all) ≡ ended_lines lines ++ (line ++ ended_lines (map f (drop 1 rest))) =
    lines_split program t.so_far rest all t.are ∙ ap (λ r. ended_lines lines ++ ended_lines (map f r)) is ∙ ap (λ l. ended_lines lines ++ l) (ended-append (f fetched ∷ []) (map f (drop 1 rest)))
    ∙ ap (λ l. ended_lines lines ++ (l ++ ended_lines (map f (drop 1 rest)))) (sym text) in
    record {
      part = record {
        part = ended_lines lines ++ part.part;
        gained = part.gained ∙ ap (λ n. appended n part.part) gained ∙ appended-appended b.notes (ended_lines lines) part.part;
        begins = record {
          rest = part.begins.rest ++ ended_lines (map f (drop 1 rest));
          is = split ∙ ap (λ l. ended_lines lines ++ (l ++ ended_lines (map f (drop 1 rest)))) part.begins.is
              ∙ ap (λ l. ended_lines lines ++ l) (append_assoc part.part part.begins.rest (ended_lines (map f (drop 1 rest))))
              ∙ sym (append_assoc (ended_lines lines) part.part _);
        };
      };
      whole = λ memory. let clash : Notes ≡ Memory = sym stop_is ∙ memory in cc;
    }

-- ---- lines, and then more lines

take_fewer : (n : ℕ) (xs : List Bytes) → take (min n (length xs)) xs ≡ take n xs
take_fewer n xs = elim (cases_lt n (length xs)) [
  | inl less ↦ let same : min n (length xs) ≡ n = omega arith in ap (λ k. take k xs) same
  | inr more ↦ let same : min n (length xs) ≡ length xs = omega arith in ap (λ k. take k xs) same ∙ take-length xs ∙ sym (take_all n xs (omega arith))
]

pub told_part_more : (A B : List Bytes) (before now : Option Bytes) (stop : Stop) → ToldPart A before now stop → ToldPart (A ++ B) before now stop
told_part_more A B before now stop t = record {
  part = record {
    part = t.part.part;
    gained = t.part.gained;
    begins = record {
      rest = t.part.begins.rest ++ ended_lines B;
      is = ended-append A B ∙ ap (λ l. l ++ ended_lines B) t.part.begins.is ∙ append_assoc t.part.part t.part.begins.rest (ended_lines B);
    };
  };
  whole = λ memory.
      let w = t.whole memory in
      let k = min w.count (length A) in
      let less : k ≤ length A = omega arith in
      let fewer : take k (A ++ B) ≡ take w.count A = take-append-le k A B less ∙ take_fewer w.count A in
      record { count = k; gained = w.gained ∙ ap (λ ls. appended before (ended_lines ls)) (sym fewer) };
}

-- the first lines were told, and then the others, or a part of them
pub told_both : (A B : List Bytes) (b c d : Contents) (result : Result (Unit {0}) Stop) → c ≡ record b { notes = appended b.notes (ended_lines A) } → OnOk result (d ≡ record c { notes = appended c.notes (ended_lines B) })
    → OnErr result (GainedPart c.notes d.notes (ended_lines B)) → IfErr result (λ stop. stop ≡ Notes) → TellsLines (A ++ B) b d result
told_both A B b c d (Ok u) first told part stop =
    told ∙ ap (λ (x : Contents). record x { notes = appended x.notes (ended_lines B) }) first
    ∙ ap (λ n. record b { notes = n }) (appended-appended b.notes (ended_lines A) (ended_lines B) ∙ ap (λ l. appended b.notes l) (sym (ended-append A B)))
told_both A B b c d (Err stop) first told part stop_is = record {
  part = record {
    part = ended_lines A ++ part.part;
    gained = part.gained ∙ ap (λ (x : Contents). appended x.notes part.part) first ∙ appended-appended b.notes (ended_lines A) part.part;
    begins = record {
      rest = part.begins.rest;
      is = ended-append A B ∙ ap (λ l. ended_lines A ++ l) part.begins.is ∙ sym (append_assoc (ended_lines A) part.part part.begins.rest);
    };
  };
  whole = λ memory. absurd (let clash : Notes ≡ Memory = sym stop_is ∙ memory in cc);
}

-- what only the notes stop, they or want of memory do
pub notes_alone : (result : Result (Unit {0}) Stop) → IfErr result (λ stop. stop ≡ Notes) → IfErr result (λ stop. (stop ≡ Notes) ⊎ (stop ≡ Memory))
notes_alone (Ok done) stop = tt
notes_alone (Err other) stop = inl stop

-- the words of a trace that began empty
pub trace_is : (program : Program) (world : World) (n count : ℕ) (before : Buffer Fetched) (now : List Fetched) → before ≡ buffer [] count → now ≡ keep_last before.capacity (before.items ++ fetches program world n) → now ≡ keep_last count (fetches program world n)
trace_is program world n count before now empty watched = watched ∙ ap (λ (b : Buffer Fetched). keep_last b.capacity (b.items ++ fetches program world n)) empty
