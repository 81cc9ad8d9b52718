-- Listings, line by line.
use Rattle.std.proofs.Common.{◌≡◌, ◌≢◌, ℕ, suc, ◌+◌, ◌-◌, ◌*◌, ◌/◌, ◌<◌, ◌≤◌, List, [], ◌∷◌, ◌++◌, length, drop, get_or, map, sym, ap, ◌∙◌, refl, subst, arith, append_assoc, add-one, drop-cons, Some, None}
use Rattle.std.proofs.lemmas.List.{append-nil, drop_all}
use Rattle.std.proofs.lemmas.Option.{slice_get-get_or}
use Rattle.std.specs.Prelude.{slice_get, slice_index_or}
use Rattle.std.specs.declared.option.Option.{Option}
use Rattle.std.specs.declared.result.Result.TheVariants.{Ok, Err}
use Rattle.fy_base.specs.Outside.{Bytes, appended, GainedPart}
use Rattle.fy_image.specs.declared.image.Image.{Image}
use Rattle.rv_insn.specs.declared.instructions.Insn.{Insn}
use Rattle.rv_insn.specs.Encoding.{IsReadingOf}
use Rattle.rv_insn.specs.Program.{Program, code_start}
use Rattle.rv_machine.specs.Start.{IsProgramOf}
use Rattle.fy_world.specs.World.{Contents}
use Rattle.fy_world.specs.Note.{ended_lines}
use Rattle.fy_world.specs.Shown.{word_text, insn_at, shown, placed_from, listing}
use Rattle.fy_world.specs.Did.{Did}
use Rattle.fy_world.specs.Working.{listed}
use Rattle.fy_world.specs.declared.world.Stop.{Stop}
use Rattle.fy_world.specs.declared.world.Stop.TheVariants.{Keep, Input, Output, Notes, Memory}
use Rattle.fy_world.proofs.Contents.{appended-appended, appended-nil, nothing}
use Rattle.fy_world.proofs.Lines.{ended_some}
use Rattle.fy_world.proofs.Tracing.{insn_by}

-- the lines of the words from number k on
abbrev lines_from : Program → ℕ → List Bytes
lines_from program k = map (shown program) (placed_from k (drop k program.words))

-- the lines of the words before number k were put
pub record ListedTo (program : Program) (k : ℕ) (before now : Contents) : Type 0 where
  so_far : Bytes
  whole : so_far ++ ended_lines (lines_from program k) ≡ ended_lines (listing program)
  put : now ≡ record before { output = appended before.output so_far }

pub listed_first : (program : Program) (before : Contents) → ListedTo program 0 before before
listed_first program before = record { so_far = []; whole = refl; put = ap (λ o. record before { output = o }) (sym (appended-nil before.output)) }

-- the lines from a word on are its line and the others
lines_here : (program : Program) (k word : ℕ) → k < length program.words → word ≡ get_or program.words k word
    → ended_lines (lines_from program k) ≡ (shown program (record { pc = code_start + 4 * k; word = word }) ++ 10 ∷ []) ++ ended_lines (lines_from program (k + 1))
lines_here program k word lt is =
    let here : drop k program.words ≡ word ∷ drop (k + 1) program.words = rw (add-one k) (drop-cons program.words k word lt ∙ ap (λ w. w ∷ drop (suc k) program.words) (sym is)) in
    ap (λ ws. ended_lines (map (shown program) (placed_from k ws))) here ∙ sym (append_assoc (shown program (record { pc = code_start + 4 * k; word = word })) (10 ∷ []) (ended_lines (lines_from program (k + 1))))

line_here : (image : Image) (program : Program) (k word : ℕ) (insn : Option Insn) (line : Bytes) → IsProgramOf image program → k < length program.words → word ≡ get_or program.words k word → IsReadingOf word insn
    → line ≡ word_text (record { pc = code_start + 4 * k; word = word }) insn ++ 10 ∷ [] → line ≡ shown program (record { pc = code_start + 4 * k; word = word }) ++ 10 ∷ []
line_here image program k word insn line of lt is reading line_of =
    let there : slice_get program.words k ≡ Some word = slice_get-get_or program.words k word lt ∙ ap (λ w. Some w) (sym is) in
    let number : (code_start + 4 * k - code_start) / 4 ≡ k = omega arith in
    let same : insn ≡ insn_at program (code_start + 4 * k) = insn_by program k word insn of.read there reading ∙ ap (λ j. slice_index_or program.instructions j None) (sym number) in
    line_of ∙ ap (λ i. word_text (record { pc = code_start + 4 * k; word = word }) i ++ 10 ∷ []) same

pub listed_next : (image : Image) (program : Program) (k word : ℕ) (insn : Option Insn) (line : Bytes) (b c d : Contents) → IsProgramOf image program → k < length program.words → word ≡ get_or program.words k word → IsReadingOf word insn
    → line ≡ word_text (record { pc = code_start + 4 * k; word = word }) insn ++ 10 ∷ [] → ListedTo program k b c → d ≡ record c { output = appended c.output line } → ListedTo program (k + 1) b d
listed_next image program k word insn line b c d of lt is reading line_of t put =
    let text = line_here image program k word insn line of lt is reading line_of in
    let rest = ended_lines (lines_from program (k + 1)) in
    record {
      so_far = t.so_far ++ line;
      whole = append_assoc t.so_far line rest ∙ ap (λ l. t.so_far ++ (l ++ rest)) text ∙ ap (λ l. t.so_far ++ l) (sym (lines_here program k word lt is)) ∙ t.whole;
      put = put ∙ ap (λ (x : Contents). record x { output = appended x.output line }) t.put ∙ ap (λ o. record b { output = o }) (appended-appended b.output t.so_far line);
    }

pub listed_all : (program : Program) (k : ℕ) (b c : Contents) (status : ℕ) → length program.words ≤ k → status ≡ 0 → ListedTo program k b c → Did (listed program) b c (Ok status)
listed_all program k b c status le none_is t =
    let none : drop k program.words ≡ [] = drop_all k program.words le in
    let all : t.so_far ≡ ended_lines (listing program) = sym (append-nil t.so_far) ∙ ap (λ ws. t.so_far ++ ended_lines (map (shown program) (placed_from k ws))) (sym none) ∙ t.whole in (
      none_is,
      t.put ∙ (λ i. record { files = b.files; input = b.input; output = appended b.output (all i); notes = sym (appended-nil b.notes) i }),
    )

-- the listing of some words is some
some_listed : (program : Program) (k : ℕ) → k < length program.words → ended_lines (listing program) ≢ []
some_listed program k lt = of program.words lt
  where
    of : (words : List ℕ) → k < length words → ended_lines (map (shown program) (placed_from 0 words)) ≢ []
    of [] lt = absurd (omega arith)
    of (word ∷ words) lt = ended_some (shown program (record { pc = code_start + 4 * 0; word = word })) _

-- a part of the listing was put, and nothing else was done
part_listed : (program : Program) (b d : Contents) (stop : Stop) → d ≡ record b { output = d.output } → stop ≢ Input → stop ≢ Keep → stop ≢ Notes → (stop ≡ Output → ended_lines (listing program) ≢ []) → GainedPart b.output d.output (ended_lines (listing program)) → Did (listed program) b d (Err stop)
part_listed program b d stop rest no_input no_keep no_notes some part = record {
  files = ap (λ (x : Contents). x.files) rest;
  input = ap (λ (x : Contents). x.input) rest;
  output = part;
  notes = subst (λ n. GainedPart b.notes n []) (sym (ap (λ (x : Contents). x.notes) rest)) (nothing b.notes []);
  unchanged = λ _. ap (λ (x : Contents). x.files) rest;
  whole = λ _. record { count = 0; gained = ap (λ (x : Contents). x.notes) rest ∙ sym (appended-nil b.notes) };
  unkept = λ keep. absurd (no_keep keep);
  unread = λ input. absurd (no_input input);
  unput = λ output. record { some = some output; alone = rest ∙ ap (λ n. record b { output = d.output; notes = n }) (sym (appended-nil b.notes)) };
  untold = λ notes. absurd (no_notes notes);
  due_kept = λ keep. absurd (no_keep keep);
}

pub listed_short : (program : Program) (k : ℕ) (b c : Contents) (stop : Stop) → stop ≡ Memory → ListedTo program k b c → Did (listed program) b c (Err stop)
listed_short program k b c stop memory t =
    let gained = ap (λ (x : Contents). x.output) t.put in
    part_listed program b c stop (t.put ∙ ap (λ o. record b { output = o }) (sym gained)) (λ input. let clash : Memory ≡ Input = sym memory ∙ input in cc) (λ keep. let clash : Memory ≡ Keep = sym memory ∙ keep in cc)
    (λ notes. let clash : Memory ≡ Notes = sym memory ∙ notes in cc) (λ output. absurd (let clash : Memory ≡ Output = sym memory ∙ output in cc))
    (record { part = t.so_far; gained = gained; begins = record { rest = ended_lines (lines_from program k); is = sym t.whole } })

pub listed_part : (image : Image) (program : Program) (k word : ℕ) (insn : Option Insn) (line : Bytes) (b c d : Contents) (stop : Stop) → IsProgramOf image program → k < length program.words → word ≡ get_or program.words k word → IsReadingOf word insn
    → line ≡ word_text (record { pc = code_start + 4 * k; word = word }) insn ++ 10 ∷ [] → ListedTo program k b c → d ≡ record c { output = d.output } → GainedPart c.output d.output line → stop ≡ Output → Did (listed program) b d (Err stop)
listed_part image program k word insn line b c d stop of lt is reading line_of t rest part stop_is =
    let text = line_here image program k word insn line of lt is reading line_of in
    let more = ended_lines (lines_from program (k + 1)) in
    let gained = ap (λ (x : Contents). x.output) t.put in
    part_listed program b d stop (rest ∙ ap (λ (x : Contents). record x { output = d.output }) t.put) (λ input. let clash : Output ≡ Input = sym stop_is ∙ input in cc) (λ keep. let clash : Output ≡ Keep = sym stop_is ∙ keep in cc)
    (λ notes. let clash : Output ≡ Notes = sym stop_is ∙ notes in cc) (λ _. some_listed program k lt)
    (record {
      part = t.so_far ++ part.part;
      gained = part.gained ∙ ap (λ o. appended o part.part) gained ∙ appended-appended b.output t.so_far part.part;
      begins = record {
        rest = part.begins.rest ++ more;
        is = sym t.whole ∙ ap (λ l. t.so_far ++ l) (lines_here program k word lt is) ∙ ap (λ l. t.so_far ++ (l ++ more)) (sym text) ∙ ap (λ l. t.so_far ++ (l ++ more)) part.begins.is
            ∙ ap (λ l. t.so_far ++ l) (append_assoc part.part part.begins.rest more) ∙ sym (append_assoc t.so_far part.part (part.begins.rest ++ more));
      };
    })

-- what the words of an image are, they are of its program
pub at_words : (words : List ℕ) (image : Image) (program : Program) (k word : ℕ) → words ≡ image.code → IsProgramOf image program → k < length words → word ≡ get_or words k word → (k < length program.words) × (word ≡ get_or program.words k word)
at_words words image program k word are of lt is =
    let same = are ∙ sym of.words_are in
    let P : List ℕ → Type 0 = λ ws. (k < length ws) × (word ≡ get_or ws k word) in
    subst P same (lt, is)

-- the line of a word at its address
pub line_at : (pc k word : ℕ) (insn : Option Insn) (line : Bytes) → pc ≡ code_start + 4 * k → line ≡ word_text (record { pc = pc; word = word }) insn ++ 10 ∷ [] → line ≡ word_text (record { pc = code_start + 4 * k; word = word }) insn ++ 10 ∷ []
line_at pc k word insn line at is = is ∙ ap (λ pc. word_text (record { pc = pc; word = word }) insn ++ 10 ∷ []) at
