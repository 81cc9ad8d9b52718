-- From what a command did and how the call concluded to its answer.
use Rattle.std.proofs.Common.{◌≡◌, ◌≢◌, ℕ, ◌≤◌, [], ◌++◌, sym, ap, ◌∙◌, refl, subst, inl, inr, take, arith, append_assoc, Some, None}
use Rattle.std.proofs.lemmas.List.{append-nil}
use Rattle.std.specs.declared.option.Option.{Option}
use Rattle.std.specs.declared.result.Result.{Result}
use Rattle.std.specs.declared.result.Result.TheVariants.{Ok, Err}
use Rattle.fy_base.specs.Outside.{Bytes, FileCalls, Folder, appended, GainedPart, Rose}
use Rattle.fy_world.specs.World.{Contents, Counts, Later}
use Rattle.fy_world.specs.Note.{ended_lines}
use Rattle.fy_world.specs.declared.world.Stop.{Stop}
use Rattle.fy_world.specs.declared.world.Stop.TheVariants.{Fetch, Keep, Input, Output, Notes, Memory}
use Rattle.fy_words.specs.Order.{Order}
use Rattle.fy_world.specs.Runs.{Due}
use Rattle.fy_world.specs.Did.{FilesPart, InputPart, Part}
use Rattle.fy_tool.specs.Due.{Sources}
use Rattle.fy_tool.specs.Fetched.{IsUnfetched}
use Rattle.fy_tool.specs.Answers.{Called, MayWant, Serves, Concludes, last_line, IsLastLine, all_reads_of, all_keeps_of, Answers}
use Rattle.fy_world.proofs.Contents.{gained_both}
use Rattle.fy_world.proofs.Stopping.{unkept_told, unread_told, unput_told}
use Rattle.fy_world.proofs.Counting.{later_more, later_counted, caused_later, others_later}

-- the last note touches nothing else
part_files : (due : Due) (b c d : Contents) (stop : Stop) → d ≡ record c { notes = d.notes } → Part due b c stop → FilesPart due.kept stop b.files d.files
part_files due b c d stop e p = subst (λ f. FilesPart due.kept stop b.files f) (sym (ap (λ (x : Contents). x.files) e)) p.files

part_output : (due : Due) (b c d : Contents) (stop : Stop) → d ≡ record c { notes = d.notes } → Part due b c stop → GainedPart b.output d.output due.output
part_output due b c d stop e p = subst (λ o. GainedPart b.output o due.output) (sym (ap (λ (x : Contents). x.output) e)) p.output

part_input : (due : Due) (b c d : Contents) (stop : Stop) → d ≡ record c { notes = d.notes } → Part due b c stop → InputPart due.running b.input d.input
part_input due b c d stop e p = subst (λ i. InputPart due.running b.input i) (sym (ap (λ (x : Contents). x.input) e)) p.input

-- and where memory was wanting, the files are as before
lost_files : (due : Due) (b c d : Contents) → d ≡ record c { notes = d.notes } → Part due b c Memory → FilesPart due.kept Notes b.files d.files
lost_files due b c d e p = files_same due.kept Notes b.files d.files (ap (λ (x : Contents). x.files) e ∙ p.unchanged refl)
  where
    files_same : (kept : Option (Bytes × Bytes)) (stop : Stop) (before now : Option Folder) → now ≡ before → FilesPart kept stop before now
    files_same None stop before now same = same
    files_same (Some kept) stop before now same = inl same

rose_earlier : (a b c : ℕ) → a ≤ b → Rose b c → Rose a c
rose_earlier a b c h r = omega arith

-- what is known of the last line since the call began
last_line_of : (bytes : Bytes) (stop : Stop) (k k1 k2 : Counts) → Later k k1 → IsLastLine bytes stop k1 k2 → IsLastLine bytes stop k k2
last_line_of bytes stop k k1 k2 l (inl all) = inl all
last_line_of bytes stop k k1 k2 l (inr (part, rose)) = inr (part, rose_earlier _ _ _ l.notes rose)

abbrev failed : Stop → Result ℕ Stop
failed stop = Err stop

abbrev done : ℕ → Result ℕ Stop
done code = Ok code

-- a count that rose did so up to each later one
rose_later : (a b c : ℕ) → b ≤ c → Rose a b → Rose a c
rose_later a b c h r = omega arith

-- what wasn't fetched was due also after the last line
unfetched_later : (order : Option Order) (sources : Sources) (due : Due) (k k1 k2 : Counts) → Later k1 k2 → IsUnfetched order sources due k k1 → IsUnfetched order sources due k k2
unfetched_later None sources due k k1 k2 l was = was
unfetched_later (Some order) sources due k k1 k2 l was =
    let last = was.1 in
    (was.0, record { first = last.first; name = last.name; are = last.are; rose = rose_later (k.fetches last.name) (k1.fetches last.name) (k2.fetches last.name) (l.fetches last.name) last.rose })

-- the last line fetches and keeps nothing
called_later : (order : Option Order) (sources : Sources) (due : Due) (Wanting More : Type 0) (e e1 e2 : FileCalls) → e2 ≡ e1 → (Wanting → ¬ More → ⊥) → Called order sources due Wanting e e1 → Called order sources due More e e2
called_later order sources due Wanting More e e1 e2 same wants was =
    subst (λ (x : FileCalls). Called order sources due More e x) (sym same) (record { names = was.names; are = was.are; called = was.called; unkept = λ none not. was.unkept none (λ wanting. wants wanting not) })

-- a stop that isn't want of memory
answer_outside : (order : Option Order) (b c d : Contents) (k k1 k2 : Counts) (e e1 e2 : FileCalls) (stop : Stop) (status : ℕ) → stop ≢ Memory → Serves order b c k k1 e e1 (Err stop) → Concludes (Err stop) c d k1 k2 status → e2 ≡ e1 → Answers order b d k k2 e e2 status
answer_outside order b c d k k1 k2 e e1 e2 stop status other w end same =
    let last = end.outside stop refl other in
    record {
      due = w.due;
      explained = w.explained;
      stop = stop;
      caused = λ _. (other, caused_later (all_reads_of order w.explained.sources) (all_keeps_of order) stop k k1 k2 end.later w.counted.caused);
      called = called_later order w.explained.sources w.due (failed stop ≡ failed Memory) (MayWant status stop) e e1 e2 same (λ wanting _. other (let is : failed stop ≡ failed Memory = wanting in cc)) w.called;
      fetched = λ _ is. unfetched_later order w.explained.sources w.due k k1 k2 end.later (w.fetched (ap failed is));
      others = λ _. others_later stop k k1 k2 end.others w.counted.others;
      quiet = λ not_seven. absurd (not_seven last.0);
      due_done = λ not_seven _. absurd (not_seven last.0);
      outside = λ _.
          let p = w.did in
          record {
            files = part_files w.due b c d stop end.rest p;
            input = part_input w.due b c d stop end.rest p;
            output = part_output w.due b c d stop end.rest p;
            notes = record {
              first = p.notes.part;
              second = last.1.bytes;
              gained = gained_both b.notes c.notes d.notes p.notes.part last.1.bytes p.notes.gained last.1.gained;
              begins = inl p.notes.begins;
              ends = last_line_of last.1.bytes stop k k1 k2 (later_counted (all_reads_of order w.explained.sources) (all_keeps_of order) k k1 (failed stop) w.counted) last.1.is;
            };
            due_kept = p.due_kept;
            unkept = λ keep. unkept_told b c d last.1.bytes end.rest last.1.gained (p.unkept keep);
            unread = λ input. unread_told w.due.running w.due.kept b c d last.1.bytes end.rest last.1.gained (p.unread input);
            unput = λ output. unput_told w.due.running w.due b c d last.1.bytes end.rest last.1.gained (p.unput output);
          };
      untold = λ _ is. inl (w.did.untold is);
      memory = λ nine. absurd (let seven : status ≡ 7 = last.0 in omega arith);
      ready = λ _ nine. absurd (let seven : status ≡ 7 = last.0 in omega arith);
      never_less = later_more k k1 k2 (later_counted (all_reads_of order w.explained.sources) (all_keeps_of order) k k1 (failed stop) w.counted) end.later;
    }

-- a status of the command's own
answer_done : (order : Option Order) (b c d : Contents) (k k1 k2 : Counts) (e e1 e2 : FileCalls) (code status : ℕ) → Serves order b c k k1 e e1 (Ok code) → Concludes (Ok code) c d k1 k2 status → e2 ≡ e1 → Answers order b d k k2 e e2 status
answer_done order b c d k k1 k2 e e1 e2 code status w end same =
    let last = end.done code refl in
    record {
      due = w.due;
      explained = w.explained;
      stop = Notes;
      caused = λ seven. absurd (w.own.0 (sym last.0 ∙ seven));
      called = called_later order w.explained.sources w.due (done code ≡ failed Memory) (MayWant status Notes) e e1 e2 same (λ wanting _. let is : done code ≡ failed Memory = wanting in cc) w.called;
      fetched = λ seven. absurd (w.own.0 (sym last.0 ∙ seven));
      untold = λ seven. absurd (w.own.0 (sym last.0 ∙ seven));
      others = λ seven. absurd (w.own.0 (sym last.0 ∙ seven));
      quiet = λ _. last.2 ∙ w.counted;
      due_done = λ _ _. (last.0 ∙ w.did.0, end.rest ∙ ap (λ n. record { files = c.files; input = c.input; output = c.output; notes = n }) last.1 ∙ w.did.1);
      outside = λ seven. absurd (w.own.0 (sym last.0 ∙ seven));
      memory = λ nine. absurd (w.own.1 (sym last.0 ∙ nine));
      ready = λ _ nine. absurd (w.own.1 (sym last.0 ∙ nine));
      never_less = later_more k k1 k2 (later_counted (all_reads_of order w.explained.sources) (all_keeps_of order) k k1 (done code) w.counted) end.later;
    }

-- want of memory
answer_memory : (order : Option Order) (b c d : Contents) (k k1 k2 : Counts) (e e1 e2 : FileCalls) (status : ℕ) → Serves order b c k k1 e e1 (Err Memory) → Concludes (Err Memory) c d k1 k2 status → e2 ≡ e1 → Answers order b d k k2 e e2 status
answer_memory order b c d k k1 k2 e e1 e2 status w end same =
    record {
      due = w.due;
      explained = w.explained;
      stop = Notes;
      caused = λ seven. (λ clash. cc, rose_earlier _ _ _ w.counted.later.notes (end.lost refl seven).0);
      called = called_later order w.explained.sources w.due (failed Memory ≡ failed Memory) (MayWant status Notes) e e1 e2 same
          (λ _ not. let not_seven : status ≢ 7 = (λ seven. not (inr (seven, refl))) in not (inl (end.memory refl not_seven).0)) w.called;
      fetched = λ seven is. absurd cc;
      untold = λ seven _. inr (record {
        files = ap (λ (x : Contents). x.files) end.rest ∙ w.did.unchanged refl;
        ready = λ first. end.rest ∙ ap (λ (x : Contents). record x { notes = d.notes }) (w.ready first refl);
      });
      others = λ seven. others_later Notes k k1 k2 end.others (ap (λ (c : Counts). record c { notes = k1.notes }) w.counted.others);
      quiet = λ not_seven. (end.memory refl not_seven).2 ∙ w.counted.others;
      due_done = λ not_seven not_nine. absurd (not_nine (end.memory refl not_seven).0);
      outside = λ seven.
          let p = w.did in
          let lost = (end.lost refl seven).1 in
          let whole = p.whole refl in
          record {
            files = lost_files w.due b c d end.rest p;
            input = part_input w.due b c d Memory end.rest p;
            output = part_output w.due b c d Memory end.rest p;
            notes = record {
              first = ended_lines (take whole.count w.due.notes) ++ lost.part;
              second = [];
              gained = gained_both b.notes c.notes d.notes _ lost.part whole.gained lost.gained ∙ ap (λ t. appended b.notes t) (sym (append-nil _));
              begins = inr (
                whole.count,
                record {
                  rest = lost.begins.rest;
                  is = ap (λ t. ended_lines (take whole.count w.due.notes) ++ t) lost.begins.is ∙ sym (append_assoc _ lost.part lost.begins.rest);
                },
              );
              ends = inl refl;
            };
            due_kept = λ clash. absurd cc;
            unkept = λ clash. absurd cc;
            unread = λ clash. absurd cc;
            unput = λ clash. absurd cc;
          };
      memory = λ nine.
          let p = w.did in
          let not_seven : status ≢ 7 = (λ seven. omega arith) in
          let last = (end.memory refl not_seven).1 in
          let whole = p.whole refl in
          record {
            files = ap (λ (x : Contents). x.files) end.rest ∙ p.unchanged refl;
            input = part_input w.due b c d Memory end.rest p;
            output = part_output w.due b c d Memory end.rest p;
            count = whole.count;
            notes = gained_both b.notes c.notes d.notes _ (last_line Memory) whole.gained last;
          };
      ready = λ first nine.
          let not_seven : status ≢ 7 = (λ seven. omega arith) in
          let last = (end.memory refl not_seven).1 in
          end.rest ∙ ap (λ n. record { files = c.files; input = c.input; output = c.output; notes = n }) last
          ∙ ap (λ (x : Contents). record { files = x.files; input = x.input; output = x.output; notes = appended x.notes (last_line Memory) }) (w.ready first refl);
      never_less = later_more k k1 k2 (later_counted (all_reads_of order w.explained.sources) (all_keeps_of order) k k1 (failed Memory) w.counted) end.later;
    }

-- how any work is answered
pub answered : (order : Option Order) (b c d : Contents) (k k1 k2 : Counts) (e e1 e2 : FileCalls) (work : Result ℕ Stop) (status : ℕ) → Serves order b c k k1 e e1 work → Concludes work c d k1 k2 status → e2 ≡ e1 → Answers order b d k k2 e e2 status
answered order b c d k k1 k2 e e1 e2 (Ok code) status w end same = answer_done order b c d k k1 k2 e e1 e2 code status w end same
answered order b c d k k1 k2 e e1 e2 (Err Fetch) status w end same = answer_outside order b c d k k1 k2 e e1 e2 Fetch status (λ clash. cc) w end same
answered order b c d k k1 k2 e e1 e2 (Err Keep) status w end same = answer_outside order b c d k k1 k2 e e1 e2 Keep status (λ clash. cc) w end same
answered order b c d k k1 k2 e e1 e2 (Err Input) status w end same = answer_outside order b c d k k1 k2 e e1 e2 Input status (λ clash. cc) w end same
answered order b c d k k1 k2 e e1 e2 (Err Output) status w end same = answer_outside order b c d k k1 k2 e e1 e2 Output status (λ clash. cc) w end same
answered order b c d k k1 k2 e e1 e2 (Err Notes) status w end same = answer_outside order b c d k k1 k2 e e1 e2 Notes status (λ clash. cc) w end same
answered order b c d k k1 k2 e e1 e2 (Err Memory) status w end same = answer_memory order b c d k k1 k2 e e1 e2 status w end same
