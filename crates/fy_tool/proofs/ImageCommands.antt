-- From the parts of the commands on images to what is due for the words.
use Rattle.std.proofs.Common.{◌≡◌, ◌≢◌, ℕ, List, ◌∷◌, [], ◌<◌, ◌≤◌, drop, sym, ap, refl, subst, length, if◌then◌else◌, codes, Some, None, inl, inr}
use Rattle.std.proofs.lemmas.Bool.{lt-ltb}
use Rattle.std.specs.declared.option.Option.{Option}
use Rattle.std.specs.declared.result.Result.{Result}
use Rattle.std.specs.declared.result.Result.TheVariants.{Ok, Err}
use Rattle.fy_base.specs.Outside.{Bytes, FileCalls}
use Rattle.fy_build.specs.Building.{IsProgramPhrase, IsStackSize}
use Rattle.fy_build.specs.Shown.{RunsShowCopyRule}
use Rattle.fy_derive.specs.Reading.{plain_derivation}
use Rattle.fy_derive.proofs.RunSafety.{accepted-never_stuck}
use Rattle.fy_image.specs.Form.{IsImageBytes}
use Rattle.fy_image.specs.Refusals.{refusal_of, or_else, magic_refusal, first_refusal, version_field, fields_behind, version_of, number_at}
use Rattle.fy_image.specs.declared.error.ImageError.{ImageError}
use Rattle.fy_image.specs.declared.error.ImageError.TheVariants.{TooLarge}
use Rattle.fy_image.specs.declared.image.Image.{Image}
use Rattle.fy_types.specs.Names.{first_names}
use Rattle.fy_expand.specs.Judged.{IsJudgedFrom}
use Rattle.fy_phrase.specs.Reads.{reads}
use Rattle.fy_phrase.specs.Tree.{Tree}
use Rattle.fy_sample.specs.Sample.{sample_text}
use Rattle.rv_insn.specs.Program.{Program as Code}
use Rattle.rv_machine.proofs.Loading.{one_program}
use Rattle.rv_machine.specs.Start.{start_of}
use Rattle.fy_words.specs.Order.{Order, build, exec, run, list, sample, audit, migrate, steps_wanted, stack_wanted}
use Rattle.fy_world.specs.World.{Contents, Counts}
use Rattle.fy_world.specs.Note.{refusal_note}
use Rattle.fy_world.specs.Runs.{told}
use Rattle.fy_world.specs.Did.{Did}
use Rattle.fy_world.specs.Working.{HasRun, HasSampled, Keeps, KeepsAndRuns, KeepsAndSamples, Executes, listed}
use Rattle.fy_world.specs.declared.note.Note.{Note}
use Rattle.fy_world.specs.declared.world.Stop.{Stop}
use Rattle.fy_world.specs.declared.world.Stop.TheVariants.{Memory}
use Rattle.fy_world.proofs.Counting.{called_none}
use Rattle.fy_tool.specs.Audited.{Audits}
use Rattle.fy_tool.specs.Due.{Sources, IsImageBy, IsBuilt, RunsBuilt, IsReadyFirst, image_of, kept_as, unread, builds, lists, executes, runs, samples, audits, unguarded, migrates}
use Rattle.fy_tool.specs.Answers.{Serves}
use Rattle.fy_tool.specs.Working.{IsGivenFor, IsBuildable, IsImageFor, Builds, BuildsAndRuns, BuildsAndSamples, Lists}
use Rattle.fy_tool.specs.Given.{found}
use Rattle.fy_front.specs.Checked.{IsOfText}
use Rattle.fy_front.specs.declared.texts.Program.{Program}
use Rattle.fy_front.proofs.Nodes.{judged-nodes}
use Rattle.fy_tool.proofs.Programs.{judged-whole, judged-closed, judged-depths, judged-made, judged-depth}
use Rattle.fy_tool.proofs.Serving.{holding, After, done, done_quietly, none_done, only}

-- ---- images of texts

-- what is found for a text is given for it
pub given_found : (text : Bytes) (written : Option Bytes) (program : Program) → IsOfText text program → IsGivenFor text None written program
given_found text written program is = record {
  is_judged = is.is_program.is_judged;
  given = found written is.is_program is.full;
  derived = is.derived;
  limits = is.limits;
  table_is = is.table_is;
  table_limits = is.table_limits;
  table_ordered = is.table_ordered;
}

-- and a program of which images are built
pub buildable : (text : Bytes) (named written : Option Bytes) (program : Program) → IsGivenFor text named written program → IsBuildable program
buildable text named written program is = record { names = first_names; text = text; is_judged = is.is_judged; derived = is.derived; limits = is.limits; table_is = is.table_is; table_limits = is.table_limits; table_ordered = is.table_ordered }

pub by_image : (program : Program) (stack : ℕ) (image : Image) → IsBuildable program → IsImageFor program stack image → IsImageBy (reads program.phrase) (plain_derivation program.derivation) stack image
by_image program stack image is of = record {
  in_use = record { accepted = is.derived; within = is.limits; table = program.table; just = is.table_is; limits = is.table_limits };
  ordered = is.table_ordered;
  stack_is = of.stack_is;
  table_is = of.table_is;
  selected = of.selected;
  guarded = of.guarded;
  runs = of.runs;
}

is_built : (text : Bytes) (named written : Option Bytes) (stack : ℕ) (program : Program) (image : Image) → IsGivenFor text named written program → IsImageFor program stack image → IsBuilt text named written stack image
is_built text named written stack program image is of = record {
  phrase = reads program.phrase;
  by = plain_derivation program.derivation;
  given = is.given;
  is = by_image program stack image (buildable text named written program is) of;
}

-- a stack that is wanted is of a size that images have
pub stack_size : (words stack : ℕ) → words ≡ stack → (1024 ≤ stack) × (stack ≤ 67108864) → IsStackSize words
stack_size words stack is within = subst IsStackSize (sym is) (record { least = within.0; most = within.1 })

-- the phrase of a judged text is one that images are built of
pub program_phrase : {names : List Bytes} (text : Bytes) (p : Tree) → IsJudgedFrom names text (Ok p) → IsProgramPhrase p
program_phrase text p judged = record {
  whole = judged-whole text p judged;
  closed = judged-closed text p judged;
  depths = judged-depths text p judged;
  well_made = judged-made text p judged;
  few = judged-nodes text p judged;
  shallow = judged-depth text p judged;
}

-- what the files hold that `build` and `run` read
abbrev pub both : Bytes → Option Bytes → Sources
both text written = holding (Some text) written

-- what they hold where none is read
abbrev pub nothing_read : Sources
nothing_read = holding None None

-- `build` of a program
pub serves_build : (file name : Bytes) (stack : Option ℕ) (named : Option Bytes) (text : Bytes) (written : Option Bytes) (program : Program) (b c d : Contents) (k k1 k2 : Counts) (e e1 e2 : FileCalls) (result : Result ℕ Stop) → IsGivenFor text named written program
    → After (build file name stack named) (both text written) b c d k k1 k2 e e1 e2 result → Builds program (stack_wanted stack) name c d result → Serves (Some (build file name stack named)) b d k k2 e e2 result
serves_build file name stack named text written program b c d k k1 k2 e e1 e2 result is a (inl unbegun) = none_done (build file name stack named) (both text written) b c d k k1 k2 e e1 e2 result a unbegun
serves_build file name stack named text written program b c d k k1 k2 e e1 e2 result is a (inr has) = kept has.keeps
  where
    order : Order
    order = build file name stack named

    kept : Keeps has.image name c d result → Serves (Some order) b d k k2 e e2 result
    kept (inl unbegun) = none_done order (both text written) b c d k k1 k2 e e1 e2 result a unbegun
    kept (inr was) =
        let built = is_built text named written (stack_wanted stack) program has.image is has.is in
        done_quietly order (both text written) b c d k k1 k2 e e1 e2 result _ a (λ input. builds file name stack named text has.image was.bytes refl built was.spelled) was.did (λ _ memory. absurd (was.ready memory)) (λ none. absurd cc)

-- `list` of a program
pub serves_list : (file text : Bytes) (program : Program) (b c d : Contents) (k k1 k2 : Counts) (e e1 e2 : FileCalls) (result : Result ℕ Stop) → IsOfText text program → After (list file) (only text) b c d k k1 k2 e e1 e2 result → Lists program 1048576 c d result
    → Serves (Some (list file)) b d k k2 e e2 result
serves_list file text program b c d k k1 k2 e e1 e2 result is a (inl unbegun) = none_done (list file) (only text) b c d k k1 k2 e e1 e2 result a unbegun
serves_list file text program b c d k k1 k2 e e1 e2 result is a (inr has) =
    let built = is_built text None None (stack_wanted None) program has.image (given_found text None program is) has.is in
    done_quietly (list file) (only text) b c d k k1 k2 e e1 e2 result (listed built.is.runs.program) a (λ input. lists file text has.image refl built) (has.did built.is.runs.program built.is.runs.is_the_images) (λ ready. absurd ready) (λ _ _. a.kept)

-- `run` of a program
pub serves_run : (file : Bytes) (steps stack : Option ℕ) (named name : Option Bytes) (text : Bytes) (written : Option Bytes) (program : Program) (b c d : Contents) (k k1 k2 : Counts) (e e1 e2 : FileCalls) (result : Result ℕ Stop) → RunsShowCopyRule
    → IsGivenFor text named written program → After (run file steps stack named name) (both text written) b c d k k1 k2 e e1 e2 result
    → BuildsAndRuns program (stack_wanted stack) (steps_wanted steps) (kept_as file name) c d result → Serves (Some (run file steps stack named name)) b d k k2 e e2 result
unfolding is_built
serves_run file steps stack named name text written program b c d k k1 k2 e e1 e2 result law is a (inl unbegun) = none_done (run file steps stack named name) (both text written) b c d k k1 k2 e e1 e2 result a unbegun
serves_run file steps stack named name text written program b c d k k1 k2 e e1 e2 result law is a (inr has) = ran has.runs
  where
    order : Order
    order = run file steps stack named name

    ran : KeepsAndRuns has.image (steps_wanted steps) (kept_as file name) c d result → Serves (Some order) b d k k2 e e2 result
    ran (inl unbegun) = none_done order (both text written) b c d k k1 k2 e e1 e2 result a unbegun
    ran (inr has_kept) =
        let image = has.image in
        let built = is_built text named written (stack_wanted stack) program image is has.is in
        let code = one_program image has_kept.executed.program built.is.runs.program has_kept.executed.is_the_images built.is.runs.is_the_images in
        let R : Code → Type 0 = λ code. HasRun code (start_of image) (steps_wanted steps) None (Some (kept_as file name, has_kept.bytes)) c d result in
        let r = subst R code has_kept.executed.has_run in
        let has_run : RunsBuilt text named written stack steps r.input image has_kept.bytes r.n r.end = record {
          built = built;
          spelled = has_kept.spelled;
          is_run = r.is_run;
          shows = λ bytes. law built.phrase image built.is.runs r.input r.n (steps_wanted steps) r.end (accepted-never_stuck built.phrase built.by is.derived) bytes r.is_run.ends;
        } in
        done order (both text written) b c d k k1 k2 e e1 e2 result _ r.input a r.fed (λ _. r.bytes) (runs file steps stack named name text image has_kept.bytes r.n r.end refl has_run) r.did (λ _ memory. absurd (has_kept.ready memory)) (λ none. absurd cc)

-- `sample` of a program
pub serves_sample : (number size : ℕ) (program : Program) (b c d : Contents) (k k1 k2 : Counts) (e e1 e2 : FileCalls) (result : Result ℕ Stop) → RunsShowCopyRule → IsOfText (sample_text number size) program
    → After (sample number size) nothing_read b c d k k1 k2 e e1 e2 result → BuildsAndSamples program 1048576 1000000000 (codes "sample.img") c d result → Serves (Some (sample number size)) b d k k2 e e2 result
unfolding is_built
serves_sample number size program b c d k k1 k2 e e1 e2 result law is a (inl unbegun) = none_done (sample number size) nothing_read b c d k k1 k2 e e1 e2 result a unbegun
serves_sample number size program b c d k k1 k2 e e1 e2 result law is a (inr has) = ran has.samples
  where
    order : Order
    order = sample number size

    ran : KeepsAndSamples has.image 1000000000 (codes "sample.img") c d result → Serves (Some order) b d k k2 e e2 result
    ran (inl unbegun) = none_done order nothing_read b c d k k1 k2 e e1 e2 result a unbegun
    ran (inr has_kept) =
        let image = has.image in
        let given = given_found (sample_text number size) None program is in
        let built = is_built (sample_text number size) None None (stack_wanted None) program image given has.is in
        let code = one_program image has_kept.program built.is.runs.program has_kept.is_the_images built.is.runs.is_the_images in
        let R : Code → Type 0 = λ code. HasSampled code (start_of image) (steps_wanted None) (Some (codes "sample.img", has_kept.bytes)) c d result in
        let r = subst R code has_kept.has_sampled in
        let has_run : RunsBuilt (sample_text number size) None None None None r.input image has_kept.bytes r.n r.end = record {
          built = built;
          spelled = has_kept.spelled;
          is_run = r.is_run;
          shows = λ bytes. law built.phrase image built.is.runs r.input r.n (steps_wanted None) r.end (accepted-never_stuck built.phrase built.by is.derived) bytes r.is_run.ends;
        } in
        done order nothing_read b c d k k1 k2 e e1 e2 result _ r.input a r.fed (λ _. r.bytes) (samples number size image has_kept.bytes r.n r.end has_run) r.did (λ _ memory. absurd (has_kept.ready memory)) (λ none. absurd cc)

-- ---- images of files

-- bytes that are too many are no image's
pub too_long : (bytes : Bytes) → 33554432 < length bytes → refusal_of bytes ≡ Some TooLarge
unfolding refusal_of
too_long bytes longer = ap (λ b. if b then Some TooLarge else or_else (magic_refusal bytes) (first_refusal (version_field ∷ fields_behind (version_of (number_at bytes 8)) (number_at bytes 16) (number_at bytes 20) (number_at bytes 24)) (drop 8 bytes))) (lt-ltb 33554432 (length bytes) longer)

-- bytes that are no image, where one is taken
pub serves_no_image : (order : Order) (bytes : Bytes) (error : ImageError) (why : Note) (b c d : Contents) (k k1 k2 : Counts) (e e1 e2 : FileCalls) (result : Result ℕ Stop) → image_of order (only bytes) ≡ Some bytes → refusal_of bytes ≡ Some error
    → refusal_note error ≡ Some why → After order (only bytes) b c d k k1 k2 e e1 e2 result → result ≢ Err Memory → Did (told 6 (why ∷ [])) c d result → e2 ≡ e1 → Serves (Some order) b d k k2 e e2 result
serves_no_image order bytes error why b c d k k1 k2 e e1 e2 result takes refusal is a ready did same =
    done_quietly order (only bytes) b c d k k1 k2 e e1 e2 result (told 6 (why ∷ [])) a (λ input. unread order bytes error why takes refusal is) did (λ _ memory. absurd (ready memory)) (λ _ _. called_none e1 e2 same)

-- `exec` of an image
pub serves_exec : (name : Bytes) (steps trace : Option ℕ) (bytes : Bytes) (image : Image) (b c d : Contents) (k k1 k2 : Counts) (e e1 e2 : FileCalls) (result : Result ℕ Stop) → IsImageBytes image bytes → After (exec name steps trace) (only bytes) b c d k k1 k2 e e1 e2 result
    → (trace ≡ None → result ≡ Err Memory → d ≡ c) → Executes image (steps_wanted steps) trace c d result → Serves (Some (exec name steps trace)) b d k k2 e e2 result
serves_exec name steps trace bytes image b c d k k1 k2 e e1 e2 result spelled a ready (inl unbegun) = none_done (exec name steps trace) (only bytes) b c d k k1 k2 e e1 e2 result a unbegun
serves_exec name steps trace bytes image b c d k k1 k2 e e1 e2 result spelled a ready (inr executed) =
    let r = executed.has_run in
    done (exec name steps trace) (only bytes) b c d k k1 k2 e e1 e2 result _ r.input a r.fed (λ _. r.bytes) (executes name steps trace bytes image executed.program r.n r.end refl spelled executed.is_the_images r.is_run) r.did (quiet trace ready) (λ _ _. a.kept)
  where
    quiet : (trace : Option ℕ) → (trace ≡ None → result ≡ Err Memory → d ≡ c) → IsReadyFirst (exec name steps trace) → result ≡ Err Memory → d ≡ c
    quiet None ready first = ready refl
    quiet (Some count) ready first = absurd first

-- `audit` of an image
pub serves_audit : (name bytes : Bytes) (image : Image) (b c d : Contents) (k k1 k2 : Counts) (e e1 e2 : FileCalls) (result : Result ℕ Stop) → IsImageBytes image bytes → After (audit name) (only bytes) b c d k k1 k2 e e1 e2 result
    → (result ≡ Err Memory → d ≡ c) → Audits image c d result → Serves (Some (audit name)) b d k k2 e e2 result
serves_audit name bytes image b c d k k1 k2 e e1 e2 result spelled a ready (inl unbegun) = none_done (audit name) (only bytes) b c d k k1 k2 e e1 e2 result a unbegun
serves_audit name bytes image b c d k k1 k2 e e1 e2 result spelled a ready (inr (inl was)) =
    done_quietly (audit name) (only bytes) b c d k k1 k2 e e1 e2 result _ a (λ input. audits name bytes image refl spelled was.guarded) was.did (λ _ memory. ready memory) (λ _ _. a.kept)
serves_audit name bytes image b c d k k1 k2 e e1 e2 result spelled a ready (inr (inr was)) =
    done_quietly (audit name) (only bytes) b c d k k1 k2 e e1 e2 result _ a (λ input. unguarded name bytes image was.word refl spelled was.unguarded) was.did (λ _ memory. ready memory) (λ _ _. a.kept)

-- `migrate` of an image
pub serves_migrate : (from to bytes : Bytes) (image : Image) (b c d : Contents) (k k1 k2 : Counts) (e e1 e2 : FileCalls) (result : Result ℕ Stop) → IsImageBytes image bytes → After (migrate from to) (only bytes) b c d k k1 k2 e e1 e2 result → Keeps image to c d result
    → Serves (Some (migrate from to)) b d k k2 e e2 result
serves_migrate from to bytes image b c d k k1 k2 e e1 e2 result spelled a (inl unbegun) = none_done (migrate from to) (only bytes) b c d k k1 k2 e e1 e2 result a unbegun
serves_migrate from to bytes image b c d k k1 k2 e e1 e2 result spelled a (inr was) =
    done_quietly (migrate from to) (only bytes) b c d k k1 k2 e e1 e2 result _ a (λ input. migrates from to bytes image was.bytes refl spelled was.spelled) was.did (λ _ memory. absurd (was.ready memory)) (λ none. absurd cc)
