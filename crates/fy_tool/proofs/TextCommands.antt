-- From the parts of the commands on texts that run no image to what is due for the words.
use Rattle.std.proofs.Common.{◌≡◌, ◌≢◌, ◌⊎◌, ℕ, Bool, true, false, refl, Some, inl, inr}
use Rattle.std.specs.declared.option.Option.{Option}
use Rattle.std.specs.declared.result.Result.{Result}
use Rattle.std.specs.declared.result.Result.TheVariants.{Err}
use Rattle.fy_base.specs.Outside.{Bytes, FileCalls}
use Rattle.fy_phrase.specs.Reads.{reads}
use Rattle.fy_derive.specs.Print.{derivation_text}
use Rattle.fy_derive.specs.Reading.{plain_derivation}
use Rattle.fy_read.proofs.PrintedLemmas.{printed_is_text}
use Rattle.fy_phrase.specs.Tree.{Tree}
use Rattle.fy_phrase.specs.declared.shapes.ShapeTable.{ShapeTable}
use Rattle.pe_code.specs.declared.code.PeCode.{PeCode}
use Rattle.fy_build.specs.Selected.{IsCodeWanted}
use Rattle.fy_words.specs.Order.{check, derive, copy, trace, copy_wanted, trace_steps_wanted}
use Rattle.fy_world.specs.World.{Contents, Counts}
use Rattle.fy_world.specs.Runs.{written}
use Rattle.fy_world.specs.Did.{Did}
use Rattle.fy_world.specs.Stepping.{IsNeverLost, HasStepped}
use Rattle.fy_world.specs.Working.{IsUnbegun, HasCopied}
use Rattle.fy_world.specs.declared.world.Stop.{Stop}
use Rattle.fy_world.specs.declared.world.Stop.TheVariants.{Memory}
use Rattle.fy_front.specs.Checked.{IsAccepted, IsOfText}
use Rattle.fy_tool.specs.Due.{accepted, accepts, derives, copies, traces}
use Rattle.fy_tool.specs.Answers.{Serves}
use Rattle.fy_tool.specs.Working.{HasTraced}
use Rattle.fy_front.specs.declared.texts.Program.{Program}
use Rattle.fy_front.proofs.Checking.{in_use}
use Rattle.fy_tool.proofs.Serving.{After, done, done_quietly, none_done, only}

-- `check` of a text that is accepted
pub serves_accepted : (file text : Bytes) (b c d : Contents) (k k1 k2 : Counts) (e e1 e2 : FileCalls) (result : Result ℕ Stop) → IsAccepted text → After (check file) (only text) b c d k k1 k2 e e1 e2 result → result ≢ Err Memory → Did accepted c d result
    → Serves (Some (check file)) b d k k2 e e2 result
serves_accepted file text b c d k k1 k2 e e1 e2 result is a ready did =
    done_quietly (check file) (only text) b c d k k1 k2 e e1 e2 result accepted a (λ input. accepts file text refl is) did (λ _ memory. absurd (ready memory)) (λ _ _. a.kept)

-- `derive` of a program
pub serves_derived : (file text : Bytes) (program : Program) (b c d : Contents) (k k1 k2 : Counts) (e e1 e2 : FileCalls) (result : Result ℕ Stop) → IsOfText text program → After (derive file) (only text) b c d k k1 k2 e e1 e2 result
    → (result ≡ Err Memory → d ≡ c) → IsUnbegun c d result ⊎ Did (written (derivation_text program.names (plain_derivation program.derivation))) c d result → Serves (Some (derive file)) b d k k2 e e2 result
serves_derived file text program b c d k k1 k2 e e1 e2 result is a ready (inl unbegun) = none_done (derive file) (only text) b c d k k1 k2 e e1 e2 result a unbegun
serves_derived file text program b c d k k1 k2 e e1 e2 result is a ready (inr did) =
    let by = plain_derivation program.derivation in
    done_quietly (derive file) (only text) b c d k k1 k2 e e1 e2 result _ a
    (λ input. derives file text (reads program.phrase) program.names by refl is.is_program is.named (in_use is) is.full (printed_is_text program.names by is.printable)) did (λ _ memory. ready memory) (λ _ _. a.kept)

-- `copy` of a program
pub serves_copied : (file : Bytes) (steps : Option ℕ) (text : Bytes) (program : Program) (b c d : Contents) (k k1 k2 : Counts) (e e1 e2 : FileCalls) (result : Result ℕ Stop) → IsOfText text program → After (copy file steps) (only text) b c d k k1 k2 e e1 e2 result
    → HasCopied (reads program.phrase) (copy_wanted steps) c d result → Serves (Some (copy file steps)) b d k k2 e e2 result
serves_copied file steps text program b c d k k1 k2 e e1 e2 result is a r =
    done (copy file steps) (only text) b c d k k1 k2 e e1 e2 result _ r.input a r.fed (λ runs. absurd runs)
    (copies file steps text (reads program.phrase) (plain_derivation program.derivation) r.n r.end refl is.is_program (in_use is) is.full r.is_run) r.did (λ ready. absurd ready) (λ _ _. a.kept)

-- either code always has a step
pub wanted_goes : (straight : Bool) (p : Tree) (table : ShapeTable) (code : PeCode) → IsCodeWanted straight p table code → IsNeverLost code
wanted_goes true p table code is = record { never_stuck = is.follows.never_stuck; never_gone = is.follows.never_gone }
wanted_goes false p table code is = record { never_stuck = is.follows.never_stuck; never_gone = is.follows.never_gone }

-- code ran that is right
pub traced_by : (program : Program) (straight : Bool) (code : PeCode) (limit : ℕ) (c d : Contents) (result : Result ℕ Stop) → IsCodeWanted straight (reads program.phrase) program.table code → IsUnbegun c d result ⊎ HasStepped code program.names limit c d result
    → IsUnbegun c d result ⊎ HasTraced program straight limit c d result
traced_by program straight code limit c d result right (inl unbegun) = inl unbegun
traced_by program straight code limit c d result right (inr r) = inr (record { code = code; right = right; run = r })

-- `trace` of a program
pub serves_traced : (file : Bytes) (steps : Option ℕ) (straight : Bool) (text : Bytes) (program : Program) (b c d : Contents) (k k1 k2 : Counts) (e e1 e2 : FileCalls) (result : Result ℕ Stop) → IsOfText text program → After (trace file steps straight) (only text) b c d k k1 k2 e e1 e2 result
    → IsUnbegun c d result ⊎ HasTraced program straight (trace_steps_wanted steps) c d result → Serves (Some (trace file steps straight)) b d k k2 e e2 result
serves_traced file steps straight text program b c d k k1 k2 e e1 e2 result is a (inl unbegun) = none_done (trace file steps straight) (only text) b c d k k1 k2 e e1 e2 result a unbegun
serves_traced file steps straight text program b c d k k1 k2 e e1 e2 result is a (inr t) =
    let r = t.run in
    done (trace file steps straight) (only text) b c d k k1 k2 e e1 e2 result _ r.input a r.fed (λ runs. absurd runs)
    (traces file steps straight text (reads program.phrase) program.names (plain_derivation program.derivation) t.code r.n r.end refl is.is_program is.named (in_use is) is.table_ordered is.full t.right r.is_run) r.did (λ ready. absurd ready) (λ _ _. a.kept)
