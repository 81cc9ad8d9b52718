-- The image of code that follows the copy rule runs as the copy rule, by the laws of runs and of selection.
use Rattle.fy_base.specs.Outside.{Bytes}
use Rattle.rv_insn.specs.Program.{Program}
use Rattle.rv_flow.specs.Lowering.{items_of}
use Rattle.rv_select.specs.Images.{NeverFails, ImageDoesRun, SelectionsFollow}
use Rattle.rv_select.specs.Program.{word_code}
use Rattle.fy_build.specs.Headline.{AreBytes}
use Rattle.fy_build.specs.Laws.{CodeRunsAsCopyRule}
use Rattle.fy_build.proofs.Headlines.{output_is_prefix, end_is_the_copy_rules, reaches_what_the_copy_rule_reaches, exhausted_only_past_the_stack}
use Rattle.fy_build.proofs.MachineRuns.{RunLaws}
use Rattle.fy_build.proofs.Words as words

pub code_runs : RunLaws → SelectionsFollow → CodeRunsAsCopyRule
code_runs laws select handed p code image follows deep is =
    let its = is.image_of in
    let program : Program = words.program_of (items_of (word_code code)) its.assembled image its.assembly its.words_are in
    let of = words.is_the_images (items_of (word_code code)) its.assembled image its.assembly its.words_are in
    let never : NeverFails code = record { never_stuck = follows.never_stuck; never_gone = follows.never_gone } in
    let does : (input : Bytes) → AreBytes input → ImageDoesRun code image program input = λ input bytes. select code image program input is never of bytes in
    record {
      program = program;
      is_the_images = of;
      output_is_prefix = λ input n bytes. output_is_prefix laws handed p code image program input follows deep (does input bytes) n;
      end_is_the_copy_rules = λ input n bytes. end_is_the_copy_rules laws handed p code image program input follows deep (does input bytes) n;
      reaches_what_the_copy_rule_reaches = λ input m bytes. reaches_what_the_copy_rule_reaches laws handed p code image program input follows deep (does input bytes) m;
      exhausted_only_past_the_stack = λ input n bytes. exhausted_only_past_the_stack laws handed p code image program input follows deep (does input bytes) n;
      never_traps = λ input n kind bytes. (does input bytes).never_traps n kind;
      words_are_instructions = words.words_are_instructions (items_of (word_code code)) its.assembled image its.assembly its.words_are;
    }
