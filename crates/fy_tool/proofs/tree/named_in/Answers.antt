use Rattle.std.proofs.Common.{◌∙◌, Some, subst, sym}
use Rattle.std.specs.Prelude.{IfOk}
use Rattle.fy_base.specs.Outside.{Bytes, Tells}
use Rattle.fy_front.specs.Checked.{IsCore}
use Rattle.fy_phrase.specs.Reads.{reads}
use Rattle.fy_world.specs.World.{Contents}
use Rattle.fy_tool.proofs.Derived.{all_fetched, both_fetched, derivation_unfetched, second_faulted, text_unfetched}
use Rattle.fy_tool.specs.Working.{DrawsWritten}
use Rattle.fy_tool.proofs.Drawing.{drawn_both, drawn_no_core, drawn_too_long}
use Rattle.fy_tool.proofs.Judging.{judged_short}
use Rattle.fy_tool.proofs.tree.named_in.Goals as goal

pub returns-in-Ok-Err-clause-drawn : goal.returns-in-Ok-Err-clause-drawn
returns-in-Ok-Err-clause-drawn g c =
    let h = rw c.in-Ok-Err.field-0-is at c.in-Ok-Err.ensures.read in
    drawn_no_core c.args.file.now c.args.name.now _ _ _ h.0 c.in-Ok-Err.why c.args.drawing h.1 c.in-Ok-Err.ensures.called h.2

pub returns-in-Ok-None-clause-drawn : goal.returns-in-Ok-None-clause-drawn
returns-in-Ok-None-clause-drawn g c =
    let h = rw c.in-Ok-Ok.field-0-is at c.in-Ok-Ok.ensures.read in
    let long = rw c.in-Ok-None.field-0-is at c.in-Ok-None.ensures.content in
    let told = subst (λ (x : Contents). Tells x.files c.args.name.now (Some long.content)) c.in-Ok-Ok.ensures.holds long.told in
    drawn_too_long c.args.file.now c.args.name.now _ _ _ h.0 long.content c.in-Ok-Ok.source.core c.args.drawing h.1 told h.2.1
    (both_fetched c.args.file.now c.args.name.now h.0 (reads c.in-Ok-Ok.source.core.phrase) _ _ _ h.2.1.is_judged c.in-Ok-Ok.ensures.called c.in-Ok-None.ensures.called) long.longer

pub returns-in-Err-fetch-clause-counted : goal.returns-in-Err-fetch-clause-counted
returns-in-Err-fetch-clause-counted g c = second_faulted c.args.file.now c.args.name.now _ _ _ c.in-Err-fetch.stop c.in-Ok-Ok.ensures.counted c.in-Err-fetch.ensures.counted

pub returns-in-Err-clause-stopped : goal.returns-in-Err-clause-stopped
returns-in-Err-clause-stopped g c = text_unfetched c.args.file.now (Some c.args.name.now) _ _ _ _ _ c.in-Err.stop c.in-Err.ensures.counted c.in-Err.ensures.called

pub returns-in-Err-fetch-clause-stopped : goal.returns-in-Err-fetch-clause-stopped
returns-in-Err-fetch-clause-stopped g c =
    let h = rw c.in-Ok-Ok.field-0-is at c.in-Ok-Ok.ensures.read in
    derivation_unfetched c.args.file.now c.args.name.now h.0 _ c.in-Ok-Ok.source.core _ _ _ _ _ _ c.in-Err-fetch.stop h.1 h.2.1 c.in-Ok-Ok.ensures.counted c.in-Err-fetch.ensures.counted c.in-Ok-Ok.ensures.called c.in-Err-fetch.ensures.called

pub returns-clause-stopped : goal.returns-clause-stopped
returns-clause-stopped g c =
    let h = rw c.in-Ok-Ok.field-0-is at c.in-Ok-Ok.ensures.read in
    all_fetched c.args.file.now c.args.name.now h.0 _ _ _ _ _ c.drawn_by.result h.1
    (both_fetched c.args.file.now c.args.name.now h.0 (reads c.in-Ok-Ok.source.core.phrase) _ _ _ h.2.1.is_judged c.in-Ok-Ok.ensures.called c.in-Ok-Some.ensures.called) c.drawn_by.ensures.memory

pub returns-clause-drawn : goal.returns-clause-drawn
returns-clause-drawn g c =
    let h = rw c.in-Ok-Ok.field-0-is at c.in-Ok-Ok.ensures.read in
    let content = rw c.in-Ok-Some.field-0-is at c.in-Ok-Some.ensures.content in
    let told = subst (λ (x : Contents). Tells x.files c.args.name.now (Some c.in-Ok-Some.written.items)) c.in-Ok-Ok.ensures.holds content.0 in
    let P : Bytes → Bytes → Type 0 = λ text written. IfOk c.drawn_by.result (DrawsWritten text written c.args.drawing) in
    drawn_both c.args.file.now c.args.name.now _ _ _ h.0 c.in-Ok-Some.written.items c.args.drawing c.drawn_by.result h.1 told
    (both_fetched c.args.file.now c.args.name.now h.0 (reads c.in-Ok-Ok.source.core.phrase) _ _ _ h.2.1.is_judged c.in-Ok-Ok.ensures.called c.in-Ok-Some.ensures.called)
    (subst (λ text. P text c.in-Ok-Some.written.items) (c.as_slice.ensures.value ∙ h.2.0) (subst (λ written. P c.as_slice.result.now written) c.as_slice-2.ensures.value c.drawn_by.ensures.drawn))

pub drawn_by-requires-clause-core : goal.drawn_by-requires-clause-core
drawn_by-requires-clause-core g c =
    let h = rw c.in-Ok-Ok.field-0-is at c.in-Ok-Ok.ensures.read in
    subst (λ text. IsCore text c.in-Ok-Ok.source.core) (sym (c.as_slice.ensures.value ∙ h.2.0)) h.2.1

pub drawn_by-requires-clause-text : goal.drawn_by-requires-clause-text
drawn_by-requires-clause-text g c =
    let h = rw c.in-Ok-Ok.field-0-is at c.in-Ok-Ok.ensures.read in
    judged_short c.as_slice.result.now (reads c.in-Ok-Ok.source.core.phrase) (subst (λ text. IsCore text c.in-Ok-Ok.source.core) (sym (c.as_slice.ensures.value ∙ h.2.0)) h.2.1).is_judged
