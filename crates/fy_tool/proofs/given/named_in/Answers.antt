use Rattle.std.proofs.Common.{subst, Some}
use Rattle.fy_base.specs.Outside.{Tells}
use Rattle.fy_phrase.specs.Reads.{reads}
use Rattle.fy_world.specs.World.{Contents}
use Rattle.fy_tool.proofs.Derived.{all_fetched, all_given, both_fetched, derivation_unfetched, second_faulted, text_unfetched, was_long, was_unjudged}
use Rattle.fy_front.proofs.Nodes.{judged-nodes}
use Rattle.fy_tool.proofs.given.named_in.Goals as goal

pub returns-in-Ok-Err-clause-given : goal.returns-in-Ok-Err-clause-given
returns-in-Ok-Err-clause-given g c =
    let h = rw c.in-Ok-Err.field-0-is at c.in-Ok-Err.ensures.read in
    was_unjudged c.args.file.now c.args.name.now _ _ _ h.0 c.in-Ok-Err.why h.1 c.in-Ok-Err.ensures.called h.2

pub returns-in-Ok-None-clause-given : goal.returns-in-Ok-None-clause-given
returns-in-Ok-None-clause-given g c =
    let h = rw c.in-Ok-Ok.field-0-is at c.in-Ok-Ok.ensures.read in
    let long = rw c.in-Ok-None.field-0-is at c.in-Ok-None.ensures.content in
    let told = subst (λ (x : Contents). Tells x.files c.args.name.now (Some long.content)) c.in-Ok-Ok.ensures.holds long.told in
    was_long c.args.file.now c.args.name.now _ _ _ h.0 long.content c.in-Ok-Ok.source.core h.1 told h.2.1
    (both_fetched c.args.file.now c.args.name.now h.0 (reads c.in-Ok-Ok.source.core.phrase) _ _ _ h.2.1.is_judged c.in-Ok-Ok.ensures.called c.in-Ok-None.ensures.called) long.longer

pub returns-in-Err-fetch-clause-counted : goal.returns-in-Err-fetch-clause-counted
returns-in-Err-fetch-clause-counted g c = second_faulted c.args.file.now c.args.name.now _ _ _ c.in-Err-fetch.stop c.in-Ok-Ok.ensures.counted c.in-Err-fetch.ensures.counted

pub returns-in-Err-clause-stopped : goal.returns-in-Err-clause-stopped
returns-in-Err-clause-stopped g c = text_unfetched c.args.file.now (Some c.args.name.now) _ _ _ _ _ c.in-Err.stop c.in-Err.ensures.counted c.in-Err.ensures.called

pub returns-in-Err-fetch-clause-stopped : goal.returns-in-Err-fetch-clause-stopped
returns-in-Err-fetch-clause-stopped g c =
    let h = rw c.in-Ok-Ok.field-0-is at c.in-Ok-Ok.ensures.read in
    derivation_unfetched c.args.file.now c.args.name.now h.0 _ c.in-Ok-Ok.source.core _ _ _ _ _ _ c.in-Err-fetch.stop h.1 h.2.1 c.in-Ok-Ok.ensures.counted c.in-Err-fetch.ensures.counted c.in-Ok-Ok.ensures.called c.in-Err-fetch.ensures.called

pub returns-clause-stopped : goal.returns-clause-stopped
returns-clause-stopped g c =
    let h = rw c.in-Ok-Ok.field-0-is at c.in-Ok-Ok.ensures.read in
    all_fetched c.args.file.now c.args.name.now h.0 _ _ _ _ _ c.given_by.result h.1
    (both_fetched c.args.file.now c.args.name.now h.0 (reads c.in-Ok-Ok.source.core.phrase) _ _ _ h.2.1.is_judged c.in-Ok-Ok.ensures.called c.in-Ok-Some.ensures.called) c.given_by.ensures.memory

pub given_by-requires-clause-nodes : goal.given_by-requires-clause-nodes
given_by-requires-clause-nodes g c =
    let h = rw c.in-Ok-Ok.field-0-is at c.in-Ok-Ok.ensures.read in
    judged-nodes h.0 (reads c.in-Ok-Ok.source.core.phrase) h.2.1.is_judged

pub returns-clause-given : goal.returns-clause-given
returns-clause-given g c =
    let h = rw c.in-Ok-Ok.field-0-is at c.in-Ok-Ok.ensures.read in
    let content = rw c.in-Ok-Some.field-0-is at c.in-Ok-Some.ensures.content in
    let told = subst (λ (x : Contents). Tells x.files c.args.name.now (Some c.in-Ok-Some.written.items)) c.in-Ok-Ok.ensures.holds content.0 in
    let given = rw c.as_slice.ensures.value at c.given_by.ensures.given in
    all_given c.args.file.now c.args.name.now _ _ _ h.0 c.in-Ok-Some.written.items c.in-Ok-Ok.source.core c.given_by.result h.1 told h.2.1
    (both_fetched c.args.file.now c.args.name.now h.0 (reads c.in-Ok-Ok.source.core.phrase) _ _ _ h.2.1.is_judged c.in-Ok-Ok.ensures.called c.in-Ok-Some.ensures.called) given
