use Rattle.std.proofs.Common.{◌∙◌, refl, sym, subst, map, Ok, Err}
use Rattle.std.specs.Borrow.{Bor}
use Rattle.fy_base.specs.Outside.{Bytes}
use Rattle.fy_world.specs.World.{Contents}
use Rattle.fy_tool.specs.Working.{ReadsObjects, StopsObjects, WasLinked}
use Rattle.fy_tool.specs.declared.given.TurnedDown.{TurnedDown}
use Rattle.fy_tool.proofs.Lists.{none_long}
use Rattle.fy_tool.proofs.Linking.{counts_memory, links_list, some_objects, unlisted_fetch, unlisted_memory, unlisted_units, was_bad, was_no_list}
use Rattle.fy_tool.proofs.link.linked_in.Goals as goal

pub returns-in-Ok-None-clause-links : goal.returns-in-Ok-None-clause-links
returns-in-Ok-None-clause-links g c =
    let long = rw c.in-Ok-None.field-0-is at c.in-Ok-None.ensures.content in
    subst (λ (down : TurnedDown). WasLinked c.args.file.now (g.W.World.holds c.args.world.now).files (g.W.World.calls c.args.world.now) (g.W.World.calls c.fetch.new.self) (Err down)) (sym c.unlinked.ensures)
    (was_no_list c.args.file.now long.content _ _ _ long.told (none_long long.content long.longer) c.in-Ok-None.ensures.called)

pub returns-in-Err-clause-counted : goal.returns-in-Err-clause-counted
returns-in-Err-clause-counted g c = unlisted_fetch c.args.file.now _ _ _ _ _ c.in-Err.stop c.in-Err.ensures.counted c.in-Err.ensures.stop c.in-Err.ensures.called

pub returns-in-Ok-None-names_on-clause-links : goal.returns-in-Ok-None-names_on-clause-links
returns-in-Ok-None-names_on-clause-links g c =
    let content = rw c.in-Ok-Some.field-0-is at c.in-Ok-Some.ensures.content in
    let none = rw (c.in-Ok-None-names_on.field-0-is, c.as_slice.ensures.value) at c.in-Ok-None-names_on.ensures in
    subst (λ (down : TurnedDown). WasLinked c.args.file.now (g.W.World.holds c.args.world.now).files (g.W.World.calls c.args.world.now) (g.W.World.calls c.fetch.new.self) (Err down)) (sym c.unlinked-in-Ok-None-names_on.ensures)
    (was_no_list c.args.file.now c.in-Ok-Some.bytes.items _ _ _ content.0 none c.in-Ok-Some.ensures.called)

pub returns-in-Err-names_on-clause-counted : goal.returns-in-Err-names_on-clause-counted
returns-in-Err-names_on-clause-counted g c = unlisted_memory c.args.file.now _ _ _ _ _ _ refl c.in-Ok-Some.ensures.counted c.in-Ok-Some.ensures.called

pub linked_of-requires-clause-some : goal.linked_of-requires-clause-some
linked_of-requires-clause-some g c =
    let lists = rw (c.in-Ok-Some-names_on.field-0-is, c.as_slice.ensures.value) at c.in-Ok-Some-names_on.ensures in
    let read = rw (c.in-Ok-Ok.field-0-is, c.deref.ensures.value) at c.in-Ok-Ok.ensures.read in
    (some_objects c.in-Ok-Some.bytes.items _ _ c.in-Ok-Ok.objects lists read).0

pub linked_of-requires-clause-few : goal.linked_of-requires-clause-few
linked_of-requires-clause-few g c =
    let lists = rw (c.in-Ok-Some-names_on.field-0-is, c.as_slice.ensures.value) at c.in-Ok-Some-names_on.ensures in
    let read = rw (c.in-Ok-Ok.field-0-is, c.deref.ensures.value) at c.in-Ok-Ok.ensures.read in
    (some_objects c.in-Ok-Some.bytes.items _ _ c.in-Ok-Ok.objects lists read).1

pub returns-in-Ok-Ok-clause-links : goal.returns-in-Ok-Ok-clause-links
returns-in-Ok-Ok-clause-links g c =
    let content = rw c.in-Ok-Some.field-0-is at c.in-Ok-Some.ensures.content in
    let lists = rw (c.in-Ok-Some-names_on.field-0-is, c.as_slice.ensures.value) at c.in-Ok-Some-names_on.ensures in
    let read = rw (c.in-Ok-Ok.field-0-is, c.deref.ensures.value) at c.in-Ok-Ok.ensures.read in
    let called = rw c.in-Ok-Ok.field-0-is at c.in-Ok-Ok.ensures.called in
    links_list c.args.file.now c.in-Ok-Some.bytes.items _ _ c.in-Ok-Ok.objects _ _ _ c.linked_of.result content.0 lists
    (subst (λ (x : Contents). ReadsObjects (map (λ (name : Bor Bytes). name.now) c.in-Ok-Some-names_on.files.items) x.files (Ok c.in-Ok-Ok.objects)) c.in-Ok-Some.ensures.holds read) c.in-Ok-Some.ensures.called called c.linked_of.ensures.linked

pub returns-in-Ok-Ok-clause-counted : goal.returns-in-Ok-Ok-clause-counted
returns-in-Ok-Ok-clause-counted g c =
    let content = rw c.in-Ok-Some.field-0-is at c.in-Ok-Some.ensures.content in
    let lists = rw (c.in-Ok-Some-names_on.field-0-is, c.as_slice.ensures.value) at c.in-Ok-Some-names_on.ensures in
    let read = rw (c.in-Ok-Ok.field-0-is, c.deref.ensures.value) at c.in-Ok-Ok.ensures.read in
    let called = rw c.in-Ok-Ok.field-0-is at c.in-Ok-Ok.ensures.called in
    counts_memory c.args.file.now c.in-Ok-Some.bytes.items _ _ c.in-Ok-Ok.objects _ _ _ _ _ c.linked_of.result content.0 lists
    (subst (λ (x : Contents). ReadsObjects (map (λ (name : Bor Bytes). name.now) c.in-Ok-Some-names_on.files.items) x.files (Ok c.in-Ok-Ok.objects)) c.in-Ok-Some.ensures.holds read) c.in-Ok-Some.ensures.called called
    c.linked_of.ensures.memory (c.in-Ok-Ok.ensures.counted ∙ c.in-Ok-Some.ensures.counted)

pub returns-in-Ok-Err-clause-links : goal.returns-in-Ok-Err-clause-links
returns-in-Ok-Err-clause-links g c =
    let content = rw c.in-Ok-Some.field-0-is at c.in-Ok-Some.ensures.content in
    let lists = rw (c.in-Ok-Some-names_on.field-0-is, c.as_slice.ensures.value) at c.in-Ok-Some-names_on.ensures in
    let read = rw (c.in-Ok-Err.field-0-is, c.deref.ensures.value) at c.in-Ok-Err.ensures.read in
    let called = rw c.in-Ok-Err.field-0-is at c.in-Ok-Err.ensures.called in
    subst (λ (down : TurnedDown). WasLinked c.args.file.now (g.W.World.holds c.args.world.now).files (g.W.World.calls c.args.world.now) (g.W.World.calls c.objects_in.new.world) (Err down)) (sym c.unlinked-in-Ok-Err.ensures)
    (was_bad c.args.file.now c.in-Ok-Some.bytes.items _ _ c.in-Ok-Err.unit _ _ _ content.0 lists
    (subst (λ (x : Contents). ReadsObjects (map (λ (name : Bor Bytes). name.now) c.in-Ok-Some-names_on.files.items) x.files (Err c.in-Ok-Err.unit)) c.in-Ok-Some.ensures.holds read) c.in-Ok-Some.ensures.called called)

pub returns-clause-counted : goal.returns-clause-counted
returns-clause-counted g c =
    let content = rw c.in-Ok-Some.field-0-is at c.in-Ok-Some.ensures.content in
    let lists = rw (c.in-Ok-Some-names_on.field-0-is, c.as_slice.ensures.value) at c.in-Ok-Some-names_on.ensures in
    let fault = rw c.deref.ensures.value at c.in-Err-objects_in.ensures.counted in
    let stopped = rw c.deref.ensures.value at c.in-Err-objects_in.ensures.stopped in
    unlisted_units c.args.file.now c.in-Ok-Some.bytes.items _ _ _ _ _ _ _ _ c.in-Err-objects_in.stop content.0 lists c.in-Ok-Some.ensures.counted fault c.in-Err-objects_in.ensures.input c.in-Ok-Some.ensures.called
    (subst (λ (x : Contents). StopsObjects (map (λ (name : Bor Bytes). name.now) c.in-Ok-Some-names_on.files.items) x.files (g.W.World.counts c.fetch.new.self) (g.W.World.counts c.objects_in.new.world) (g.W.World.calls c.fetch.new.self) (g.W.World.calls c.objects_in.new.world) c.in-Err-objects_in.stop) c.in-Ok-Some.ensures.holds stopped)
