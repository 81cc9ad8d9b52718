use Rattle.std.proofs.Common.{◌<◌, ◌≤◌, ℕ, List, length, take, sym, ap, subst, subst₂, arith}
use Rattle.std.proofs.lemmas.List.{take_all}
use Rattle.std.proofs.lemmas.Bool.{ltb-true, ltb-false}
use Rattle.pe_machine.specs.Sound.{AreLaid}
use Rattle.pe_machine.specs.declared.frames.Frame.{Frame}
use Rattle.pe_machine.proofs.CellLemmas.{laid_take, laid_within}
use Rattle.pe_machine.proofs.apply.cells_before.Goals as goal

pub returns-in-Some-clause-laid : goal.returns-in-Some-clause-laid
returns-in-Some-clause-laid c =
    let core = c.args.core.now in
    let inside : c.args.frames < length core.frames.items = rw c.as_slice.ensures.value at (ltb-true _ _ (sym c.in-Some.ensures.lookup.0)) in
    let read = rw c.as_slice.ensures.value at c.in-Some.ensures.lookup.1 in
    let first = laid_take 0 core.frames.items (length core.cells.items) c.args.frames c.in-Some.frame.now core.laid inside in
    subst (λ (f : Frame). AreLaid 0 (take c.args.frames core.frames.items) f.cells) (sym read) first

pub returns-in-Some-clause-within : goal.returns-in-Some-clause-within
returns-in-Some-clause-within c =
    let core = c.args.core.now in
    let inside : c.args.frames < length core.frames.items = rw c.as_slice.ensures.value at (ltb-true _ _ (sym c.in-Some.ensures.lookup.0)) in
    let end = (laid_within 0 core.frames.items (length core.cells.items) c.args.frames c.in-Some.frame.now core.laid inside).1 in
    let read = rw c.as_slice.ensures.value at c.in-Some.ensures.lookup.1 in
    let same = ap (λ (f : Frame). f.cells) read in
    omega arith

pub returns-in-None-clause-laid : goal.returns-in-None-clause-laid
returns-in-None-clause-laid c =
    let core = c.args.core.now in
    let past : length core.frames.items ≤ c.args.frames = rw c.as_slice.ensures.value at (ltb-false _ _ (sym c.in-None.ensures.lookup.0)) in
    subst₂ (λ (xs : List Frame) (e : ℕ). AreLaid 0 xs e) (sym (take_all c.args.frames core.frames.items past)) (omega (arith, c.len.ensures, core.cells.ok.0)) core.laid
