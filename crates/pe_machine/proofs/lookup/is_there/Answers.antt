use Rattle.std.proofs.Common.{[], sym, ap, ◌∙◌, arith}
use Rattle.std.specs.declared.option.Option.{Option}
use Rattle.pe_machine.specs.States.{is_listed}
use Rattle.pe_machine.specs.Shown.{frames_onto, number_of}
use Rattle.pe_machine.specs.declared.frames.FrameName.{FrameName}
use Rattle.pe_machine.proofs.FrameLemmas.{listed_by, listed_none}
use Rattle.pe_machine.proofs.lookup.is_there.Goals as goal

pub returns-in-None : goal.returns-in-None
returns-in-None c =
    let fs = frames_onto c.args.core.now.cells.items [] c.args.core.now.frames.items in
    sym (ap (λ (r : Option FrameName). is_listed (number_of r) fs) c.in-None.is ∙ listed_none fs)

pub returns-in-Some : goal.returns-in-Some
returns-in-Some c =
    let core = c.args.core.now in
    let fs = frames_onto core.cells.items [] core.frames.items in
    c.is_some.ensures
    ∙ listed_by core.cells.items c.in-Some.name.number core.next c.len.result core.frames.items c.place_of.result (omega (arith, c.len.ensures, core.frames.ok.0)) core.numbered c.place_of.ensures
    ∙ sym (ap (λ (r : Option FrameName). is_listed (number_of r) fs) c.in-Some.is)
