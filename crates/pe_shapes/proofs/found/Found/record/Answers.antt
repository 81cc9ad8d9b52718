use Rattle.std.proofs.Common.{arith}
use Rattle.pe_shapes.specs.declared.found.Found.{Found}
use Rattle.pe_shapes.proofs.RecordLemmas.{one-more, one-more-full, one-added, one-found, one-stops, inserted-split, longer-by_one}
use Rattle.pe_shapes.proofs.Standings.{Extends-itself}
use Rattle.std.proofs.Common.{eqb, refl}
use Rattle.pe_shapes.proofs.found.Found.record.Goals as goal

pub returns-then-place-ge-MOST_SHAPES-clause-recorded : goal.returns-then-place-ge-MOST_SHAPES-clause-recorded
returns-then-place-ge-MOST_SHAPES-clause-recorded c =
    let f = c.args.self.now in
    let g : Found = record f { used = c.insert_full.new.self } in
    one-stops f g c.args.node c.args.number c.requires.sound (Extends-itself f.numbers) c.requires.number
    (inserted-split eqb f.used.keys g.used.keys c.args.number c.in_ok-place.ensures.keys) c.in_ok-place.ensures.unique
    (omega (arith, c.in_ok-place.ensures.within, c.if-place-ge-MOST_SHAPES.true))

pub returns-then-len-gt-MOST_PAIRS-clause-recorded : goal.returns-then-len-gt-MOST_PAIRS-clause-recorded
returns-then-len-gt-MOST_PAIRS-clause-recorded c =
    let f = c.args.self.now in
    let g : Found = record f { used = c.insert_full.new.self } in
    one-added f g c.args.node c.args.number c.in_ok-place.place c.requires.sound
    (one-more-full f g c.args.node c.args.number c.in_ok-place.place (Extends-itself f.numbers) c.requires.number c.in_ok-place.ensures.keys c.in_ok-place.ensures.stored refl
    (omega (arith, c.len.ensures.len, c.if-len-gt-MOST_PAIRS.true)))

pub returns-then-len-gt-MOST_PAIRS-clause-sound : goal.returns-then-len-gt-MOST_PAIRS-clause-sound
returns-then-len-gt-MOST_PAIRS-clause-sound c =
    let f = c.args.self.now in
    let g : Found = record f { used = c.insert_full.new.self } in
    one-found f g c.args.node c.args.number c.in_ok-place.place c.requires.sound
    (one-more-full f g c.args.node c.args.number c.in_ok-place.place (Extends-itself f.numbers) c.requires.number c.in_ok-place.ensures.keys c.in_ok-place.ensures.stored refl
    (omega (arith, c.len.ensures.len, c.if-len-gt-MOST_PAIRS.true)))
    c.in_ok-place.ensures.unique c.len.ensures.unique (omega (arith, c.if-place-ge-MOST_SHAPES.false)) c.requires.sound.few_pairs

pub returns-clause-recorded : goal.returns-clause-recorded
returns-clause-recorded c =
    let f = c.args.self.now in
    let g : Found = record f { used = c.insert_full.new.self; pairs = c.insert.new.self } in
    one-added f g c.args.node c.args.number c.in_ok-place.place c.requires.sound
    (one-more f g c.args.node c.args.number c.in_ok-place.place (Extends-itself f.numbers) c.requires.number c.in_ok-place.ensures.keys c.in_ok-place.ensures.stored c.in_ok-insert.ensures.keys)

pub returns-clause-sound : goal.returns-clause-sound
returns-clause-sound c =
    let f = c.args.self.now in
    let g : Found = record f { used = c.insert_full.new.self; pairs = c.insert.new.self } in
    let m = one-more f g c.args.node c.args.number c.in_ok-place.place (Extends-itself f.numbers) c.requires.number c.in_ok-place.ensures.keys c.in_ok-place.ensures.stored c.in_ok-insert.ensures.keys in
    one-found f g c.args.node c.args.number c.in_ok-place.place c.requires.sound m
    c.in_ok-place.ensures.unique c.in_ok-insert.ensures.unique (omega (arith, c.if-place-ge-MOST_SHAPES.false))
    (longer-by_one f g c.args.node c.args.number c.in_ok-place.place m (omega (arith, c.len.ensures.len, c.if-len-gt-MOST_PAIRS.false)))
