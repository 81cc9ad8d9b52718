use Rattle.std.proofs.Common.{◌+◌, ◌-◌, ◌≡◌, length, ap, ◌∙◌, arith}
use Rattle.pe_gen.specs.Manners.{covered}
use Rattle.pe_gen.specs.Ranges.{many_inside}
use Rattle.pe_gen.proofs.MannerLemmas.{covered-length}
use Rattle.pe_gen.proofs.RangeLemmas.{fits-range, step-put}
use Rattle.pe_gen.proofs.manners.put_step.Goals as goal

pub cover-requires : goal.cover-requires
cover-requires c =
    let fits = fits-range c.args.step (length c.args.manners.now.items - (c.args.place + 1)) c.requires.fits in
    let most : c.len.result - (c.args.place + 1) ≡ length c.args.manners.now.items - (c.args.place + 1) = omega (arith, c.len.ensures, c.args.manners.now.ok.0) in
    omega (arith, fits, c.requires.within, c.before_inside-before.ensures, c.many_inside-many.ensures ∙ ap (many_inside c.args.step) most)

pub index_mut-requires : goal.index_mut-requires
index_mut-requires c = omega (arith, c.requires.within, ap length c.cover.ensures, covered-length (c.args.place + 1 + c.before_inside-before.result) c.many_inside-many.result c.args.manners.now.items)

pub returns : goal.returns
returns c = λ before below own is at.
    let most : c.len.result - (c.args.place + 1) ≡ length c.args.manners.now.items - (c.args.place + 1) = omega (arith, c.len.ensures, c.args.manners.now.ok.0) in
    step-put c.args.step c.args.manners.now.items c.cover.new.manners.items c.args.place (c.args.place + 1 + c.before_inside-before.result) before below own is at
    (ap (λ n. c.args.place + 1 + n) c.before_inside-before.ensures)
    (c.cover.ensures
    ∙ ap (λ n. covered (c.args.place + 1 + c.before_inside-before.result) n c.args.manners.now.items) (c.many_inside-many.ensures ∙ ap (many_inside c.args.step) most))
