use Rattle.fy_copy.specs.Shown.{state_of}
use Rattle.fy_copy.proofs.Forms.{lam_steps, accept_steps, let_in_steps, rec_steps}
use Rattle.fy_copy.proofs.advance.advance.Goals as goal

pub returns-in_ok-made-in-Lam-clause-ok : goal.returns-in_ok-made-in-Lam-clause-ok
returns-in_ok-made-in-Lam-clause-ok c =
    lam_steps c.args.core.now.focus c.in-Lam.d c.in-Lam.field-1 c.in-Lam.body c.in-Lam.field-3 c.deref.result.now c.bind.result c.in_ok-made-in-Lam.made (state_of c.args.core.now) _ _ c.in-Lam.is c.deref.ensures
    c.bind.ensures (c.in_ok-made-in-Lam.ensures.ok c.in-Lam.d (state_of c.args.core.now))

pub returns-in_ok-made-in-Accept-clause-ok : goal.returns-in_ok-made-in-Accept-clause-ok
returns-in_ok-made-in-Accept-clause-ok c =
    accept_steps c.args.core.now.focus c.in-Accept.d c.in-Accept.field-1 c.in-Accept.body c.in-Accept.at c.deref-in-Accept.result.now c.bind-in-Accept.result c.in_ok-made-in-Accept.made (state_of c.args.core.now) _ _ c.in-Accept.is
    c.deref-in-Accept.ensures c.bind-in-Accept.ensures (c.in_ok-made-in-Accept.ensures.ok c.in-Accept.d (state_of c.args.core.now))

pub returns-in_ok-made-in-LetIn-clause-ok : goal.returns-in_ok-made-in-LetIn-clause-ok
returns-in_ok-made-in-LetIn-clause-ok c =
    let_in_steps c.args.core.now.focus c.in-LetIn.d c.in-LetIn.p c.in-LetIn.body c.in-LetIn.field-3 c.deref-in-LetIn-2.result.now c.deref-in-LetIn.result.now c.bind-in-LetIn.result c.in_ok-made-in-LetIn.made (state_of c.args.core.now) _
    c.in-LetIn.is c.deref-in-LetIn-2.ensures c.deref-in-LetIn.ensures c.bind-in-LetIn.ensures (c.in_ok-made-in-LetIn.ensures c.in-LetIn.d (state_of c.args.core.now))

pub returns-in_ok-made-in-Rec-clause-ok : goal.returns-in_ok-made-in-Rec-clause-ok
returns-in_ok-made-in-Rec-clause-ok c =
    rec_steps c.args.core.now.focus c.in-Rec.d c.in-Rec.field-1 c.in-Rec.body c.in-Rec.field-3 c.deref-in-Rec.result.now c.bind-in-Rec.result c.in_ok-made-in-Rec.made (state_of c.args.core.now) _ c.in-Rec.is c.deref-in-Rec.ensures
    c.bind-in-Rec.ensures (c.in_ok-made-in-Rec.ensures c.in-Rec.d (state_of c.args.core.now))
