use Rattle.std.proofs.Common.{◌≡◌, ◌∙◌, ap}
use Rattle.fy_types.specs.Reading.{plain_path, plain_elems}
use Rattle.fy_types.proofs.ReadLemmas.{plain_path-at}
use Rattle.fy_types.specs.declared.types.Atom.TheVariants.{Comm, Compl}
use Rattle.fy_order.specs.Levels.{plain_tagged, end_of}
use Rattle.fy_order.proofs.LevelLemmas.{end-fronted}
use Rattle.fy_order.proofs.SearchLemmas.{wanted-below}
use Rattle.fy_order.proofs.sign.Wanted.below.Goals as goal
use Rattle.fy_order.proofs.sign.Wanted.below.Goals.{then-eq, else-eq}

pub returns : goal.returns
returns c t low =
    let path = c.args.path.path.now in
    let is : end_of (plain_path path) ≡ path.end = ap end_of (plain_path-at path) ∙ end-fronted (plain_elems path.elems) path.end in
    let turn : path.end ≡ Comm → c.if-eq.other ≡ Compl =
    λ e. elim c.if-eq.branch [
      | then-eq w ↦ w.other-is
      | else-eq w ↦ let test = rw e at c.eq.ensures in let is_not = w.if-eq.false in absurd (cc)
    ] in
    rw (c.sign.ensures, c.sign-2.ensures) (wanted-below t (plain_tagged c.args.path) path.end c.if-eq.other low is turn)
