use Rattle.std.proofs.Common.{◌≡◌, ◌+◌, if◌then◌else◌, map, Some, sym, ap, ◌∙◌, arith}
use Rattle.std.proofs.lemmas.List.{length-map}
use Rattle.fy_derive.specs.ShapeTables.{plain_shape}
use Rattle.fy_phrase.specs.Reads.{reads}
use Rattle.fy_phrase.specs.Sizes.{nodes}
use Rattle.pe_gen.specs.Preorder.{seen}
use Rattle.pe_gen.specs.Sites.{right_of, operand_at}
use Rattle.pe_gen.proofs.Gets.{some_same, pair_second, get-within}
use Rattle.pe_gen.proofs.MergeLemmas.{merge-form, left-listed}
use Rattle.pe_gen.proofs.SeenLemmas.{seen-at}
use Rattle.pe_gen.proofs.sites.operand_of.Goals as goal

pub number_behind-requires-clause-listed : goal.number_behind-requires-clause-listed
number_behind-requires-clause-listed c =
    let n = c.index-nodes-number.result in
    let ns = map seen c.args.nodes.now in
    let here = seen-at c.args.nodes.now c.args.number n c.requires.within c.index-nodes-number.is in
    let e = c.in_ok-right.ensures in
    let i = c.index-nodes-number.is in
    let right : Some (reads c.in_ok-right.right.now) ≡ right_of (reads n.phrase.now) = cc in
    let form = merge-form (reads n.phrase.now) (reads c.in_ok-right.right.now) right in
    let left = left-listed c.requires.listing.0 ns c.requires.listing.1 c.args.number n.depth form.0 (reads c.in_ok-right.right.now) form.1
    (here ∙ ap (λ q. Some (n.depth, q)) form.2) in
    omega (arith, get-within ns (c.args.number + 1) _ left, length-map c.args.nodes.now seen)

pub returns-then-takes : goal.returns-then-takes
returns-then-takes c = λ d q is.
    let n = c.index-nodes-number.result in
    let ns = map seen c.args.nodes.now in
    let here = seen-at c.args.nodes.now c.args.number n c.requires.within c.index-nodes-number.is in
    let e = c.in_ok-right.ensures in
    let i = c.index-nodes-number.is in
    let right : Some (reads c.in_ok-right.right.now) ≡ right_of (reads n.phrase.now) = cc in
    let form = merge-form (reads n.phrase.now) (reads c.in_ok-right.right.now) right in
    let left = left-listed c.requires.listing.0 ns c.requires.listing.1 c.args.number n.depth form.0 (reads c.in_ok-right.right.now) form.1
    (here ∙ ap (λ q. Some (n.depth, q)) form.2) in
    ap Some (c.number_behind.ensures n.depth form.0 left)
    ∙ (ap (λ b. Some (if b then c.args.number + 1 + nodes form.0 else c.args.number + 1)) (sym c.if-takes.true ∙ c.takes.ensures)
    ∙ ap (λ f. operand_at c.args.number f (plain_shape c.args.shape.now)) (sym form.2 ∙ pair_second (some_same (sym here ∙ is))))

pub returns-else-takes : goal.returns-else-takes
returns-else-takes c = λ d q is.
    let n = c.index-nodes-number.result in
    let here = seen-at c.args.nodes.now c.args.number n c.requires.within c.index-nodes-number.is in
    let e = c.in_ok-right.ensures in
    let i = c.index-nodes-number.is in
    let right : Some (reads c.in_ok-right.right.now) ≡ right_of (reads n.phrase.now) = cc in
    let form = merge-form (reads n.phrase.now) (reads c.in_ok-right.right.now) right in
    ap (λ b. Some (if b then c.args.number + 1 + nodes form.0 else c.args.number + 1)) (sym c.if-takes.false ∙ c.takes.ensures)
    ∙ ap (λ f. operand_at c.args.number f (plain_shape c.args.shape.now)) (sym form.2 ∙ pair_second (some_same (sym here ∙ is)))
