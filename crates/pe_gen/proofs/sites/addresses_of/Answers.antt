use Rattle.std.proofs.Common.{◌+◌, ◌-◌, ◌≡◌, Some, length, map, get_or, refl, sym, ap, ◌∙◌, subst, arith}
use Rattle.std.specs.Prelude.{slice_get}
use Rattle.std.proofs.lemmas.List.{length-map}
use Rattle.std.proofs.lemmas.Option.{slice_get-get_or, slice_get_read}
use Rattle.fy_derive.specs.ShapeTables.{plain_shape}
use Rattle.pe_gen.specs.Preorder.{seen}
use Rattle.pe_gen.specs.Sites.{pair, Stands, LeadsTo}
use Rattle.pe_gen.proofs.AddressLemmas.{landing-none, leads, passed-leads, next-address}
use Rattle.pe_gen.proofs.Gets.{get-some, get-within}
use Rattle.pe_gen.proofs.StepLemmas.{shape-read}
use Rattle.pe_gen.proofs.sites.addresses_of.Goals as goal
use Rattle.pe_gen.proofs.sites.addresses_of.Goals.{in-Some, in-None}

pub place_of-requires : goal.place_of-requires
place_of-requires c =
    let k = c.loop-i.i - 1 in
    let x = get_or c.args.pairs.now k (pair 0 0) in
    let here = slice_get-get_or c.args.pairs.now k (pair 0 0) (omega arith) in
    let ns = map seen c.args.nodes.now in
    let node = get-some ns x.node (omega (arith, c.requires.within k x here, length-map c.args.nodes.now seen)) in
    let shape = c.index-shapes-pair.result in
    let is = shape-read c.args.shapes.now x.shape shape (slice_get_read c.args.shapes.now _ x.shape shape refl (c.requires.shapes k x here) c.index-shapes-pair.is) in
    let behind = c.requires.passed k x node.0.1 (plain_shape shape) c.in-Some.node here (node.0.0, node.1) is (sym (c.in-Some.ensures node.0.0 node.0.1 node.1)) in
    (behind.0, ap (λ ks. slice_get ks behind.0) c.in_ok-places.ensures ∙ behind.2)

pub index-requires : goal.index-requires
index-requires c =
    let within = get-within c.in_ok-places.places.keys c.place_of.result _ c.place_of.ensures in
    omega (arith, within, ap length c.in_ok-places.ensures, c.loop-i.invariant.all)

pub place_of-requires-in-None : goal.place_of-requires-in-None
place_of-requires-in-None c =
    let k = c.loop-i.i - 1 in
    let x = get_or c.args.pairs.now k (pair 0 0) in
    let here = slice_get-get_or c.args.pairs.now k (pair 0 0) (omega arith) in
    let ns = map seen c.args.nodes.now in
    let node = get-some ns x.node (omega (arith, c.requires.within k x here, length-map c.args.nodes.now seen)) in
    let shape = c.index-shapes-pair.result in
    let is = shape-read c.args.shapes.now x.shape shape (slice_get_read c.args.shapes.now _ x.shape shape refl (c.requires.shapes k x here) c.index-shapes-pair.is) in
    subst (λ m. Stands c.args.sites.now.keys (pair m x.shape)) (landing-none x.node node.0.1 (plain_shape shape) (sym (c.in-None.ensures node.0.0 node.0.1 node.1)))
    (c.requires.land x node.0.1 (plain_shape shape) (k, here) (node.0.0, node.1) is)

pub overflow_cast-address : goal.overflow_cast-address
overflow_cast-address c = omega (arith, get-within c.args.sites.now.keys c.place_of-in-None.result _ c.place_of-in-None.ensures)

pub loop-i-preserved : goal.loop-i-preserved
loop-i-preserved c =
    let k = c.loop-i.i - 1 in
    let x = get_or c.args.pairs.now k (pair 0 0) in
    let here = slice_get-get_or c.args.pairs.now k (pair 0 0) (omega arith) in
    let ns = map seen c.args.nodes.now in
    let node = get-some ns x.node (omega (arith, c.requires.within k x here, length-map c.args.nodes.now seen)) in
    let shape = c.index-shapes-pair.result in
    let is = shape-read c.args.shapes.now x.shape shape (slice_get_read c.args.shapes.now _ x.shape shape refl (c.requires.shapes k x here) c.index-shapes-pair.is) in
    let next : c.loop-i.i ≡ k + 1 = omega arith in
    let old = c.loop-i.addresses.items in
    let its : LeadsTo ns c.args.shapes.now c.args.sites.now.keys x c.match-operand_of.address = elim c.match-operand_of.branch [
      | in-Some w ↦
          subst (LeadsTo ns c.args.shapes.now c.args.sites.now.keys x) (sym w.address-is)
          (passed-leads ns c.args.shapes.now c.args.pairs.now c.args.sites.now.keys c.requires.listing c.requires.passed c.requires.once c.loop-i.i k w.place_of.result w.index.result.now old
          c.loop-i.invariant next x node.0.0 node.0.1 (plain_shape shape) w.in-Some.node here node.1 is (sym (w.in-Some.ensures node.0.0 node.0.1 node.1))
          (ap (λ ks. slice_get ks w.place_of.result) (sym c.in_ok-places.ensures) ∙ w.place_of.ensures) w.index.ensures)
      | in-None w ↦
          subst (LeadsTo ns c.args.shapes.now c.args.sites.now.keys x) (sym w.address-is)
          (leads ns c.args.shapes.now c.args.pairs.now c.args.sites.now.keys x node.0.0 node.0.1 (plain_shape shape) w.place_of-in-None.result node.1 is
          (w.place_of-in-None.ensures ∙ ap (λ m. Some (pair m x.shape)) (sym (landing-none x.node node.0.1 (plain_shape shape) (sym (w.in-None.ensures node.0.0 node.0.1 node.1))))))
    ] in
    next-address ns c.args.shapes.now c.args.pairs.now c.args.sites.now.keys c.loop-i.i k old x c.match-operand_of.address next c.loop-i.invariant here its
