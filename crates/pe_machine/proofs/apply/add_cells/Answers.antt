use Rattle.std.proofs.Common.{List, [], ◌∷◌, ◌++◌, pos, replicate, sym, ap, ◌∙◌, arith, append_assoc, append-nil}
use Rattle.std.proofs.lemmas.List.{replicate-append-replicate}
use Rattle.fy_base.specs.declared.data.Datum.{Datum}
use Rattle.fy_base.specs.declared.data.Datum.TheVariants as datum_kind
use Rattle.pe_machine.proofs.apply.add_cells.Goals as goal

pub loop-k-init : goal.loop-k-init
loop-k-init c = record { items = sym (append-nil c.args.cells.now.items); len = omega arith; room = omega arith }

pub loop-k-preserved : goal.loop-k-preserved
loop-k-preserved c =
    let z : Datum = datum_kind.Int (pos 0) in
    let old : List Datum = c.args.cells.now.items in
    record {
      items =
          c.in-Ok.ensures.items
          ∙ ap (λ (xs : List Datum). xs ++ z ∷ []) c.loop-k.invariant.items
          ∙ append_assoc old (replicate c.loop-k.k z) (z ∷ [])
          ∙ ap (λ (xs : List Datum). old ++ xs) (replicate-append-replicate c.loop-k.k 1 z);
      len = omega (arith, c.in-Ok.ensures.len, c.loop-k.invariant.len);
      room = omega (arith, c.in-Ok.ensures.capacity, c.loop-k.invariant.room);
    }
