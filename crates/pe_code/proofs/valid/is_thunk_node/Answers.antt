use Rattle.std.proofs.Common.{sym, subst, List}
use Rattle.std.specs.List.{All}
use Rattle.pe_code.specs.declared.code.Entry.{Entry}
use Rattle.pe_code.specs.Valid.{LeadsTo}
use Rattle.pe_code.proofs.ValidLemmas.{thunk-node, of-node, contains-listed}
use Rattle.pe_code.proofs.valid.is_thunk_node.Goals as goal

pub returns-then-has : goal.returns-then-has
returns-then-has c =
    let code = c.args.code.now in
    let P : Entry → Type 0 = λ e. LeadsTo code c.args.depth e.address in (
      λ t. thunk-node code c.args.depth c.args.node (c.has.ensures.0 c.if-has.true) (subst (λ (l : List Entry). All P l) c.of_node.ensures (c.all_entries_lead.ensures.0 t)),
      λ h. c.all_entries_lead.ensures.1 (subst (λ (l : List Entry). All P l) (sym c.of_node.ensures) (of-node P c.args.node code.entries h.led)),
    )

pub returns-else-has : goal.returns-else-has
returns-else-has c = (
  λ t. absurd (cc),
  λ h. c.has.ensures.1 (contains-listed c.args.code.now.thunks c.args.node h.place h.listed),
)
