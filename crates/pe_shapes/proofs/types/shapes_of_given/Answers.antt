use Rattle.std.proofs.Common.{ap, refl, sym, subst}
use Rattle.fy_phrase.specs.declared.shapes.ShapeEnd.TheVariants as ending
use Rattle.fy_types.specs.declared.types.Atom.TheVariants.{Compl}
use Rattle.fy_derive.specs.Atoms.{data_atom, cell_type, sequence_type}
use Rattle.fy_phrase.specs.Premises.{given_type}
use Rattle.pe_shapes.specs.Standing.{AreJust}
use Rattle.pe_shapes.proofs.ShapeLemmas.{AreJust-end, AreJust-cell, AreJust-sequence, AreJust-as, data_end}
use Rattle.pe_shapes.proofs.types.shapes_of_given.Goals as goal

pub returns-in_ok-all-in-Value-clause-made : goal.returns-in_ok-all-in-Value-clause-made
returns-in_ok-all-in-Value-clause-made c =
    AreJust-end _ ending.Value (data_atom c.in-Value.field-0) _ (ap given_type c.in-Value.is) (data_end c.in-Value.field-0) c.in_ok-all-in-Value.ensures.shown

pub returns-in_ok-all-in-Exit-clause-made : goal.returns-in_ok-all-in-Exit-clause-made
returns-in_ok-all-in-Exit-clause-made c =
    AreJust-end _ ending.Run Compl _ (ap given_type c.in-Exit.is) refl c.in_ok-all-in-Exit.ensures.shown

pub returns-in_ok-all-in-Cell-clause-made : goal.returns-in_ok-all-in-Cell-clause-made
returns-in_ok-all-in-Cell-clause-made c =
    AreJust-as (sym (ap given_type c.in-Cell.is))
    (subst (λ S. AreJust S (cell_type c.in-Cell.field-0)) (sym c.in_ok-all-in-Cell.ensures.shown) (AreJust-cell c.in-Cell.field-0))

pub returns-in_ok-all-in-Sequence-clause-made : goal.returns-in_ok-all-in-Sequence-clause-made
returns-in_ok-all-in-Sequence-clause-made c =
    AreJust-as (sym (ap given_type c.in-Sequence.is))
    (subst (λ S. AreJust S sequence_type) (sym c.in_ok-all-in-Sequence.ensures.shown) AreJust-sequence)
