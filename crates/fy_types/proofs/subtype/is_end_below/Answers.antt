use denote.Enum.Bare.{same_true, same_false, true_same}
use Rattle.std.proofs.Common.{rules, ◌≡◌, refl, sym, subst, ◌∙◌}
use Rattle.fy_types.specs.declared.types.Atom.{Atom}
use Rattle.fy_types.specs.declared.types.Atom.TheVariants.{Comm, Compl}
use Rattle.fy_types.specs.contracts.types.Atom.{the_type}
use Rattle.fy_types.specs.PathOrder.{IsEndBelow, same_end, compl_below}
use Rattle.fy_types.proofs.subtype.is_end_below.Goals as goal

above : {a b : Atom} → (a ≡ b → ⊥) → IsEndBelow a b → b ≡ Comm
above apart same_end = absurd (apart refl)
above apart compl_below = refl

equal_ends : {a b : Atom} → a ≡ b → IsEndBelow a b
equal_ends {a = a} e = subst (λ x. IsEndBelow a x) e same_end

other_ends : {a b : Atom} → a ≡ Compl → b ≡ Comm → IsEndBelow a b
other_ends low high = rw (low, high) compl_below

pub returns-then-eq : goal.returns-then-eq
returns-then-eq c = (
  λ t. equal_ends (same_true the_type (search rules) c.args.a c.args.b (sym c.eq.ensures ∙ t)),
  λ below. c.if-eq.true,
)

pub returns-then-eq-2 : goal.returns-then-eq-2
returns-then-eq-2 c = (
  λ t. other_ends (same_true the_type (search rules) c.args.a Compl (sym c.eq-else-eq.ensures ∙ c.if-eq-2.true))
      (same_true the_type (search rules) c.args.b Comm (sym c.eq-then-eq-2.ensures ∙ t)),
  λ below. c.eq-then-eq-2.ensures ∙ true_same the_type c.args.b Comm
      (above (same_false the_type c.args.a c.args.b (sym c.eq.ensures ∙ c.if-eq.false)) below),
)
