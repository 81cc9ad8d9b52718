-- Premises that are taken at a type of data that serves.
use Rattle.std.proofs.Common.{◌≡◌, Bool, true, false, inr, sym, ap, ◌∙◌}
use Rattle.std.proofs.lemmas.Bool.{and_parts, or_left, or_right}
use Rattle.fy_base.specs.declared.data.BinOp.{BinOp}
use Rattle.fy_types.specs.declared.types.Atom.{Atom}
use Rattle.fy_types.specs.declared.types.Atom.TheVariants.{Comm}
use Rattle.fy_types.specs.Paths.{PlainPaths, no_paths}
use Rattle.fy_types.specs.Reading.{plain_paths}
use Rattle.fy_phrase.specs.declared.phrase.DataTy.{DataTy}
use Rattle.fy_phrase.specs.declared.phrase.DataTy.TheVariants as data_type
use Rattle.fy_derive.specs.Atoms.{data_atom, acceptor_atom, binary_atom}
use Rattle.fy_derive.specs.Derivations.{PlainDerivation}
use Rattle.fy_derive.specs.Least.{if_passed, one_end, some_data, has_operands, has_assignment}
use Rattle.fy_least.specs.declared.found.Found.{Found}
use Rattle.fy_least.specs.Derived.{derived_if, rule_of_both}
use Rattle.fy_least.specs.Rules.{IsOperated, IsAssigned, have_atoms, serves_operator, serves_assignment}
use Rattle.fy_least.specs.Visited.{as_atom}

some-serves : (test : DataTy → Bool) (D : DataTy) → test D ≡ true → some_data test ≡ true
some-serves test data_type.Int h = or_left _ _ h
some-serves test data_type.Bool h = or_right _ _ (or_left _ _ h)
some-serves test data_type.Char h = or_right _ _ (or_right _ _ h)

-- an operator
operands-there : (op : BinOp) (f g : Found) (D : DataTy) (w : Atom) → w ≡ data_atom D →
    has_operands op (plain_paths f.paths) (plain_paths g.paths) D ≡ true →
    have_atoms f g w w ≡ true
operands-there op f g D w e h = ap (λ a. have_atoms f g a a) e ∙ (and_parts _ _ h).1

pub operated-paths : (op : BinOp) (f g : Found) (D : DataTy) (w b : Atom) → w ≡ data_atom D → b ≡ binary_atom op →
    has_operands op (plain_paths f.paths) (plain_paths g.paths) D ≡ true →
    if_passed (have_atoms f g w w) (one_end b) ≡ if_passed (serves_operator op f g) (one_end (binary_atom op))
operated-paths op f g D w b e k h =
    ap (λ t. if_passed t (one_end b)) (operands-there op f g D w e h)
    ∙ (ap one_end k
    ∙ ap (λ t. if_passed t (one_end (binary_atom op))) (sym (some-serves (has_operands op (plain_paths f.paths) (plain_paths g.paths)) D h)))

pub operated : (op : BinOp) (f g : Found) (D : DataTy) (w : Atom) (d : PlainDerivation) → w ≡ data_atom D →
    has_operands op (plain_paths f.paths) (plain_paths g.paths) D ≡ true →
    d ≡ derived_if (have_atoms f g w w) (rule_of_both (as_atom w f) (as_atom w g)) → IsOperated op f g d
operated op f g D w d e h s =
    inr (
      D,
      h,
      s ∙ (ap (λ t. derived_if t (rule_of_both (as_atom w f) (as_atom w g))) (operands-there op f g D w e h)
          ∙ ap (λ a. rule_of_both (as_atom a f) (as_atom a g)) e),
    )

pub unserved : (b : Bool) (P : PlainPaths) → b ≡ false → no_paths ≡ if_passed b P
unserved b P e = sym (ap (λ t. if_passed t P) e)

-- an assignment
assigned-there : (f g : Found) (D : DataTy) (v w : Atom) → v ≡ acceptor_atom D → w ≡ data_atom D →
    has_assignment (plain_paths f.paths) (plain_paths g.paths) D ≡ true →
    have_atoms f g v w ≡ true
assigned-there f g D v w i e h = ap (λ a. have_atoms f g a w) i ∙ (ap (have_atoms f g (acceptor_atom D)) e ∙ h)

pub assigned-paths : (f g : Found) (D : DataTy) (v w : Atom) → v ≡ acceptor_atom D → w ≡ data_atom D →
    has_assignment (plain_paths f.paths) (plain_paths g.paths) D ≡ true →
    if_passed (have_atoms f g v w) (one_end Comm) ≡ if_passed (serves_assignment f g) (one_end Comm)
assigned-paths f g D v w i e h =
    ap (λ t. if_passed t (one_end Comm))
    (assigned-there f g D v w i e h ∙ sym (some-serves (has_assignment (plain_paths f.paths) (plain_paths g.paths)) D h))

pub assigned : (f g : Found) (D : DataTy) (v w : Atom) (d : PlainDerivation) → v ≡ acceptor_atom D → w ≡ data_atom D →
    has_assignment (plain_paths f.paths) (plain_paths g.paths) D ≡ true →
    d ≡ derived_if (have_atoms f g v w) (rule_of_both (as_atom v f) (as_atom w g)) → IsAssigned f g d
assigned f g D v w d i e h s =
    inr (
      D,
      h,
      s ∙ (ap (λ t. derived_if t (rule_of_both (as_atom v f) (as_atom w g))) (assigned-there f g D v w i e h)
          ∙ (ap (λ a. rule_of_both (as_atom a f) (as_atom w g)) i ∙ ap (λ a. rule_of_both (as_atom (acceptor_atom D) f) (as_atom a g)) e)),
    )
