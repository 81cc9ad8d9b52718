-- A rule's conclusion comes from where its form says.
use Rattle.std.proofs.Common.{ℕ, ◌≡◌, Bool, ◌&&◌, ◌||◌, eqb, eqb-true, List, [], ◌∷◌, Some, refl, sym, ap, ◌∙◌}
use Rattle.fy_base.specs.declared.data.Datum.{Datum}
use Rattle.fy_base.specs.declared.data.Datum.TheVariants as datum
use Rattle.fy_base.specs.declared.data.UnOp.{UnOp}
use Rattle.fy_base.specs.declared.data.UnOp.TheVariants.{Neg, Not, Ord, Chr}
use Rattle.fy_base.specs.declared.data.BinOp.{BinOp}
use Rattle.fy_base.specs.declared.data.BinOp.TheVariants.{Add}
use Rattle.fy_types.specs.declared.types.Atom.{Atom}
use Rattle.fy_types.specs.declared.types.Atom.TheVariants.{Int, Bool as Truth, Comm, Compl, IntAcc}
use Rattle.fy_types.specs.Types.{PlainType, atom, arrow, field as field_type}
use Rattle.fy_phrase.specs.declared.phrase.DataTy.{DataTy}
use Rattle.fy_phrase.specs.declared.phrase.DataTy.TheVariants as data_type
use Rattle.fy_phrase.specs.declared.shapes.ShapeEnd.{ShapeEnd}
use Rattle.fy_phrase.specs.declared.shapes.ShapeEnd.TheVariants as ending
use Rattle.fy_phrase.specs.Tree.{Tree, var, lit, unary, binary, cond, case, lam, app, field, sel, merge, let_in, rec, skip, seq, assign, while_do, forever, new, cells, escape, accept, put, read, mark}
use Rattle.fy_derive.specs.Atoms.{data_atom, acceptor_atom, datum_atom, unary_atom, binary_atom, operand_atom, put_atom}
use Rattle.fy_derive.specs.Rules.{provided, same_type, is_atom, fits_operator, fits_assignment, chosen, all_same, picked_type, applied, selected, command_behind, conclusion}
use Rattle.fy_derive.specs.Shapes.{end_shape, a_value, an_assignment}
use Rattle.fy_derive.specs.ShapeTables.{plain_end}
use Rattle.fy_derive.specs.Tables.{type_at}
use Rattle.fy_derive.proofs.RuleLemmas.{same_type-true}
use Rattle.pe_shapes.specs.Origins.{origin, ComesFrom}
use Rattle.pe_shapes.proofs.JudgedLemmas.{some_same, provided-inner}

datum_end : (v : Datum) → end_shape (datum_atom v) ≡ a_value
datum_end (datum.Int n) = refl
datum_end (datum.Bool b) = refl
datum_end (datum.Char x) = refl

unary_end : (op : UnOp) → end_shape (unary_atom op) ≡ a_value
unary_end Neg = refl
unary_end Not = refl
unary_end Ord = refl
unary_end Chr = refl

binary_end : (op : BinOp) → end_shape (binary_atom op) ≡ a_value
binary_end Add = refl
binary_end op = refl

pub acceptor_end : (D : DataTy) → end_shape (acceptor_atom D) ≡ an_assignment
acceptor_end data_type.Int = refl
acceptor_end data_type.Bool = refl
acceptor_end data_type.Char = refl

-- an atom that is provided
ends : (b : Bool) (a : Atom) (A : PlainType) (e : ShapeEnd) → end_shape a ≡ plain_end e → provided b (atom a) ≡ Some A → (x : Atom) × (A ≡ atom x) × (end_shape x ≡ plain_end e)
ends b a A e s h = (a, sym (provided-inner b (atom a) A h).1, s)

is_chosen : (B A D C : PlainType) → chosen B A D ≡ Some C → A ≡ C
is_chosen B A D C e = (provided-inner (is_atom Truth B && same_type A D) A C e).1

is_picked : (As : List PlainType) (A : PlainType) → picked_type As ≡ Some A → type_at As 1 ≡ A
is_picked [] A e = absurd cc
is_picked (E ∷ []) A e = absurd cc
is_picked (E ∷ B ∷ As) A e = (provided-inner (is_atom Int E && all_same B As) B A e).1

is_command : (a : Atom) (A R C : PlainType) → command_behind a A R ≡ Some C → R ≡ C
is_command a A R C e = (provided-inner (is_atom a A && (is_atom Comm R || is_atom Compl R)) R C e).1

is_applied : (F B C : PlainType) → applied F B ≡ Some C → (D : PlainType) × (F ≡ arrow D C)
is_applied (arrow A D) B C e = (A, ap (arrow A) (provided-inner (same_type A B) D C e).1)
is_applied F B C e = absurd cc

is_selected : (F : PlainType) (i : ℕ) (C : PlainType) → selected F i ≡ Some C → F ≡ field_type i C
is_selected (field_type j A) i C e =
    let x = provided-inner (eqb i j) A C e in ap (λ k. field_type k A) (sym (eqb-true i j x.0)) ∙ ap (field_type i) x.1
is_selected F i C e = absurd cc

is_written : (A T C : PlainType) → provided (same_type A T) T ≡ Some C → A ≡ C
is_written A T C e = let x = provided-inner (same_type A T) T C e in same_type-true A T x.0 ∙ x.1

pub comes_from : (G : List PlainType) (p : Tree) (As : List PlainType) (A : PlainType) → conclusion G p As ≡ Some A → ComesFrom (origin p) G As A
comes_from G (var k at) As A e = e
comes_from G (lit v at) As A e = (datum_atom v, sym (some_same e), datum_end v)
comes_from G (unary op p at) As A e = ends (is_atom (operand_atom op) (type_at As 0)) (unary_atom op) A ending.Value (unary_end op) e
comes_from G (binary op p q at) As A e = ends (fits_operator op (type_at As 0) (type_at As 1)) (binary_atom op) A ending.Value (binary_end op) e
comes_from G (cond b p q at) As A e = is_chosen (type_at As 0) (type_at As 1) (type_at As 2) A e
comes_from G (case i parts at) As A e = is_picked As A e
comes_from G (lam d Bs b at) As A e = absurd cc
comes_from G (app p q at) As A e = is_applied (type_at As 0) (type_at As 1) A e
comes_from G (field i p at) As A e = sym (some_same e)
comes_from G (sel p i at) As A e = is_selected (type_at As 0) i A e
comes_from G (merge p q at) As A e = absurd cc
comes_from G (let_in d p b at) As A e = some_same e
comes_from G (rec d T b at) As A e = is_written (type_at As 0) T A e
comes_from G (skip at) As A e = (Comm, sym (some_same e), refl)
comes_from G (seq p q at) As A e = is_command Comm (type_at As 0) (type_at As 1) A e
comes_from G (assign p q at) As A e = ends (fits_assignment (type_at As 0) (type_at As 1)) Comm A ending.Run refl e
comes_from G (while_do b q at) As A e = ends (is_atom Truth (type_at As 0) && is_atom Comm (type_at As 1)) Comm A ending.Run refl e
comes_from G (forever q at) As A e = ends (is_atom Comm (type_at As 0)) Compl A ending.Run refl e
comes_from G (new d D i b at) As A e = is_command (data_atom D) (type_at As 0) (type_at As 1) A e
comes_from G (cells d i b at) As A e = is_command Int (type_at As 0) (type_at As 1) A e
comes_from G (escape d b at) As A e = ends (is_atom Comm (type_at As 0)) Comm A ending.Run refl e
comes_from G (accept d D b at) As A e = ends (is_atom Comm (type_at As 0)) (acceptor_atom D) A ending.Assign (acceptor_end D) e
comes_from G (put kind p at) As A e = ends (is_atom (put_atom kind) (type_at As 0)) Comm A ending.Run refl e
comes_from G (read p at) As A e = ends (is_atom IntAcc (type_at As 0)) Comm A ending.Run refl e
comes_from G (mark m at) As A e = absurd cc
