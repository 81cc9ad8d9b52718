-- Constants: their parts, that nothing is replaced in them, and that each path of one is that of its value.
use Rattle.std.proofs.Common.{ℕ, ◌+◌, ◌≡◌, Bool, true, false, cond, leb, List, Option, Some, None, refl, sym, ap, ap₂, ◌∙◌, subst}
use Rattle.fy_base.specs.declared.data.Datum.{Datum}
use Rattle.fy_base.specs.declared.data.UnOp.{UnOp}
use Rattle.fy_base.specs.declared.data.BinOp.{BinOp}
use Rattle.fy_base.specs.declared.arithmetic.Applied.{Applied}
use Rattle.fy_base.specs.declared.arithmetic.Applied.TheVariants.{Gives, Faults, NoSense}
use Rattle.fy_base.specs.Arithmetic.{unary_result, binary_result}
use Rattle.fy_types.specs.declared.types.Atom.{Atom}
use Rattle.fy_types.specs.Paths.{PlainPath, PlainPaths, end}
use Rattle.fy_phrase.specs.Tree.{Tree, lit, unary, binary}
use Rattle.fy_phrase.specs.Sizes.{nodes}
use Rattle.fy_derive.specs.Atoms.{data_atom, datum_atom, operand_atom, unary_atom, binary_atom}
use Rattle.fy_derive.specs.Shapes.{PlainShape}
use Rattle.fy_derive.proofs.OperatorTypes.{ResultIs, unary-typed, binary-typed}
use Rattle.pe_right.specs.Closing.{closed_by}
use Rattle.pe_right.specs.Constants.{given, unary_value, binary_value, value_of, constant}
use Rattle.pe_right.proofs.Demanding.{Answers}
use Rattle.pe_right.proofs.ClosingLemmas.{Shut}

given-is : (x : Applied) (v : Datum) → given x ≡ Some v → x ≡ Gives v
given-is (Gives w) v e = let f : w ≡ v = cc in ap Gives f
given-is (Faults kind) v e = absurd cc
given-is NoSense v e = absurd cc

-- an operator that has a value has operands with values
pub unary-of : (op : UnOp) (o : Option Datum) (v : Datum) → unary_value op o ≡ Some v → (u : Datum) × (o ≡ Some u) × (unary_result op u ≡ Gives v)
unary-of op None v e = absurd cc
unary-of op (Some u) v e = (u, refl, given-is (unary_result op u) v e)

pub binary-of : (op : BinOp) (o p : Option Datum) (v : Datum) → binary_value op o p ≡ Some v →
    (u w : Datum) × (o ≡ Some u) × (p ≡ Some w) × (binary_result op u w ≡ Gives v)
binary-of op None p v e = absurd cc
binary-of op (Some u) None v e = absurd cc
binary-of op (Some u) (Some w) v e = (u, w, refl, refl, given-is (binary_result op u w) v e)

pub constant-value : (q : Tree) (v : Datum) → constant q ≡ Some v → value_of q ≡ Some v
constant-value q v e = by (leb (nodes q) 8) e
  where
    by : (b : Bool) → cond b (value_of q) None ≡ Some v → value_of q ≡ Some v
    by true f = f
    by false f = absurd cc

-- ---- nothing is replaced

pub value-shut : (q : Tree) (v : Datum) → value_of q ≡ Some v → Shut q
value-shut (lit u at) v e n r = refl
value-shut (unary op p at) v e n r = let x = unary-of op (value_of p) v e in ap (λ (t : Tree). unary op t at) (value-shut p x.0 x.1 n r)
value-shut (binary op p q at) v e n r =
    let x = binary-of op (value_of p) (value_of q) v e in
    ap₂ (λ (t : Tree) (z : Tree). binary op t z at) (value-shut p x.0 x.2 n r) (value-shut q x.1 x.3 n r)
value-shut q v e n r = absurd cc

pub value-closed : (q : Tree) (v : Datum) (n : ℕ) (qs : List Tree) → value_of q ≡ Some v → closed_by n qs q ≡ q
value-closed (lit u at) v n qs e = refl
value-closed (unary op p at) v n qs e = let x = unary-of op (value_of p) v e in ap (λ (t : Tree). unary op t at) (value-closed p x.0 n qs x.1)
value-closed (binary op p q at) v n qs e =
    let x = binary-of op (value_of p) (value_of q) v e in
    ap₂ (λ (t : Tree) (z : Tree). binary op t z at) (value-closed p x.0 n qs x.2) (value-closed q x.1 n qs x.3)
value-closed q v n qs e = absurd cc

-- ---- paths

gives-typed : (a : Atom) (x : Applied) (v : Datum) → x ≡ Gives v → ResultIs a x → datum_atom v ≡ a
gives-typed a x v e r = subst (λ (y : Applied). ResultIs a y) e r

atom-of : (a b : Atom) → end a ≡ end b → b ≡ a
atom-of a b e = cc

module _ (T : ℕ → PlainShape → Type 0) where
  pub value-path : (q : Tree) (v : Datum) (G : List PlainPaths) (k : ℕ) (P : PlainPath) → value_of q ≡ Some v → Answers T G k q P → P ≡ end (datum_atom v)
  value-path (lit u at) v G k P e a = let f : u ≡ v = cc in a.1 ∙ ap (λ (w : Datum). end (datum_atom w)) f
  value-path (unary op p at) v G k P e a =
      let x = unary-of op (value_of p) v e in
      let y = value-path p x.0 G (k + 1) (end (operand_atom op)) x.1 a.2 in
      let t = unary-typed op x.0 (atom-of (operand_atom op) (datum_atom x.0) y) in
      a.1 ∙ ap end (sym (gives-typed (unary_atom op) (unary_result op x.0) v x.2 t))
  value-path (binary op p q at) v G k P e a =
      let x = binary-of op (value_of p) (value_of q) v e in
      let D = a.1.0 in
      let y = value-path p x.0 G (k + 1) (end (data_atom D)) x.2 a.1.3 in
      let z = value-path q x.1 G (k + 1 + nodes p) (end (data_atom D)) x.3 a.1.4 in
      let t = binary-typed op D x.0 x.1 a.1.1 (atom-of (data_atom D) (datum_atom x.0) y) (atom-of (data_atom D) (datum_atom x.1) z) in
      a.1.2 ∙ ap end (sym (gives-typed (binary_atom op) (binary_result op x.0 x.1) v x.4 t))
  value-path q v G k P e a = absurd cc
