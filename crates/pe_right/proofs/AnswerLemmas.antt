-- What answers a path with the table: it has the path's shape in the table, it answers each path above, and of a merge the operand answers that the shape asks for.
use Rattle.std.proofs.Common.{ℕ, zero, suc, ◌+◌, ◌<◌, ◌≡◌, ◌⊎◌, ℤ, Bool, true, false, List, [], ◌∷◌, length, Some, refl, sym, ap, ◌∙◌, subst, inl, inr, arith, eq-eqb}
use Rattle.fy_base.specs.declared.data.Place.{Place}
use Rattle.fy_base.specs.declared.data.Datum.{Datum}
use Rattle.fy_base.specs.declared.data.Datum.TheVariants as datum
use Rattle.fy_base.specs.declared.data.UnOp.{UnOp}
use Rattle.fy_base.specs.declared.data.BinOp.TheVariants.{And, Or}
use Rattle.fy_base.specs.declared.data.PutKind.{PutKind}
use Rattle.fy_base.specs.declared.data.PutKind.TheVariants as put_kind
use Rattle.fy_base.specs.Outside.{Bytes}
use Rattle.fy_base.specs.Arithmetic.{written_text}
use Rattle.fy_types.specs.declared.types.Atom.{Atom}
use Rattle.fy_types.specs.declared.types.Atom.TheVariants as atoms
use Rattle.fy_types.specs.Paths.{PlainPath, PlainPaths, end, call, pick, no_paths, and_path, paths}
use Rattle.fy_types.specs.PathOrder.{same_end, compl_below, IsPathBelow, ends, calls, picks, ArePathsBelow, and_above, HasBelow, here, there}
use Rattle.fy_types.proofs.Order.{IsPathBelow-refl, ArePathsBelow-refl}
use Rattle.fy_phrase.specs.declared.phrase.DataTy.{DataTy}
use Rattle.fy_phrase.specs.declared.phrase.DataTy.TheVariants as data_type
use Rattle.fy_phrase.specs.Tree.{Tree, Trees, no_trees, and_tree, var, lit, unary, binary, cond as conditional, case, lam, app, field, sel, merge, let_in, rec, skip, seq, assign, while_do, forever, new, cells, escape, accept, put, read, mark}
use Rattle.fy_phrase.specs.Sizes.{nodes}
use Rattle.fy_phrase.specs.Copy.{part_at}
use Rattle.fy_derive.specs.Atoms.{data_atom, acceptor_atom, cell_type, sequence_type, datum_atom, operand_atom, unary_atom, takes, binary_atom, put_atom, is_acceptor}
use Rattle.fy_derive.specs.Kinds.{Kind, of_call, of_field, of_assignment, kind_of, begins}
use Rattle.fy_derive.specs.Shapes.{a_value, an_assignment, a_run, PlainShape, at_end, a_call, a_field, end_shape, erase, shape_begins}
use Rattle.fy_derive.proofs.PathTyping.{paths_at, EachPath, EachPath-map, HasBelow-up, begins-up, Covers, IsRun, only, fixed-up, data_atom-fixed, acceptor_atom-fixed, datum_atom-fixed, unary_atom-fixed, binary_atom-fixed, call-up, pick-up, covers-same, covers-under, under-same}
pub use Rattle.fy_derive.proofs.PathTyping.{run-up}
use Rattle.fy_derive.proofs.Asking.{data_atom-shape, acceptor_atom-shape, datum_atom-shape, operand_atom-shape, put_atom-shape, command-shape}
pub use Rattle.fy_derive.proofs.ContextSafety.{acceptor_atom-same}
use Rattle.pe_right.proofs.Demanding.{Answers, EachAnswers}

-- ---- shapes

-- paths of which one is below the other have one shape
pub erase-below : {P Q : PlainPath} → IsPathBelow P Q → erase P ≡ erase Q
erase-below (ends same_end) = refl
erase-below (ends compl_below) = refl
erase-below (calls wide low) = ap a_call (erase-below low)
erase-below (picks {i = i} low) = ap (a_field i) (erase-below low)

assignment_begins-shape : (a : Atom) → is_acceptor a ≡ shape_begins of_assignment (at_end (end_shape a))
assignment_begins-shape atoms.Int = refl
assignment_begins-shape atoms.Bool = refl
assignment_begins-shape atoms.Char = refl
assignment_begins-shape atoms.Comm = refl
assignment_begins-shape atoms.Compl = refl
assignment_begins-shape atoms.IntAcc = refl
assignment_begins-shape atoms.BoolAcc = refl
assignment_begins-shape atoms.CharAcc = refl

-- what a path begins with is what its shape does
pub begins-shape : (kind : Kind) (P : PlainPath) → begins kind P ≡ shape_begins kind (erase P)
begins-shape of_call (end a) = refl
begins-shape of_call (call D P) = refl
begins-shape of_call (pick i P) = refl
begins-shape (of_field j) (end a) = refl
begins-shape (of_field j) (call D P) = refl
begins-shape (of_field j) (pick i P) = refl
begins-shape of_assignment (end a) = assignment_begins-shape a
begins-shape of_assignment (call D P) = refl
begins-shape of_assignment (pick i P) = refl

-- the shapes of ends
pub data-erase : (D : DataTy) → erase (end (data_atom D)) ≡ at_end a_value
data-erase D = ap at_end (data_atom-shape D)

pub acceptor-erase : (D : DataTy) → erase (end (acceptor_atom D)) ≡ at_end an_assignment
acceptor-erase D = ap at_end (acceptor_atom-shape D)

pub datum-erase : (v : Datum) → erase (end (datum_atom v)) ≡ at_end a_value
datum-erase v = ap at_end (datum_atom-shape v)

pub operand-erase : (op : UnOp) → erase (end (operand_atom op)) ≡ at_end a_value
operand-erase op = ap at_end (operand_atom-shape op)

pub put-erase : (kind : PutKind) → erase (end (put_atom kind)) ≡ at_end a_value
put-erase kind = ap at_end (put_atom-shape kind)

pub run-erase : {P : PlainPath} → IsRun P → erase P ≡ at_end a_run
run-erase (R, is, e) = ap erase e ∙ ap at_end (command-shape R is)

-- ---- what holds of a path above

-- of a data type, of its acceptors and of a datum's type only the end itself is above
pub data-up : (D : DataTy) {Q : PlainPath} → IsPathBelow (end (data_atom D)) Q → Q ≡ end (data_atom D)
data-up D low = fixed-up (data_atom D) (data_atom-fixed D) refl low

pub acceptor-up : (D : DataTy) {Q : PlainPath} → IsPathBelow (end (acceptor_atom D)) Q → Q ≡ end (acceptor_atom D)
acceptor-up D low = fixed-up (acceptor_atom D) (acceptor_atom-fixed D) refl low

pub datum-up : (v : Datum) {Q : PlainPath} → IsPathBelow (end (datum_atom v)) Q → Q ≡ end (datum_atom v)
datum-up v low = fixed-up (datum_atom v) (datum_atom-fixed v) refl low

-- a cell has the end of its data type, which is read, and that of its acceptors, which is written
pub cell-paths : (D : DataTy) (Q : PlainPath) → HasBelow (paths (cell_type D)) Q → (Q ≡ end (data_atom D)) ⊎ (Q ≡ end (acceptor_atom D))
cell-paths D Q (here low) = inl (data-up D low)
cell-paths D Q (there (here low)) = inr (acceptor-up D low)
cell-paths D Q (there (there some)) = elim some [ ]

-- ---- variables

-- a variable that has a path is in scope
pub in_scope : (G : List PlainPaths) (j : ℕ) (P : PlainPath) → HasBelow (paths_at G j) P → j < length G
in_scope [] j P some = elim some [ ]
in_scope (D ∷ G) zero P some = omega arith
in_scope (D ∷ G) (suc j) P some = let l = in_scope G j P some in omega arith

-- ---- answers

module _ (T : ℕ → PlainShape → Type 0) where
  -- what answers a path has its shape in the table
  pub has-pair : (p : Tree) (G : List PlainPaths) (k : ℕ) (P : PlainPath) → Answers T G k p P → T k (erase P)
  has-pair (mark m at) G k P h = absurd h
  has-pair p G k P h = h.0

  pub pair-up : (k : ℕ) {P Q : PlainPath} → IsPathBelow P Q → T k (erase P) → T k (erase Q)
  pair-up k low t = subst (T k) (erase-below low) t

  mutual
    -- with better variables it answers each path above
    pub answers-up : (p : Tree) (G H : List PlainPaths) (k : ℕ) (P Q : PlainPath) → Covers H G → IsPathBelow P Q → Answers T G k p P → Answers T H k p Q
    answers-up (var j at) G H k P Q c l h = (pair-up k l h.0, HasBelow-up (c j P h.1) l)
    answers-up (lit v at) G H k P Q c l h = (pair-up k l h.0, fixed-up (datum_atom v) (datum_atom-fixed v) h.1 l)
    answers-up (unary op p at) G H k P Q c l h =
        (pair-up k l h.0, fixed-up (unary_atom op) (unary_atom-fixed op) h.1 l, answers-up p G H (k + 1) _ _ c (IsPathBelow-refl _) h.2)
    answers-up (binary op p q at) G H k P Q c l h =
        let (D, t, e, a, b) = h.1 in (
          pair-up k l h.0,
          (
            D,
            t,
            fixed-up (binary_atom op) (binary_atom-fixed op) e l,
            answers-up p G H (k + 1) _ _ c (IsPathBelow-refl _) a,
            answers-up q G H (k + 1 + nodes p) _ _ c (IsPathBelow-refl _) b,
          ),
        )
    answers-up (conditional b p q at) G H k P Q c l h = (
      pair-up k l h.0,
      answers-up b G H (k + 1) _ _ c (IsPathBelow-refl _) h.1,
      answers-up p G H (k + 1 + nodes b) P Q c l h.2,
      answers-up q G H (k + 1 + nodes b + nodes p) P Q c l h.3,
    )
    answers-up (case e parts at) G H k P Q c l h =
        (pair-up k l h.0, answers-up e G H (k + 1) _ _ c (IsPathBelow-refl _) h.1, each-up parts G H (k + 1 + nodes e) P Q c l h.2)
    answers-up (lam d As b at) G H k P Q c l h =
        let (D, R, e, a) = h.1 in
        let u = call-up D R e l in
        (pair-up k l h.0, (u.0, u.1, u.2, answers-up b (D ∷ G) (u.0 ∷ H) (k + 1) R u.1 (covers-under D u.0 H G u.3 c) u.4 a))
    answers-up (app p q at) G H k P Q c l h =
        let (D, a, each) = h.1 in (
          pair-up k l h.0,
          (
            D,
            answers-up p G H (k + 1) (call D P) (call D Q) c (calls (ArePathsBelow-refl D) l) a,
            EachPath-map D (λ R b. answers-up q G H (k + 1 + nodes p) R R c (IsPathBelow-refl R) b) each,
          ),
        )
    answers-up (field i p at) G H k P Q c l h =
        let (R, e, a) = h.1 in
        let u = pick-up i R e l in
        (pair-up k l h.0, (u.0, u.1, answers-up p G H (k + 1) R u.0 c u.2 a))
    answers-up (sel p i at) G H k P Q c l h = (pair-up k l h.0, answers-up p G H (k + 1) (pick i P) (pick i Q) c (picks l) h.1)
    answers-up (merge p q at) G H k P Q c l h =
        let (kind, e, some) = h.1 in (
          pair-up k l h.0,
          (
            kind,
            e,
            elim some [
              | inl x ↦ inl (sym (begins-up kind l) ∙ x.0, answers-up p G H (k + 1) P Q c l x.1)
              | inr x ↦ inr (answers-up q G H (k + 1 + nodes p) P Q c l x)
            ],
          ),
        )
    answers-up (let_in d p b at) G H k P Q c l h =
        let (D, each, a) = h.1 in (
          pair-up k l h.0,
          (
            D,
            EachPath-map D (λ R x. answers-up p G H (k + 1) R R c (IsPathBelow-refl R) x) each,
            answers-up b (D ∷ G) (D ∷ H) (k + 1 + nodes p) P Q (under-same D H G c) l a,
          ),
        )
    answers-up (rec d A b at) G H k P Q c l h = (
      pair-up k l h.0,
      HasBelow-up h.1 l,
      h.2,
      EachPath-map (paths A) (λ R x. answers-up b (paths A ∷ G) (paths A ∷ H) (k + 1) R R (under-same (paths A) H G c) (IsPathBelow-refl R) x) h.3,
    )
    answers-up (skip at) G H k P Q c l h = (pair-up k l h.0, fixed-up atoms.Comm tt h.1 l)
    answers-up (seq p q at) G H k P Q c l h =
        (pair-up k l h.0, run-up h.1 l, answers-up p G H (k + 1) _ _ c (IsPathBelow-refl _) h.2, answers-up q G H (k + 1 + nodes p) P Q c l h.3)
    answers-up (assign p q at) G H k P Q c l h =
        let (D, e, a, b) = h.1 in (
          pair-up k l h.0,
          (D, fixed-up atoms.Comm tt e l, answers-up p G H (k + 1) _ _ c (IsPathBelow-refl _) a, answers-up q G H (k + 1 + nodes p) _ _ c (IsPathBelow-refl _) b),
        )
    answers-up (while_do b p at) G H k P Q c l h = (
      pair-up k l h.0,
      fixed-up atoms.Comm tt h.1 l,
      answers-up b G H (k + 1) _ _ c (IsPathBelow-refl _) h.2,
      answers-up p G H (k + 1 + nodes b) _ _ c (IsPathBelow-refl _) h.3,
    )
    answers-up (forever p at) G H k P Q c l h = (pair-up k l h.0, run-up h.1 l, answers-up p G H (k + 1) _ _ c (IsPathBelow-refl _) h.2)
    answers-up (new d D e b at) G H k P Q c l h = (
      pair-up k l h.0,
      run-up h.1 l,
      answers-up e G H (k + 1) _ _ c (IsPathBelow-refl _) h.2,
      answers-up b (paths (cell_type D) ∷ G) (paths (cell_type D) ∷ H) (k + 1 + nodes e) P Q (under-same (paths (cell_type D)) H G c) l h.3,
    )
    answers-up (cells d e b at) G H k P Q c l h = (
      pair-up k l h.0,
      run-up h.1 l,
      answers-up e G H (k + 1) _ _ c (IsPathBelow-refl _) h.2,
      answers-up b (paths sequence_type ∷ G) (paths sequence_type ∷ H) (k + 1 + nodes e) P Q (under-same (paths sequence_type) H G c) l h.3,
    )
    answers-up (escape d b at) G H k P Q c l h = (
      pair-up k l h.0,
      fixed-up atoms.Comm tt h.1 l,
      answers-up b (only atoms.Compl ∷ G) (only atoms.Compl ∷ H) (k + 1) _ _ (under-same (only atoms.Compl) H G c) (IsPathBelow-refl _) h.2,
    )
    answers-up (accept d D b at) G H k P Q c l h = (
      pair-up k l h.0,
      fixed-up (acceptor_atom D) (acceptor_atom-fixed D) h.1 l,
      answers-up b (only (data_atom D) ∷ G) (only (data_atom D) ∷ H) (k + 1) _ _ (under-same (only (data_atom D)) H G c) (IsPathBelow-refl _) h.2,
    )
    answers-up (put kind p at) G H k P Q c l h = (pair-up k l h.0, fixed-up atoms.Comm tt h.1 l, answers-up p G H (k + 1) _ _ c (IsPathBelow-refl _) h.2)
    answers-up (read p at) G H k P Q c l h = (pair-up k l h.0, fixed-up atoms.Comm tt h.1 l, answers-up p G H (k + 1) _ _ c (IsPathBelow-refl _) h.2)
    answers-up (mark m at) G H k P Q c l h = absurd h

    each-up : (ps : Trees) (G H : List PlainPaths) (k : ℕ) (P Q : PlainPath) → Covers H G → IsPathBelow P Q → EachAnswers T G k ps P → EachAnswers T H k ps Q
    each-up no_trees G H k P Q c l h = tt
    each-up (and_tree p ps) G H k P Q c l h = (answers-up p G H k P Q c l h.0, each-up ps G H (k + nodes p) P Q c l h.1)

  -- closed upwards
  pub answers-higher : (p : Tree) (G : List PlainPaths) (k : ℕ) (P Q : PlainPath) → IsPathBelow P Q → Answers T G k p P → Answers T G k p Q
  answers-higher p G k P Q l h = answers-up p G G k P Q (covers-same G) l h

  -- what answers each path of a list answers each path above one of them
  pub answers-above : (p : Tree) (G : List PlainPaths) (k : ℕ) {P : PlainPaths} {R : PlainPath} → HasBelow P R →
      EachPath (λ Q. Answers T G k p Q) P → Answers T G k p R
  answers-above p G k (here {p = q} {q = R} low) each = answers-higher p G k q R low each.0
  answers-above p G k (there some) each = answers-above p G k some each.1

  pub each-above : (p : Tree) (G : List PlainPaths) (k : ℕ) (P Q : PlainPaths) → ArePathsBelow P Q →
      EachPath (λ R. Answers T G k p R) P → EachPath (λ R. Answers T G k p R) Q
  each-above p G k P no_paths below each = tt
  each-above p G k P (and_path q Q) (and_above some rest) each = (answers-above p G k some each, each-above p G k P Q rest each)

  -- a variable that answers a path is in scope
  pub variable-scope : (G : List PlainPaths) (k j : ℕ) (at : Place) (P : PlainPath) → Answers T G k (var j at) P → j < length G
  variable-scope G k j at P h = in_scope G j P h.1

  -- a right operand answers only what begins with its kind
  pub right-begins : (q : Tree) (kind : Kind) (G : List PlainPaths) (k : ℕ) (P : PlainPath) → kind_of q ≡ Some kind → Answers T G k q P → begins kind P ≡ true
  right-begins (lam d As b at) kind G k P e h =
      let f : of_call ≡ kind = cc in
      ap (λ j. begins j P) (sym f) ∙ ap (λ Q. begins of_call Q) h.1.2
  right-begins (field i p at) kind G k P e h =
      let f : of_field i ≡ kind = cc in
      ap (λ j. begins j P) (sym f) ∙ ap (λ Q. begins (of_field i) Q) h.1.1 ∙ eq-eqb i i refl
  right-begins (accept d D b at) kind G k P e h =
      let f : of_assignment ≡ kind = cc in
      ap (λ j. begins j P) (sym f) ∙ begins-shape of_assignment P ∙ ap (shape_begins of_assignment) (ap erase h.1 ∙ acceptor-erase D)
  right-begins q kind G k P e h = absurd cc

  -- of a merge the right operand answers where the shape begins with its kind, and else the left one
  pub merge-right : (p q : Tree) (at : Place) (kind : Kind) (G : List PlainPaths) (k : ℕ) (P : PlainPath) → kind_of q ≡ Some kind →
      shape_begins kind (erase P) ≡ true → Answers T G k (merge p q at) P → Answers T G (k + 1 + nodes p) q P
  merge-right p q at kind G k P e b h =
      let (kin, f, some) = h.1 in
      let same : kin ≡ kind = cc in
      elim some [
        | inl x ↦ let g : false ≡ true = sym x.0 ∙ ap (λ j. begins j P) same ∙ begins-shape kind P ∙ b in absurd cc
        | inr x ↦ x
      ]

  pub merge-left : (p q : Tree) (at : Place) (kind : Kind) (G : List PlainPaths) (k : ℕ) (P : PlainPath) → kind_of q ≡ Some kind →
      shape_begins kind (erase P) ≡ false → Answers T G k (merge p q at) P → Answers T G (k + 1) p P
  merge-left p q at kind G k P e b h =
      let (kin, f, some) = h.1 in
      elim some [
        | inl x ↦ x.1
        | inr x ↦ let g : false ≡ true = sym b ∙ sym (begins-shape kind P) ∙ right-begins q kind G (k + 1 + nodes p) P e x in absurd cc
      ]

  -- a part of a case answers what the case does; d is the part's distance from the first
  pub part-answers : (ps : Trees) (i : ℕ) (q : Tree) (G : List PlainPaths) (k : ℕ) (P : PlainPath) → part_at ps i ≡ Some q → EachAnswers T G k ps P →
      (d : ℕ) × Answers T G (k + d) q P
  part-answers no_trees i q G k P e each = absurd cc
  part-answers (and_tree p ps) zero q G k P e each =
      let same : p ≡ q = cc in
      let here : k + 0 ≡ k = omega arith in
      (0, rw here (subst (λ t. Answers T G k t P) same each.0))
  part-answers (and_tree p ps) (suc i) q G k P e each =
      let x = part-answers ps i q G (k + nodes p) P e each.1 in
      let far : k + (nodes p + x.0) ≡ k + nodes p + x.0 = omega arith in
      (nodes p + x.0, rw far x.1)

-- ---- data of a type

pub truth-typed : (v : Datum) → datum_atom v ≡ atoms.Bool → (b : Bool) × (v ≡ datum.Bool b)
truth-typed (datum.Bool b) e = (b, refl)
truth-typed v e = absurd cc

pub int-typed : (v : Datum) → datum_atom v ≡ atoms.Int → (z : ℤ) × (v ≡ datum.Int z)
int-typed (datum.Int z) e = (z, refl)
int-typed v e = absurd cc

pub put-typed : (kind : PutKind) (v : Datum) → datum_atom v ≡ put_atom kind → (text : Bytes) × (written_text kind v ≡ Some text)
put-typed put_kind.Int (datum.Int n) e = (_, refl)
put-typed put_kind.Char (datum.Char c) e = (_, refl)
put-typed put_kind.Bool (datum.Bool b) e = (_, refl)
put-typed kind v e = absurd cc

-- `and` and `or` take truth values
pub and-takes : (D : DataTy) → takes And D ≡ true → D ≡ data_type.Bool
and-takes data_type.Bool e = refl
and-takes D e = absurd cc

pub or-takes : (D : DataTy) → takes Or D ≡ true → D ≡ data_type.Bool
or-takes data_type.Bool e = refl
or-takes D e = absurd cc

pub end-same : {P : PlainPath} {a b : Atom} → P ≡ end a → P ≡ end b → a ≡ b
end-same e f = cc

pub data_atom-same : (D E : DataTy) → data_atom D ≡ data_atom E → D ≡ E
data_atom-same data_type.Int data_type.Int e = refl
data_atom-same data_type.Bool data_type.Bool e = refl
data_atom-same data_type.Char data_type.Char e = refl
data_atom-same D E e = absurd cc
