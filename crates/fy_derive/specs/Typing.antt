-- The typing rules: `G |- p : A`, where G has the types of the variables in scope, the innermost first (Reynolds, CMU-CS-96-146).
use Rattle.std.specs.Prelude.{ℕ, ◌≡◌, true, List, ◌∷◌, Some, slice_get}
use Rattle.fy_base.specs.declared.data.Place.{Place}
use Rattle.fy_base.specs.declared.data.Datum.{Datum}
use Rattle.fy_base.specs.declared.data.UnOp.{UnOp}
use Rattle.fy_base.specs.declared.data.BinOp.{BinOp}
use Rattle.fy_base.specs.declared.data.PutKind.{PutKind}
use Rattle.fy_types.specs.declared.types.Atom.{Atom}
use Rattle.fy_types.specs.declared.types.Atom.TheVariants.{Int, Bool as Truth, Comm, Compl, IntAcc}
use Rattle.fy_types.specs.Types.{PlainType, PlainTypes, ns, atom, arrow, field as field_type, meet, no_types, and_type}
use Rattle.fy_types.specs.Subtyping.{IsMember, IsSubtype}
use Rattle.fy_types.specs.Paths.{paths}
use Rattle.fy_phrase.specs.declared.phrase.DataTy.{DataTy}
use Rattle.fy_phrase.specs.Tree.{Tree, Trees, no_trees, and_tree, var, lit, unary, binary, cond, case, lam, app, field, sel, merge, let_in, rec, skip, seq, assign, while_do, forever, new, cells, escape, accept, put, read}
use Rattle.fy_derive.specs.Atoms.{data_atom, acceptor_atom, cell_type, sequence_type, datum_atom, operand_atom, unary_atom, takes, binary_atom, put_atom, is_command}
use Rattle.fy_derive.specs.Kinds.{Kind, kind_of, none_begins}

-- a data type, as a type
abbrev pub of_data : DataTy → PlainType
of_data D = atom (data_atom D)

-- a phrase of a form, and its type, behind its premises
mutual
  pub data HasType : List PlainType → Tree → PlainType → Type 0 where
    -- three rules of every form
    by_ns : {G : List PlainType} {p : Tree} → HasType G p ns
    by_subsumption : {G : List PlainType} {p : Tree} {A B : PlainType} → HasType G p A → IsSubtype A B → HasType G p B
    by_meet : {G : List PlainType} {p : Tree} {A B : PlainType} {As : PlainTypes} →
        HasType G p A → HasType G p B → HasEach G p As → HasType G p (meet (and_type A (and_type B As)))
    -- one rule for each form, two for a merge
    by_var : {G : List PlainType} {k : ℕ} {at : Place} {A : PlainType} → slice_get G k ≡ Some A → HasType G (var k at) A
    by_lit : {G : List PlainType} {v : Datum} {at : Place} → HasType G (lit v at) (atom (datum_atom v))
    by_unary : {G : List PlainType} {op : UnOp} {p : Tree} {at : Place} →
        HasType G p (atom (operand_atom op)) → HasType G (unary op p at) (atom (unary_atom op))
    by_binary : {G : List PlainType} {op : BinOp} {p q : Tree} {at : Place} (D : DataTy) →
        takes op D ≡ true → HasType G p (of_data D) → HasType G q (of_data D) → HasType G (binary op p q at) (atom (binary_atom op))
    by_cond : {G : List PlainType} {b p q : Tree} {at : Place} {A : PlainType} →
        HasType G b (atom Truth) → HasType G p A → HasType G q A → HasType G (cond b p q at) A
    by_case : {G : List PlainType} {e p : Tree} {ps : Trees} {at : Place} {A : PlainType} →
        HasType G e (atom Int) → HasType G p A → EachHasType G ps A → HasType G (case e (and_tree p ps) at) A
    by_lam : {G : List PlainType} {d : ℕ} {As : PlainTypes} {b : Tree} {at : Place} {A C : PlainType} →
        IsMember As A → HasType (A ∷ G) b C → HasType G (lam d As b at) (arrow A C)
    by_app : {G : List PlainType} {p q : Tree} {at : Place} {A C : PlainType} →
        HasType G p (arrow A C) → HasType G q A → HasType G (app p q at) C
    by_field : {G : List PlainType} {i : ℕ} {p : Tree} {at : Place} {A : PlainType} →
        HasType G p A → HasType G (field i p at) (field_type i A)
    by_sel : {G : List PlainType} {i : ℕ} {p : Tree} {at : Place} {A : PlainType} →
        HasType G p (field_type i A) → HasType G (sel p i at) A
    by_left : {G : List PlainType} {p q : Tree} {at : Place} {k : Kind} {A : PlainType} →
        kind_of q ≡ Some k → HasType G p A → none_begins k (paths A) ≡ true → HasType G (merge p q at) A
    by_right : {G : List PlainType} {p q : Tree} {at : Place} {k : Kind} {A : PlainType} →
        kind_of q ≡ Some k → HasType G q A → HasType G (merge p q at) A
    by_let : {G : List PlainType} {d : ℕ} {p b : Tree} {at : Place} {A C : PlainType} →
        HasType G p A → HasType (A ∷ G) b C → HasType G (let_in d p b at) C
    by_rec : {G : List PlainType} {d : ℕ} {T : PlainType} {b : Tree} {at : Place} → HasType (T ∷ G) b T → HasType G (rec d T b at) T
    by_skip : {G : List PlainType} {at : Place} → HasType G (skip at) (atom Comm)
    by_seq : {G : List PlainType} {p q : Tree} {at : Place} {R : Atom} →
        is_command R ≡ true → HasType G p (atom Comm) → HasType G q (atom R) → HasType G (seq p q at) (atom R)
    by_assign : {G : List PlainType} {p q : Tree} {at : Place} (D : DataTy) →
        HasType G p (atom (acceptor_atom D)) → HasType G q (of_data D) → HasType G (assign p q at) (atom Comm)
    by_while : {G : List PlainType} {b c : Tree} {at : Place} →
        HasType G b (atom Truth) → HasType G c (atom Comm) → HasType G (while_do b c at) (atom Comm)
    by_forever : {G : List PlainType} {c : Tree} {at : Place} → HasType G c (atom Comm) → HasType G (forever c at) (atom Compl)
    by_new : {G : List PlainType} {d : ℕ} {D : DataTy} {e b : Tree} {at : Place} {R : Atom} →
        is_command R ≡ true → HasType G e (of_data D) → HasType (cell_type D ∷ G) b (atom R) → HasType G (new d D e b at) (atom R)
    by_cells : {G : List PlainType} {d : ℕ} {e b : Tree} {at : Place} {R : Atom} →
        is_command R ≡ true → HasType G e (atom Int) → HasType (sequence_type ∷ G) b (atom R) → HasType G (cells d e b at) (atom R)
    by_escape : {G : List PlainType} {d : ℕ} {b : Tree} {at : Place} →
        HasType (atom Compl ∷ G) b (atom Comm) → HasType G (escape d b at) (atom Comm)
    by_accept : {G : List PlainType} {d : ℕ} {D : DataTy} {b : Tree} {at : Place} →
        HasType (of_data D ∷ G) b (atom Comm) → HasType G (accept d D b at) (atom (acceptor_atom D))
    by_put : {G : List PlainType} {kind : PutKind} {p : Tree} {at : Place} →
        HasType G p (atom (put_atom kind)) → HasType G (put kind p at) (atom Comm)
    by_read : {G : List PlainType} {p : Tree} {at : Place} → HasType G p (atom IntAcc) → HasType G (read p at) (atom Comm)

  -- the phrase has each of the types
  pub data HasEach : List PlainType → Tree → PlainTypes → Type 0 where
    no_more : {G : List PlainType} {p : Tree} → HasEach G p no_types
    and_has : {G : List PlainType} {p : Tree} {A : PlainType} {As : PlainTypes} →
        HasType G p A → HasEach G p As → HasEach G p (and_type A As)

  -- each of the phrases has the type
  pub data EachHasType : List PlainType → Trees → PlainType → Type 0 where
    no_parts : {G : List PlainType} {A : PlainType} → EachHasType G no_trees A
    and_part : {G : List PlainType} {p : Tree} {ps : Trees} {A : PlainType} →
        HasType G p A → EachHasType G ps A → EachHasType G (and_tree p ps) A
