-- Path typing with the table: which paths a node answers, where each pair that its evaluation asks for is in the table. A row for each form, as a function of the phrase.
use Rattle.std.proofs.Common.{ℕ, ◌+◌, ◌≡◌, ◌⊎◌, true, false, List, ◌∷◌, Some}
use Rattle.fy_types.specs.declared.types.Atom.TheVariants as atoms
use Rattle.fy_types.specs.Paths.{PlainPath, PlainPaths, end, call, pick, paths}
use Rattle.fy_types.specs.PathOrder.{HasBelow}
use Rattle.fy_phrase.specs.declared.phrase.DataTy.{DataTy}
use Rattle.fy_phrase.specs.Tree.{Tree, Trees, no_trees, and_tree, var, lit, unary, binary, cond, case, lam, app, field, sel, merge, let_in, rec, skip, seq, assign, while_do, forever, new, cells, escape, accept, put, read, mark}
use Rattle.fy_phrase.specs.Sizes.{nodes}
use Rattle.fy_derive.specs.Atoms.{data_atom, acceptor_atom, cell_type, sequence_type, datum_atom, operand_atom, unary_atom, takes, binary_atom, put_atom}
use Rattle.fy_derive.specs.Kinds.{Kind, kind_of, begins}
use Rattle.fy_derive.specs.Shapes.{PlainShape, erase}
use Rattle.fy_derive.proofs.PathTyping.{paths_at, EachPath, IsRun, only}

module _ (T : ℕ → PlainShape → Type 0) where
  abbrev mutual
    -- node k, which is the phrase, answers the path, where G has the paths of the variables, the innermost first
    pub Answers : List PlainPaths → ℕ → Tree → PlainPath → Type 0
    Answers G k (var j at) P = T k (erase P) × HasBelow (paths_at G j) P
    Answers G k (lit v at) P = T k (erase P) × (P ≡ end (datum_atom v))
    Answers G k (unary op p at) P = T k (erase P) × (P ≡ end (unary_atom op)) × Answers G (k + 1) p (end (operand_atom op))
    Answers G k (binary op p q at) P =
        T k (erase P) × ((D : DataTy) × (takes op D ≡ true) × (P ≡ end (binary_atom op)) × Answers G (k + 1) p (end (data_atom D)) × Answers G (k + 1 + nodes p) q (end (data_atom D)))
    Answers G k (cond b p q at) P =
        T k (erase P) × Answers G (k + 1) b (end atoms.Bool) × Answers G (k + 1 + nodes b) p P × Answers G (k + 1 + nodes b + nodes p) q P
    Answers G k (case e parts at) P = T k (erase P) × Answers G (k + 1) e (end atoms.Int) × EachAnswers G (k + 1 + nodes e) parts P
    Answers G k (lam d As b at) P = T k (erase P) × ((D : PlainPaths) × (R : PlainPath) × (P ≡ call D R) × Answers (D ∷ G) (k + 1) b R)
    Answers G k (app p q at) P =
        T k (erase P) × ((D : PlainPaths) × Answers G (k + 1) p (call D P) × EachPath (λ Q. Answers G (k + 1 + nodes p) q Q) D)
    Answers G k (field i p at) P = T k (erase P) × ((R : PlainPath) × (P ≡ pick i R) × Answers G (k + 1) p R)
    Answers G k (sel p i at) P = T k (erase P) × Answers G (k + 1) p (pick i P)
    Answers G k (merge p q at) P =
        T k (erase P) × ((kind : Kind) × (kind_of q ≡ Some kind) × (((begins kind P ≡ false) × Answers G (k + 1) p P) ⊎ Answers G (k + 1 + nodes p) q P))
    Answers G k (let_in d p b at) P =
        T k (erase P) × ((D : PlainPaths) × EachPath (λ Q. Answers G (k + 1) p Q) D × Answers (D ∷ G) (k + 1 + nodes p) b P)
    -- a recursion is entered again at each path of its type
    Answers G k (rec d A b at) P =
        T k (erase P) × HasBelow (paths A) P × EachPath (λ Q. T k (erase Q)) (paths A) × EachPath (λ Q. Answers (paths A ∷ G) (k + 1) b Q) (paths A)
    Answers G k (skip at) P = T k (erase P) × (P ≡ end atoms.Comm)
    Answers G k (seq p q at) P = T k (erase P) × IsRun P × Answers G (k + 1) p (end atoms.Comm) × Answers G (k + 1 + nodes p) q P
    Answers G k (assign p q at) P =
        T k (erase P) × ((D : DataTy) × (P ≡ end atoms.Comm) × Answers G (k + 1) p (end (acceptor_atom D)) × Answers G (k + 1 + nodes p) q (end (data_atom D)))
    Answers G k (while_do b c at) P =
        T k (erase P) × (P ≡ end atoms.Comm) × Answers G (k + 1) b (end atoms.Bool) × Answers G (k + 1 + nodes b) c (end atoms.Comm)
    Answers G k (forever c at) P = T k (erase P) × IsRun P × Answers G (k + 1) c (end atoms.Comm)
    Answers G k (new d D e b at) P =
        T k (erase P) × IsRun P × Answers G (k + 1) e (end (data_atom D)) × Answers (paths (cell_type D) ∷ G) (k + 1 + nodes e) b P
    Answers G k (cells d e b at) P =
        T k (erase P) × IsRun P × Answers G (k + 1) e (end atoms.Int) × Answers (paths sequence_type ∷ G) (k + 1 + nodes e) b P
    Answers G k (escape d b at) P = T k (erase P) × (P ≡ end atoms.Comm) × Answers (only atoms.Compl ∷ G) (k + 1) b (end atoms.Comm)
    Answers G k (accept d D b at) P =
        T k (erase P) × (P ≡ end (acceptor_atom D)) × Answers (only (data_atom D) ∷ G) (k + 1) b (end atoms.Comm)
    Answers G k (put kind p at) P = T k (erase P) × (P ≡ end atoms.Comm) × Answers G (k + 1) p (end (put_atom kind))
    Answers G k (read p at) P = T k (erase P) × (P ≡ end atoms.Comm) × Answers G (k + 1) p (end atoms.IntAcc)
    Answers G k (mark m at) P = ⊥

    -- each of the parts, from node k on, does
    pub EachAnswers : List PlainPaths → ℕ → Trees → PlainPath → Type 0
    EachAnswers G k no_trees P = Unit {0}
    EachAnswers G k (and_tree p ps) P = Answers G k p P × EachAnswers G (k + nodes p) ps P
