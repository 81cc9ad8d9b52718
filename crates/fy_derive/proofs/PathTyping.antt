-- Which demands a phrase answers, one path at a time, where cells, sequences of cells and jumps stand. Subsumption, meets and `ns` are gone: a row for each
-- form says what a path asks of the form's parts. Whatever answers a path answers each path above it.
use Rattle.std.proofs.Common.{ℕ, zero, suc, ◌<◌, ◌≡◌, true, false, List, [], ◌∷◌, Some, refl, sym, ap, ◌∙◌, subst, ◌⊎◌, inl, inr}
use Rattle.fy_base.specs.declared.data.Datum.{Datum}
use Rattle.fy_base.specs.declared.data.Datum.TheVariants as datum
use Rattle.fy_base.specs.declared.data.UnOp.{UnOp}
use Rattle.fy_base.specs.declared.data.UnOp.TheVariants.{Neg, Not, Ord, Chr}
use Rattle.fy_base.specs.declared.data.BinOp.{BinOp}
use Rattle.fy_base.specs.declared.data.BinOp.TheVariants.{Add}
use Rattle.fy_types.specs.declared.types.Atom.{Atom}
use Rattle.fy_types.specs.declared.types.Atom.TheVariants.{Int, Bool as Truth, Comm, Compl, IntAcc}
use Rattle.fy_types.specs.Paths.{PlainPath, PlainPaths, end, call, pick, no_paths, and_path, paths}
use Rattle.fy_types.specs.PathOrder.{same_end, compl_below, IsPathBelow, ends, calls, picks, ArePathsBelow, HasBelow, here, there}
use Rattle.fy_types.proofs.Order.{IsPathBelow-refl, IsPathBelow-trans, HasBelow-trans, ArePathsBelow-refl}
use Rattle.fy_phrase.specs.declared.phrase.DataTy.{DataTy}
use Rattle.fy_phrase.specs.declared.phrase.DataTy.TheVariants as data_type
use Rattle.fy_phrase.specs.declared.phrase.MarkKind.TheVariants as marks
use Rattle.fy_phrase.specs.Tree.{Tree, Trees, no_trees, and_tree, var, lit, unary, binary, cond, case, lam, app, field, sel, merge, let_in, rec, skip, seq, assign, while_do, forever, new, cells, escape, accept, put, read, mark}
use Rattle.fy_derive.specs.Atoms.{data_atom, acceptor_atom, cell_type, sequence_type, datum_atom, operand_atom, unary_atom, takes, binary_atom, put_atom, is_command}
use Rattle.fy_derive.specs.Kinds.{Kind, of_call, of_field, of_assignment, kind_of, begins}

-- what a row of the store is: a cell of the data type, or a sequence of so many cells of integers
pub data RowType : Type 0 where
  one : (D : DataTy) → RowType
  many : (k : ℕ) → RowType

-- a mark that stands: a row, or a jump
pub data Entry : Type 0 where
  row : (n : ℕ) (t : RowType) → Entry
  jump : (n : ℕ) → Entry

-- a cell with its data type
abbrev pub cell : ℕ → DataTy → Entry
cell n D = row n (one D)

-- a sequence of k cells
abbrev pub sequence : ℕ → ℕ → Entry
sequence n k = row n (many k)

-- the marks that stand, the newest first
abbrev pub World : Type 0
World = List Entry

abbrev pub Stands : Entry → World → Type 0
Stands m [] = ⊥
Stands m (w ∷ W) = (m ≡ w) ⊎ Stands m W

-- the paths of a variable, of which there are none where it isn't in scope
abbrev pub paths_at : List PlainPaths → ℕ → PlainPaths
paths_at [] k = no_paths
paths_at (D ∷ G) zero = D
paths_at (D ∷ G) (suc k) = paths_at G k

-- the fact holds of each path of the list
abbrev pub EachPath : (PlainPath → Type 0) → PlainPaths → Type 0
EachPath F no_paths = Unit {0}
EachPath F (and_path p P) = F p × EachPath F P

-- the end of a command
abbrev pub IsRun : PlainPath → Type 0
IsRun P = (R : Atom) × (is_command R ≡ true) × (P ≡ end R)

-- one path
abbrev pub only : Atom → PlainPaths
only a = and_path (end a) no_paths

abbrev mutual
  -- the phrase answers the path, where W has the marks that stand and G the paths of the variables
  pub Answers : World → List PlainPaths → Tree → PlainPath → Type 0
  Answers W G (var k at) P = HasBelow (paths_at G k) P
  Answers W G (lit v at) P = P ≡ end (datum_atom v)
  Answers W G (unary op p at) P = (P ≡ end (unary_atom op)) × Answers W G p (end (operand_atom op))
  Answers W G (binary op p q at) P =
      (D : DataTy) × (takes op D ≡ true) × (P ≡ end (binary_atom op)) × Answers W G p (end (data_atom D)) × Answers W G q (end (data_atom D))
  Answers W G (cond b p q at) P = Answers W G b (end Truth) × Answers W G p P × Answers W G q P
  Answers W G (case e parts at) P = Answers W G e (end Int) × EachAnswers W G parts P
  Answers W G (lam d As b at) P = (D : PlainPaths) × (R : PlainPath) × (P ≡ call D R) × Answers W (D ∷ G) b R
  Answers W G (app p q at) P = (D : PlainPaths) × Answers W G p (call D P) × EachPath (λ Q. Answers W G q Q) D
  Answers W G (field i p at) P = (R : PlainPath) × (P ≡ pick i R) × Answers W G p R
  Answers W G (sel p i at) P = Answers W G p (pick i P)
  Answers W G (merge p q at) P =
      (k : Kind) × (kind_of q ≡ Some k) × (((begins k P ≡ false) × Answers W G p P) ⊎ Answers W G q P)
  Answers W G (let_in d p b at) P = (D : PlainPaths) × EachPath (λ Q. Answers W G p Q) D × Answers W (D ∷ G) b P
  Answers W G (rec d T b at) P = HasBelow (paths T) P × EachPath (λ Q. Answers W (paths T ∷ G) b Q) (paths T)
  Answers W G (skip at) P = P ≡ end Comm
  Answers W G (seq p q at) P = IsRun P × Answers W G p (end Comm) × Answers W G q P
  Answers W G (assign p q at) P =
      (D : DataTy) × (P ≡ end Comm) × Answers W G p (end (acceptor_atom D)) × Answers W G q (end (data_atom D))
  Answers W G (while_do b c at) P = (P ≡ end Comm) × Answers W G b (end Truth) × Answers W G c (end Comm)
  Answers W G (forever c at) P = IsRun P × Answers W G c (end Comm)
  Answers W G (new d D e b at) P = IsRun P × Answers W G e (end (data_atom D)) × Answers W (paths (cell_type D) ∷ G) b P
  Answers W G (cells d e b at) P = IsRun P × Answers W G e (end Int) × Answers W (paths sequence_type ∷ G) b P
  Answers W G (escape d b at) P = (P ≡ end Comm) × Answers W (only Compl ∷ G) b (end Comm)
  Answers W G (accept d D b at) P = (P ≡ end (acceptor_atom D)) × Answers W (only (data_atom D) ∷ G) b (end Comm)
  Answers W G (put kind p at) P = (P ≡ end Comm) × Answers W G p (end (put_atom kind))
  Answers W G (read p at) P = (P ≡ end Comm) × Answers W G p (end IntAcc)
  Answers W G (mark (marks.Cell n) at) P = (D : DataTy) × Stands (cell n D) W × HasBelow (paths (cell_type D)) P
  Answers W G (mark (marks.Jump n) at) P = Stands (jump n) W × IsRun P
  Answers W G (mark (marks.Sequence n) at) P = (k : ℕ) × Stands (sequence n k) W × HasBelow (paths sequence_type) P
  Answers W G (mark (marks.Element n i) at) P = (k : ℕ) × (i < k) × Stands (sequence n k) W × HasBelow (paths (cell_type data_type.Int)) P

  -- each of the parts does
  pub EachAnswers : World → List PlainPaths → Trees → PlainPath → Type 0
  EachAnswers W G no_trees P = Unit {0}
  EachAnswers W G (and_tree p ps) P = Answers W G p P × EachAnswers W G ps P

-- ---- lists of paths

pub EachPath-map : {F H : PlainPath → Type 0} (P : PlainPaths) → ((p : PlainPath) → F p → H p) → EachPath F P → EachPath H P
EachPath-map no_paths f each = tt
EachPath-map (and_path p P) f each = (f p each.0, EachPath-map P f each.1)

pub HasBelow-up : {P : PlainPaths} {p q : PlainPath} → HasBelow P p → IsPathBelow p q → HasBelow P q
HasBelow-up (here low) high = here (IsPathBelow-trans _ low high)
HasBelow-up (there some) high = there (HasBelow-up some high)

-- ---- what holds of a path above

-- an end that isn't `compl` has only itself above
abbrev pub IsFixed : Atom → Type 0
IsFixed Compl = ⊥
IsFixed a = Unit {0}

pub fixed-up : (a : Atom) {P Q : PlainPath} → IsFixed a → P ≡ end a → IsPathBelow P Q → Q ≡ end a
fixed-up a fixed e (ends same_end) = e
fixed-up a fixed e (ends compl_below) = let f : a ≡ Compl = cc in absurd (subst IsFixed f fixed)
fixed-up a fixed e (calls wide low) = absurd cc
fixed-up a fixed e (picks low) = absurd cc

pub data_atom-fixed : (D : DataTy) → IsFixed (data_atom D)
data_atom-fixed data_type.Int = tt
data_atom-fixed data_type.Bool = tt
data_atom-fixed data_type.Char = tt

pub acceptor_atom-fixed : (D : DataTy) → IsFixed (acceptor_atom D)
acceptor_atom-fixed data_type.Int = tt
acceptor_atom-fixed data_type.Bool = tt
acceptor_atom-fixed data_type.Char = tt

pub datum_atom-fixed : (v : Datum) → IsFixed (datum_atom v)
datum_atom-fixed (datum.Int n) = tt
datum_atom-fixed (datum.Bool b) = tt
datum_atom-fixed (datum.Char c) = tt

pub unary_atom-fixed : (op : UnOp) → IsFixed (unary_atom op)
unary_atom-fixed Neg = tt
unary_atom-fixed Not = tt
unary_atom-fixed Ord = tt
unary_atom-fixed Chr = tt

pub binary_atom-fixed : (op : BinOp) → IsFixed (binary_atom op)
binary_atom-fixed Add = tt
binary_atom-fixed op = tt

pub run-up : {P Q : PlainPath} → IsRun P → IsPathBelow P Q → IsRun Q
run-up (R, is, e) (ends same_end) = (R, is, e)
run-up (R, is, e) (ends compl_below) = (Comm, refl, refl)
run-up (R, is, e) (calls wide low) = absurd cc
run-up (R, is, e) (picks low) = absurd cc

pub call-up : {P Q : PlainPath} (D : PlainPaths) (R : PlainPath) → P ≡ call D R → IsPathBelow P Q →
    (E : PlainPaths) × (S : PlainPath) × (Q ≡ call E S) × ArePathsBelow E D × IsPathBelow R S
call-up D R e (ends low) = absurd cc
call-up D R e (calls {D = A} {E = E} {p = p} {q = q} wide low) =
    let f : A ≡ D = cc in
    let g : p ≡ R = cc in
    (E, q, refl, subst (ArePathsBelow E) f wide, subst (λ r. IsPathBelow r q) g low)
call-up D R e (picks low) = absurd cc

pub pick-up : {P Q : PlainPath} (i : ℕ) (R : PlainPath) → P ≡ pick i R → IsPathBelow P Q → (S : PlainPath) × (Q ≡ pick i S) × IsPathBelow R S
pick-up i R e (ends low) = absurd cc
pick-up i R e (calls wide low) = absurd cc
pick-up i R e (picks {i = j} {p = p} {q = q} low) =
    let f : j ≡ i = cc in
    let g : p ≡ R = cc in
    (q, ap (λ k. pick k q) f, subst (λ r. IsPathBelow r q) g low)

pub begins-up : (k : Kind) {P Q : PlainPath} → IsPathBelow P Q → begins k P ≡ begins k Q
begins-up k (ends same_end) = refl
begins-up of_call (ends compl_below) = refl
begins-up (of_field i) (ends compl_below) = refl
begins-up of_assignment (ends compl_below) = refl
begins-up of_call (calls wide low) = refl
begins-up (of_field i) (calls wide low) = refl
begins-up of_assignment (calls wide low) = refl
begins-up of_call (picks low) = refl
begins-up (of_field i) (picks low) = refl
begins-up of_assignment (picks low) = refl

-- ---- more marks, better variables and a path above

-- each path of G has one of H below it
abbrev pub Covers : List PlainPaths → List PlainPaths → Type 0
Covers H G = (k : ℕ) (P : PlainPath) → HasBelow (paths_at G k) P → HasBelow (paths_at H k) P

pub covers-same : (G : List PlainPaths) → Covers G G
covers-same G k P some = some

pub covers-under : (D E : PlainPaths) (H G : List PlainPaths) → ArePathsBelow E D → Covers H G → Covers (E ∷ H) (D ∷ G)
covers-under D E H G low c zero P some = HasBelow-trans D low some
covers-under D E H G low c (suc k) P some = c k P some

pub under-same : (D : PlainPaths) (H G : List PlainPaths) → Covers H G → Covers (D ∷ H) (D ∷ G)
under-same D H G c = covers-under D D H G (ArePathsBelow-refl D) c

module _ (W V : World) (grow : (m : Entry) → Stands m W → Stands m V) where
  mutual
    pub answers-up : (p : Tree) (G H : List PlainPaths) (P Q : PlainPath) → Covers H G → IsPathBelow P Q → Answers W G p P → Answers V H p Q
    answers-up (var k at) G H P Q c l h = HasBelow-up (c k P h) l
    answers-up (lit v at) G H P Q c l h = fixed-up (datum_atom v) (datum_atom-fixed v) h l
    answers-up (unary op p at) G H P Q c l h = (fixed-up (unary_atom op) (unary_atom-fixed op) h.0 l, answers-up p G H _ _ c (IsPathBelow-refl _) h.1)
    answers-up (binary op p q at) G H P Q c l h =
        (h.0, h.1, fixed-up (binary_atom op) (binary_atom-fixed op) h.2 l, answers-up p G H _ _ c (IsPathBelow-refl _) h.3, answers-up q G H _ _ c (IsPathBelow-refl _) h.4)
    answers-up (cond b p q at) G H P Q c l h = (answers-up b G H _ _ c (IsPathBelow-refl _) h.0, answers-up p G H P Q c l h.1, answers-up q G H P Q c l h.2)
    answers-up (case e parts at) G H P Q c l h = (answers-up e G H _ _ c (IsPathBelow-refl _) h.0, each-up parts G H P Q c l h.1)
    answers-up (lam d As b at) G H P Q c l h =
        let u = call-up h.0 h.1 h.2 l in
        (u.0, u.1, u.2, answers-up b (h.0 ∷ G) (u.0 ∷ H) h.1 u.1 (covers-under h.0 u.0 H G u.3 c) u.4 h.3)
    answers-up (app p q at) G H P Q c l h =
        (h.0, answers-up p G H (call h.0 P) (call h.0 Q) c (calls (ArePathsBelow-refl h.0) l) h.1, EachPath-map h.0 (λ R a. answers-up q G H R R c (IsPathBelow-refl R) a) h.2)
    answers-up (field i p at) G H P Q c l h = let u = pick-up i h.0 h.1 l in (u.0, u.1, answers-up p G H h.0 u.0 c u.2 h.2)
    answers-up (sel p i at) G H P Q c l h = answers-up p G H (pick i P) (pick i Q) c (picks l) h
    answers-up (merge p q at) G H P Q c l (k, e, inl h) = (k, e, inl (sym (begins-up k l) ∙ h.0, answers-up p G H P Q c l h.1))
    answers-up (merge p q at) G H P Q c l (k, e, inr h) = (k, e, inr (answers-up q G H P Q c l h))
    answers-up (let_in d p b at) G H P Q c l h =
        (h.0, EachPath-map h.0 (λ R a. answers-up p G H R R c (IsPathBelow-refl R) a) h.1, answers-up b (h.0 ∷ G) (h.0 ∷ H) P Q (under-same h.0 H G c) l h.2)
    answers-up (rec d T b at) G H P Q c l h =
        (HasBelow-up h.0 l, EachPath-map (paths T) (λ R a. answers-up b (paths T ∷ G) (paths T ∷ H) R R (under-same (paths T) H G c) (IsPathBelow-refl R) a) h.1)
    answers-up (skip at) G H P Q c l h = fixed-up Comm tt h l
    answers-up (seq p q at) G H P Q c l h = (run-up h.0 l, answers-up p G H _ _ c (IsPathBelow-refl _) h.1, answers-up q G H P Q c l h.2)
    answers-up (assign p q at) G H P Q c l h = (h.0, fixed-up Comm tt h.1 l, answers-up p G H _ _ c (IsPathBelow-refl _) h.2, answers-up q G H _ _ c (IsPathBelow-refl _) h.3)
    answers-up (while_do b p at) G H P Q c l h = (fixed-up Comm tt h.0 l, answers-up b G H _ _ c (IsPathBelow-refl _) h.1, answers-up p G H _ _ c (IsPathBelow-refl _) h.2)
    answers-up (forever p at) G H P Q c l h = (run-up h.0 l, answers-up p G H _ _ c (IsPathBelow-refl _) h.1)
    answers-up (new d D e b at) G H P Q c l h =
        (run-up h.0 l, answers-up e G H _ _ c (IsPathBelow-refl _) h.1, answers-up b (paths (cell_type D) ∷ G) (paths (cell_type D) ∷ H) P Q (under-same (paths (cell_type D)) H G c) l h.2)
    answers-up (cells d e b at) G H P Q c l h =
        (run-up h.0 l, answers-up e G H _ _ c (IsPathBelow-refl _) h.1, answers-up b (paths sequence_type ∷ G) (paths sequence_type ∷ H) P Q (under-same (paths sequence_type) H G c) l h.2)
    answers-up (escape d b at) G H P Q c l h =
        (fixed-up Comm tt h.0 l, answers-up b (only Compl ∷ G) (only Compl ∷ H) _ _ (under-same (only Compl) H G c) (IsPathBelow-refl _) h.1)
    answers-up (accept d D b at) G H P Q c l h = (
      fixed-up (acceptor_atom D) (acceptor_atom-fixed D) h.0 l,
      answers-up b (only (data_atom D) ∷ G) (only (data_atom D) ∷ H) _ _ (under-same (only (data_atom D)) H G c) (IsPathBelow-refl _) h.1,
    )
    answers-up (put kind p at) G H P Q c l h = (fixed-up Comm tt h.0 l, answers-up p G H _ _ c (IsPathBelow-refl _) h.1)
    answers-up (read p at) G H P Q c l h = (fixed-up Comm tt h.0 l, answers-up p G H _ _ c (IsPathBelow-refl _) h.1)
    answers-up (mark (marks.Cell n) at) G H P Q c l h = (h.0, grow (cell n h.0) h.1, HasBelow-up h.2 l)
    answers-up (mark (marks.Jump n) at) G H P Q c l h = (grow (jump n) h.0, run-up h.1 l)
    answers-up (mark (marks.Sequence n) at) G H P Q c l h = (h.0, grow (sequence n h.0) h.1, HasBelow-up h.2 l)
    answers-up (mark (marks.Element n i) at) G H P Q c l h = (h.0, h.1, grow (sequence n h.0) h.2, HasBelow-up h.3 l)

    each-up : (ps : Trees) (G H : List PlainPaths) (P Q : PlainPath) → Covers H G → IsPathBelow P Q → EachAnswers W G ps P → EachAnswers V H ps Q
    each-up no_trees G H P Q c l h = tt
    each-up (and_tree p ps) G H P Q c l h = (answers-up p G H P Q c l h.0, each-up ps G H P Q c l h.1)

-- what answers each path of a list answers each path above one of them
pub answers-above : (W : World) (p : Tree) (G : List PlainPaths) {P : PlainPaths} {R : PlainPath} → HasBelow P R →
    EachPath (λ Q. Answers W G p Q) P → Answers W G p R
answers-above W p G (here {p = q} {q = R} low) each = answers-up W W (λ m s. s) p G G q R (covers-same G) low each.0
answers-above W p G (there some) each = answers-above W p G some each.1

-- a phrase answers what it did where one more mark stands
pub answers-older : (m : Entry) (W : World) (p : Tree) (G : List PlainPaths) (P : PlainPath) → Answers W G p P → Answers (m ∷ W) G p P
answers-older m W p G P h = answers-up W (m ∷ W) (λ k s. inr s) p G G P P (covers-same G) (IsPathBelow-refl P) h
