-- Typed states of the copy rule: the contexts take a path that the focus answers, and the store has the rows of the world.
use Rattle.std.proofs.Common.{ℕ, zero, suc, ◌+◌, ◌<◌, ◌≤◌, ◌≡◌, ◌≢◌, true, List, [], ◌∷◌, ◌++◌, length, replicate, set, slice_get, Option, Some, pos, refl, sym, ap, ◌∙◌, subst, ◌⊎◌, inl, inr, arith, eq-eqb, ne_eqb}
use Rattle.std.proofs.lemmas.List.{length_push, length-set}
use Rattle.fy_base.specs.declared.data.Datum.{Datum}
use Rattle.fy_base.specs.declared.data.Datum.TheVariants as datum
use Rattle.fy_types.specs.declared.types.Atom.TheVariants as atoms
use Rattle.fy_types.specs.Paths.{PlainPath, PlainPaths, end, call, pick, paths}
use Rattle.fy_types.specs.PathOrder.{HasBelow}
use Rattle.fy_phrase.specs.declared.phrase.DataTy.{DataTy}
use Rattle.fy_phrase.specs.declared.phrase.DataTy.TheVariants as data_type
use Rattle.fy_phrase.specs.Tree.{Tree, lit}
use Rattle.fy_phrase.specs.Contexts.{CopyContext, op_1, op_l, op_r, if_c, case_c, arg_c, pick_c, then_c, assign_c, store_c, while_c, body_c, loop_c, new_c, drop_c, put_c, esc_c, cells_c, fill_c, element_c, Pushed}
use Rattle.fy_phrase.specs.Copy.{Content, single, several, Row, Which, own, element, CopyState, CopyMove, goes, puts, takes as takes_byte, faults, sticks, content_of, with_content, value_in, with_value_in, lengthened, value_of, with_value, without_row}
use Rattle.fy_derive.specs.Atoms.{data_atom, acceptor_atom, cell_type, sequence_type, datum_atom, operand_atom, unary_atom, takes, binary_atom, put_atom}
use Rattle.fy_derive.proofs.PathTyping.{RowType, one, many, row, jump, sequence, World, Stands, EachPath, IsRun, Answers, EachAnswers}

-- the context takes the path, and the rest takes the one that it gives, in the world without the context's own mark
abbrev pub Takes : (World → PlainPath → Type 0) → World → PlainPath → CopyContext → Type 0
Takes rest W P (op_1 op at) = (P ≡ end (operand_atom op)) × rest W (end (unary_atom op))
Takes rest W P (op_l op q at) =
    (D : DataTy) × (takes op D ≡ true) × (P ≡ end (data_atom D)) × Answers W [] q (end (data_atom D)) × rest W (end (binary_atom op))
Takes rest W P (op_r op u at) =
    (D : DataTy) × (takes op D ≡ true) × (P ≡ end (data_atom D)) × (datum_atom u ≡ data_atom D) × rest W (end (binary_atom op))
Takes rest W P (if_c p q) = (P ≡ end atoms.Bool) × (Q : PlainPath) × Answers W [] p Q × Answers W [] q Q × rest W Q
Takes rest W P (case_c parts at) = (P ≡ end atoms.Int) × (Q : PlainPath) × EachAnswers W [] parts Q × rest W Q
Takes rest W P (arg_c q) = (D : PlainPaths) × (R : PlainPath) × (P ≡ call D R) × EachPath (λ Q. Answers W [] q Q) D × rest W R
Takes rest W P (pick_c i) = (R : PlainPath) × (P ≡ pick i R) × rest W R
Takes rest W P (then_c q) = (P ≡ end atoms.Comm) × (Q : PlainPath) × Answers W [] q Q × rest W Q
Takes rest W P (assign_c p) = (D : DataTy) × (P ≡ end (data_atom D)) × Answers W [] p (end (acceptor_atom D)) × rest W (end atoms.Comm)
Takes rest W P (store_c v) = (D : DataTy) × (P ≡ end (acceptor_atom D)) × (datum_atom v ≡ data_atom D) × rest W (end atoms.Comm)
Takes rest W P (while_c loop c) =
    (P ≡ end atoms.Bool) × Answers W [] loop (end atoms.Comm) × Answers W [] c (end atoms.Comm) × rest W (end atoms.Comm)
Takes rest W P (body_c loop) = (P ≡ end atoms.Comm) × Answers W [] loop (end atoms.Comm) × rest W (end atoms.Comm)
Takes rest W P (loop_c loop) = (P ≡ end atoms.Comm) × (Q : PlainPath) × Answers W [] loop Q × rest W Q
Takes rest W P (new_c d b) =
    (D : DataTy) × (P ≡ end (data_atom D)) × (Q : PlainPath) × IsRun Q × Answers W (paths (cell_type D) ∷ []) b Q × rest W Q
Takes rest W P (drop_c n) = (t : RowType) × (V : World) × (W ≡ row n t ∷ V) × IsRun P × rest V P
Takes rest W P (put_c kind) = (P ≡ end (put_atom kind)) × rest W (end atoms.Comm)
Takes rest W P (esc_c n) = (V : World) × (W ≡ jump n ∷ V) × (P ≡ end atoms.Comm) × rest V (end atoms.Comm)
Takes rest W P (cells_c d b at) = (P ≡ end atoms.Int) × (Q : PlainPath) × IsRun Q × Answers W (paths sequence_type ∷ []) b Q × rest W Q
-- while a sequence is filled, its state is typed as a whole
Takes rest W P (fill_c n v d b at) = ⊥
Takes rest W P (element_c n) =
    (k : ℕ) × (P ≡ end atoms.Int) × Stands (sequence n k) W × (Q : PlainPath) × HasBelow (paths (cell_type data_type.Int)) Q × rest W Q

-- the contexts take the path, the newest first; the marks of the world are those of these contexts
abbrev pub AllTake : World → PlainPath → List (Pushed CopyContext) → Type 0
AllTake W P [] = (W ≡ []) × IsRun P
AllTake W P (c ∷ cs) = Takes (λ V Q. AllTake V Q cs) W P c.context

-- integers
abbrev pub AreInts : List Datum → Type 0
AreInts [] = Unit {0}
AreInts (v ∷ vs) = (datum_atom v ≡ atoms.Int) × AreInts vs

-- a datum of the cell's type, or so many integers
abbrev pub IsContentOf : RowType → Content → Type 0
IsContentOf (one D) (single v) = datum_atom v ≡ data_atom D
IsContentOf (one D) (several at vs) = ⊥
IsContentOf (many k) (single v) = ⊥
IsContentOf (many k) (several at vs) = (length vs ≡ k) × AreInts vs

-- the store begins with the rows of the world, which hold what their types say; their numbers fall, from below the bound on
abbrev pub Holds : ℕ → World → List Row → Type 0
Holds b [] store = Unit {0}
Holds b (row n t ∷ W) [] = ⊥
Holds b (row n t ∷ W) (c ∷ cs) = (c.number ≡ n) × (n < b) × IsContentOf t c.content × Holds n W cs
Holds b (jump n ∷ W) store = Holds b W store

abbrev pub IsTyped : CopyState → Type 0
IsTyped s = (W : World) × (P : PlainPath) × Answers W [] s.focus P × AllTake W P s.contexts × Holds s.next W s.store

-- sequence n, the number of the next binding, has k of its m cells, and the body and the contexts behind it fit
abbrev pub FillsUnder : ℕ → CopyContext → List (Pushed CopyContext) → CopyState → Type 0
FillsUnder k (fill_c n m d b at) cs s =
    (n ≡ s.next) × (k ≤ m) × (W : World) × (P : PlainPath) × IsRun P × Answers W (paths sequence_type ∷ []) b P × AllTake W P cs
    × Holds (s.next + 1) (sequence n k ∷ W) s.store
FillsUnder k c cs s = ⊥

abbrev pub FillsIn : ℕ → List (Pushed CopyContext) → CopyState → Type 0
FillsIn k [] s = ⊥
FillsIn k (c ∷ cs) s = FillsUnder k c.context cs s

abbrev pub FillsAt : Tree → List (Pushed CopyContext) → CopyState → Type 0
FillsAt (lit (datum.Int (pos k)) here) cs s = FillsIn k cs s
FillsAt p cs s = ⊥

-- a state in which a sequence is filled: the datum in focus says how many cells it has
abbrev pub IsFilling : CopyState → Type 0
IsFilling s = FillsAt s.focus s.contexts s

-- the step leads to a typed state, or to a fault
abbrev pub Keeps : CopyMove → Type 0
Keeps (goes s) = IsTyped s
Keeps (puts text s) = IsTyped s
Keeps (takes_byte go) = (byte : Option ℕ) → IsTyped (go byte)
Keeps (faults kind at) = Unit {0}
Keeps sticks = ⊥

-- or to one in which a sequence is filled
abbrev pub GoesOn : CopyMove → Type 0
GoesOn (goes s) = IsTyped s ⊎ IsFilling s
GoesOn (puts text s) = IsTyped s
GoesOn (takes_byte go) = (byte : Option ℕ) → IsTyped (go byte)
GoesOn (faults kind at) = Unit {0}
GoesOn sticks = ⊥

pub goes-on : (m : CopyMove) → Keeps m → GoesOn m
goes-on (goes s) k = inl k
goes-on (puts text s) k = k
goes-on (takes_byte go) k = k
goes-on (faults kind at) k = tt
goes-on sticks k = k

-- ---- integers

pub ints-get : (vs : List Datum) (i : ℕ) → i < length vs → AreInts vs → (v : Datum) × (slice_get vs i ≡ Some v) × (datum_atom v ≡ atoms.Int)
ints-get [] i l h = absurd (omega arith)
ints-get (v ∷ vs) zero l h = (v, refl, h.0)
ints-get (v ∷ vs) (suc i) l h = ints-get vs i (omega arith) h.1

pub ints-set : (vs : List Datum) (i : ℕ) (v : Datum) → datum_atom v ≡ atoms.Int → AreInts vs → AreInts (set vs i v)
ints-set [] i v e h = tt
ints-set (u ∷ vs) zero v e h = (e, h.1)
ints-set (u ∷ vs) (suc i) v e h = (h.0, ints-set vs i v e h.1)

pub ints-push : (vs : List Datum) (v : Datum) → datum_atom v ≡ atoms.Int → AreInts vs → AreInts (vs ++ v ∷ [])
ints-push [] v e h = (e, tt)
ints-push (u ∷ vs) v e h = (h.0, ints-push vs v e h.1)

pub ints-zeros : (k : ℕ) → AreInts (replicate k (datum.Int (pos 0)))
ints-zeros zero = tt
ints-zeros (suc k) = (refl, ints-zeros k)

-- ---- cells of a row

-- the row has the cell, whose data type is D
abbrev pub HasCell : RowType → Which → DataTy → Type 0
HasCell (one E) own D = E ≡ D
HasCell (many k) own D = ⊥
HasCell (one E) (element i) D = ⊥
HasCell (many k) (element i) D = (i < k) × (data_type.Int ≡ D)

held-datum : (which : Which) (t : RowType) (D : DataTy) (x : Content) → HasCell t which D → IsContentOf t x →
    (v : Datum) × (value_in which (Some x) ≡ Some v) × (datum_atom v ≡ data_atom D)
held-datum own (one E) D (single v) c e = (v, refl, e ∙ ap (λ F. data_atom F) c)
held-datum own (one E) D (several at vs) c e = absurd e
held-datum own (many k) D x c e = absurd c
held-datum (element i) (one E) D x c e = absurd c
held-datum (element i) (many k) D (single v) c e = absurd e
held-datum (element i) (many k) D (several at vs) c e =
    let l = c.0 in
    let n = e.0 in
    let g = ints-get vs i (omega arith) e.1 in
    (g.0, g.1, g.2 ∙ ap (λ F. data_atom F) c.1)

kept-datum : (which : Which) (t : RowType) (D : DataTy) (v : Datum) (x : Content) → HasCell t which D → IsContentOf t x →
    datum_atom v ≡ data_atom D → IsContentOf t (with_value_in which v x)
kept-datum own (one E) D v (single u) c h e = e ∙ ap (λ F. data_atom F) (sym c)
kept-datum own (one E) D v (several at vs) c h e = absurd h
kept-datum own (many k) D v x c h e = absurd c
kept-datum (element i) (one E) D v x c h e = absurd c
kept-datum (element i) (many k) D v (single u) c h e = absurd h
kept-datum (element i) (many k) D v (several at vs) c h e =
    (length-set vs i v ∙ h.0, ints-set vs i v (e ∙ ap (λ F. data_atom F) (sym c.1)) h.1)

-- one cell more, that holds 0
longer : (k : ℕ) (x : Content) → IsContentOf (many k) x → IsContentOf (many (k + 1)) (lengthened x)
longer k (single v) h = absurd h
longer k (several at vs) h = let n = h.0 in (omega (arith, length_push vs (datum.Int (pos 0))), ints-push vs (datum.Int (pos 0)) refl h.1)

-- ---- the store

pub Holds-more : (W : World) (store : List Row) (a b : ℕ) → a ≤ b → Holds a W store → Holds b W store
Holds-more [] store a b l h = tt
Holds-more (row n t ∷ W) [] a b l h = h
Holds-more (row n t ∷ W) (c ∷ cs) a b l h = (h.0, (let m = h.1 in omega arith), h.2, h.3)
Holds-more (jump n ∷ W) store a b l h = Holds-more W store a b l h

row-below : (W : World) (store : List Row) (b n : ℕ) (t : RowType) → Holds b W store → Stands (row n t) W → n < b
row-below [] store b n t h s = absurd s
row-below (row m u ∷ W) [] b n t h s = absurd h
row-below (row m u ∷ W) (c ∷ cs) b n t h (inl e) = let q : m ≡ n = cc in let l = h.1 in omega arith
row-below (row m u ∷ W) (c ∷ cs) b n t h (inr s) = let l = row-below W cs m n t h.3 s in let k = h.1 in omega arith
row-below (jump m ∷ W) store b n t h (inl e) = absurd cc
row-below (jump m ∷ W) store b n t h (inr s) = row-below W store b n t h s

-- a row that stands holds what its type says
pub content_of-typed : (W : World) (store : List Row) (b n : ℕ) (t : RowType) → Holds b W store → Stands (row n t) W →
    (x : Content) × (content_of n store ≡ Some x) × IsContentOf t x
content_of-typed [] store b n t h s = absurd s
content_of-typed (row m u ∷ W) [] b n t h s = absurd h
content_of-typed (row m u ∷ W) (c ∷ cs) b n t h (inl e) =
    let q : m ≡ n = cc in
    let r : u ≡ t = cc in
    (c.content, rw (eq-eqb c.number n (h.0 ∙ q)) refl, subst (λ w. IsContentOf w c.content) r h.2)
content_of-typed (row m u ∷ W) (c ∷ cs) b n t h (inr s) =
    let l = row-below W cs m n t h.3 s in
    let k = h.0 in
    let q : c.number ≢ n = (λ e. omega arith) in
    let r = content_of-typed W cs m n t h.3 s in
    (r.0, rw (ne_eqb c.number n q) r.1, r.2)
content_of-typed (jump m ∷ W) store b n t h (inl e) = absurd cc
content_of-typed (jump m ∷ W) store b n t h (inr s) = content_of-typed W store b n t h s

-- a cell of it has a value of the cell's type
pub value_of-typed : (which : Which) (W : World) (store : List Row) (b n : ℕ) (t : RowType) (D : DataTy) → HasCell t which D → Holds b W store →
    Stands (row n t) W → (v : Datum) × (value_of which n store ≡ Some v) × (datum_atom v ≡ data_atom D)
value_of-typed which W store b n t D c h s =
    let r = content_of-typed W store b n t h s in
    let g = held-datum which t D r.0 c r.2 in
    (g.0, ap (λ o. value_in which o) r.1 ∙ g.1, g.2)

pub Holds-with_value : (which : Which) (W : World) (store : List Row) (b n : ℕ) (t : RowType) (D : DataTy) (v : Datum) → HasCell t which D →
    Holds b W store → Stands (row n t) W → datum_atom v ≡ data_atom D → Holds b W (with_value which n v store)
Holds-with_value which [] store b n t D v f h s e = absurd s
Holds-with_value which (row m u ∷ W) [] b n t D v f h s e = absurd h
Holds-with_value which (row m u ∷ W) (c ∷ cs) b n t D v f h (inl g) e =
    let q : m ≡ n = cc in
    let r : t ≡ u = cc in
    rw (eq-eqb c.number n (h.0 ∙ q)) (sym q, h.1, kept-datum which u D v c.content (subst (λ w. HasCell w which D) r f) h.2 e, h.3)
Holds-with_value which (row m u ∷ W) (c ∷ cs) b n t D v f h (inr s) e =
    let l = row-below W cs m n t h.3 s in
    let k = h.0 in
    let q : c.number ≢ n = (λ e. omega arith) in
    rw (ne_eqb c.number n q) (h.0, h.1, h.2, Holds-with_value which W cs m n t D v f h.3 s e)
Holds-with_value which (jump m ∷ W) store b n t D v f h (inl g) e = absurd cc
Holds-with_value which (jump m ∷ W) store b n t D v f h (inr s) e = Holds-with_value which W store b n t D v f h s e

-- the newest row gains a cell
pub Holds-lengthened : (n k : ℕ) (W : World) (store : List Row) (b : ℕ) → Holds b (sequence n k ∷ W) store →
    Holds b (sequence n (k + 1) ∷ W) (with_content n lengthened store)
Holds-lengthened n k W [] b h = absurd h
Holds-lengthened n k W (c ∷ cs) b h = rw (eq-eqb c.number n h.0) (refl, h.1, longer k c.content h.2, h.3)

-- the newest row is lost
Holds-lost : (n : ℕ) (t : RowType) (V : World) (store : List Row) (b : ℕ) → Holds b (row n t ∷ V) store → Holds b V (without_row n store)
Holds-lost n t V [] b h = absurd h
Holds-lost n t V (c ∷ cs) b h = let l = h.1 in rw (eq-eqb c.number n h.0) (Holds-more V cs n b (omega arith) h.3)

pub Holds-without_row : (n : ℕ) (t : RowType) (W V : World) (store : List Row) (b : ℕ) → W ≡ row n t ∷ V → Holds b W store →
    Holds b V (without_row n store)
Holds-without_row n t W V store b e h = Holds-lost n t V store b (subst (λ U. Holds b U store) e h)

pub Holds-left : (n : ℕ) (W V : World) (store : List Row) (b : ℕ) → W ≡ jump n ∷ V → Holds b W store → Holds b V store
Holds-left n W V store b e h = subst (λ U. Holds b U store) e h
