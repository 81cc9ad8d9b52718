-- Which code is that of a phrase and a table of demand shapes.
use Rattle.std.specs.Prelude.{ℕ, ◌+◌, ◌*◌, ◌≤◌, ◌≡◌, ◌⊎◌, ◌↔◌, true, false, List, [], ◌∷◌, ◌++◌, length, map, slice_get, Option, Some, None, unwrap_or}
use Rattle.fy_base.specs.declared.data.Place.{Place}
use Rattle.fy_base.specs.declared.data.Datum.{Datum}
use Rattle.fy_base.specs.declared.data.UnOp.{UnOp}
use Rattle.fy_base.specs.declared.data.BinOp.{BinOp}
use Rattle.fy_base.specs.declared.data.PutKind.{PutKind}
use Rattle.fy_types.specs.Types.{PlainType, PlainTypes}
use Rattle.fy_phrase.specs.declared.phrase.DataTy.{DataTy}
use Rattle.fy_phrase.specs.declared.shapes.ShapeTable.{ShapeTable}
use Rattle.fy_phrase.specs.Tree.{Tree, Trees, place_of, var, lit, unary, binary, cond, case, lam, app, field, sel, merge, let_in, rec, skip, seq, assign, while_do, forever, new, cells, escape, accept, put, read, mark, no_trees, and_tree}
use Rattle.fy_phrase.specs.Sizes.{nodes}
use Rattle.fy_derive.specs.Kinds.{Kind, kind_of}
use Rattle.fy_derive.specs.Rules.{Binder, nothing, first, given, Premise, of_parts, premises}
use Rattle.fy_derive.specs.Shapes.{PlainShape, at_end, a_call, a_field, a_value, an_assignment, a_run, shape_begins}
use Rattle.fy_derive.specs.ShapeTables.{shape_at}
use Rattle.pe_code.specs.declared.code.StraightPart.{StraightPart}
use Rattle.pe_code.specs.declared.code.Purpose.TheVariants as purpose
use Rattle.pe_code.specs.declared.code.PeInsn.{PeInsn}
use Rattle.pe_code.specs.declared.code.PeInsn.TheVariants as insn
use Rattle.pe_code.specs.declared.code.PeItem.{PeItem}
use Rattle.pe_code.specs.declared.code.PeCode.{PeCode}
use Rattle.pe_code.specs.declared.code.SequenceShapes.{SequenceShapes}
use Rattle.pe_code.specs.Code.{item_at, entry_of}
use Rattle.pe_code.specs.Straight.{height_after}
use Rattle.pe_right.specs.Entered.{BinderKind, Entering, every, no_part, later, first_alone, IsEntered}
use Rattle.pe_right.specs.Straight.{IsPostfix, IsStraightOf}

-- ---- nodes of a phrase, with the number of binders around them

-- the number of binders around a premise's part, where d are around the phrase
abbrev pub depth_under : ℕ → Binder → ℕ
depth_under d nothing = d
depth_under d first = d + 1
depth_under d (given T) = d + 1

abbrev pub subjects_under : ℕ → List Premise → List (ℕ × Tree)
subjects_under d Ps = map (λ (P : Premise). (depth_under d P.0, P.1)) Ps

abbrev pub with_depth : ℕ → Trees → List (ℕ × Tree)
with_depth d ps = subjects_under d (of_parts ps)

-- the direct parts of a phrase under d binders, in order, each with the number of binders around it
abbrev pub parts_under : ℕ → Tree → List (ℕ × Tree)
parts_under d (lam n As b at) = (d + 1, b) ∷ []
parts_under d (merge p q at) = (d, p) ∷ (d, q) ∷ []
parts_under d p = subjects_under d (unwrap_or (premises p) [])

mutual
  -- q has the preorder number k and e binders around it, in p with the number m and d binders around it
  pub data IsNodeUnder : (d m : ℕ) → Tree → (e k : ℕ) → Tree → Type 0 where
    itself : {d m : ℕ} {p : Tree} → IsNodeUnder d m p d m p
    in_part : {d m e k : ℕ} {p q : Tree} → IsNodeAmongUnder (m + 1) (parts_under d p) e k q → IsNodeUnder d m p e k q

  pub data IsNodeAmongUnder : ℕ → List (ℕ × Tree) → (e k : ℕ) → Tree → Type 0 where
    in_first : {d m e k : ℕ} {p q : Tree} {ps : List (ℕ × Tree)} → IsNodeUnder d m p e k q → IsNodeAmongUnder m ((d, p) ∷ ps) e k q
    in_later : {d m e k : ℕ} {p q : Tree} {ps : List (ℕ × Tree)} → IsNodeAmongUnder (m + nodes p) ps e k q → IsNodeAmongUnder m ((d, p) ∷ ps) e k q

abbrev mutual
  -- the nodes of which thunks are made, in preorder of what makes them: a call the argument's, a definition the defined phrase's, a recursion its own
  pub thunk_nodes : ℕ → Tree → List ℕ
  thunk_nodes m (var k at) = []
  thunk_nodes m (lit v at) = []
  thunk_nodes m (unary op p at) = thunk_nodes (m + 1) p
  thunk_nodes m (binary op p q at) = thunk_nodes (m + 1) p ++ thunk_nodes (m + 1 + nodes p) q
  thunk_nodes m (cond b p q at) = thunk_nodes (m + 1) b ++ (thunk_nodes (m + 1 + nodes b) p ++ thunk_nodes (m + 1 + nodes b + nodes p) q)
  thunk_nodes m (case e parts at) = thunk_nodes (m + 1) e ++ all_thunk_nodes (m + 1 + nodes e) parts
  thunk_nodes m (lam d As b at) = thunk_nodes (m + 1) b
  thunk_nodes m (app p q at) = (m + 1 + nodes p) ∷ (thunk_nodes (m + 1) p ++ thunk_nodes (m + 1 + nodes p) q)
  thunk_nodes m (field i p at) = thunk_nodes (m + 1) p
  thunk_nodes m (sel p i at) = thunk_nodes (m + 1) p
  thunk_nodes m (merge p q at) = thunk_nodes (m + 1) p ++ thunk_nodes (m + 1 + nodes p) q
  thunk_nodes m (let_in d p b at) = (m + 1) ∷ (thunk_nodes (m + 1) p ++ thunk_nodes (m + 1 + nodes p) b)
  thunk_nodes m (rec d T b at) = m ∷ thunk_nodes (m + 1) b
  thunk_nodes m (skip at) = []
  thunk_nodes m (seq p q at) = thunk_nodes (m + 1) p ++ thunk_nodes (m + 1 + nodes p) q
  thunk_nodes m (assign p q at) = thunk_nodes (m + 1) p ++ thunk_nodes (m + 1 + nodes p) q
  thunk_nodes m (while_do b c at) = thunk_nodes (m + 1) b ++ thunk_nodes (m + 1 + nodes b) c
  thunk_nodes m (forever c at) = thunk_nodes (m + 1) c
  thunk_nodes m (new d D e b at) = thunk_nodes (m + 1) e ++ thunk_nodes (m + 1 + nodes e) b
  thunk_nodes m (cells d e b at) = thunk_nodes (m + 1) e ++ thunk_nodes (m + 1 + nodes e) b
  thunk_nodes m (escape d b at) = thunk_nodes (m + 1) b
  thunk_nodes m (accept d D b at) = thunk_nodes (m + 1) b
  thunk_nodes m (put kind p at) = thunk_nodes (m + 1) p
  thunk_nodes m (read p at) = thunk_nodes (m + 1) p
  thunk_nodes m (mark k at) = []

  pub all_thunk_nodes : ℕ → Trees → List ℕ
  all_thunk_nodes m no_trees = []
  all_thunk_nodes m (and_tree p ps) = thunk_nodes m p ++ all_thunk_nodes (m + nodes p) ps

-- ---- the instruction of a form

abbrev pub is_variable : Tree → Option ℕ
is_variable (var k at) = Some k
is_variable _ = None

module _ (table : ShapeTable) (code : PeCode) where
  -- node k is entered at the shape at the address
  abbrev pub Enters : ℕ → PlainShape → ℕ → Type 0
  Enters k s a = (n : ℕ) × (shape_at table n ≡ Some s) × (entry_of code k n ≡ Some a)

  -- each of the parts, from node k on, is entered at the shape at its address
  pub data EachEnters : ℕ → Trees → PlainShape → List ℕ → Type 0 where
    no_parts : {k : ℕ} {s : PlainShape} → EachEnters k no_trees s []
    and_part : {k y : ℕ} {p : Tree} {ps : Trees} {s : PlainShape} {ys : List ℕ} →
        Enters k s y → EachEnters (k + nodes p) ps s ys → EachEnters k (and_tree p ps) s (y ∷ ys)

-- `handed` tells of which arguments and definitions a datum is known
module _ (handed : Tree → Option Datum) (table : ShapeTable) (code : PeCode) where
  -- the instruction of a form that is node k and is demanded at a shape; its parts are entered at what it passes to them
  pub data IsInsnOf : ℕ → Tree → PlainShape → PeInsn → Type 0 where
    of_var : {k j n : ℕ} {at : Place} {s : PlainShape} → shape_at table n ≡ Some s → IsInsnOf k (var j at) s (insn.UseVar j n)
    of_lit : {k : ℕ} {v : Datum} {at : Place} {s : PlainShape} → IsInsnOf k (lit v at) s (insn.Answer v)
    of_unary : {k x : ℕ} {op : UnOp} {p : Tree} {at : Place} {s : PlainShape} →
        Enters table code (k + 1) (at_end a_value) x → IsInsnOf k (unary op p at) s (insn.Op1 op x)
    of_binary : {k x y : ℕ} {op : BinOp} {p q : Tree} {at : Place} {s : PlainShape} →
        Enters table code (k + 1) (at_end a_value) x → Enters table code (k + 1 + nodes p) (at_end a_value) y → IsInsnOf k (binary op p q at) s (insn.Op2 op x y)
    of_cond : {k x y z : ℕ} {b p q : Tree} {at : Place} {s : PlainShape} →
        Enters table code (k + 1) (at_end a_value) x → Enters table code (k + 1 + nodes b) s y → Enters table code (k + 1 + nodes b + nodes p) s z →
        IsInsnOf k (cond b p q at) s (insn.Cond x y z)
    of_case : {k x : ℕ} {ys : List ℕ} {e : Tree} {parts : Trees} {at : Place} {s : PlainShape} →
        Enters table code (k + 1) (at_end a_value) x → EachEnters table code (k + 1 + nodes e) parts s ys → IsInsnOf k (case e parts at) s (insn.Case x ys)
    of_lam : {k d y : ℕ} {As : PlainTypes} {b : Tree} {at : Place} {s : PlainShape} →
        Enters table code (k + 1) s y → IsInsnOf k (lam d As b at) (a_call s) (insn.Bind y)
    -- an argument that is a variable has no thunk of its own
    of_app : {k y : ℕ} {p q : Tree} {at : Place} {s : PlainShape} →
        is_variable q ≡ None → handed q ≡ None → Enters table code (k + 1) (a_call s) y → IsInsnOf k (app p q at) s (insn.Pass (k + 1 + nodes p) y)
    of_app_variable : {k j y : ℕ} {p q : Tree} {at : Place} {s : PlainShape} →
        is_variable q ≡ Some j → Enters table code (k + 1) (a_call s) y → IsInsnOf k (app p q at) s (insn.PassVar j y)
    -- and one of which a datum is known is that datum
    of_app_datum : {k y : ℕ} {p q : Tree} {v : Datum} {at : Place} {s : PlainShape} →
        handed q ≡ Some v → Enters table code (k + 1) (a_call s) y → IsInsnOf k (app p q at) s (insn.PassData v y)
    of_field : {k i x : ℕ} {p : Tree} {at : Place} {s : PlainShape} →
        Enters table code (k + 1) s x → IsInsnOf k (field i p at) (a_field i s) (insn.Field i x)
    of_sel : {k i x : ℕ} {p : Tree} {at : Place} {s : PlainShape} →
        Enters table code (k + 1) (a_field i s) x → IsInsnOf k (sel p i at) s (insn.Pick i x)
    -- nor has a definition that is one
    of_let : {k d y : ℕ} {p b : Tree} {at : Place} {s : PlainShape} →
        is_variable p ≡ None → handed p ≡ None → Enters table code (k + 1 + nodes p) s y → IsInsnOf k (let_in d p b at) s (insn.Let (k + 1) y)
    of_let_variable : {k d j y : ℕ} {p b : Tree} {at : Place} {s : PlainShape} →
        is_variable p ≡ Some j → Enters table code (k + 1 + nodes p) s y → IsInsnOf k (let_in d p b at) s (insn.LetVar j y)
    of_let_datum : {k d y : ℕ} {p b : Tree} {v : Datum} {at : Place} {s : PlainShape} →
        handed p ≡ Some v → Enters table code (k + 1 + nodes p) s y → IsInsnOf k (let_in d p b at) s (insn.LetData v y)
    of_rec : {k d y : ℕ} {T : PlainType} {b : Tree} {at : Place} {s : PlainShape} →
        Enters table code (k + 1) s y → IsInsnOf k (rec d T b at) s (insn.Knot k y)
    of_skip : {k : ℕ} {at : Place} {s : PlainShape} → IsInsnOf k (skip at) s insn.Done
    of_seq : {k x y : ℕ} {p q : Tree} {at : Place} {s : PlainShape} →
        Enters table code (k + 1) (at_end a_run) x → Enters table code (k + 1 + nodes p) (at_end a_run) y → IsInsnOf k (seq p q at) s (insn.Seq x y)
    of_assign : {k x y : ℕ} {p q : Tree} {at : Place} {s : PlainShape} →
        Enters table code (k + 1) (at_end an_assignment) x → Enters table code (k + 1 + nodes p) (at_end a_value) y → IsInsnOf k (assign p q at) s (insn.Assign x y)
    of_while : {k x y : ℕ} {b c : Tree} {at : Place} {s : PlainShape} →
        Enters table code (k + 1) (at_end a_value) x → Enters table code (k + 1 + nodes b) (at_end a_run) y → IsInsnOf k (while_do b c at) s (insn.While x y)
    of_forever : {k x : ℕ} {c : Tree} {at : Place} {s : PlainShape} →
        Enters table code (k + 1) (at_end a_run) x → IsInsnOf k (forever c at) s (insn.Loop x)
    of_new : {k d x y : ℕ} {D : DataTy} {e b : Tree} {at : Place} {s : PlainShape} →
        Enters table code (k + 1) (at_end a_value) x → Enters table code (k + 1 + nodes e) (at_end a_run) y → IsInsnOf k (new d D e b at) s (insn.New x y)
    of_cells : {k d x y : ℕ} {e b : Tree} {at : Place} {s : PlainShape} →
        Enters table code (k + 1) (at_end a_value) x → Enters table code (k + 1 + nodes e) (at_end a_run) y → IsInsnOf k (cells d e b at) s (insn.Cells x y)
    of_escape : {k d x : ℕ} {b : Tree} {at : Place} {s : PlainShape} →
        Enters table code (k + 1) (at_end a_run) x → IsInsnOf k (escape d b at) s (insn.Escape x)
    of_accept : {k d x : ℕ} {D : DataTy} {b : Tree} {at : Place} {s : PlainShape} →
        Enters table code (k + 1) (at_end a_run) x → IsInsnOf k (accept d D b at) s (insn.Accept x)
    of_put : {k x : ℕ} {kind : PutKind} {p : Tree} {at : Place} {s : PlainShape} →
        Enters table code (k + 1) (at_end a_value) x → IsInsnOf k (put kind p at) s (insn.Put kind x)
    of_read : {k x : ℕ} {p : Tree} {at : Place} {s : PlainShape} →
        Enters table code (k + 1) (at_end an_assignment) x → IsInsnOf k (read p at) s (insn.Read x)

  -- the item of a form with d binders around it
  pub record IsItemOf (d k : ℕ) (q : Tree) (s : PlainShape) (item : PeItem) : Type 0 where
    pub insn : IsInsnOf k q s item.insn
    pub depth : item.depth ≡ d
    pub place : item.place ≡ place_of q

-- ---- a form that is executed with a part that is straight code

-- some binder is around
abbrev pub IsWithin : List BinderKind → Type 0
IsWithin [] = ⊥
IsWithin (b ∷ w) = Unit {0}

-- the straight code of a part
pub record IsFeeding (code : PeCode) (w : List BinderKind) (q : Tree) (ss : List StraightPart) : Type 0 where
  pub within : IsWithin w
  pub postfix : IsPostfix code w q ss
  pub one : height_after ss 0 ≡ Some 1

module _ (table : ShapeTable) (code : PeCode) where
  -- the instruction goes on with the datum of straight code as the form does with that of its part; the other parts are entered
  pub data IsFedOf (w : List BinderKind) (k : ℕ) : Tree → PlainShape → Entering → PeInsn → Type 0 where
    of_condition : {y z : ℕ} {b p q : Tree} {at : Place} {s : PlainShape} {ss : List StraightPart} → IsFeeding code w b ss →
        Enters table code (k + 1 + nodes b) s y → Enters table code (k + 1 + nodes b + nodes p) s z → IsFedOf w k (cond b p q at) s later (insn.EvalFor ss (purpose.Choose y z))
    of_test : {y : ℕ} {b c : Tree} {at : Place} {s : PlainShape} {ss : List StraightPart} → IsFeeding code w b ss →
        Enters table code (k + 1 + nodes b) (at_end a_run) y → IsFedOf w k (while_do b c at) s later (insn.EvalFor ss (purpose.Repeat y))
    of_assigned : {x : ℕ} {p q : Tree} {at : Place} {s : PlainShape} {ss : List StraightPart} → IsFeeding code w q ss →
        Enters table code (k + 1) (at_end an_assignment) x → IsFedOf w k (assign p q at) s first_alone (insn.EvalFor ss (purpose.Store x))
    of_output : {kind : PutKind} {p : Tree} {at : Place} {s : PlainShape} {ss : List StraightPart} → IsFeeding code w p ss →
        IsFedOf w k (put kind p at) s later (insn.EvalFor ss (purpose.Write kind))

-- a part that is straight code has at most a quarter of so many nodes
abbrev pub FeedsFew : ℕ → Entering → Tree → Type 0
FeedsFew n every q = Unit {0}
FeedsFew n later (cond b p q at) = 4 * nodes b ≤ n
FeedsFew n later (while_do b c at) = 4 * nodes b ≤ n
FeedsFew n later (put kind p at) = 4 * nodes p ≤ n
FeedsFew n first_alone (assign p q at) = 4 * nodes q ≤ n
FeedsFew n e q = Unit {0}

-- `straight` tells which parts of a node are entered
module _ (handed : Tree → Option Datum) (straight : ℕ → Entering) (table : ShapeTable) (code : PeCode) where
  -- an instruction evaluates a node in one step, or goes on with a part's datum, where that is told, and else it is that of the form
  pub data IsInsnAt (w : List BinderKind) (k : ℕ) (q : Tree) (s : PlainShape) (i : PeInsn) : Type 0 where
    by_parts : straight k ≡ every → IsInsnOf handed table code k q s i → IsInsnAt w k q s i
    at_once : straight k ≡ no_part → IsStraightOf code w q s i → IsInsnAt w k q s i
    fed : {e : Entering} → straight k ≡ e → IsFedOf table code w k q s e i → IsInsnAt w k q s i

  -- the item of a node with the binders w around it
  pub record IsItemAt (w : List BinderKind) (k : ℕ) (q : Tree) (s : PlainShape) (item : PeItem) : Type 0 where
    pub insn : IsInsnAt w k q s item.insn
    pub depth : item.depth ≡ length w
    pub place : item.place ≡ place_of q

  -- what stands where node k is entered at a shape: a merge, which isn't evaluated in one step, is entered where the operand that takes the demand is, every other form at its own item
  abbrev pub IsRightAt : (w : List BinderKind) (k : ℕ) → Tree → PlainShape → ℕ → Type 0
  IsRightAt w k (merge p q at) s a =
      (kind : Kind) × (kind_of q ≡ Some kind) × (straight k ≡ every)
      × ((shape_begins kind s ≡ true) × Enters table code (k + 1 + nodes p) s a ⊎ (shape_begins kind s ≡ false) × Enters table code (k + 1) s a)
  IsRightAt w k q s a = (item : PeItem) × (item_at code a ≡ Some item) × IsItemAt w k q s item

-- the number of the shape, where the table has it
abbrev pub IsNumberOf : ShapeTable → Option ℕ → PlainShape → Type 0
IsNumberOf table o s = (n : ℕ) → (o ≡ Some n) ↔ (shape_at table n ≡ Some s)

-- the numbers of the shapes of an index, of a cell that an index picks to be read and to be written, and of the length, which is the field 0
pub record AreSequencesOf (table : ShapeTable) (shapes : SequenceShapes) : Type 0 where
  pub value : IsNumberOf table shapes.value (at_end a_value)
  pub element : IsNumberOf table shapes.element (a_call (at_end a_value))
  pub assigned_element : IsNumberOf table shapes.assigned_element (a_call (at_end an_assignment))
  pub row_length : IsNumberOf table shapes.row_length (a_field 0 (at_end a_value))

-- the code is that of the phrase and the table, with the data that are known in place of thunks, and evaluates some nodes in one step
pub record IsCodeOf (handed : Tree → Option Datum) (straight : ℕ → Entering) (p : Tree) (table : ShapeTable) (code : PeCode) : Type 0 where
  -- there is an entry for each pair of the table, and for no other
  pub entries : (k n : ℕ) → (((i : ℕ) × (slice_get table.pairs i ≡ Some (record { node = k; shape = n }))) ↔ ((a : ℕ) × (entry_of code k n ≡ Some a)))
  -- the program's own entry is item 0
  pub program : Enters table code 0 (at_end a_run) 0
  -- a part that is evaluated with the node around it isn't entered
  pub right : (w : List BinderKind) (k a : ℕ) (q : Tree) (s : PlainShape) → IsEntered straight [] 0 p w k q → Enters table code k s a → IsRightAt handed straight table code w k q s a
  pub fits : (w : List BinderKind) (k : ℕ) (q : Tree) → IsEntered straight [] 0 p w k q → FeedsFew (nodes p) (straight k) q
  pub shapes : code.shapes ≡ length table.shapes
  pub assignment : IsNumberOf table code.assignment (at_end an_assignment)
  pub sequences : AreSequencesOf table code.sequences
  pub thunks : code.thunks ≡ thunk_nodes 0 p
