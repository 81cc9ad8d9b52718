-- Plans that items of code are made from.
use Rattle.std.specs.Prelude.{ℕ, ◌+◌, ◌≤◌, ◌≡◌, false, List, length, map, slice_get, Some}
use Rattle.fy_phrase.specs.declared.shapes.Pair.{Pair}
use Rattle.fy_phrase.specs.declared.shapes.ShapeTable.{ShapeTable}
use Rattle.fy_phrase.specs.Sizes.{nodes}
use Rattle.fy_phrase.specs.Tree.{Tree, Trees, var, lit, unary, binary, cond, case, lam, app, field, sel, merge, let_in, rec, skip, seq, assign, while_do, forever, new, cells, escape, accept, put, read, mark, no_trees, and_tree}
use Rattle.fy_derive.specs.Shapes.{PlainShape, at_end, a_call, a_field, a_value, an_assignment, a_run}
use Rattle.fy_derive.specs.ShapeTables.{shape_at, HasPairOf, IsShapeTable}
use Rattle.pe_code.specs.declared.code.Entry.{Entry}
use Rattle.pe_code.specs.declared.code.PeCode.{PeCode}
use Rattle.pe_code.specs.declared.code.PeInsn.{PeInsn}
use Rattle.pe_code.specs.declared.code.PeItem.{PeItem}
use Rattle.pe_code.specs.Code.{address_in}
use Rattle.pe_gen.specs.declared.plan.Plan.{Plan}
use Rattle.pe_gen.specs.Preorder.{seen}
use Rattle.pe_right.specs.Constants.{no_data}
use Rattle.pe_right.specs.Right.{EachEnters, IsInsnOf, IsItemOf}
use Rattle.pe_gen.specs.Sites.{is_merge, Stands, IsListed, IsListing}
use Rattle.pe_gen.specs.Steps.{AreSteps}

-- node k is entered at the shape at the address
abbrev pub IsEntered : ShapeTable → List Entry → ℕ → PlainShape → ℕ → Type 0
IsEntered table entries k s a = (n : ℕ) × (shape_at table n ≡ Some s) × (address_in entries k n ≡ Some a)

-- the nodes that the plan has
abbrev pub nodes_in : Plan → List (ℕ × Tree)
nodes_in plan = map seen plan.nodes.items

-- the node is asked for the shape with the number
abbrev pub IsAsked : Plan → ℕ → PlainShape → Type 0
IsAsked plan k s = HasPairOf plan.table.now k s

-- node k is the phrase, and is asked for the shape
abbrev pub IsDue : Plan → ℕ → Tree → PlainShape → Type 0
IsDue plan k p s = IsListed (nodes_in plan) k p × HasPairOf plan.table.now k s

abbrev pub AreDue : Plan → ℕ → Trees → PlainShape → Type 0
AreDue plan k no_trees s = Unit {0}
AreDue plan k (and_tree p ps) s = IsDue plan k p s × AreDue plan (k + nodes p) ps s

module _ (plan : Plan) where
  -- what a form that is node k and is asked for a shape asks of its parts; an abstraction and a definition are asked for what they are, and no mark is asked
  abbrev pub AsksParts : ℕ → Tree → PlainShape → Type 0
  AsksParts k (var j at) s = Unit {0}
  AsksParts k (lit v at) s = Unit {0}
  AsksParts k (unary op p at) s = IsDue plan (k + 1) p (at_end a_value)
  AsksParts k (binary op p q at) s = IsDue plan (k + 1) p (at_end a_value) × IsDue plan (k + 1 + nodes p) q (at_end a_value)
  AsksParts k (cond b p q at) s =
      IsDue plan (k + 1) b (at_end a_value) × IsDue plan (k + 1 + nodes b) p s × IsDue plan (k + 1 + nodes b + nodes p) q s
  AsksParts k (case e parts at) s = IsDue plan (k + 1) e (at_end a_value) × AreDue plan (k + 1 + nodes e) parts s
  AsksParts k (lam d As b at) s = (t : PlainShape) × (s ≡ a_call t) × IsDue plan (k + 1) b t
  AsksParts k (app p q at) s = IsDue plan (k + 1) p (a_call s)
  AsksParts k (field i p at) s = (t : PlainShape) × (s ≡ a_field i t) × IsDue plan (k + 1) p t
  AsksParts k (sel p i at) s = IsDue plan (k + 1) p (a_field i s)
  AsksParts k (merge p q at) s = Unit {0}
  AsksParts k (let_in d p b at) s = IsListed (nodes_in plan) (k + 1) p × IsDue plan (k + 1 + nodes p) b s
  AsksParts k (rec d T b at) s = IsDue plan (k + 1) b s
  AsksParts k (skip at) s = Unit {0}
  AsksParts k (seq p q at) s = IsDue plan (k + 1) p (at_end a_run) × IsDue plan (k + 1 + nodes p) q (at_end a_run)
  AsksParts k (assign p q at) s = IsDue plan (k + 1) p (at_end an_assignment) × IsDue plan (k + 1 + nodes p) q (at_end a_value)
  AsksParts k (while_do b c at) s = IsDue plan (k + 1) b (at_end a_value) × IsDue plan (k + 1 + nodes b) c (at_end a_run)
  AsksParts k (forever c at) s = IsDue plan (k + 1) c (at_end a_run)
  AsksParts k (new d D e b at) s = IsDue plan (k + 1) e (at_end a_value) × IsDue plan (k + 1 + nodes e) b (at_end a_run)
  AsksParts k (cells d e b at) s = IsDue plan (k + 1) e (at_end a_value) × IsDue plan (k + 1 + nodes e) b (at_end a_run)
  AsksParts k (escape d b at) s = IsDue plan (k + 1) b (at_end a_run)
  AsksParts k (accept d D b at) s = IsDue plan (k + 1) b (at_end a_run)
  AsksParts k (put kind p at) s = IsDue plan (k + 1) p (at_end a_value)
  AsksParts k (read p at) s = IsDue plan (k + 1) p (at_end an_assignment)
  AsksParts k (mark m at) s = ⊥

  -- the plan has each pair's entry, and its limits
  pub record IsPlan : Type 0 where
    pub table : IsShapeTable plan.table.now
    pub listing : IsListing (nodes_in plan)
    pub few_nodes : length plan.nodes.items ≤ 65536
    pub few_shapes : length plan.table.now.shapes ≤ 256
    pub steps : AreSteps plan.table.now.shapes plan.steps.keys
    pub entered : (x : Pair) → Stands plan.table.now.pairs x → (a : ℕ) × (address_in plan.entries x.node x.shape ≡ Some a)

  -- the instruction of a form, in any code with the plan's entries
  abbrev pub IsInsnIn : ℕ → Tree → PlainShape → PeInsn → Type 0
  IsInsnIn k p s insn = (code : PeCode) → code.entries ≡ plan.entries → IsInsnOf no_data plan.table.now code k p s insn

  -- each of the parts, from node k on, is entered at the shape at its address, in any such code
  abbrev pub EachEntersIn : ℕ → Trees → PlainShape → List ℕ → Type 0
  EachEntersIn k ps s ys = (code : PeCode) → code.entries ≡ plan.entries → EachEnters plan.table.now code k ps s ys

  -- the pair's item, in any such code
  abbrev pub IsItemIn : Pair → PeItem → Type 0
  IsItemIn x item =
      (d : ℕ) (p : Tree) (s : PlainShape) → slice_get (nodes_in plan) x.node ≡ Some (d, p) → shape_at plan.table.now x.shape ≡ Some s →
      (code : PeCode) → code.entries ≡ plan.entries → IsItemOf no_data plan.table.now code d x.node p s item

  -- a pair of which there is an item: its node's form, which is no merge, asks something of its parts
  pub record IsSite (x : Pair) : Type 0 where
    pub node : Tree
    pub shape : PlainShape
    pub listed : IsListed (nodes_in plan) x.node node
    pub whole : is_merge node ≡ false
    pub is : shape_at plan.table.now x.shape ≡ Some shape
    pub asked : HasPairOf plan.table.now x.node shape
    pub parts : AsksParts x.node node shape
