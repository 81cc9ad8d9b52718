-- Push-enter code: what its instructions name, and where nodes are entered.
use Rattle.std.specs.Prelude.{ℕ, ◌==◌, ◌&&◌, if◌then◌else◌, List, [], ◌∷◌, slice_get, Option, Some, None}
use Rattle.pe_code.specs.declared.code.PeInsn.{PeInsn}
use Rattle.pe_code.specs.declared.code.PeInsn.TheVariants as insn
use Rattle.pe_code.specs.declared.code.StraightPart.{StraightPart}
use Rattle.pe_code.specs.declared.code.Purpose.{Purpose}
use Rattle.pe_code.specs.declared.code.Purpose.TheVariants as purpose
use Rattle.pe_code.specs.declared.code.PeItem.{PeItem}
use Rattle.pe_code.specs.declared.code.Entry.{Entry}
use Rattle.pe_code.specs.declared.code.PeCode.{PeCode}

-- the item at the address
abbrev pub item_at : PeCode → ℕ → Option PeItem
item_at code a = slice_get code.items a

-- where the first entry for the node and the shape leads
abbrev pub address_in : List Entry → ℕ → ℕ → Option ℕ
address_in [] node shape = None
address_in (e ∷ es) node shape = if (e.node == node) && (e.shape == shape) then Some e.address else address_in es node shape

-- where the node is entered at the shape
abbrev pub entry_of : PeCode → ℕ → ℕ → Option ℕ
entry_of code node shape = address_in code.entries node shape

-- the addresses in a purpose
abbrev pub served_by : Purpose → List ℕ
served_by (purpose.Choose x y) = x ∷ y ∷ []
served_by (purpose.Repeat x) = x ∷ []
served_by (purpose.Store x) = x ∷ []
served_by (purpose.Write kind) = []

-- the addresses in an instruction whose items stand under no binder of its own
abbrev pub beside : PeInsn → List ℕ
beside (insn.UseVar k s) = []
beside (insn.Answer v) = []
beside (insn.Op1 op x) = x ∷ []
beside (insn.Op2 op x y) = x ∷ y ∷ []
beside (insn.Cond x y z) = x ∷ y ∷ z ∷ []
beside (insn.Case x ys) = x ∷ ys
beside (insn.Bind y) = []
beside (insn.Pass n y) = y ∷ []
beside (insn.PassVar k y) = y ∷ []
beside (insn.PassData v y) = y ∷ []
beside (insn.Field i x) = x ∷ []
beside (insn.Pick i x) = x ∷ []
beside (insn.Let n y) = []
beside (insn.LetVar k y) = []
beside (insn.LetData v y) = []
beside (insn.Knot n y) = []
beside insn.Done = []
beside (insn.Seq x y) = x ∷ y ∷ []
beside (insn.Assign x y) = x ∷ y ∷ []
beside (insn.While x y) = x ∷ y ∷ []
beside (insn.Loop x) = x ∷ []
beside (insn.New x y) = x ∷ []
beside (insn.Cells x y) = x ∷ []
beside (insn.Escape y) = []
beside (insn.Accept y) = []
beside (insn.Put kind x) = x ∷ []
beside (insn.Read x) = x ∷ []
beside (insn.Eval ss) = []
beside (insn.Set k ss) = []
beside (insn.EvalFor ss u) = served_by u

-- the address of the body under its binder
abbrev pub body_of : PeInsn → Option ℕ
body_of (insn.UseVar k s) = None
body_of (insn.Answer v) = None
body_of (insn.Op1 op x) = None
body_of (insn.Op2 op x y) = None
body_of (insn.Cond x y z) = None
body_of (insn.Case x ys) = None
body_of (insn.Bind y) = Some y
body_of (insn.Pass n y) = None
body_of (insn.PassVar k y) = None
body_of (insn.PassData v y) = None
body_of (insn.Field i x) = None
body_of (insn.Pick i x) = None
body_of (insn.Let n y) = Some y
body_of (insn.LetVar k y) = Some y
body_of (insn.LetData v y) = Some y
body_of (insn.Knot n y) = Some y
body_of insn.Done = None
body_of (insn.Seq x y) = None
body_of (insn.Assign x y) = None
body_of (insn.While x y) = None
body_of (insn.Loop x) = None
body_of (insn.New x y) = Some y
body_of (insn.Cells x y) = Some y
body_of (insn.Escape y) = Some y
body_of (insn.Accept y) = Some y
body_of (insn.Put kind x) = None
body_of (insn.Read x) = None
body_of (insn.Eval ss) = None
body_of (insn.Set k ss) = None
body_of (insn.EvalFor ss u) = None

-- the variable that an instruction names
abbrev pub variable_of : PeInsn → Option ℕ
variable_of (insn.UseVar k s) = Some k
variable_of (insn.PassVar k y) = Some k
variable_of (insn.LetVar k y) = Some k
variable_of (insn.Set k ss) = Some k
variable_of _ = None

-- the shape that it names
abbrev pub shape_of : PeInsn → Option ℕ
shape_of (insn.UseVar k s) = Some s
shape_of _ = None

-- the node of which it makes a thunk
abbrev pub node_of : PeInsn → Option ℕ
node_of (insn.Pass n y) = Some n
node_of (insn.Let n y) = Some n
node_of (insn.Knot n y) = Some n
node_of _ = None

-- the parts that it picks from
abbrev pub picked_from : PeInsn → List ℕ
picked_from (insn.Case x ys) = ys
picked_from _ = []

-- the straight code that it runs
abbrev pub straight_of : PeInsn → Option (List StraightPart)
straight_of (insn.Eval ss) = Some ss
straight_of (insn.Set k ss) = Some ss
straight_of (insn.EvalFor ss u) = Some ss
straight_of _ = None
