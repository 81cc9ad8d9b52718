-- Where the shapes of a rule's conclusion come from.
use Rattle.std.specs.Prelude.{◌≡◌, List, Some, slice_get}
use Rattle.fy_phrase.specs.declared.shapes.ShapeElem.{ShapeElem}
use Rattle.fy_phrase.specs.declared.shapes.ShapeElem.TheVariants as elem
use Rattle.fy_phrase.specs.declared.shapes.ShapeEnd.TheVariants as ending
use Rattle.fy_types.specs.declared.types.Atom.{Atom}
use Rattle.fy_types.specs.Types.{PlainType, atom, arrow, field as field_type}
use Rattle.fy_phrase.specs.Tree.{Tree, var, lit, unary, binary, cond, case, lam, app, field, sel, merge, let_in, rec, skip, seq, assign, while_do, forever, new, cells, escape, accept, put, read, mark}
use Rattle.fy_derive.specs.Shapes.{end_shape}
use Rattle.fy_derive.specs.ShapeTables.{plain_end}
use Rattle.fy_derive.specs.Tables.{type_at}
use Rattle.pe_shapes.specs.declared.conclusion.Origin.{Origin}
use Rattle.pe_shapes.specs.declared.conclusion.Origin.TheVariants.{Variable, End, Front, Behind, First, Second, Nothing}

abbrev pub origin : Tree → Origin
origin (var k at) = Variable k
origin (lit v at) = End ending.Value
origin (unary op p at) = End ending.Value
origin (binary op p q at) = End ending.Value
origin (cond b p q at) = Second
origin (case e parts at) = Second
origin (lam d As b at) = Nothing
origin (app p q at) = Behind elem.Call
origin (field i p at) = Front (elem.Field i)
origin (sel p i at) = Behind (elem.Field i)
origin (merge p q at) = Nothing
origin (let_in d p b at) = Second
origin (rec d T b at) = First
origin (skip at) = End ending.Run
origin (seq p q at) = Second
origin (assign p q at) = End ending.Run
origin (while_do b c at) = End ending.Run
origin (forever c at) = End ending.Run
origin (new d D e b at) = Second
origin (cells d e b at) = Second
origin (escape d b at) = End ending.Run
origin (accept d D b at) = End ending.Assign
origin (put kind p at) = End ending.Run
origin (read p at) = End ending.Run
origin (mark m at) = Nothing

-- the type F is the type A behind the demand
abbrev pub IsFronted : ShapeElem → PlainType → PlainType → Type 0
IsFronted elem.Call F A = (D : PlainType) × (F ≡ arrow D A)
IsFronted (elem.Field i) F A = F ≡ field_type i A

-- the type A is what the origin says, from the context and the premises' types
abbrev pub ComesFrom : Origin → List PlainType → List PlainType → PlainType → Type 0
ComesFrom (Variable k) G As A = slice_get G k ≡ Some A
ComesFrom (End e) G As A = (a : Atom) × (A ≡ atom a) × (end_shape a ≡ plain_end e)
ComesFrom (Front x) G As A = IsFronted x A (type_at As 0)
ComesFrom (Behind x) G As A = IsFronted x (type_at As 0) A
ComesFrom First G As A = type_at As 0 ≡ A
ComesFrom Second G As A = type_at As 1 ≡ A
ComesFrom Nothing G As A = ⊥
