-- The text that is written of a tree: its tokens, each with one blank behind it.
use Rattle.std.specs.Prelude.{ℕ, ◌+◌, ◌/◌, ◌%◌, Bool, true, false, nat_lt, if◌then◌else◌, List, [], ◌∷◌, ◌++◌, codes}
use Rattle.std.specs.Fmt.{signed_decimal}
use Rattle.fy_base.specs.Outside.{Bytes}
use Rattle.fy_base.specs.declared.data.BinOp.{BinOp}
use Rattle.fy_base.specs.declared.data.BinOp.TheVariants as op
use Rattle.fy_base.specs.declared.data.UnOp.{UnOp}
use Rattle.fy_base.specs.declared.data.UnOp.TheVariants as unary
use Rattle.fy_types.specs.declared.types.Atom.{Atom}
use Rattle.fy_types.specs.declared.types.Atom.TheVariants as atom
use Rattle.fy_types.specs.Print.{name_text}
use Rattle.fy_syntax.specs.declared.surface.Prefixed.{Prefixed}
use Rattle.fy_syntax.specs.Trees.{TypeTree, TypeTrees, DeclTree, Tree, Trees, Defs, Links}

-- a hexadecimal digit: 0 to 9, a to f
abbrev pub hex_digit : ℕ → ℕ
hex_digit d = if nat_lt d 10 then 48 + d else 87 + d

-- a byte as an element: `\x` and two hexadecimal digits
abbrev pub element_text : ℕ → Bytes
element_text byte = 92 ∷ 120 ∷ hex_digit (byte / 16) ∷ hex_digit (byte % 16) ∷ []

abbrev pub elements_text : Bytes → Bytes
elements_text [] = []
elements_text (byte ∷ bytes) = element_text byte ++ elements_text bytes

abbrev pub operator_text : BinOp → Bytes
operator_text op.Or = codes "or "
operator_text op.And = codes "and "
operator_text op.Eq = codes "= "
operator_text op.Ne = codes "<> "
operator_text op.Lt = codes "< "
operator_text op.Le = codes "<= "
operator_text op.Gt = codes "> "
operator_text op.Ge = codes ">= "
operator_text op.Add = codes "+ "
operator_text op.Sub = codes "- "
operator_text op.Mul = codes "* "
operator_text op.Div = codes "div "
operator_text op.Rem = codes "rem "

abbrev pub prefix_text : UnOp → Bytes
prefix_text unary.Neg = codes "- "
prefix_text unary.Not = codes "not "
prefix_text unary.Ord = codes "ord "
prefix_text unary.Chr = codes "chr "

abbrev pub atom_text : Atom → Bytes
atom_text atom.Int = codes "int "
atom_text atom.Bool = codes "bool "
atom_text atom.Char = codes "char "
atom_text atom.Comm = codes "comm "
atom_text atom.Compl = codes "compl "
atom_text atom.IntAcc = codes "intacc "
atom_text atom.BoolAcc = codes "boolacc "
atom_text atom.CharAcc = codes "characc "

abbrev pub truth_text : Bool → Bytes
truth_text true = codes "true "
truth_text false = codes "false "

-- a name with a blank behind it
abbrev pub ident_text : List Bytes → ℕ → Bytes
ident_text names n = name_text names n ++ codes " "

-- names, each with a colon behind it or a dot in front of it
abbrev pub fields_text : List Bytes → List ℕ → Bytes
fields_text names [] = []
fields_text names (n ∷ more) = ident_text names n ++ (codes ": " ++ fields_text names more)

abbrev pub dots_text : List Bytes → List ℕ → Bytes
dots_text names [] = []
dots_text names (n ∷ more) = codes ". " ++ (ident_text names n ++ dots_text names more)

abbrev pub prefixes_text : List Prefixed → Bytes
prefixes_text [] = []
prefixes_text (o ∷ more) = prefix_text o.op ++ prefixes_text more

abbrev mutual
  pub type_text : List Bytes → TypeTree → Bytes
  type_text names (TypeTree.arrow a b at) = type_text names a ++ (codes "-> " ++ type_text names b)
  type_text names (TypeTree.meet members at) = types_text names [] (codes "& ") members
  type_text names (TypeTree.field fields a at) = fields_text names fields ++ type_text names a
  type_text names (TypeTree.ns at) = codes "ns "
  type_text names (TypeTree.atom a at) = atom_text a
  type_text names (TypeTree.ident n at) = ident_text names n
  type_text names (TypeTree.group a at) = codes "( " ++ (type_text names a ++ codes ") ")

  -- types, the first behind a lead and each other behind a separator
  pub types_text : List Bytes → Bytes → Bytes → TypeTrees → Bytes
  types_text names lead separator TypeTrees.no_types = []
  types_text names lead separator (TypeTrees.and_type a more) = lead ++ (type_text names a ++ types_text names separator separator more)

-- declarations, the first behind a lead and each other behind a comma
abbrev pub decls_text : List Bytes → Bytes → List DeclTree → Bytes
decls_text names lead [] = []
decls_text names lead (d ∷ more) = lead ++ (ident_text names d.name ++ (codes ": " ++ (type_text names d.type ++ decls_text names (codes ", ") more)))

abbrev mutual
  pub tree_text : List Bytes → Tree → Bytes
  tree_text names (Tree.merge members at) = trees_text names [] (codes ", ") members
  tree_text names (Tree.sequence members at) = trees_text names [] (codes "; ") members
  tree_text names (Tree.lam n alternatives p at) =
      codes "\\ " ++ (ident_text names n ++ (codes ": " ++ (types_text names [] (codes "| ") alternatives ++ (codes ". " ++ tree_text names p))))
  tree_text names (Tree.let_in defs p at) = codes "let " ++ (defs_text names [] defs ++ (codes "in " ++ tree_text names p))
  tree_text names (Tree.letrec decls defs in_at p at) =
      codes "letrec " ++ (decls_text names [] decls ++ (codes "where " ++ (defs_text names [] defs ++ (codes "in " ++ tree_text names p))))
  tree_text names (Tree.let_type n a p at) = codes "lettype " ++ (ident_text names n ++ (codes "== " ++ (type_text names a ++ (codes "in " ++ tree_text names p))))
  tree_text names (Tree.new n kind p q at) =
      codes "new " ++ (ident_text names n ++ (codes ": " ++ (atom_text kind ++ (codes ":= " ++ (tree_text names p ++ (codes "in " ++ tree_text names q))))))
  tree_text names (Tree.escape n p at) = codes "escape " ++ (ident_text names n ++ (codes "in " ++ tree_text names p))
  tree_text names (Tree.accept n kind p at) = codes "accept " ++ (ident_text names n ++ (codes ": " ++ (atom_text kind ++ (codes "in " ++ tree_text names p))))
  tree_text names (Tree.cond b p q at) = codes "if " ++ (tree_text names b ++ (codes "then " ++ (tree_text names p ++ (codes "else " ++ tree_text names q))))
  tree_text names (Tree.while_do b p at) = codes "while " ++ (tree_text names b ++ (codes "do " ++ tree_text names p))
  tree_text names (Tree.loop p at) = codes "loop " ++ tree_text names p
  tree_text names (Tree.field n p at) = ident_text names n ++ (codes "== " ++ tree_text names p)
  tree_text names (Tree.assign p becomes_at q at) = tree_text names p ++ (codes ":= " ++ tree_text names q)
  tree_text names (Tree.chain p links at) = tree_text names p ++ links_text names links
  tree_text names (Tree.prefixed operators p at) = prefixes_text operators ++ tree_text names p
  tree_text names (Tree.apply p arguments at) = tree_text names p ++ trees_text names [] [] arguments
  tree_text names (Tree.select p fields at) = tree_text names p ++ dots_text names fields
  tree_text names (Tree.ident n at) = ident_text names n
  tree_text names (Tree.number v at) = signed_decimal v ++ codes " "
  tree_text names (Tree.letter c at) = codes "'" ++ (element_text c ++ codes "' ")
  tree_text names (Tree.string bytes at) = codes "\"" ++ (elements_text bytes ++ codes "\" ")
  tree_text names (Tree.truth b at) = truth_text b
  tree_text names (Tree.skip at) = codes "skip "
  tree_text names (Tree.group p at) = codes "( " ++ (tree_text names p ++ codes ") ")
  tree_text names (Tree.seq_of parts at) = codes "seq ( " ++ (trees_text names [] (codes ", ") parts ++ codes ") ")

  -- phrases, the first behind a lead and each other behind a separator
  pub trees_text : List Bytes → Bytes → Bytes → Trees → Bytes
  trees_text names lead separator Trees.no_trees = []
  trees_text names lead separator (Trees.and_tree p more) = lead ++ (tree_text names p ++ trees_text names separator separator more)

  -- definitions, the first behind a lead and each other behind a comma
  pub defs_text : List Bytes → Bytes → Defs → Bytes
  defs_text names lead Defs.no_defs = []
  defs_text names lead (Defs.and_def n at p more) = lead ++ (ident_text names n ++ (codes "== " ++ (tree_text names p ++ defs_text names (codes ", ") more)))

  -- operators, each in front of its operand
  pub links_text : List Bytes → Links → Bytes
  links_text names Links.no_links = []
  links_text names (Links.and_link op at p more) = operator_text op ++ (tree_text names p ++ links_text names more)
