-- Demand shapes: what the paths of concluded types ask of each node of a phrase, without the domains; and closed tables of them.
use Rattle.std.specs.Prelude.{ℕ, ◌+◌, ◌*◌, ◌≡◌, Bool, true, false, ◌==◌, List, [], ◌∷◌, ◌++◌, Some, map, unwrap_or}
use Rattle.fy_base.specs.declared.data.Place.{Place}
use Rattle.fy_base.specs.declared.data.UnOp.{UnOp}
use Rattle.fy_base.specs.declared.data.BinOp.{BinOp}
use Rattle.fy_base.specs.declared.data.PutKind.{PutKind}
use Rattle.fy_types.specs.declared.types.Atom.{Atom}
use Rattle.fy_types.specs.declared.types.Atom.TheVariants.{Int, Bool as Truth, Char, Comm, Compl, IntAcc, BoolAcc, CharAcc}
use Rattle.fy_types.specs.Types.{PlainType, PlainTypes}
use Rattle.fy_types.specs.Paths.{PlainPath, PlainPaths, end, call, pick, and_path, paths}
use Rattle.fy_phrase.specs.declared.phrase.DataTy.{DataTy}
use Rattle.fy_phrase.specs.Tree.{Tree, Trees, no_trees, and_tree, var, lit, unary, binary, cond, case, lam, app, field, sel, merge, let_in, rec, skip, seq, assign, while_do, forever, new, cells, escape, accept, put, read, mark}
use Rattle.fy_phrase.specs.Sizes.{nodes}
use Rattle.fy_derive.specs.Derivations.{PlainDerivation, PlainDerivations, sub, meets, alt, left, right, rule, and_derivation}
use Rattle.fy_derive.specs.Kinds.{Kind, of_call, of_field, of_assignment, kind_of}
use Rattle.fy_derive.specs.Rules.{Premise, premises, of_parts as parts_premises}
use Rattle.fy_derive.specs.Judging.{judged, concludes, alternative, operands, under}

pub data EndShape : Type 0 where
  a_value : EndShape
  an_assignment : EndShape
  a_run : EndShape

-- calls and fields in order, and the end
pub data PlainShape : Type 0 where
  at_end : EndShape → PlainShape
  a_call : PlainShape → PlainShape
  a_field : ℕ → PlainShape → PlainShape

-- a data type is a value, an acceptor an assignment, and a command a run
abbrev pub end_shape : Atom → EndShape
end_shape Int = a_value
end_shape Truth = a_value
end_shape Char = a_value
end_shape Comm = a_run
end_shape Compl = a_run
end_shape IntAcc = an_assignment
end_shape BoolAcc = an_assignment
end_shape CharAcc = an_assignment

-- a path without its domains
abbrev pub erase : PlainPath → PlainShape
erase (end a) = at_end (end_shape a)
erase (call D p) = a_call (erase p)
erase (pick i p) = a_field i (erase p)

-- the path is in the list
pub data HasPath : PlainPaths → PlainPath → Type 0 where
  first_path : {p : PlainPath} {P : PlainPaths} → HasPath (and_path p P) p
  later_path : {p q : PlainPath} {P : PlainPaths} → HasPath P q → HasPath (and_path p P) q

mutual
  -- some node of the derivation concludes, for the phrase node k, a type with a path of the shape; the phrase's own node has the number m
  pub data HasPair : PlainDerivation → ℕ → List PlainType → Tree → ℕ → PlainShape → Type 0 where
    own : {d : PlainDerivation} {m : ℕ} {G : List PlainType} {p : Tree} {A : PlainType} {q : PlainPath} →
        judged d 0 G p ≡ concludes A → HasPath (paths A) q → HasPair d m G p m (erase q)
    in_sub : {B : PlainType} {d : PlainDerivation} {m k : ℕ} {G : List PlainType} {p : Tree} {s : PlainShape} →
        HasPair d m G p k s → HasPair (sub B d) m G p k s
    in_meet : {ds : PlainDerivations} {m k : ℕ} {G : List PlainType} {p : Tree} {s : PlainShape} →
        OneHasPair ds m G p k s → HasPair (meets ds) m G p k s
    in_alt : {i m k : ℕ} {d : PlainDerivation} {G : List PlainType} {p b : Tree} {A : PlainType} {s : PlainShape} →
        alternative i p ≡ Some (A, b) → HasPair d (m + 1) (A ∷ G) b k s → HasPair (alt i d) m G p k s
    in_left : {d : PlainDerivation} {m k : ℕ} {G : List PlainType} {p q r : Tree} {kind : Kind} {s : PlainShape} →
        operands p ≡ Some (q, r, kind) → HasPair d (m + 1) G q k s → HasPair (left d) m G p k s
    in_right : {d : PlainDerivation} {m k : ℕ} {G : List PlainType} {p q r : Tree} {kind : Kind} {s : PlainShape} →
        operands p ≡ Some (q, r, kind) → HasPair d (m + 1 + nodes q) G r k s → HasPair (right d) m G p k s
    in_rule : {ds : PlainDerivations} {m k : ℕ} {G : List PlainType} {p : Tree} {Ps : List Premise} {s : PlainShape} →
        premises p ≡ Some Ps → PremiseHasPair ds (m + 1) G Ps [] k s → HasPair (rule ds) m G p k s

  -- one of the derivations of the phrase has the pair
  pub data OneHasPair : PlainDerivations → ℕ → List PlainType → Tree → ℕ → PlainShape → Type 0 where
    this_one : {d : PlainDerivation} {ds : PlainDerivations} {m k : ℕ} {G : List PlainType} {p : Tree} {s : PlainShape} →
        HasPair d m G p k s → OneHasPair (and_derivation d ds) m G p k s
    other_one : {d : PlainDerivation} {ds : PlainDerivations} {m k : ℕ} {G : List PlainType} {p : Tree} {s : PlainShape} →
        OneHasPair ds m G p k s → OneHasPair (and_derivation d ds) m G p k s

  -- one of the premises has it; the first premise's part has the number m, and As are the conclusions so far
  pub data PremiseHasPair : PlainDerivations → ℕ → List PlainType → List Premise → List PlainType → ℕ → PlainShape → Type 0 where
    this_premise : {d : PlainDerivation} {ds : PlainDerivations} {m k : ℕ} {G As : List PlainType} {P : Premise} {Ps : List Premise} {s : PlainShape} →
        HasPair d m (under P.0 As G) P.1 k s → PremiseHasPair (and_derivation d ds) m G (P ∷ Ps) As k s
    later_premise : {d : PlainDerivation} {ds : PlainDerivations} {m k : ℕ} {G As : List PlainType} {P : Premise} {Ps : List Premise} {A : PlainType} {s : PlainShape} →
        judged d 0 (under P.0 As G) P.1 ≡ concludes A → PremiseHasPair ds (m + nodes P.1) G Ps (As ++ A ∷ []) k s →
        PremiseHasPair (and_derivation d ds) m G (P ∷ Ps) As k s

-- the pairs of phrase node and shape of a derivation of the phrase
abbrev pub shape_table : Tree → PlainDerivation → ℕ → PlainShape → Type 0
shape_table p d k s = HasPair d 0 [] p k s

-- whether a shape begins with a demand of the kind
abbrev pub shape_begins : Kind → PlainShape → Bool
shape_begins of_call (at_end e) = false
shape_begins of_call (a_call s) = true
shape_begins of_call (a_field i s) = false
shape_begins (of_field j) (at_end e) = false
shape_begins (of_field j) (a_call s) = false
shape_begins (of_field j) (a_field i s) = j == i
shape_begins of_assignment (at_end a_value) = false
shape_begins of_assignment (at_end an_assignment) = true
shape_begins of_assignment (at_end a_run) = false
shape_begins of_assignment (a_call s) = false
shape_begins of_assignment (a_field i s) = false

-- the number of arguments, definitions and recursions
abbrev mutual
  pub thunks : Tree → ℕ
  thunks (var k at) = 0
  thunks (lit v at) = 0
  thunks (unary op p at) = thunks p
  thunks (binary op p q at) = thunks p + thunks q
  thunks (cond b p q at) = thunks b + thunks p + thunks q
  thunks (case e parts at) = thunks e + all_thunks parts
  thunks (lam d As b at) = thunks b
  thunks (app p q at) = 1 + thunks p + thunks q
  thunks (field i p at) = thunks p
  thunks (sel p i at) = thunks p
  thunks (merge p q at) = thunks p + thunks q
  thunks (let_in d p b at) = 1 + thunks p + thunks b
  thunks (rec d T b at) = 1 + thunks b
  thunks (skip at) = 0
  thunks (seq p q at) = thunks p + thunks q
  thunks (assign p q at) = thunks p + thunks q
  thunks (while_do b c at) = thunks b + thunks c
  thunks (forever c at) = thunks c
  thunks (new d D e b at) = thunks e + thunks b
  thunks (cells d e b at) = thunks e + thunks b
  thunks (escape d b at) = thunks b
  thunks (accept d D b at) = thunks b
  thunks (put kind p at) = thunks p
  thunks (read p at) = thunks p
  thunks (mark m at) = 0

  pub all_thunks : Trees → ℕ
  all_thunks no_trees = 0
  all_thunks (and_tree p ps) = thunks p + all_thunks ps

-- the words of the tables for so many shapes
abbrev pub table_words : Tree → ℕ → ℕ
table_words p shapes = shapes * (4 + thunks p)

-- what premises are about
abbrev pub subjects : List Premise → List Tree
subjects Ps = map (λ (P : Premise). P.1) Ps

abbrev pub of_trees : Trees → List Tree
of_trees ps = subjects (parts_premises ps)

-- the direct parts, in order
abbrev pub parts_of : Tree → List Tree
parts_of (lam d As b at) = b ∷ []
parts_of (merge p q at) = p ∷ q ∷ []
parts_of p = subjects (unwrap_or (premises p) [])

mutual
  -- q has the preorder number k in p, whose own number is m
  pub data IsNodeAt : ℕ → Tree → ℕ → Tree → Type 0 where
    itself : {m : ℕ} {p : Tree} → IsNodeAt m p m p
    in_part : {m k : ℕ} {p q : Tree} → IsNodeAmong (m + 1) (parts_of p) k q → IsNodeAt m p k q

  pub data IsNodeAmong : ℕ → List Tree → ℕ → Tree → Type 0 where
    in_first : {m k : ℕ} {p q : Tree} {ps : List Tree} → IsNodeAt m p k q → IsNodeAmong m (p ∷ ps) k q
    in_later : {m k : ℕ} {p q : Tree} {ps : List Tree} → IsNodeAmong (m + nodes p) ps k q → IsNodeAmong m (p ∷ ps) k q

-- a shape for each of the parts, of which the first has the number m
pub data PassesEach : ℕ → Trees → PlainShape → ℕ → PlainShape → Type 0 where
  to_this : {m : ℕ} {p : Tree} {ps : Trees} {s : PlainShape} → PassesEach m (and_tree p ps) s m s
  to_later : {m k : ℕ} {p : Tree} {ps : Trees} {s t : PlainShape} → PassesEach (m + nodes p) ps s k t → PassesEach m (and_tree p ps) s k t

-- what a form with the number m, demanded at a shape, passes to its parts
pub data Passes : ℕ → Tree → PlainShape → ℕ → PlainShape → Type 0 where
  of_app : {m : ℕ} {p q : Tree} {at : Place} {s : PlainShape} → Passes m (app p q at) s (m + 1) (a_call s)
  of_sel : {m i : ℕ} {p : Tree} {at : Place} {s : PlainShape} → Passes m (sel p i at) s (m + 1) (a_field i s)
  of_lam : {m d : ℕ} {As : PlainTypes} {b : Tree} {at : Place} {t : PlainShape} → Passes m (lam d As b at) (a_call t) (m + 1) t
  of_definition : {m i : ℕ} {p : Tree} {at : Place} {t : PlainShape} → Passes m (field i p at) (a_field i t) (m + 1) t
  of_right : {m : ℕ} {p q : Tree} {at : Place} {kind : Kind} {s : PlainShape} →
      kind_of q ≡ Some kind → shape_begins kind s ≡ true → Passes m (merge p q at) s (m + 1 + nodes p) s
  of_left : {m : ℕ} {p q : Tree} {at : Place} {kind : Kind} {s : PlainShape} →
      kind_of q ≡ Some kind → shape_begins kind s ≡ false → Passes m (merge p q at) s (m + 1) s
  of_let : {m d : ℕ} {p b : Tree} {at : Place} {s : PlainShape} → Passes m (let_in d p b at) s (m + 1 + nodes p) s
  of_rec : {m d : ℕ} {T : PlainType} {b : Tree} {at : Place} {s : PlainShape} → Passes m (rec d T b at) s (m + 1) s
  of_test : {m : ℕ} {b p q : Tree} {at : Place} {s : PlainShape} → Passes m (cond b p q at) s (m + 1) (at_end a_value)
  of_then : {m : ℕ} {b p q : Tree} {at : Place} {s : PlainShape} → Passes m (cond b p q at) s (m + 1 + nodes b) s
  of_else : {m : ℕ} {b p q : Tree} {at : Place} {s : PlainShape} → Passes m (cond b p q at) s (m + 1 + nodes b + nodes p) s
  of_index : {m : ℕ} {e : Tree} {parts : Trees} {at : Place} {s : PlainShape} → Passes m (case e parts at) s (m + 1) (at_end a_value)
  of_parts : {m k : ℕ} {e : Tree} {parts : Trees} {at : Place} {s t : PlainShape} →
      PassesEach (m + 1 + nodes e) parts s k t → Passes m (case e parts at) s k t
  of_unary : {m : ℕ} {op : UnOp} {p : Tree} {at : Place} {s : PlainShape} → Passes m (unary op p at) s (m + 1) (at_end a_value)
  of_operand : {m : ℕ} {op : BinOp} {p q : Tree} {at : Place} {s : PlainShape} → Passes m (binary op p q at) s (m + 1) (at_end a_value)
  of_operand_behind : {m : ℕ} {op : BinOp} {p q : Tree} {at : Place} {s : PlainShape} → Passes m (binary op p q at) s (m + 1 + nodes p) (at_end a_value)
  of_put : {m : ℕ} {kind : PutKind} {p : Tree} {at : Place} {s : PlainShape} → Passes m (put kind p at) s (m + 1) (at_end a_value)
  of_target : {m : ℕ} {p q : Tree} {at : Place} {s : PlainShape} → Passes m (assign p q at) s (m + 1) (at_end an_assignment)
  of_value : {m : ℕ} {p q : Tree} {at : Place} {s : PlainShape} → Passes m (assign p q at) s (m + 1 + nodes p) (at_end a_value)
  of_read : {m : ℕ} {p : Tree} {at : Place} {s : PlainShape} → Passes m (read p at) s (m + 1) (at_end an_assignment)
  of_first : {m : ℕ} {p q : Tree} {at : Place} {s : PlainShape} → Passes m (seq p q at) s (m + 1) (at_end a_run)
  of_second : {m : ℕ} {p q : Tree} {at : Place} {s : PlainShape} → Passes m (seq p q at) s (m + 1 + nodes p) (at_end a_run)
  of_forever : {m : ℕ} {c : Tree} {at : Place} {s : PlainShape} → Passes m (forever c at) s (m + 1) (at_end a_run)
  of_escape : {m d : ℕ} {b : Tree} {at : Place} {s : PlainShape} → Passes m (escape d b at) s (m + 1) (at_end a_run)
  of_accept : {m d : ℕ} {D : DataTy} {b : Tree} {at : Place} {s : PlainShape} → Passes m (accept d D b at) s (m + 1) (at_end a_run)
  of_while_test : {m : ℕ} {b c : Tree} {at : Place} {s : PlainShape} → Passes m (while_do b c at) s (m + 1) (at_end a_value)
  of_while_body : {m : ℕ} {b c : Tree} {at : Place} {s : PlainShape} → Passes m (while_do b c at) s (m + 1 + nodes b) (at_end a_run)
  of_new_value : {m d : ℕ} {D : DataTy} {e b : Tree} {at : Place} {s : PlainShape} → Passes m (new d D e b at) s (m + 1) (at_end a_value)
  of_new_body : {m d : ℕ} {D : DataTy} {e b : Tree} {at : Place} {s : PlainShape} → Passes m (new d D e b at) s (m + 1 + nodes e) (at_end a_run)
  of_cells_count : {m d : ℕ} {e b : Tree} {at : Place} {s : PlainShape} → Passes m (cells d e b at) s (m + 1) (at_end a_value)
  of_cells_body : {m d : ℕ} {e b : Tree} {at : Place} {s : PlainShape} → Passes m (cells d e b at) s (m + 1 + nodes e) (at_end a_run)

-- the program's own node is run, and what a pair's form passes is in the table
pub record IsClosed (p : Tree) (table : ℕ → PlainShape → Type 0) : Type 0 where
  pub program : table 0 (at_end a_run)
  pub passed : (k j : ℕ) (q : Tree) (s t : PlainShape) → IsNodeAt 0 p k q → table k s → Passes k q s j t → table j t
