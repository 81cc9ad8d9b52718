-- Types are read alike.
use Rattle.std.proofs.Common.{Bool, List, [], arith, false, inl, inr, length, refl, suc, true, zero, ℕ, ◌∷◌, ◌≡◌, ◌≤◌, ◌⊎◌}
use Rattle.std.specs.Prelude.{Ok, Option, if◌then◌else◌}
use Rattle.fy_base.specs.declared.data.Place.{Place}
use Rattle.fy_types.specs.declared.types.Atom.{Atom}
use Rattle.fy_types.specs.declared.types.Atom.TheVariants as atom
use Rattle.fy_lexer.specs.declared.token.Keyword.TheVariants as word
use Rattle.fy_lexer.specs.declared.token.Symbol.{Symbol}
use Rattle.fy_lexer.specs.declared.token.Symbol.TheVariants as symbol
use Rattle.fy_lexer.specs.declared.token.Token.{Token}
use Rattle.fy_lexer.specs.declared.token.TokenKind.{TokenKind}
use Rattle.fy_lexer.specs.declared.token.TokenKind.TheVariants as kind
use Rattle.fy_syntax.specs.Reader.{Read, begins_with, behind, expect, fields_at, fields_step, is_symbol_kind, mapped, nested, read_type, type_by_kind, type_field, type_group, type_inner, type_inter, type_primary, type_type, types_at, ◌>>=◌}
use Rattle.fy_syntax.specs.Signs.{front, ident_at, token}
use Rattle.fy_syntax.specs.Spells.{field_of, meet_of}
use Rattle.fy_syntax.specs.Trees.{TypeTree, TypeTrees}
use Rattle.fy_places.proofs.Alike.{AnswersAs, Follows, LeavesAtMost, SameKinds, answers_past}
use Rattle.fy_places.proofs.Following.{Further, behind_follows, expect_follows, if_follows, kind_follows, mapped_follows, nested_follows, ok_follows, taken_follows, then_follows, wrong_follows}
use Rattle.fy_places.proofs.LoopsFollow.{IsLoop, behind_takes, behind_takes_too, loop_follows}

abbrev pub Item : Type 0
Item = List Token → Read TypeTree

abbrev pub TypeFurther : Type 0 → Option (List Token → Read TypeTree) → Option (List Token → Read TypeTree) → Type 0
TypeFurther excuse i j = Further excuse (Follows excuse) i j

pub group_follows : (excuse : Type 0) (f g : Item) → Follows excuse f g → Follows excuse (type_group f) (type_group g)
group_follows excuse f g h =
    then_follows excuse (λ tokens. f (behind tokens)) (λ tokens. g (behind tokens)) (λ tokens x. expect symbol.CloseParen x.1 >>= λ rest. Ok (TypeTree.group x.0 (front tokens), rest)) (λ tokens x. expect symbol.CloseParen x.1 >>= λ rest. Ok (TypeTree.group x.0 (front tokens), rest))
    (behind_follows excuse f g h) (λ u v a b. expect_follows excuse symbol.CloseParen (λ rest. Ok (TypeTree.group a (front u), rest)) (λ rest. Ok (TypeTree.group b (front v), rest)) (ok_follows excuse (TypeTree.group a (front u)) (TypeTree.group b (front v))))

pub primary_follows : (excuse : Type 0) (i j : Option Item) → TypeFurther excuse i j → Follows excuse (type_primary i) (type_primary j)
primary_follows excuse i j h = kind_follows excuse (λ k tokens. type_by_kind k i tokens) (λ k tokens. type_by_kind k j tokens) go
  where
    atomic : (x : Atom) → Follows excuse (λ tokens. Ok (TypeTree.atom x (front tokens), behind tokens)) (λ tokens. Ok (TypeTree.atom x (front tokens), behind tokens))
    atomic x = taken_follows excuse (λ tokens. TypeTree.atom x (front tokens)) (λ tokens. TypeTree.atom x (front tokens))

    go : (k : TokenKind) → Follows excuse (λ tokens. type_by_kind k i tokens) (λ tokens. type_by_kind k j tokens)
    go (kind.Ident n) = taken_follows excuse (λ tokens. TypeTree.ident n (front tokens)) (λ tokens. TypeTree.ident n (front tokens))
    go (kind.Word word.Ns) = taken_follows excuse (λ tokens. TypeTree.ns (front tokens)) (λ tokens. TypeTree.ns (front tokens))
    go (kind.Word word.Int) = atomic atom.Int
    go (kind.Word word.Bool) = atomic atom.Bool
    go (kind.Word word.Char) = atomic atom.Char
    go (kind.Word word.Comm) = atomic atom.Comm
    go (kind.Word word.Compl) = atomic atom.Compl
    go (kind.Word word.IntAcc) = atomic atom.IntAcc
    go (kind.Word word.BoolAcc) = atomic atom.BoolAcc
    go (kind.Word word.CharAcc) = atomic atom.CharAcc
    go (kind.Sym symbol.OpenParen) = nested_follows excuse (Follows excuse) i j type_group type_group h (group_follows excuse)
    go _ = wrong_follows TypeTree excuse

-- names before colons: two tokens are looked at
pub step_length : (k : TokenKind) (b : Bool) (more : List ℕ × List Token) (all : List Token) → length more.1 ≤ length all → length (fields_step k b more all).1 ≤ length all
step_length (kind.Ident n) true more all h = h
step_length (kind.Ident n) false more all h = omega arith
step_length (kind.Number n) b more all h = omega arith
step_length (kind.Letter n) b more all h = omega arith
step_length (kind.Str n) b more all h = omega arith
step_length (kind.Word n) b more all h = omega arith
step_length (kind.Sym n) b more all h = omega arith
step_length kind.End b more all h = omega arith

fields_length : (tokens : List Token) → length (fields_at tokens).1 ≤ length tokens
fields_length [] = omega arith
fields_length (t ∷ []) = omega arith
fields_length (t ∷ u ∷ tokens) = step_length t.kind (is_symbol_kind symbol.Colon u.kind) (fields_at tokens) (t ∷ u ∷ tokens) (omega (arith, fields_length tokens))

-- a type behind names
abbrev fielded : Option Item → List Token → Read TypeTree
fielded i tokens = type_primary i (fields_at tokens).1

fielded_leaves : (most : ℕ) (i : Option Item) (here : List Token) → ((most : ℕ) (here : List Token) → length here ≤ most → LeavesAtMost most (type_primary i here)) → length here ≤ most → LeavesAtMost most (fielded i here)
fielded_leaves most i here h le = h most (fields_at here).1 (omega (arith, fields_length here))

-- a name is taken, whatever stands behind it
name_taken : (i : Option Item) (name : ℕ) (p : Place) (rest : List Token) → ((most : ℕ) (here : List Token) → length here ≤ most → LeavesAtMost most (type_primary i here)) → LeavesAtMost (length rest) (fielded i (ident_at name p ∷ rest))
name_taken i name p [] h = omega arith
name_taken i name p (v ∷ rest) h = go (is_symbol_kind symbol.Colon v.kind)
  where
    go : (b : Bool) → LeavesAtMost (suc (length rest)) (type_primary i (fields_step (kind.Ident name) b (fields_at rest) (ident_at name p ∷ v ∷ rest)).1)
    go true = h (suc (length rest)) (fields_at rest).1 (omega (arith, fields_length rest))
    go false = omega arith

abbrev is_name : TokenKind → Bool
is_name (kind.Ident n) = true
is_name _ = false

step_stops : (k : TokenKind) (b : Bool) (more : List ℕ × List Token) (all : List Token) → is_name k ≡ false → fields_step k b more all ≡ ([], all)
step_stops (kind.Ident n) b more all e = absurd cc
step_stops _ b more all e = refl

lone : (k : TokenKind) (p : Place) (x : List Token) → is_name k ≡ false → fields_at (token k p ∷ x) ≡ ([], token k p ∷ x)
lone k p [] e = refl
lone k p (v ∷ x) e = step_stops k (is_symbol_kind symbol.Colon v.kind) (fields_at x) (token k p ∷ v ∷ x) e

field_answers : (excuse : Type 0) (i j : Option Item) → Follows excuse (type_primary i) (type_primary j) → (rest other_rest here there : List Token) → SameKinds rest other_rest here there → AnswersAs rest other_rest excuse (fielded i here) (fielded j there)
field_answers excuse i j h rest other_rest here there (SameKinds.last {k = k} {p = p} {o = o}) = go k
  where
    other : (k : TokenKind) → is_name k ≡ false → AnswersAs rest other_rest excuse (fielded i (token k p ∷ rest)) (fielded j (token k o ∷ other_rest))
    other k e = rw (lone k p rest e) (rw (lone k o other_rest e) (h.same rest other_rest (token k p ∷ rest) (token k o ∷ other_rest) SameKinds.last))

    go : (k : TokenKind) → AnswersAs rest other_rest excuse (fielded i (token k p ∷ rest)) (fielded j (token k o ∷ other_rest))
    go (kind.Ident a) = answers_past rest other_rest excuse (fielded i (ident_at a p ∷ rest)) (fielded j (ident_at a o ∷ other_rest)) (name_taken i a p rest h.left)
    go (kind.Number a) = other (kind.Number a) refl
    go (kind.Letter a) = other (kind.Letter a) refl
    go (kind.Str a) = other (kind.Str a) refl
    go (kind.Word a) = other (kind.Word a) refl
    go (kind.Sym a) = other (kind.Sym a) refl
    go kind.End = other kind.End refl
field_answers excuse i j h rest other_rest here there (SameKinds.next {k = k} {p = p} {o = o} (SameKinds.last {k = l} {p = c} {o = d})) = go k (is_symbol_kind symbol.Colon l)
  where
    plain : AnswersAs rest other_rest excuse (type_primary i (token k p ∷ token l c ∷ rest)) (type_primary j (token k o ∷ token l d ∷ other_rest))
    plain = h.same rest other_rest (token k p ∷ token l c ∷ rest) (token k o ∷ token l d ∷ other_rest) (SameKinds.next SameKinds.last)

    go : (w : TokenKind) (b : Bool) → AnswersAs rest other_rest excuse (type_primary i (fields_step w b (fields_at rest) (token k p ∷ token l c ∷ rest)).1) (type_primary j (fields_step w b (fields_at other_rest) (token k o ∷ token l d ∷ other_rest)).1)
    go (kind.Ident a) true = answers_past rest other_rest excuse (fielded i rest) (fielded j other_rest) (fielded_leaves (length rest) i rest h.left (omega arith))
    go (kind.Ident a) false = plain
    go (kind.Number a) b = plain
    go (kind.Letter a) b = plain
    go (kind.Str a) b = plain
    go (kind.Word a) b = plain
    go (kind.Sym a) b = plain
    go kind.End b = plain
field_answers excuse i j h rest other_rest here there (SameKinds.next {k = k} {p = p} {o = o} (SameKinds.next {k = l} {p = c} {o = d} {here = v} {there = w} x)) =
    go (field_answers excuse i j h rest other_rest v w x) k (is_symbol_kind symbol.Colon l)
  where
    plain : AnswersAs rest other_rest excuse (type_primary i (token k p ∷ token l c ∷ v)) (type_primary j (token k o ∷ token l d ∷ w))
    plain = h.same rest other_rest (token k p ∷ token l c ∷ v) (token k o ∷ token l d ∷ w) (SameKinds.next (SameKinds.next x))

    go : AnswersAs rest other_rest excuse (fielded i v) (fielded j w) → (y : TokenKind) (b : Bool) →
        AnswersAs rest other_rest excuse (type_primary i (fields_step y b (fields_at v) (token k p ∷ token l c ∷ v)).1) (type_primary j (fields_step y b (fields_at w) (token k o ∷ token l d ∷ w)).1)
    go ih (kind.Ident a) true = ih
    go ih (kind.Ident a) false = plain
    go ih (kind.Number a) b = plain
    go ih (kind.Letter a) b = plain
    go ih (kind.Str a) b = plain
    go ih (kind.Word a) b = plain
    go ih (kind.Sym a) b = plain
    go ih kind.End b = plain

fielded_follows : (excuse : Type 0) (i j : Option Item) → TypeFurther excuse i j → Follows excuse (fielded i) (fielded j)
fielded_follows excuse i j h = record {
  left = λ most here le. fielded_leaves most i here (primary_follows excuse i j h).left le;
  right = λ most here le. fielded_leaves most j here (primary_follows excuse i j h).right le;
  same = λ rest other_rest here there a. field_answers excuse i j (primary_follows excuse i j h) rest other_rest here there a;
}

pub field_follows : (excuse : Type 0) (i j : Option Item) → TypeFurther excuse i j → Follows excuse (type_field i) (type_field j)
field_follows excuse i j h =
    mapped_follows excuse (fielded i) (fielded j) (λ tokens a. field_of (fields_at tokens).0 a (front tokens)) (λ tokens a. field_of (fields_at tokens).0 a (front tokens)) (fielded_follows excuse i j h)

types_loop : (s : Symbol) (item : Item) → IsLoop (is_symbol_kind s) (λ tokens. item (behind tokens)) (λ g tokens. types_at g s item tokens)
types_loop s item = record {
  empty = TypeTrees.no_types;
  none = λ tokens. refl;
  stop = λ g tokens e. rw e refl;
  go = λ g tokens e. (TypeTrees.and_type, rw e refl);
}

pub types_follow : (excuse : Type 0) (s : Symbol) (f g : Item) → Follows excuse f g → Follows excuse (λ tokens. types_at (length tokens) s f tokens) (λ tokens. types_at (length tokens) s g tokens)
types_follow excuse s f g h =
    loop_follows excuse (is_symbol_kind s) (λ tokens. f (behind tokens)) (λ tokens. g (behind tokens)) (λ fuel tokens. types_at fuel s f tokens) (λ fuel tokens. types_at fuel s g tokens) (types_loop s f) (types_loop s g)
    (behind_takes excuse (is_symbol_kind s) f g h) (behind_takes_too excuse (is_symbol_kind s) f g h) (behind_follows excuse f g h)

inter_follows : (excuse : Type 0) (i j : Option Item) → TypeFurther excuse i j → Follows excuse (type_inter i) (type_inter j)
inter_follows excuse i j h =
    then_follows excuse (type_field i) (type_field j) (λ tokens x. mapped (λ more. meet_of x.0 more (front tokens)) (types_at (length x.1) symbol.Ampersand (type_field i) x.1))
    (λ tokens x. mapped (λ more. meet_of x.0 more (front tokens)) (types_at (length x.1) symbol.Ampersand (type_field j) x.1)) (field_follows excuse i j h)
    (λ u v a b. mapped_follows excuse (λ here. types_at (length here) symbol.Ampersand (type_field i) here) (λ here. types_at (length here) symbol.Ampersand (type_field j) here) (λ here more. meet_of a more (front u)) (λ here more. meet_of b more (front v))
    (types_follow excuse symbol.Ampersand (type_field i) (type_field j) (field_follows excuse i j h)))

type_follows : (excuse : Type 0) (i j : Option Item) → TypeFurther excuse i j → Follows excuse (type_type i) (type_type j)
type_follows excuse i j h =
    then_follows excuse (type_inter i) (type_inter j)
    (λ tokens x. if begins_with symbol.Arrow x.1 then nested i x.1 (λ type. mapped (λ b. TypeTree.arrow x.0 b (front tokens)) (type (behind x.1))) else Ok x)
    (λ tokens x. if begins_with symbol.Arrow x.1 then nested j x.1 (λ type. mapped (λ b. TypeTree.arrow x.0 b (front tokens)) (type (behind x.1))) else Ok x) (inter_follows excuse i j h)
    (λ u v a b. if_follows excuse (is_symbol_kind symbol.Arrow) (λ here. nested i here (λ type. mapped (λ c. TypeTree.arrow a c (front u)) (type (behind here)))) (λ here. nested j here (λ type. mapped (λ c. TypeTree.arrow b c (front v)) (type (behind here)))) (λ here. Ok (a, here)) (λ here. Ok (b, here))
    (nested_follows excuse (Follows excuse) i j (λ type here. mapped (λ c. TypeTree.arrow a c (front u)) (type (behind here))) (λ type here. mapped (λ c. TypeTree.arrow b c (front v)) (type (behind here))) h
    (λ f g k. mapped_follows excuse (λ here. f (behind here)) (λ here. g (behind here)) (λ here c. TypeTree.arrow a c (front u)) (λ here c. TypeTree.arrow b c (front v)) (behind_follows excuse f g k)))
    (ok_follows excuse a b))

pub same_further : (excuse : Type 0) (depth : ℕ) → TypeFurther excuse (type_inner depth) (type_inner depth)
unfolding type_inner
same_further excuse zero = Further.neither
same_further excuse (suc depth) = Further.both (type_follows excuse (type_inner depth) (type_inner depth) (same_further excuse depth))

-- e allows as many nodes as d, or more where D excuses
abbrev pub Allows : Type 0 → ℕ → ℕ → Type 0
Allows excuse depth deeper = (deeper ≡ depth) ⊎ (excuse × (depth ≤ deeper))

pub allows_less : (excuse : Type 0) (depth deeper : ℕ) → Allows excuse (suc depth) (suc deeper) → Allows excuse depth deeper
allows_less excuse depth deeper (inl h) = inl (omega arith)
allows_less excuse depth deeper (inr h) = inr (h.0, (let k = h.1 in omega arith))

pub type_further : (excuse : Type 0) (depth deeper : ℕ) → Allows excuse depth deeper → TypeFurther excuse (type_inner depth) (type_inner deeper)
unfolding type_inner
type_further excuse zero zero h = Further.neither
type_further excuse zero (suc deeper) (inl h) = absurd (omega arith)
type_further excuse zero (suc deeper) (inr h) = Further.only h.0 (type_follows excuse (type_inner deeper) (type_inner deeper) (same_further excuse deeper))
type_further excuse (suc depth) zero (inl h) = absurd (omega arith)
type_further excuse (suc depth) zero (inr h) = absurd (let k = h.1 in omega arith)
type_further excuse (suc depth) (suc deeper) h = Further.both (type_follows excuse (type_inner depth) (type_inner deeper) (type_further excuse depth deeper (allows_less excuse depth deeper h)))

pub read_type_follows : (excuse : Type 0) (depth deeper : ℕ) → Allows excuse depth deeper → Follows excuse (read_type depth) (read_type deeper)
read_type_follows excuse depth deeper h = type_follows excuse (type_inner depth) (type_inner deeper) (type_further excuse depth deeper h)
