-- Each item of a list takes a token at least.
use Rattle.std.proofs.Common.{◌≡◌, ◌<◌, ◌≤◌, ℕ, Bool, true, false, List, [], ◌∷◌, length, refl, ap, arith}
use Rattle.std.specs.Prelude.{Option, Some, None, Ok, Err, if◌then◌else◌}
use Rattle.fy_base.specs.declared.data.BinOp.{BinOp}
use Rattle.fy_base.specs.declared.data.Place.{Place}
use Rattle.fy_lexer.specs.declared.token.Token.{Token}
use Rattle.fy_lexer.specs.declared.token.Symbol.{Symbol}
use Rattle.fy_syntax.specs.Trees.{TypeTree, Tree}
use Rattle.fy_syntax.specs.Reading.{LinkTree}
use Rattle.fy_syntax.specs.Signs.{front, Level, TypeLevel}
use Rattle.fy_syntax.specs.Reader.{Read, mapped, behind, begins_with, starts, operator_at, name_at, OneDef, read_type, type_field, type_inner, decl_at, read_term, read_at, def_at}
use Rattle.fy_syntax.proofs.TypesComplete.{type_shorter}
use Rattle.fy_syntax.proofs.Fronts.{shorter}
use Rattle.fy_grammar.specs.Forms.{def_tree}
use Rattle.fy_grammar.proofs.Holding.{holds_ok}
use Rattle.fy_grammar.proofs.SignsSound.{Lasts, Fails, IsNamed, name_sound}
use Rattle.fy_grammar.proofs.TypesSound.{SpelledType, SpelledDecl, TypeSound, read_type_sound, read_field_sound, decl_sound}
use Rattle.fy_grammar.proofs.TermsSound.{Spelled, SpelledDef, TreeSound, read_sound, read_term_sound, def_sound}
use Rattle.fy_grammar.proofs.Many.{Advances, after, argument, link, link_turn, def}

-- what a reader reads leaves fewer tokens
pub record Takes {A : Type 0} (item : List Token → Read A) : Type 0 where
  pub less : (ts : List Token) (x : A × List Token) → item ts ≡ Ok x → length x.1 < length ts

abbrev Any : List Token → Type 0
Any ts = Unit {0}

any_lasts : Lasts Any
any_lasts = record { behind = λ t ts e h. tt }

type_takes : (l : TypeLevel) (d : ℕ) (item : List Token → Read TypeTree) → TypeSound Any l d item → Takes item
type_takes l d item s = record { less = λ ts x e. type_shorter (holds_ok (SpelledType Any l d ts) (Fails Any) (item ts) x e (s.sound ts tt)).0 }

tree_takes : (l : Level) (d : ℕ) (item : List Token → Read Tree) → TreeSound Any l d item → Takes item
tree_takes l d item s = record { less = λ ts x e. shorter (holds_ok (Spelled Any l d ts) (Fails Any) (item ts) x e (s.sound ts tt)).0 }

pub types_take : (d : ℕ) → Takes (read_type d)
types_take d = type_takes TypeLevel.type d (read_type d) (read_type_sound Any any_lasts d)

pub fields_take : (d : ℕ) → Takes (type_field (type_inner d))
fields_take d = type_takes TypeLevel.field d (type_field (type_inner d)) (read_field_sound Any any_lasts d)

pub trees_take : (d : ℕ) (l : Level) → Takes (read_at d l)
trees_take d l = tree_takes l d (read_at d l) (read_sound Any any_lasts d l)

pub names_take : Takes name_at
names_take = record { less = λ ts x e. let h = holds_ok (IsNamed Any ts) (Fails Any) (name_at ts) x e (name_sound Any any_lasts ts tt) in omega (arith, ap length h.0) }

pub decls_take : (d : ℕ) → Takes (decl_at (read_type d))
decls_take d = record {
  less = λ ts x e.
      let h = holds_ok (SpelledDecl Any d ts) (Fails Any) (decl_at (read_type d) ts) x e (decl_sound Any any_lasts d (read_type d) (read_type_sound Any any_lasts d) ts tt) in
      omega (arith, ap length h.is, type_shorter h.spelled.0);
}

one_def_less : (d : ℕ) (ts : List Token) (x : OneDef × List Token) → def_at (read_term d) ts ≡ Ok x → length x.1 < length ts
one_def_less d ts x e =
    let h = holds_ok (SpelledDef Any d ts) (Fails Any) (def_at (read_term d) ts) x e (def_sound Any any_lasts d (read_term d) (read_term_sound Any any_lasts d) ts tt) in
    omega (arith, ap length h.is, shorter h.spelled.0)

mapped_less : {A B : Type 0} (f : A → B) (n : ℕ) (r : Read A) → ((x : A × List Token) → r ≡ Ok x → length x.1 < n) → (y : B × List Token) → mapped f r ≡ Ok y → length y.1 < n
mapped_less f n (Ok x) h y e = let s : (f x.0, x.1) ≡ y = cc in let k : x.1 ≡ y.1 = ap (λ z. z.1) s in omega (arith, h x refl, ap length k)
mapped_less f n (Err e) h y k = absurd cc

pub defs_take : (d : ℕ) → Takes (def (read_term d))
defs_take d = record { less = λ ts x e. mapped_less def_tree (length ts) (def_at (read_term d) ts) (λ y f. one_def_less d ts y f) x e }

pub behind_less : (ts : List Token) → length (behind ts) ≤ length ts
behind_less [] = omega arith
behind_less (t ∷ ts) = omega arith

some_is : {A : Type 0} (x y : A) → Some x ≡ Some y → x ≡ y
some_is x y e = cc

chosen : {A : Type 0} (b : Bool) (r s : A) → (if b then Some r else None) ≡ Some s → r ≡ s
chosen true r s e = some_is r s e
chosen false r s e = absurd cc

pub after_advances : {A : Type 0} (s : Symbol) (item : List Token → Read A) → Takes item → Advances (after s item)
after_advances s item t = record {
  shorter = λ ts x e. omega (arith, t.less (behind ts) x (chosen (begins_with s ts) (item (behind ts)) (Ok x) e), behind_less ts);
  ends = refl;
}

pub argument_advances : (item : List Token → Read Tree) → Takes item → Advances (argument item)
argument_advances item t = record { shorter = λ ts x e. t.less ts x (chosen (starts ts) (item ts) (Ok x) e); ends = refl }

linked : (o : Option BinOp) (p : Place) (n : ℕ) (r : Read Tree) → ((x : Tree × List Token) → r ≡ Ok x → length x.1 < n) → (y : LinkTree × List Token) → link_turn o p r ≡ Some (Ok y) → length y.1 < n
linked (Some op) p n r h y e = mapped_less (λ t. record { op = op; at = p; item = t }) n r h y (some_is (mapped (λ t. record { op = op; at = p; item = t }) r) (Ok y) e)
linked None p n r h y e = absurd cc

pub link_advances : (c : Level) (item : List Token → Read Tree) → Takes item → Advances (link c item)
link_advances c item t = record {
  shorter = λ ts x e. omega (arith, linked (operator_at c ts) (front ts) (length (behind ts)) (item (behind ts)) (λ y f. t.less (behind ts) y f) x e, behind_less ts);
  ends = refl;
}
