-- Types are read where tokens spell them.
use Rattle.std.proofs.Common.{◌≡◌, ◌<◌, ◌≤◌, ℕ, zero, suc, max, false, List, [], ◌∷◌, length, refl, sym, arith}
use Rattle.std.specs.Prelude.{Ok}
use Rattle.fy_base.specs.declared.data.Place.{Place}
use Rattle.fy_types.specs.declared.types.Atom.{Atom}
use Rattle.fy_types.specs.declared.types.Atom.TheVariants as atom
use Rattle.fy_lexer.specs.declared.token.Token.{Token}
use Rattle.fy_lexer.specs.declared.token.TokenKind.TheVariants as kind
use Rattle.fy_lexer.specs.declared.token.Symbol.{Symbol}
use Rattle.fy_lexer.specs.declared.token.Symbol.TheVariants as symbol
use Rattle.fy_syntax.specs.Trees.{TypeTree, TypeTrees, DeclTree}
use Rattle.fy_syntax.specs.Nesting.{type_below, types_below, types_nesting, decls_nesting}
use Rattle.fy_syntax.specs.Signs.{front, TypeLevel, word_at, atom_word}
use Rattle.fy_syntax.specs.Spells.{Fields, SpellsType, MoreTypes, MoreDecls, meet_of, field_of}
use Rattle.fy_syntax.specs.Reader.{begins_with, is_symbol_kind, fields_at, types_at, type_inner, read_type, read_type_at, type_primary, decls_at}
use Rattle.fy_syntax.proofs.SignLemmas.{type_reach, type_reach_of, type_rank, type_stops, is_symbol_same}

pub fields_shorter : {names : List ℕ} {ts r : List Token} → Fields names ts r → length r ≤ length ts
fields_shorter Fields.no_fields = omega arith
fields_shorter (Fields.and_field x) = omega (arith, fields_shorter x)

mutual
  pub type_shorter : {l : TypeLevel} {a : TypeTree} {ts r : List Token} → SpellsType l a ts r → length r < length ts
  type_shorter (SpellsType.arrow x y) = omega (arith, type_shorter x, type_shorter y)
  type_shorter (SpellsType.no_arrow x) = type_shorter x
  type_shorter (SpellsType.inter x y) = omega (arith, type_shorter x, types_shorter y)
  type_shorter (SpellsType.field x y) = omega (arith, fields_shorter x, type_shorter y)
  type_shorter SpellsType.ns = omega arith
  type_shorter SpellsType.atom = omega arith
  type_shorter SpellsType.ident = omega arith
  type_shorter (SpellsType.group x) = omega (arith, type_shorter x)

  pub types_shorter : {s : Symbol} {l : TypeLevel} {more : TypeTrees} {ts r : List Token} → MoreTypes s l more ts r → length r ≤ length ts
  types_shorter MoreTypes.no_types = omega arith
  types_shorter (MoreTypes.and_type x y) = omega (arith, type_shorter x, types_shorter y)

pub decls_shorter : {more : List DeclTree} {ts r : List Token} → MoreDecls more ts r → length r ≤ length ts
decls_shorter MoreDecls.no_decls = omega arith
decls_shorter (MoreDecls.and_decl x y) = omega (arith, type_shorter x, decls_shorter y)

-- the next tokens aren't a name before a colon
atom_no_field : (a : Atom) (p : Place) (r : List Token) → fields_at (word_at (atom_word a) p ∷ r) ≡ ([], word_at (atom_word a) p ∷ r)
atom_no_field a p [] = refl
atom_no_field a p (t ∷ r) = refl

no_field : {a : TypeTree} {ts r : List Token} → SpellsType TypeLevel.primary a ts r → type_reach_of r < 4 → fields_at ts ≡ ([], ts)
no_field (SpellsType.ns {r = []}) h = refl
no_field (SpellsType.ns {r = t ∷ r}) h = refl
no_field (SpellsType.atom {a = a} {r = r} {p = p}) h = atom_no_field a p r
no_field (SpellsType.ident {r = []}) h = refl
no_field (SpellsType.ident {r = t ∷ r}) h = let e : is_symbol_kind symbol.Colon t.kind ≡ false = type_stops symbol.Colon (t ∷ r) h in rw e refl
no_field (SpellsType.group {ts = []} x) h = refl
no_field (SpellsType.group {ts = t ∷ ts} x) h = refl

fields_complete : {names : List ℕ} {ts r : List Token} → Fields names ts r → fields_at r ≡ ([], r) → fields_at ts ≡ (names, r)
fields_complete Fields.no_fields stop = stop
fields_complete (Fields.and_field x) stop = rw (fields_complete x stop) refl

pub meet_below : (a : TypeTree) (more : TypeTrees) (p : Place) → type_below (meet_of a more p) ≡ max (type_below a) (types_below more)
meet_below a TypeTrees.no_types p = omega arith
meet_below a (TypeTrees.and_type b more) p = refl

pub field_below : (names : List ℕ) (a : TypeTree) (p : Place) → type_below (field_of names a p) ≡ type_below a
field_below [] a p = refl
field_below (n ∷ names) a p = refl

-- alternatives are one node deeper than what is below them
pub types_within : (more : TypeTrees) (d : ℕ) → types_nesting more ≤ suc d → types_below more ≤ d
types_within TypeTrees.no_types d h = omega arith
types_within (TypeTrees.and_type a more) d h = omega (arith, types_within more d (omega arith))

pub types_deeper : (more : TypeTrees) (d : ℕ) → types_below more ≤ d → types_nesting more ≤ suc d
types_deeper TypeTrees.no_types d h = omega arith
types_deeper (TypeTrees.and_type a more) d h = omega (arith, types_deeper more d (omega arith))

-- what comes behind an item that has more behind it ends the item
pub types_front : {s : Symbol} {l : TypeLevel} {more : TypeTrees} {ts r : List Token} → MoreTypes s l more ts r →
    type_reach (kind.Sym s) < type_rank l → type_reach_of r < type_rank l → type_reach_of ts < type_rank l
types_front MoreTypes.no_types sep stop = stop
types_front (MoreTypes.and_type x y) sep stop = sep

atom_complete : (d : ℕ) (a : Atom) (p : Place) (r : List Token) → type_primary (type_inner d) (word_at (atom_word a) p ∷ r) ≡ Ok (TypeTree.atom a p, r)
atom_complete d atom.Int p r = refl
atom_complete d a p r = refl

mutual
  unfolding type_inner

  pub type_complete : {l : TypeLevel} {a : TypeTree} {ts r : List Token} (d : ℕ) → SpellsType l a ts r → type_below a ≤ d → type_reach_of r < type_rank l →
      read_type_at d l ts ≡ Ok (a, r)
  type_complete zero (SpellsType.arrow x y) n stop = absurd (omega arith)
  type_complete (suc d) (SpellsType.arrow x y) n stop =
      rw (type_complete (suc d) x (omega arith) (omega arith)) (rw (type_complete d y (omega arith) stop) refl)
  type_complete d (SpellsType.no_arrow {r = r} x) n stop =
      rw (type_complete d x n (omega arith)) (rw (type_stops symbol.Arrow r stop) refl)
  type_complete d (SpellsType.inter {a = a} {more = more} {ts = ts} {m = m} {r = r} x y) n stop =
      rw (type_complete d x (omega (arith, meet_below a more (front ts))) (types_front y (omega arith) (omega arith)))
      (rw (types_complete d (length m) y (omega (arith, meet_below a more (front ts))) (omega (arith, type_shorter x)) (omega arith) (omega arith) (type_stops symbol.Ampersand r stop)) refl)
  type_complete d (SpellsType.field {names = names} {a = a} {ts = ts} x y) n stop =
      rw (fields_complete x (no_field y (omega arith))) (rw (type_complete d y (rw (sym (field_below names a (front ts))) n) (omega arith)) refl)
  type_complete d SpellsType.ns n stop = refl
  type_complete d (SpellsType.atom {a = a} {r = r} {p = p}) n stop = atom_complete d a p r
  type_complete d SpellsType.ident n stop = refl
  type_complete zero (SpellsType.group x) n stop = absurd (omega arith)
  type_complete (suc d) (SpellsType.group x) n stop = rw (type_complete d x (omega arith) (omega arith)) refl

  pub types_complete : {s : Symbol} {l : TypeLevel} {more : TypeTrees} {ts r : List Token} (d g : ℕ) → MoreTypes s l more ts r → types_below more ≤ d → length ts ≤ g →
      type_reach (kind.Sym s) < type_rank l → type_reach_of r < type_rank l → begins_with s r ≡ false → types_at g s (read_type_at d l) ts ≡ Ok (more, r)
  types_complete d zero MoreTypes.no_types n k sep stop e = refl
  types_complete d (suc g) MoreTypes.no_types n k sep stop e = rw e refl
  types_complete d zero (MoreTypes.and_type x y) n k sep stop e = absurd (omega arith)
  types_complete {s = s} d (suc g) (MoreTypes.and_type x y) n k sep stop e =
      rw (is_symbol_same s) (rw (type_complete d x (omega arith) (types_front y sep stop))
      (rw (types_complete d g y (omega arith) (omega (arith, type_shorter x)) sep stop e) refl))

-- what comes behind a declared type ends it
pub decls_front : {more : List DeclTree} {ts r : List Token} → MoreDecls more ts r → type_reach_of r < 1 → type_reach_of ts < 1
decls_front MoreDecls.no_decls stop = stop
decls_front (MoreDecls.and_decl x y) stop = omega arith

pub decls_complete : {more : List DeclTree} {ts r : List Token} (d g : ℕ) → MoreDecls more ts r → decls_nesting more ≤ suc d → length ts ≤ g →
    type_reach_of r < 1 → begins_with symbol.Comma r ≡ false → decls_at g (read_type d) ts ≡ Ok (more, r)
decls_complete d zero MoreDecls.no_decls n k stop e = refl
decls_complete d (suc g) MoreDecls.no_decls n k stop e = rw e refl
decls_complete d zero (MoreDecls.and_decl x y) n k stop e = absurd (omega arith)
decls_complete d (suc g) (MoreDecls.and_decl x y) n k stop e =
    rw (type_complete d x (omega arith) (decls_front y stop))
    (rw (decls_complete d g y (omega arith) (omega (arith, type_shorter x)) stop e) refl)
