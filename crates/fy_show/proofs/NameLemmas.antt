-- A text uses just the names that are in it.
use Rattle.std.proofs.Common.{◌≡◌, ℕ, Bool, true, false, ◌||◌, Option, Some, None, List, [], ◌∷◌, ◌++◌, map, codes, refl, sym, ap, ap₂, ◌∙◌}
use Rattle.std.specs.List.{list_any}
use Rattle.std.specs.Str.{bytes_eq}
use Rattle.std.proofs.lemmas.List.Folds.{list_any-append}
use Rattle.fy_base.specs.Outside.{Bytes}
use Rattle.fy_phrase.specs.Tree.{Trees, var, lit, unary, binary, cond, case, lam, app, field, sel, merge, let_in, rec, skip, seq, assign, while_do, forever, new, cells, escape, accept, put, read, mark, no_trees, and_tree}
use Rattle.fy_short.specs.DataTexts.{put_word}
use Rattle.fy_show.specs.Entries.{Fields, Entry, unnamed, one, all, Scope, Known, entry_at, field_name, is_field_name, has_name}
use Rattle.fy_show.specs.Fresh.{record_at, used_as, is_some_name, field_used_as, any_uses}
use Rattle.fy_show.specs.Names.{entry_names, names_as, name_alone, field_names_as, names_in, all_names_in}
use Rattle.fy_show.specs.Laws.{UsesAreNames}

or-none : (b : Bool) → b ≡ (b || false)
or-none true = refl
or-none false = refl

-- the names of two parts, and a name in front of those of a part
any-both : (t : Bytes) (a b : Bool) (xs ys : List Bytes) → a ≡ list_any (bytes_eq t) xs → b ≡ list_any (bytes_eq t) ys → (a || b) ≡ list_any (bytes_eq t) (xs ++ ys)
any-both t a b xs ys e f = ap₂ (λ (c d : Bool). c || d) e f ∙ sym (list_any-append (bytes_eq t) xs ys)

any-front : (t x : Bytes) (b : Bool) (xs : List Bytes) → b ≡ list_any (bytes_eq t) xs → (bytes_eq t x || b) ≡ list_any (bytes_eq t) (x ∷ xs)
any-front t x b xs e = ap (λ (c : Bool). bytes_eq t x || c) e

pub fields-names : (t : Bytes) (fs : Fields) → is_field_name t fs ≡ list_any (bytes_eq t) (map (λ f. f.1) fs)
fields-names t [] = refl
fields-names t (f ∷ fs) = ap (λ (c : Bool). bytes_eq t f.1 || c) (fields-names t fs)

entry-names : (t : Bytes) (e : Entry) → has_name t e ≡ list_any (bytes_eq t) (entry_names e)
entry-names t unnamed = refl
entry-names t (one x) = or-none (bytes_eq t x)
entry-names t (all fs) = fields-names t fs

names-as : (t : Bytes) (e : Option Entry) (b : Bool) (xs : List Bytes) → b ≡ list_any (bytes_eq t) xs → used_as t e b ≡ list_any (bytes_eq t) (names_as e xs)
names-as t None b xs h = h
names-as t (Some e) b xs h = entry-names t e

name-alone : (t : Bytes) (o : Option Bytes) → is_some_name t o ≡ list_any (bytes_eq t) (name_alone o)
name-alone t None = refl
name-alone t (Some x) = or-none (bytes_eq t x)

field-names-as : (t : Bytes) (i : ℕ) (o : Option Fields) (b : Bool) (xs : List Bytes) → b ≡ list_any (bytes_eq t) xs →
    field_used_as t i o b ≡ list_any (bytes_eq t) (field_names_as i o xs)
field-names-as t i None b xs h = h
field-names-as t i (Some fs) b xs h = name-alone t (field_name fs i)

mutual
  pub uses-names : UsesAreNames
  uses-names k t s (var n at) = entry-names t (entry_at s n)
  uses-names k t s (lit v at) = refl
  uses-names k t s (unary op p at) = uses-names k t s p
  uses-names k t s (binary op p q at) = any-both t _ _ (names_in k s p) (names_in k s q) (uses-names k t s p) (uses-names k t s q)
  uses-names k t s (cond b p q at) =
      any-both t _ _ (names_in k s b) (names_in k s p ++ names_in k s q) (uses-names k t s b)
      (any-both t _ _ (names_in k s p) (names_in k s q) (uses-names k t s p) (uses-names k t s q))
  uses-names k t s (case e parts at) = any-both t _ _ (names_in k s e) (all_names_in k s parts) (uses-names k t s e) (all-uses-names k t s parts)
  uses-names k t s (lam d As b at) = names-as t (k.folded (lam d As b at)) _ (names_in k (unnamed ∷ s) b) (uses-names k t (unnamed ∷ s) b)
  uses-names k t s (app p q at) = any-both t _ _ (names_in k s p) (names_in k s q) (uses-names k t s p) (uses-names k t s q)
  uses-names k t s (field i p at) = uses-names k t s p
  uses-names k t s (sel p i at) = field-names-as t i (record_at k s p) _ (names_in k s p) (uses-names k t s p)
  uses-names k t s (merge p q at) =
      names-as t (k.folded (merge p q at)) _ (names_in k s p ++ names_in k s q)
      (any-both t _ _ (names_in k s p) (names_in k s q) (uses-names k t s p) (uses-names k t s q))
  uses-names k t s (let_in d p b at) = any-both t _ _ (names_in k s p) (names_in k (unnamed ∷ s) b) (uses-names k t s p) (uses-names k t (unnamed ∷ s) b)
  uses-names k t s (rec d T b at) = names-as t (k.folded (rec d T b at)) _ (names_in k (unnamed ∷ s) b) (uses-names k t (unnamed ∷ s) b)
  uses-names k t s (skip at) = refl
  uses-names k t s (seq p q at) = any-both t _ _ (names_in k s p) (names_in k s q) (uses-names k t s p) (uses-names k t s q)
  uses-names k t s (assign p q at) = any-both t _ _ (names_in k s p) (names_in k s q) (uses-names k t s p) (uses-names k t s q)
  uses-names k t s (while_do b c at) = any-both t _ _ (names_in k s b) (names_in k s c) (uses-names k t s b) (uses-names k t s c)
  uses-names k t s (forever c at) = uses-names k t s c
  uses-names k t s (new d D e b at) = any-both t _ _ (names_in k s e) (names_in k (unnamed ∷ s) b) (uses-names k t s e) (uses-names k t (unnamed ∷ s) b)
  uses-names k t s (cells d e b at) =
      any-front t (codes "newintseq") _ (names_in k s e ++ names_in k (unnamed ∷ s) b)
      (any-both t _ _ (names_in k s e) (names_in k (unnamed ∷ s) b) (uses-names k t s e) (uses-names k t (unnamed ∷ s) b))
  uses-names k t s (escape d b at) = uses-names k t (unnamed ∷ s) b
  uses-names k t s (accept d D b at) = uses-names k t (unnamed ∷ s) b
  uses-names k t s (put kind p at) = any-front t (put_word kind) _ (names_in k s p) (uses-names k t s p)
  uses-names k t s (read p at) = any-front t (codes "read") _ (names_in k s p) (uses-names k t s p)
  uses-names k t s (mark m at) = or-none (bytes_eq t (k.marks m))

  pub all-uses-names : (k : Known) (t : Bytes) (s : Scope) (ps : Trees) → any_uses k t s ps ≡ list_any (bytes_eq t) (all_names_in k s ps)
  all-uses-names k t s no_trees = refl
  all-uses-names k t s (and_tree p more) = any-both t _ _ (names_in k s p) (all_names_in k s more) (uses-names k t s p) (all-uses-names k t s more)
