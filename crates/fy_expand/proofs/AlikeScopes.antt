-- Scopes in which a phrase means the same but for the numbers of its variables.
use Rattle.std.proofs.Common.{ℕ, suc, ◌-◌, ◌<◌, ◌≡◌, Bool, true, false, List, [], ◌∷◌, cond, eqb, Option, Some, None, refl, sym, ap, ◌∙◌, arith}
use Rattle.fy_base.specs.declared.data.Place.{Place}
use Rattle.fy_types.specs.Types.{PlainType, PlainTypes}
use Rattle.fy_syntax.specs.Trees.{TypeTree, TypeTrees, DeclTree, Defs}
use Rattle.fy_syntax.specs.Places.{type_without_places, types_without_places, decls_without_places, defs_without_places}
use Rattle.fy_phrase.specs.Alike.{lifted}
use Rattle.fy_expand.specs.declared.error.ExpandError.{ExpandError}
use Rattle.fy_expand.specs.declared.error.ExpandError.TheVariants as errors
use Rattle.fy_expand.specs.declared.frame.Standing.{Standing}
use Rattle.fy_expand.specs.declared.frame.Standing.TheVariants.{Variable, Member}
use Rattle.fy_expand.specs.Types.{with, fields, type_of, types_of}
use Rattle.fy_expand.specs.Scope.{Scope, behind, under, with_defs, depth_under, under_defs, with_members, under_members, with_type}
use Rattle.fy_expand.specs.Core.{declared}
use Rattle.fy_expand.specs.Faults.{◌before◌, operand_fault, goes_first}

-- ---- places in types

mutual
  pub type-placed : (types : ℕ → Option PlainType) (a : TypeTree) → type_of types a ≡ type_of types (type_without_places a)
  type-placed types (TypeTree.arrow a b at) = ap (λ x. PlainType.arrow x (type_of types b)) (type-placed types a) ∙ ap (PlainType.arrow (type_of types (type_without_places a))) (type-placed types b)
  type-placed types (TypeTree.meet members at) = ap PlainType.meet (types-placed types members)
  type-placed types (TypeTree.field names a at) = ap (fields names) (type-placed types a)
  type-placed types (TypeTree.ns at) = refl
  type-placed types (TypeTree.atom a at) = refl
  type-placed types (TypeTree.ident name at) = refl
  type-placed types (TypeTree.group a at) = type-placed types a

  pub types-placed : (types : ℕ → Option PlainType) (bs : TypeTrees) → types_of types bs ≡ types_of types (types_without_places bs)
  types-placed types TypeTrees.no_types = refl
  types-placed types (TypeTrees.and_type a more) = ap (λ x. PlainTypes.and_type x (types_of types more)) (type-placed types a) ∙ ap (PlainTypes.and_type (type_of types (type_without_places a))) (types-placed types more)

pub declared-placed : (types : ℕ → Option PlainType) (ds : List DeclTree) → declared types ds ≡ declared types (decls_without_places ds)
declared-placed types [] = refl
declared-placed types (d ∷ more) =
    ap (λ x. PlainTypes.and_type (PlainType.field d.name x) (declared types more)) (type-placed types d.type) ∙ ap (PlainTypes.and_type (PlainType.field d.name (type_of types (type_without_places d.type)))) (declared-placed types more)

-- ---- scopes

-- under d binders and under e binders, the variable of binder i is that of binder j
abbrev pub IsSameBinder : (ℕ → ℕ) → ℕ → ℕ → ℕ → ℕ → Type 0
IsSameBinder f d e i j = (i < d) × (j < e) × (e - j - 1 ≡ f (d - i - 1))

-- a name that stands for something stands for the same there; one that stands for nothing may stand for something there where the phrase is known to have no fault
abbrev pub IsSameStanding : Bool → (ℕ → ℕ) → ℕ → ℕ → Option Standing → Option Standing → Type 0
IsSameStanding true f d e None o = Unit {0}
IsSameStanding false f d e None o = o ≡ None
IsSameStanding c f d e (Some (Variable i)) o = (j : ℕ) × (o ≡ Some (Variable j)) × IsSameBinder f d e i j
IsSameStanding c f d e (Some (Member i)) o = (j : ℕ) × (o ≡ Some (Member j)) × IsSameBinder f d e i j

pub record IsSameScope (c : Bool) (f : ℕ → ℕ) (s r : Scope) : Type 0 where
  pub types : s.types ≡ r.types
  pub phrases : (name : ℕ) → IsSameStanding c f s.depth r.depth (s.phrases name) (r.phrases name)

-- there is no fault, where that is asked
abbrev pub IsClear : Bool → Option ExpandError → Type 0
IsClear true fault = fault ≡ None
IsClear false fault = Unit {0}

binder-behind : (f : ℕ → ℕ) (d e i j : ℕ) → IsSameBinder f d e i j → IsSameBinder (lifted f) (suc d) (suc e) i j
binder-behind f d e i j h =
    let x : suc e - j - 1 ≡ suc (e - j - 1) = omega (arith, h.1) in
    let y : suc d - i - 1 ≡ suc (d - i - 1) = omega (arith, h.0) in
    (omega (arith, h.0), omega (arith, h.1), x ∙ ap suc h.2 ∙ ap (lifted f) (sym y))

binder-new : (f : ℕ → ℕ) (d e : ℕ) → IsSameBinder (lifted f) (suc d) (suc e) d e
binder-new f d e =
    let x : suc e - e - 1 ≡ 0 = omega arith in
    let y : suc d - d - 1 ≡ 0 = omega arith in
    (omega arith, omega arith, x ∙ ap (lifted f) (sym y))

standing-behind : (c : Bool) (f : ℕ → ℕ) (d e : ℕ) (o r : Option Standing) → IsSameStanding c f d e o r → IsSameStanding c (lifted f) (suc d) (suc e) o r
standing-behind true f d e None r h = tt
standing-behind false f d e None r h = h
standing-behind c f d e (Some (Variable i)) r h = (h.0, h.1, binder-behind f d e i h.0 h.2)
standing-behind c f d e (Some (Member i)) r h = (h.0, h.1, binder-behind f d e i h.0 h.2)

pub standing-with : (c : Bool) (f : ℕ → ℕ) (d e x n : ℕ) (a b : Standing) (o r : Option Standing) → IsSameStanding c f d e (Some a) (Some b) → IsSameStanding c f d e o r →
    (t : Bool) → IsSameStanding c f d e (cond t (Some a) o) (cond t (Some b) r)
standing-with c f d e x n a b o r h k true = h
standing-with c f d e x n a b o r h k false = k

new-variable : (c : Bool) (f : ℕ → ℕ) (d e : ℕ) → IsSameStanding c (lifted f) (suc d) (suc e) (Some (Variable d)) (Some (Variable e))
new-variable c f d e = (e, refl, binder-new f d e)

new-member : (c : Bool) (f : ℕ → ℕ) (d e : ℕ) → IsSameStanding c (lifted f) (suc d) (suc e) (Some (Member d)) (Some (Member e))
new-member c f d e = (e, refl, binder-new f d e)

pub scope-behind : (c : Bool) (f : ℕ → ℕ) (s r : Scope) → IsSameScope c f s r → IsSameScope c (lifted f) (behind s) (behind r)
scope-behind c f s r h = record { types = h.types; phrases = λ n. standing-behind c f s.depth r.depth (s.phrases n) (r.phrases n) (h.phrases n) }

pub scope-under : (c : Bool) (f : ℕ → ℕ) (s r : Scope) (x : ℕ) → IsSameScope c f s r → IsSameScope c (lifted f) (under x s) (under x r)
scope-under c f s r x h = record {
  types = h.types;
  phrases = λ n. standing-with c (lifted f) (suc s.depth) (suc r.depth) x n (Variable s.depth) (Variable r.depth) (s.phrases n) (r.phrases n) (new-variable c f s.depth r.depth)
      (standing-behind c f s.depth r.depth (s.phrases n) (r.phrases n) (h.phrases n)) (eqb n x);
}

pub scope-type : (c : Bool) (f : ℕ → ℕ) (s r : Scope) (x : ℕ) (a : TypeTree) → IsSameScope c f s r → IsSameScope c f (with_type x a s) (with_type x (type_without_places a) r)
scope-type c f s r x a h = record {
  types = ap (λ A. with x A s.types) (type-placed s.types a) ∙ ap (λ y. with x (type_of y (type_without_places a)) y) h.types;
  phrases = h.phrases;
}

members-with : (c : Bool) (f : ℕ → ℕ) (d e n : ℕ) (ds : List DeclTree) (o r : ℕ → Option Standing) → IsSameStanding c f d e (o n) (r n) →
    IsSameStanding c (lifted f) (suc d) (suc e) (with_members d ds o n) (with_members e (decls_without_places ds) r n)
members-with c f d e n [] o r h = standing-behind c f d e (o n) (r n) h
members-with c f d e n (x ∷ ds) o r h =
    standing-with c (lifted f) (suc d) (suc e) x.name n (Member d) (Member e) (with_members d ds o n) (with_members e (decls_without_places ds) r n) (new-member c f d e)
    (members-with c f d e n ds o r h) (eqb n x.name)

pub scope-members : (c : Bool) (f : ℕ → ℕ) (s r : Scope) (ds : List DeclTree) → IsSameScope c f s r →
    IsSameScope c (lifted f) (under_members ds s) (under_members (decls_without_places ds) r)
scope-members c f s r ds h = record { types = h.types; phrases = λ n. members-with c f s.depth r.depth n ds s.phrases r.phrases (h.phrases n) }

abbrev pub lifted_by : Defs → (ℕ → ℕ) → ℕ → ℕ
lifted_by Defs.no_defs f = f
lifted_by (Defs.and_def x at p more) f = lifted_by more (lifted f)

standing-past : (c : Bool) (f : ℕ → ℕ) (d e : ℕ) (defs : Defs) (o r : Option Standing) → IsSameStanding c f d e o r →
    IsSameStanding c (lifted_by defs f) (depth_under d defs) (depth_under e (defs_without_places defs)) o r
standing-past c f d e Defs.no_defs o r h = h
standing-past c f d e (Defs.and_def x at p more) o r h = standing-past c (lifted f) (suc d) (suc e) more o r (standing-behind c f d e o r h)

defs-with : (c : Bool) (f : ℕ → ℕ) (d e n : ℕ) (defs : Defs) (o r : ℕ → Option Standing) → IsSameStanding c f d e (o n) (r n) →
    IsSameStanding c (lifted_by defs f) (depth_under d defs) (depth_under e (defs_without_places defs)) (with_defs d defs o n) (with_defs e (defs_without_places defs) r n)
defs-with c f d e n Defs.no_defs o r h = h
defs-with c f d e n (Defs.and_def x at p more) o r h =
    standing-with c (lifted_by more (lifted f)) (depth_under (suc d) more) (depth_under (suc e) (defs_without_places more)) x n (Variable d) (Variable e)
    (with_defs (suc d) more o n) (with_defs (suc e) (defs_without_places more) r n)
    (standing-past c (lifted f) (suc d) (suc e) more (Some (Variable d)) (Some (Variable e)) (new-variable c f d e))
    (defs-with c (lifted f) (suc d) (suc e) n more o r (standing-behind c f d e (o n) (r n) h)) (eqb n x)

pub scope-defs : (c : Bool) (f : ℕ → ℕ) (s r : Scope) (defs : Defs) → IsSameScope c f s r →
    IsSameScope c (lifted_by defs f) (under_defs defs s) (under_defs (defs_without_places defs) r)
scope-defs c f s r defs h = record { types = h.types; phrases = λ n. defs-with c f s.depth r.depth n defs s.phrases r.phrases (h.phrases n) }

-- ---- faults

pub before-none : (a b : Option ExpandError) → a before b ≡ None → (a ≡ None) × (b ≡ None)
before-none None b e = (refl, e)
before-none (Some x) b e = absurd cc

pub clear-first : (c : Bool) (a b : Option ExpandError) → IsClear c (a before b) → IsClear c a
clear-first true a b h = (before-none a b h).0
clear-first false a b h = tt

pub clear-second : (c : Bool) (a b : Option ExpandError) → IsClear c (a before b) → IsClear c b
clear-second true a b h = (before-none a b h).1
clear-second false a b h = tt

some-none : (x y : ExpandError) (b : Bool) → cond b (Some x) (Some y) ≡ None → Some x ≡ None
some-none x y true e = absurd cc
some-none x y false e = absurd cc

operand-none : (t : Bool) (at : Place) (o : Option ExpandError) → cond t o (operand_fault at o) ≡ None → o ≡ None
operand-none true at o e = e
operand-none false at None e = absurd cc
operand-none false at (Some x) e = some-none x (errors.MergeRight at) (goes_first at x) e

pub clear-operand : (c : Bool) (t : Bool) (at : Place) (o : Option ExpandError) → IsClear c (cond t o (operand_fault at o)) → IsClear c o
clear-operand true t at o h = operand-none t at o h
clear-operand false t at o h = tt

-- ---- names that are known

abbrev pub KnownTogether : Option Standing → Option Standing → Type 0
KnownTogether None o = Unit {0}
KnownTogether (Some a) None = ⊥
KnownTogether (Some a) (Some b) = Unit {0}

-- what stands for something in z does so in s
pub record IsKnown (z s : Scope) : Type 0 where
  pub names : (n : ℕ) → KnownTogether (z.phrases n) (s.phrases n)

known-same : (o : Option Standing) → KnownTogether o o
known-same None = tt
known-same (Some a) = tt

pub known-refl : (s : Scope) → IsKnown s s
known-refl s = record { names = λ n. known-same (s.phrases n) }

known-with : (a b : Standing) (o r : Option Standing) → KnownTogether o r → (t : Bool) → KnownTogether (cond t (Some a) o) (cond t (Some b) r)
known-with a b o r h true = tt
known-with a b o r h false = h

pub known-behind : (z s : Scope) → IsKnown z s → IsKnown z (behind s)
known-behind z s h = record { names = h.names }

pub known-under : (z s : Scope) (x : ℕ) → IsKnown z s → IsKnown (under x z) (under x s)
known-under z s x h = record { names = λ n. known-with (Variable z.depth) (Variable s.depth) (z.phrases n) (s.phrases n) (h.names n) (eqb n x) }

pub known-type : (z s : Scope) (x : ℕ) (a b : TypeTree) → IsKnown z s → IsKnown (with_type x a z) (with_type x b s)
known-type z s x a b h = record { names = h.names }

pub known-members : (z s : Scope) (ds : List DeclTree) → IsKnown z s → IsKnown (under_members ds z) (under_members ds s)
known-members z s ds h = record { names = λ n. at n ds }
  where
    at : (n : ℕ) (ds : List DeclTree) → KnownTogether (with_members z.depth ds z.phrases n) (with_members s.depth ds s.phrases n)
    at n [] = h.names n
    at n (d ∷ ds) = known-with (Member z.depth) (Member s.depth) _ _ (at n ds) (eqb n d.name)

pub known-defs : (z s : Scope) (defs : Defs) → IsKnown z s → IsKnown (under_defs defs z) (under_defs defs s)
known-defs z s defs h = record { names = λ n. at n defs z.depth s.depth }
  where
    at : (n : ℕ) (defs : Defs) (d e : ℕ) → KnownTogether (with_defs d defs z.phrases n) (with_defs e defs s.phrases n)
    at n Defs.no_defs d e = h.names n
    at n (Defs.and_def x here p more) d e = known-with (Variable d) (Variable e) (with_defs (suc d) more z.phrases n) (with_defs (suc e) more s.phrases n) (at n more (suc d) (suc e)) (eqb n x)
