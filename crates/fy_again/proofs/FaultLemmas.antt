-- Trees without a fault in scopes of known names.
use Rattle.std.proofs.Common.{◌≡◌, ℕ, ◌==◌, Bool, true, false, if◌then◌else◌, Option, Some, None, is_none, List, [], ◌∷◌, refl, sym, ap, subst, ◌∙◌}
use Rattle.fy_syntax.specs.Trees.{DeclTree, Tree}
use Rattle.fy_phrase.specs.Tree as plain
use Rattle.fy_phrase.specs.Alike.{Alike}
use Rattle.fy_phrase.specs.WellMade.{IsOperand}
use Rattle.fy_expand.specs.declared.error.ExpandError.{ExpandError}
use Rattle.fy_expand.specs.Types.{with}
use Rattle.fy_expand.specs.Core.{core}
use Rattle.fy_expand.specs.Faults.{◌before◌, fault_if, fault, is_operand}
use Rattle.fy_expand.specs.Scope.{Scope, under, under_members, with_members}

-- ---- no fault

pub both_fine : (a b : Option ExpandError) → None ≡ a → None ≡ b → None ≡ (a before b)
both_fine a b h g = subst (λ x. None ≡ (x before b)) h g

pub first_part : (a b : Option ExpandError) → None ≡ (a before b) → None ≡ a
first_part None b h = refl
first_part (Some e) b h = absurd cc

pub second_part : (a b : Option ExpandError) → None ≡ (a before b) → None ≡ b
second_part None b h = h
second_part (Some e) b h = absurd cc

pub test_fine : (b : Bool) (e : ExpandError) → b ≡ false → None ≡ fault_if b e
test_fine b e h = ap (λ c. fault_if c e) (sym h)

-- ---- maps with one more entry

pub with_same : {A : Type 0} (n : ℕ) (w : A) (older : ℕ → Option A) (m : ℕ) → (m == n) ≡ true → with n w older m ≡ Some w
with_same n w older m e = ap (λ b. if b then Some w else older m) e

pub with_other : {A : Type 0} (n : ℕ) (w : A) (older : ℕ → Option A) (m : ℕ) → (m == n) ≡ false → with n w older m ≡ older m
with_other n w older m e = ap (λ b. if b then Some w else older m) e

with_known : {A B : Type 0} (n : ℕ) (a : A) (b : B) (f : ℕ → Option A) (g : ℕ → Option B) (m : ℕ) → is_none (f m) ≡ is_none (g m) → is_none (with n a f m) ≡ is_none (with n b g m)
with_known n a b f g m h = by (m == n)
  where
    by : (c : Bool) → is_none (if c then Some a else f m) ≡ is_none (if c then Some b else g m)
    by true = refl
    by false = h

-- ---- scopes of the same names

-- names of phrases stand for something in both scopes or in neither, and names of types for the same types
pub record SameNames (s r : Scope) : Type 0 where
  pub known : (n : ℕ) → is_none (r.phrases n) ≡ is_none (s.phrases n)
  pub types : r.types ≡ s.types

pub same_names : (s : Scope) → SameNames s s
same_names s = record { known = λ n. refl; types = refl }

pub same_then : (s r k : Scope) → SameNames s r → SameNames r k → SameNames s k
same_then s r k h g = record { known = λ n. g.known n ∙ h.known n; types = g.types ∙ h.types }

pub same_under : (x : ℕ) (s r : Scope) → SameNames s r → SameNames (under x s) (under x r)
same_under x s r h = record { known = λ n. with_known x _ _ r.phrases s.phrases n (h.known n); types = h.types }

members_known : (decls : List DeclTree) (s r : Scope) → SameNames s r → (n : ℕ) → is_none (with_members r.depth decls r.phrases n) ≡ is_none (with_members s.depth decls s.phrases n)
members_known [] s r h n = h.known n
members_known (d ∷ decls) s r h n = with_known d.name _ _ (with_members r.depth decls r.phrases) (with_members s.depth decls s.phrases) n (members_known decls s r h n)

pub same_members : (decls : List DeclTree) (s r : Scope) → SameNames s r → SameNames (under_members decls s) (under_members decls r)
same_members decls s r h = record { known = λ n. members_known decls s r h n; types = h.types }

-- ---- what a tree means

-- the tree has no fault where its names are known
abbrev pub IsClear : Scope → Tree → Type 0
IsClear s tree = (r : Scope) → SameNames s r → None ≡ fault r tree

-- the tree means the phrase but for places, with its variables renumbered, without a fault, and takes from the right of a merge if the phrase does
abbrev pub Means : Scope → (ℕ → ℕ) → plain.Tree → Tree → Type 0
Means s v p tree = Alike v p (core s tree) × IsClear s tree × (IsOperand p → is_operand tree ≡ true)
