-- The `let`s at the root of a derivation, and the text below them.
use Rattle.std.proofs.Common.{ℕ, zero, suc, ◌+◌, ◌-◌, ◌<◌, ◌≡◌, ◌≢◌, Bool, true, false, if◌then◌else◌, List, [], ◌∷◌, ◌++◌, length, get_or, map, Option, Some, None, codes, refl, sym, ap, subst, ◌∙◌, arith}
use Rattle.std.proofs.lemmas.List.{append-nil}
use Rattle.fy_base.specs.Outside.{Bytes}
use Rattle.fy_base.specs.declared.data.Place.{Place}
use Rattle.fy_types.specs.Types.{PlainType}
use Rattle.fy_phrase.specs.Tree.{Tree, let_in}
use Rattle.fy_derive.specs.declared.derivation.Derivation.{Derivation}
use Rattle.fy_derive.specs.declared.derivation.DerivationList.{DerivationList}
use Rattle.fy_derive.specs.Derivations.{PlainDerivation, PlainDerivations, by_ns, sub, meets, alt, left, right, rule, no_derivations, and_derivation, nodes}
use Rattle.fy_derive.specs.Judging.{judged}
use Rattle.fy_derive.specs.Reading.{plain_derivation, plain_derivations, derivations_in, derivations_from}
use Rattle.fy_derive.proofs.ReadLemmas.{plain_derivations-at}
use Rattle.fy_show.specs.Entries.{Scope}
use Rattle.fy_show.specs.Fresh.{bound}
use Rattle.fy_told.specs.ReasonTexts.{variable_text}
use Rattle.fy_tree.specs.Annotated.{concluded, shown_of}
use Rattle.fy_tree.specs.Lines.{Look, lines}
use Rattle.fy_tree.specs.Reading.{raised_part, two_in, two_below, let_parts}
use Rattle.fy_tree.specs.Whole.{has_lets, below_lets, if_plain, tree_text}
use Rattle.fy_tree.proofs.TreeLemmas.{some-same}

-- ---- two premises

two-from : (xs : List Derivation) (a b : Derivation) → length xs ≡ 2 → a ≡ get_or xs 0 a → b ≡ get_or xs 1 b
    → Some (plain_derivation a, plain_derivation b) ≡ two_in (derivations_from (map plain_derivation xs))
two-from [] a b n x y = absurd (omega arith)
two-from (c ∷ []) a b n x y = absurd (omega arith)
two-from (c ∷ d ∷ []) a b n x y =
    ap (λ (z : Derivation). Some (plain_derivation z, plain_derivation b)) x ∙ ap (λ (z : Derivation). Some (plain_derivation c, plain_derivation z)) y
two-from (c ∷ d ∷ e ∷ more) a b n x y = absurd (omega arith)

pub two-members : (list : DerivationList) (xs : List Derivation) (a b : Derivation) → xs ≡ derivations_in list → length xs ≡ 2 → a ≡ get_or xs 0 a → b ≡ get_or xs 1 b
    → Some (plain_derivation a, plain_derivation b) ≡ two_in (plain_derivations list)
two-members list xs a b same n x y =
    two-from xs a b n x y ∙ (ap (λ (ys : List Derivation). two_in (derivations_from (map plain_derivation ys))) same ∙ sym (ap two_in (plain_derivations-at list)))

other-from : (xs : List Derivation) → length xs ≢ 2 → None ≡ two_in (derivations_from (map plain_derivation xs))
other-from [] n = refl
other-from (c ∷ []) n = refl
other-from (c ∷ d ∷ []) n = absurd (n refl)
other-from (c ∷ d ∷ e ∷ more) n = refl

pub other-members : (list : DerivationList) (xs : List Derivation) → xs ≡ derivations_in list → length xs ≢ 2 → None ≡ two_in (plain_derivations list)
other-members list xs same n =
    other-from xs n ∙ (ap (λ (ys : List Derivation). two_in (derivations_from (map plain_derivation ys))) same ∙ sym (ap two_in (plain_derivations-at list)))

-- ---- forms

pair-same : (a b : PlainDerivation × PlainDerivation) → Some a ≡ Some b → a ≡ b
pair-same a b e = cc

parts-same : (a b : Tree × Tree) → Some a ≡ Some b → a ≡ b
parts-same a b e = cc

in-form : (ds : PlainDerivations) (e d : PlainDerivation) → two_in ds ≡ Some (e, d) → ds ≡ and_derivation e (and_derivation d no_derivations)
in-form no_derivations e d i = absurd cc
in-form (and_derivation x no_derivations) e d i = absurd cc
in-form (and_derivation x (and_derivation y no_derivations)) e d i =
    ap (λ (z : PlainDerivation × PlainDerivation). and_derivation z.0 (and_derivation z.1 no_derivations)) (pair-same (x, y) (e, d) i)
in-form (and_derivation x (and_derivation y (and_derivation z more))) e d i = absurd cc

two-form : (D e d : PlainDerivation) → two_below D ≡ Some (e, d) → D ≡ rule (and_derivation e (and_derivation d no_derivations))
two-form by_ns e d i = absurd cc
two-form (sub B x) e d i = absurd cc
two-form (meets ds) e d i = absurd cc
two-form (alt j x) e d i = absurd cc
two-form (left x) e d i = absurd cc
two-form (right x) e d i = absurd cc
two-form (rule ds) e d i = ap rule (in-form ds e d i)

let-form : (p q b : Tree) → let_parts p ≡ Some (q, b) → (x : ℕ) × (at : Place) × (p ≡ let_in x q b at)
let-form (let_in x r c at) q b i = (x, at, ap (λ (z : Tree × Tree). let_in x z.0 z.1 at) (parts-same (r, c) (q, b) i))
let-form p q b i = absurd cc

-- the nodes of a rule's two premises
pub two-nodes : (D e d : PlainDerivation) → two_below D ≡ Some (e, d) → nodes D ≡ 1 + nodes e + nodes d
two-nodes D e d i = omega (arith, ap nodes (two-form D e d i))

-- ---- whether they stand at the root

pub lets-raised : (c : ℕ) (D d : PlainDerivation) (p : Tree) → 0 < c → raised_part D ≡ Some d → has_lets c d p ≡ has_lets c D p
lets-raised zero D d p h i = absurd (omega arith)
lets-raised (suc c) by_ns d p h i = absurd cc
lets-raised (suc c) (sub B e) d p h i = ap (λ (x : PlainDerivation). has_lets (suc c) x p) (sym (some-same e d i))
lets-raised (suc c) (meets ds) d p h i = absurd cc
lets-raised (suc c) (alt j e) d p h i = absurd cc
lets-raised (suc c) (left e) d p h i = absurd cc
lets-raised (suc c) (right e) d p h i = absurd cc
lets-raised (suc c) (rule ds) d p h i = absurd cc

let-below : (c m : ℕ) (e d : PlainDerivation) (x : ℕ) (q b : Tree) (at : Place) → 0 < c → m ≡ c - 1 → has_lets m d b ≡ has_lets c (rule (and_derivation e (and_derivation d no_derivations))) (let_in x q b at)
let-below zero m e d x q b at h n = absurd (omega arith)
let-below (suc c) m e d x q b at h n = let k : m ≡ c = omega arith in ap (λ (i : ℕ). has_lets i d b) k

pub lets-next : (c m : ℕ) (D e d : PlainDerivation) (p q b : Tree) → 0 < c → m ≡ c - 1 → two_below D ≡ Some (e, d) → let_parts p ≡ Some (q, b) → has_lets m d b ≡ has_lets c D p
lets-next c m D e d p q b h n i j =
    let shape = let-form p q b j in
    let-below c m e d shape.0 q b shape.1 h n
    ∙ sym (ap (λ (x : PlainDerivation). has_lets c x p) (two-form D e d i) ∙ ap (λ (x : Tree). has_lets c (rule (and_derivation e (and_derivation d no_derivations))) x) shape.2)

pub lets-other : (c : ℕ) (D : PlainDerivation) (p : Tree) → 0 < c → raised_part D ≡ None → two_below D ≡ None → false ≡ has_lets c D p
lets-other zero D p h r i = absurd (omega arith)
lets-other (suc c) (sub B d) p h r i = absurd cc
lets-other (suc c) (rule (and_derivation e (and_derivation d no_derivations))) p h r i = absurd cc
lets-other (suc c) D p h r i = refl

pub lets-no_let : (c : ℕ) (D : PlainDerivation) (p : Tree) → 0 < c → raised_part D ≡ None → let_parts p ≡ None → false ≡ has_lets c D p
lets-no_let zero D p h r i = absurd (omega arith)
lets-no_let (suc c) (sub B d) p h r i = absurd cc
lets-no_let (suc c) (rule (and_derivation e (and_derivation d no_derivations))) (let_in x q b at) h r i = absurd cc
lets-no_let (suc c) D p h r i = refl

-- ---- the text below them

pub below-raised : (look : Look) (more c : ℕ) (before : Bytes) (D d : PlainDerivation) (n : ℕ) (G : List PlainType) (s : Scope) (p : Tree) → 0 < c → raised_part D ≡ Some d
    → below_lets look more c before d (n + 1) G s p ≡ below_lets look more c before D n G s p
below-raised look more zero before D d n G s p h i = absurd (omega arith)
below-raised look more (suc c) before by_ns d n G s p h i = absurd cc
below-raised look more (suc c) before (sub B e) d n G s p h i = ap (λ (x : PlainDerivation). below_lets look more (suc c) before x (n + 1) G s p) (sym (some-same e d i))
below-raised look more (suc c) before (meets ds) d n G s p h i = absurd cc
below-raised look more (suc c) before (alt j e) d n G s p h i = absurd cc
below-raised look more (suc c) before (left e) d n G s p h i = absurd cc
below-raised look more (suc c) before (right e) d n G s p h i = absurd cc
below-raised look more (suc c) before (rule ds) d n G s p h i = absurd cc

below-let : (look : Look) (more c m : ℕ) (before : Bytes) (e d : PlainDerivation) (n k : ℕ) (G : List PlainType) (s : Scope) (x : ℕ) (q b : Tree) (at : Place) (A : PlainType)
    → 0 < c → m ≡ c - 1 → k ≡ n + 1 + nodes e → A ≡ concluded (judged e (n + 1) G q)
    → if_plain look.form (before ++ variable_text look.known (bound look.known s (let_in x q b at)) A) ++ below_lets look more m (codes ", ") d k (A ∷ G) (bound look.known s (let_in x q b at) ∷ s) b
    ≡ below_lets look more c before (rule (and_derivation e (and_derivation d no_derivations))) n G s (let_in x q b at)
below-let look more zero m before e d n k G s x q b at A h i j a = absurd (omega arith)
below-let look more (suc c) m before e d n k G s x q b at A h i j a =
    let entry = bound look.known s (let_in x q b at) in
    let F : ℕ → ℕ → PlainType → Bytes = λ m k A. if_plain look.form (before ++ variable_text look.known entry A) ++ below_lets look more m (codes ", ") d k (A ∷ G) (entry ∷ s) b in
    let down : m ≡ c = omega arith in
    ap (λ (l : ℕ). F l k A) down ∙ (ap (λ (l : ℕ). F c l A) j ∙ ap (F c (n + 1 + nodes e)) a)

pub below-next : (look : Look) (more c m : ℕ) (before : Bytes) (D e d : PlainDerivation) (n k : ℕ) (G : List PlainType) (s : Scope) (p q b : Tree) (A : PlainType)
    → 0 < c → m ≡ c - 1 → k ≡ n + 1 + nodes e → A ≡ concluded (judged e (n + 1) G q) → two_below D ≡ Some (e, d) → let_parts p ≡ Some (q, b)
    → if_plain look.form (before ++ variable_text look.known (bound look.known s p) A) ++ below_lets look more m (codes ", ") d k (A ∷ G) (bound look.known s p ∷ s) b
    ≡ below_lets look more c before D n G s p
below-next look more c m before D e d n k G s p q b A h i j a two parts =
    let shape = let-form p q b parts in
    let R : PlainDerivation → Tree → Type 0 = λ x y.
    if_plain look.form (before ++ variable_text look.known (bound look.known s y) A) ++ below_lets look more m (codes ", ") d k (A ∷ G) (bound look.known s y ∷ s) b ≡ below_lets look more c before x n G s y in
    subst (λ x. R x p) (sym (two-form D e d two))
    (subst (λ y. R (rule (and_derivation e (and_derivation d no_derivations))) y) (sym shape.2) (below-let look more c m before e d n k G s shape.0 q b shape.1 A h i j a))

below-other : (look : Look) (more c : ℕ) (before : Bytes) (D : PlainDerivation) (n : ℕ) (G : List PlainType) (s : Scope) (p : Tree) → 0 < c → raised_part D ≡ None → two_below D ≡ None
    → [] ≡ below_lets look more c before D n G s p
below-other look more zero before D n G s p h r i = absurd (omega arith)
below-other look more (suc c) before (sub B d) n G s p h r i = absurd cc
below-other look more (suc c) before (rule (and_derivation e (and_derivation d no_derivations))) n G s p h r i = absurd cc
below-other look more (suc c) before D n G s p h r i = refl

below-no_let : (look : Look) (more c : ℕ) (before : Bytes) (D : PlainDerivation) (n : ℕ) (G : List PlainType) (s : Scope) (p : Tree) → 0 < c → raised_part D ≡ None → let_parts p ≡ None
    → [] ≡ below_lets look more c before D n G s p
below-no_let look more zero before D n G s p h r i = absurd (omega arith)
below-no_let look more (suc c) before (sub B d) n G s p h r i = absurd cc
below-no_let look more (suc c) before (rule (and_derivation e (and_derivation d no_derivations))) n G s (let_in x q b at) h r i = absurd cc
below-no_let look more (suc c) before D n G s p h r i = refl

-- nothing is put where no `let` is there
pub put-other : (T : Bytes) (look : Look) (more c : ℕ) (before : Bytes) (D : PlainDerivation) (n : ℕ) (G : List PlainType) (s : Scope) (p : Tree) → 0 < c → raised_part D ≡ None → two_below D ≡ None
    → T ≡ T ++ below_lets look more c before D n G s p
put-other T look more c before D n G s p h r i = sym (append-nil T) ∙ ap (λ (x : Bytes). T ++ x) (below-other look more c before D n G s p h r i)

pub put-no_let : (T : Bytes) (look : Look) (more c : ℕ) (before : Bytes) (D : PlainDerivation) (n : ℕ) (G : List PlainType) (s : Scope) (p : Tree) → 0 < c → raised_part D ≡ None → let_parts p ≡ None
    → T ≡ T ++ below_lets look more c before D n G s p
put-no_let T look more c before D n G s p h r i = sym (append-nil T) ∙ ap (λ (x : Bytes). T ++ x) (below-no_let look more c before D n G s p h r i)

-- ---- the whole text

pub text-lets : (look : Look) (more : ℕ) (d : PlainDerivation) (p : Tree) → has_lets 5 d p ≡ true → below_lets look more 5 [] d 0 [] [] p ≡ tree_text look None more d p
text-lets look more d p h = sym (ap (λ (b : Bool). if b then below_lets look more 5 [] d 0 [] [] p else lines look None [] more [] (shown_of look.known d 0 [] [] [] p)) h)

pub text-root : (look : Look) (more : ℕ) (d : PlainDerivation) (p : Tree) → has_lets 5 d p ≡ false → lines look None [] more [] (shown_of look.known d 0 [] [] [] p) ≡ tree_text look None more d p
text-root look more d p h = sym (ap (λ (b : Bool). if b then below_lets look more 5 [] d 0 [] [] p else lines look None [] more [] (shown_of look.known d 0 [] [] [] p)) h)

pub text-sought : (look : Look) (node : Option ℕ) (m more : ℕ) (d : PlainDerivation) (p : Tree) → node ≡ Some m → lines look node [] more [] (shown_of look.known d 0 [] [] [] p) ≡ tree_text look node more d p
text-sought look None m more d p e = absurd cc
text-sought look (Some k) m more d p e = refl
