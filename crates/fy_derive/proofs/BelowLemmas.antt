-- Numbers of a table against one type.
use Rattle.std.proofs.Common.{ℕ, ◌+◌, ◌<◌, ◌≤◌, ◌≡◌, ◌≢◌, ◌↔◌, Bool, true, false, IsTrue, List, [], ◌∷◌, ◌++◌, length, get_or, take, drop, refl, sym, ap, ◌∙◌, subst}
use Rattle.std.proofs.lemmas.List.{take_more, drop_more}
use Rattle.std.proofs.lemmas.List.Elements.{All-push}
use Rattle.fy_types.specs.declared.types.Atom.{Atom}
use Rattle.fy_types.specs.Types.{PlainType, atom, arrow, field}
use Rattle.fy_types.specs.Paths.{PlainPath, PlainPaths, no_paths, and_path, end, call, pick, append, called, picked, paths}
use Rattle.fy_types.specs.PathOrder.{ArePathsBelow, HasBelow}
use Rattle.fy_types.specs.Rests.{Adds}
use Rattle.fy_types.proofs.Order.{ArePathsBelow-trans}
use Rattle.fy_types.proofs.RestLemmas.{Adds-nothing, Adds-then, Adds-arrow, Adds-field, none-after_end, no_pick-after_end, no_pick-called, no_end-called, no_call-picked, no_end-picked, call-split, pick-split, called-iff, picked-iff, end-iff}
use Rattle.fy_derive.specs.declared.node.TypeNode.{TypeNode}
use Rattle.fy_derive.specs.declared.node.TypeNode.TheVariants as node
use Rattle.fy_derive.specs.declared.table.TypeTable.{TypeTable}
use Rattle.fy_derive.specs.Tables.{node_type}
use Rattle.fy_derive.specs.Shown.{shown, types_in}
use Rattle.fy_derive.specs.Covers.{covered, AreAlike, AreUnder, is_single}
use Rattle.fy_derive.specs.Subsumption.{paths_below}
use Rattle.fy_derive.proofs.SubsumptionLemmas.{paths_below-iff}
use Rattle.fy_derive.proofs.CoverLemmas.{covered-push}

-- a test of one list decides the same of a list that is alike
pub alike-test : (r : Bool) (L M Z : PlainPaths) → AreAlike M L → (IsTrue r ↔ ArePathsBelow M Z) → IsTrue r ↔ ArePathsBelow L Z
alike-test r L M Z s h = (λ t. ArePathsBelow-trans M s.from (h.0 t), λ k. h.1 (ArePathsBelow-trans L s.to k))

pub end-test : (r : Bool) (L M : PlainPaths) (B : PlainType) (e : Atom) → B ≡ atom e → AreAlike M L → (IsTrue r ↔ HasBelow M (end e)) →
    IsTrue r ↔ ArePathsBelow L (paths B)
end-test r L M B e b s h =
    subst (λ C. IsTrue r ↔ ArePathsBelow L (paths C)) (sym b)
    (alike-test r L M (and_path (end e) no_paths) s (λ t. (end-iff M e).1 (h.0 t), λ k. h.1 ((end-iff M e).0 k)))

pub call-test : (r : Bool) (L M R : PlainPaths) (B X Y : PlainType) → B ≡ arrow X Y → AreAlike M L → Adds (call (paths X)) no_paths R M →
    (IsTrue r ↔ ArePathsBelow R (paths Y)) → IsTrue r ↔ ArePathsBelow L (paths B)
call-test r L M R B X Y b s x h =
    let same = called-iff M R (paths X) (paths Y) x in
    subst (λ C. IsTrue r ↔ ArePathsBelow L (paths C)) (sym b)
    (alike-test r L M (called (paths X) (paths Y)) s (λ t. same.1 (h.0 t), λ k. h.1 (same.0 k)))

pub pick-test : (r : Bool) (L M R : PlainPaths) (B : PlainType) (i : ℕ) (Y : PlainType) → B ≡ field i Y → AreAlike M L → Adds (pick i) no_paths R M →
    (IsTrue r ↔ ArePathsBelow R (paths Y)) → IsTrue r ↔ ArePathsBelow L (paths B)
pick-test r L M R B i Y b s x h =
    let same = picked-iff M R i (paths Y) x in
    subst (λ C. IsTrue r ↔ ArePathsBelow L (paths C)) (sym b)
    (alike-test r L M (picked i (paths Y)) s (λ t. same.1 (h.0 t), λ k. h.1 (same.0 k)))

pub test-same : (r : Bool) (P Q : PlainPaths) → (IsTrue r ↔ ArePathsBelow P Q) → r ≡ paths_below P Q
test-same r P Q h = cases r (paths_below P Q) h (paths_below-iff P Q)
  where
    cases : (r s : Bool) → (IsTrue r ↔ ArePathsBelow P Q) → (IsTrue s ↔ ArePathsBelow P Q) → r ≡ s
    cases true true h k = refl
    cases true false h k = sym (k.1 (h.0 refl))
    cases false true h k = h.1 (k.0 refl)
    cases false false h k = refl

-- one number more
pub covered-next : (t : TypeTable) (ks : List ℕ) (i : ℕ) → i < length ks →
    covered t (take (i + 1) ks) ≡ append (covered t (take i ks)) (paths (shown t (get_or ks i 0)))
covered-next t ks i h = ap (covered t) (take_more ks i 0 h) ∙ covered-push t (take i ks) (get_or ks i 0)

pub covered-left : (t : TypeTable) (ks : List ℕ) (i : ℕ) → i < length ks →
    covered t (drop i ks) ≡ append (paths (shown t (get_or ks i 0))) (covered t (drop (i + 1) ks))
covered-left t ks i h = ap (covered t) (drop_more ks i 0 h)

-- a member that adds nothing
pub adds-skip : (t : TypeTable) (f : PlainPath → PlainPath) (ks ms : List ℕ) (i : ℕ) → i < length ks → Adds f no_paths (covered t ms) (covered t (take i ks)) →
    ((q : PlainPath) → HasBelow (paths (shown t (get_or ks i 0))) (f q) → ⊥) → Adds f no_paths (covered t ms) (covered t (take (i + 1) ks))
adds-skip t f ks ms i h s none =
    subst (Adds f no_paths (covered t ms)) (sym (covered-next t ks i h))
    (Adds-then f no_paths (covered t ms) (covered t ms) (covered t (take i ks)) (paths (shown t (get_or ks i 0))) s
    (Adds-nothing f (covered t ms) (paths (shown t (get_or ks i 0))) none))

-- a member that adds a rest
pub adds-push : (t : TypeTable) (f : PlainPath → PlainPath) (ks ms now : List ℕ) (i r : ℕ) → i < length ks → now ≡ ms ++ r ∷ [] →
    Adds f no_paths (covered t ms) (covered t (take i ks)) →
    Adds f (covered t ms) (append (covered t ms) (paths (shown t r))) (paths (shown t (get_or ks i 0))) → Adds f no_paths (covered t now) (covered t (take (i + 1) ks))
adds-push t f ks ms now i r h e s one =
    subst (λ ns. Adds f no_paths (covered t ns) (covered t (take (i + 1) ks))) (sym e)
    (subst (λ P. Adds f no_paths P (covered t (take (i + 1) ks))) (sym (covered-push t ms r))
    (subst (Adds f no_paths (append (covered t ms) (paths (shown t r)))) (sym (covered-next t ks i h))
    (Adds-then f no_paths (covered t ms) (append (covered t ms) (paths (shown t r))) (covered t (take i ks)) (paths (shown t (get_or ks i 0))) s one)))

pub adds-arrow : (t : TypeTable) (A : PlainPaths) (k d r : ℕ) (X : PlainPaths) → shown t k ≡ arrow (shown t d) (shown t r) → ArePathsBelow X (paths (shown t d)) →
    Adds (call X) A (append A (paths (shown t r))) (paths (shown t k))
adds-arrow t A k d r X e low = rw e (Adds-arrow A (paths (shown t d)) (paths (shown t r)) X low)

pub adds-field : (t : TypeTable) (A : PlainPaths) (k r i : ℕ) → shown t k ≡ field i (shown t r) → Adds (pick i) A (append A (paths (shown t r))) (paths (shown t k))
adds-field t A k r i e = rw e (Adds-field A (paths (shown t r)) i)

-- an arrow whose domain isn't above the argument has no rest
pub no_call-apart : (t : TypeTable) (k d r : ℕ) (X : PlainPaths) → shown t k ≡ arrow (shown t d) (shown t r) → (ArePathsBelow X (paths (shown t d)) → ⊥) →
    (q : PlainPath) → HasBelow (paths (shown t k)) (call X q) → ⊥
no_call-apart t k d r X e apart q some =
    apart (call-split (paths (shown t d)) (paths (shown t r)) (subst (λ A. HasBelow (paths A) (call X q)) e some)).0

pub no_pick-apart : (t : TypeTable) (k r i j : ℕ) → shown t k ≡ field i (shown t r) → j ≢ i → (q : PlainPath) → HasBelow (paths (shown t k)) (pick j q) → ⊥
no_pick-apart t k r i j e apart q some = apart (sym (pick-split i (paths (shown t r)) (subst (λ A. HasBelow (paths A) (pick j q)) e some)).0)

-- nor has a node that is no arrow
no_call-other : (t : TypeTable) (n : TypeNode) (X : PlainPaths) → is_single n ≡ true → ((d r : ℕ) → n ≢ node.Arrow d r) →
    (q : PlainPath) → HasBelow (paths (node_type (types_in t) n)) (call X q) → ⊥
no_call-other t node.Ns X f h q s = elim s [ ]
no_call-other t (node.Atom a) X f h q s = none-after_end s
no_call-other t (node.Arrow d r) X f h q s = h d r refl
no_call-other t (node.Field i r) X f h q s = no_call-picked i (paths (shown t r)) s
no_call-other t node.NoTypes X f h q s = elim s [ ]
no_call-other t (node.AndType m r) X f h q s = absurd cc

pub no_call-node : (t : TypeTable) (k : ℕ) (n m : TypeNode) (X : PlainPaths) → shown t k ≡ node_type (types_in t) n → n ≡ m → is_single m ≡ true →
    ((d r : ℕ) → n ≢ node.Arrow d r) → (q : PlainPath) → HasBelow (paths (shown t k)) (call X q) → ⊥
no_call-node t k n m X s g f h q some = no_call-other t n X (ap is_single g ∙ f) h q (subst (λ B. HasBelow (paths B) (call X q)) s some)

no_pick-other : (t : TypeTable) (n : TypeNode) (j : ℕ) → is_single n ≡ true → ((i r : ℕ) → n ≢ node.Field i r) →
    (q : PlainPath) → HasBelow (paths (node_type (types_in t) n)) (pick j q) → ⊥
no_pick-other t node.Ns j f h q s = elim s [ ]
no_pick-other t (node.Atom a) j f h q s = no_pick-after_end s
no_pick-other t (node.Arrow d r) j f h q s = no_pick-called (paths (shown t d)) (paths (shown t r)) s
no_pick-other t (node.Field i r) j f h q s = h i r refl
no_pick-other t node.NoTypes j f h q s = elim s [ ]
no_pick-other t (node.AndType m r) j f h q s = absurd cc

pub no_pick-node : (t : TypeTable) (k : ℕ) (n m : TypeNode) (j : ℕ) → shown t k ≡ node_type (types_in t) n → n ≡ m → is_single m ≡ true →
    ((i r : ℕ) → n ≢ node.Field i r) → (q : PlainPath) → HasBelow (paths (shown t k)) (pick j q) → ⊥
no_pick-node t k n m j s g f h q some = no_pick-other t n j (ap is_single g ∙ f) h q (subst (λ B. HasBelow (paths B) (pick j q)) s some)

no_end-other : (t : TypeTable) (n : TypeNode) (e : Atom) → is_single n ≡ true → ((a : Atom) → n ≢ node.Atom a) →
    HasBelow (paths (node_type (types_in t) n)) (end e) → ⊥
no_end-other t node.Ns e f h s = elim s [ ]
no_end-other t (node.Atom a) e f h s = h a refl
no_end-other t (node.Arrow d r) e f h s = no_end-called (paths (shown t d)) (paths (shown t r)) s
no_end-other t (node.Field i r) e f h s = no_end-picked i (paths (shown t r)) s
no_end-other t node.NoTypes e f h s = elim s [ ]
no_end-other t (node.AndType m r) e f h s = absurd cc

pub no_end-node : (t : TypeTable) (k : ℕ) (n m : TypeNode) (e : Atom) → shown t k ≡ node_type (types_in t) n → n ≡ m → is_single m ≡ true →
    ((a : Atom) → n ≢ node.Atom a) → HasBelow (paths (shown t k)) (end e) → ⊥
no_end-node t k n m e s g f h some = no_end-other t n e (ap is_single g ∙ f) h (subst (λ B. HasBelow (paths B) (end e)) s some)

pub AreUnder-push : (bound : ℕ) (ks ms : List ℕ) (k : ℕ) → ms ≡ ks ++ k ∷ [] → AreUnder bound ks → k ≤ bound → AreUnder bound ms
AreUnder-push bound ks ms k e h l = subst (AreUnder bound) (sym e) (record { each = All-push (λ n. n ≤ bound) ks k h.each l })
