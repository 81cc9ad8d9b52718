-- Direct parts where they stand.
use Rattle.std.proofs.Common.{ℕ, zero, suc, ◌<◌, ◌≤◌, ◌≡◌, ◌==◌, true, false, List, [], ◌∷◌, ◌++◌, length, map, get_or, Some, None, option_map, refl, sym, ap, ◌∙◌, arith}
use Rattle.std.specs.Prelude.{if◌then◌else◌, slice_get, OnOk, Result}
use Rattle.std.proofs.lemmas.Result.{on_ok_weaker}
use Rattle.fy_base.specs.Outside.{Bytes}
use Rattle.std.proofs.lemmas.List.{length-map}
use Rattle.std.proofs.lemmas.Option.{slice_get-map, slice_get_past, slice_get_read}
use Rattle.fy_types.specs.Paths.{PlainPaths, paths}
use Rattle.fy_base.specs.declared.data.Place.{Place}
use Rattle.fy_types.specs.Types.{PlainType, no_types, and_type}
use Rattle.fy_phrase.specs.Reads.{reads}
use Rattle.fy_phrase.specs.Tree.{Tree, Trees, no_trees, and_tree, var, lit, unary, binary, cond, case, lam, app, field, sel, merge, let_in, rec, skip, seq, assign, while_do, forever, new, cells, escape, accept, put, read, mark}
use Rattle.fy_show.specs.Entries.{Scope, Known}
use Rattle.fy_show.specs.Fresh.{bound}
use Rattle.fy_causes.specs.declared.parts.Part.{Part}
use Rattle.fy_causes.specs.Occurrences.{Variable, bound_by, Occurrence, occurs, each_occurs, parts_of}
use Rattle.fy_causes.specs.declared.told.Explained.{Explained as KnownExplained}
use Rattle.fy_causes.specs.Readings.{around_read, explained_read, part_at}
use Rattle.fy_why.specs.Sentences.{part_text, phrase_of, phrase_told, scope_of}
use Rattle.fy_why.specs.Readings.{is_under_binder}

same_some : {A : Type 0} (a b : A) → Some a ≡ Some b → a ≡ b
same_some a b e = cc

no_some : {A : Type 0} (a : A) → None ≡ Some a → ⊥
no_some a e = cc

-- the names in scope at a part, which may stand under the phrase's binder
abbrev pub names_at : Known → List Variable → Tree → ℕ → Scope
names_at k G p i = if is_under_binder p i then bound k (scope_of k G) p ∷ scope_of k G else scope_of k G

-- the names of what stands in the same scope, and of what stands under the binder
here : (k : Known) (G : List Variable) (q : Tree) (o : Occurrence) → Some (occurs G q) ≡ Some o → scope_of k o.around ≡ scope_of k G
here k G q o e = ap (λ (x : Occurrence). scope_of k x.around) (sym (same_some (occurs G q) o e))

below : (k : Known) (G : List Variable) (p q : Tree) (P : PlainPaths) (o : Occurrence) → Some (occurs (bound_by p P ∷ G) q) ≡ Some o → scope_of k o.around ≡ bound k (scope_of k G) p ∷ scope_of k G
below k G p q P o e = ap (λ (x : Occurrence). scope_of k x.around) (sym (same_some (occurs (bound_by p P ∷ G) q) o e))

each_here : (k : Known) (G : List Variable) (ps : Trees) (i : ℕ) (o : Occurrence) → slice_get (each_occurs G ps) i ≡ Some o → scope_of k o.around ≡ scope_of k G
each_here k G no_trees i o e = absurd (no_some o e)
each_here k G (and_tree p ps) zero o e = here k G p o e
each_here k G (and_tree p ps) (suc i) o e = each_here k G ps i o e

one_here : (k : Known) (G : List Variable) (q : Tree) (i : ℕ) (o : Occurrence) → slice_get (occurs G q ∷ []) i ≡ Some o → scope_of k o.around ≡ scope_of k G
one_here k G q zero o e = here k G q o e
one_here k G q (suc i) o e = absurd (no_some o e)

two_here : (k : Known) (G : List Variable) (q r : Tree) (i : ℕ) (o : Occurrence) → slice_get (occurs G q ∷ occurs G r ∷ []) i ≡ Some o → scope_of k o.around ≡ scope_of k G
two_here k G q r zero o e = here k G q o e
two_here k G q r (suc i) o e = one_here k G r i o e

three_here : (k : Known) (G : List Variable) (q r s : Tree) (i : ℕ) (o : Occurrence) → slice_get (occurs G q ∷ occurs G r ∷ occurs G s ∷ []) i ≡ Some o → scope_of k o.around ≡ scope_of k G
three_here k G q r s zero o e = here k G q o e
three_here k G q r s (suc i) o e = two_here k G r s i o e

one_below : (k : Known) (G : List Variable) (p q : Tree) (P : PlainPaths) (i : ℕ) (o : Occurrence) → slice_get (occurs (bound_by p P ∷ G) q ∷ []) i ≡ Some o →
    scope_of k o.around ≡ bound k (scope_of k G) p ∷ scope_of k G
one_below k G p q P zero o e = below k G p q P o e
one_below k G p q P (suc i) o e = absurd (no_some o e)

-- the second of two stands under the binder
then_below : (k : Known) (G : List Variable) (p q r : Tree) (P : PlainPaths) (i : ℕ) (o : Occurrence) → slice_get (occurs G q ∷ occurs (bound_by p P ∷ G) r ∷ []) i ≡ Some o →
    scope_of k o.around ≡ (if i == 1 then bound k (scope_of k G) p ∷ scope_of k G else scope_of k G)
then_below k G p q r P zero o e = here k G q o e
then_below k G p q r P (suc zero) o e = below k G p r P o e
then_below k G p q r P (suc (suc i)) o e = absurd (no_some o e)

-- the names in scope at the part with the index: a row a form
pub part-names : (k : Known) (G : List Variable) (p : Tree) (i : ℕ) (o : Occurrence) → slice_get (parts_of G p) i ≡ Some o → scope_of k o.around ≡ names_at k G p i
part-names k G (var n at) i o e = absurd (no_some o e)
part-names k G (lit v at) i o e = absurd (no_some o e)
part-names k G (unary op q at) i o e = one_here k G q i o e
part-names k G (binary op q r at) i o e = two_here k G q r i o e
part-names k G (cond b q r at) i o e = three_here k G b q r i o e
part-names k G (case x ps at) zero o e = here k G x o e
part-names k G (case x ps at) (suc i) o e = each_here k G ps i o e
part-names k G (lam d no_types b at) i o e = absurd (no_some o e)
part-names k G (lam d (and_type A As) b at) i o e = one_below k G (lam d (and_type A As) b at) b (paths A) i o e
part-names k G (app q r at) i o e = two_here k G q r i o e
part-names k G (field j q at) i o e = one_here k G q i o e
part-names k G (sel q j at) i o e = one_here k G q i o e
part-names k G (merge q r at) i o e = two_here k G q r i o e
part-names k G (let_in d q b at) i o e = then_below k G (let_in d q b at) q b _ i o e
part-names k G (rec d T b at) i o e = one_below k G (rec d T b at) b (paths T) i o e
part-names k G (skip at) i o e = absurd (no_some o e)
part-names k G (seq q r at) i o e = two_here k G q r i o e
part-names k G (assign q r at) i o e = two_here k G q r i o e
part-names k G (while_do q r at) i o e = two_here k G q r i o e
part-names k G (forever q at) i o e = one_here k G q i o e
part-names k G (new d D q b at) i o e = then_below k G (new d D q b at) q b _ i o e
part-names k G (cells d q b at) i o e = then_below k G (cells d q b at) q b _ i o e
part-names k G (escape d b at) i o e = one_below k G (escape d b at) b _ i o e
part-names k G (accept d D b at) i o e = one_below k G (accept d D b at) b _ i o e
part-names k G (put kind q at) i o e = one_here k G q i o e
part-names k G (read q at) i o e = one_here k G q i o e
part-names k G (mark m at) i o e = absurd (no_some o e)

-- ---- parts by their index

pub part-here : (xs : List Part) (i : ℕ) (x : Part) → i < length xs → x ≡ get_or xs i x → slice_get (map part_at xs) i ≡ Some (part_at x)
part-here xs i x within is = slice_get-map part_at xs i ∙ ap (option_map part_at) (slice_get_read xs (length xs) i x refl within is)

pub part-past : (xs : List Part) (i : ℕ) → length xs ≤ i → slice_get (map part_at xs) i ≡ None
part-past xs i past = slice_get-map part_at xs i ∙ ap (option_map part_at) (slice_get_past xs i past)

-- the phrase of a part that isn't under the binder, and of one that is
pub part-told : (k : Known) (G : List Variable) (p : Tree) (xs : List Part) (i : ℕ) (x : Part) → map part_at xs ≡ parts_of G p → i < length xs → x ≡ get_or xs i x → is_under_binder p i ≡ false →
    phrase_of k (slice_get (map part_at xs) i) ≡ phrase_told k (scope_of k G) (reads x.at.phrase.now)
part-told k G p xs i x are within is not =
    let at = part-here xs i x within is in
    ap (phrase_of k) at
    ∙ ap (λ (s : Scope). phrase_told k s (reads x.at.phrase.now))
    (part-names k G p i (part_at x) (sym (ap (λ os. slice_get os i) are) ∙ at) ∙ ap (λ b. if b then bound k (scope_of k G) p ∷ scope_of k G else scope_of k G) not)

pub part-told-under : (k : Known) (G : List Variable) (p : Tree) (xs : List Part) (i : ℕ) (x : Part) → map part_at xs ≡ parts_of G p → i < length xs → x ≡ get_or xs i x → is_under_binder p i ≡ true →
    phrase_of k (slice_get (map part_at xs) i) ≡ phrase_told k (bound k (scope_of k G) p ∷ scope_of k G) (reads x.at.phrase.now)
part-told-under k G p xs i x are within is under =
    let at = part-here xs i x within is in
    ap (phrase_of k) at
    ∙ ap (λ (s : Scope). phrase_told k s (reads x.at.phrase.now))
    (part-names k G p i (part_at x) (sym (ap (λ os. slice_get os i) are) ∙ at) ∙ ap (λ b. if b then bound k (scope_of k G) p ∷ scope_of k G else scope_of k G) under)

-- the names in scope at a part
pub part-scope : (k : Known) (G : List Variable) (p : Tree) (xs : List Part) (i : ℕ) (x : Part) → map part_at xs ≡ parts_of G p → i < length xs → x ≡ get_or xs i x →
    scope_of k (around_read x.at.around.value) ≡ names_at k G p i
part-scope k G p xs i x are within is = part-names k G p i (part_at x) (sym (ap (λ os. slice_get os i) are) ∙ part-here xs i x within is)

-- a phrase that is put with the names of another view
pub put-phrase : {X E : Type 0} (r : Result X E) (V T t : Bytes) (k l : Known) (s z : Scope) (q : Tree) → OnOk r (V ≡ T ++ phrase_told l z q) → l ≡ k → z ≡ s → phrase_told k s q ≡ t → OnOk r (V ≡ T ++ t)
put-phrase r V T t k l s z q o e f g =
    on_ok_weaker r
    (λ (v : V ≡ T ++ phrase_told l z q).
    v ∙ (ap (λ (x : Known). T ++ phrase_told x z q) e ∙ (ap (λ (x : Scope). T ++ phrase_told k x q) f ∙ ap (λ (x : Bytes). T ++ x) g)))
    o

-- the text of a part of what is explained
pub told-here : (k : Known) (e : KnownExplained) (i : ℕ) (x : Part) (s : Scope) → s ≡ scope_of k (around_read e.at.around.value) →
    map part_at e.parts.items ≡ parts_of (around_read e.at.around.value) (reads e.at.phrase.now) → i < length e.parts.items → x ≡ get_or e.parts.items i x →
    is_under_binder (reads e.at.phrase.now) i ≡ false → phrase_told k s (reads x.at.phrase.now) ≡ part_text k (explained_read e) i
told-here k e i x s same are within is not =
    ap (λ (z : Scope). phrase_told k z (reads x.at.phrase.now)) same
    ∙ sym (part-told k (around_read e.at.around.value) (reads e.at.phrase.now) e.parts.items i x are within is not)

pub told-under : (k : Known) (e : KnownExplained) (i : ℕ) (x : Part) (s : Scope) → s ≡ scope_of k (around_read e.at.around.value) →
    map part_at e.parts.items ≡ parts_of (around_read e.at.around.value) (reads e.at.phrase.now) → i < length e.parts.items → x ≡ get_or e.parts.items i x →
    is_under_binder (reads e.at.phrase.now) i ≡ true → phrase_told k (bound k s (reads e.at.phrase.now) ∷ s) (reads x.at.phrase.now) ≡ part_text k (explained_read e) i
told-under k e i x s same are within is under =
    ap (λ (z : Scope). phrase_told k (bound k z (reads e.at.phrase.now) ∷ z) (reads x.at.phrase.now)) same
    ∙ sym (part-told-under k (around_read e.at.around.value) (reads e.at.phrase.now) e.parts.items i x are within is under)

-- the one part of a `letrec` stands under its binder
pub rec-around : (G : List Variable) (p : Tree) (d : ℕ) (T : PlainType) (b : Tree) (at : Place) (xs : List Part) (x : Part) → p ≡ rec d T b at → map part_at xs ≡ parts_of G p → 0 < length xs → x ≡ get_or xs 0 x →
    around_read x.at.around.value ≡ bound_by (rec d T b at) (paths T) ∷ G
rec-around G p d T b at xs x is are within same =
    ap (λ (o : Occurrence). o.around)
    (same_some (part_at x) (occurs (bound_by (rec d T b at) (paths T) ∷ G) b)
    (sym (part-here xs 0 x within same) ∙ ap (λ os. slice_get os 0) (are ∙ ap (parts_of G) is)))

pub rec-some : (G : List Variable) (p : Tree) (d : ℕ) (T : PlainType) (b : Tree) (at : Place) (xs : List Part) → p ≡ rec d T b at → map part_at xs ≡ parts_of G p → 0 < length xs
rec-some G p d T b at xs is are = omega (arith, sym (length-map xs part_at) ∙ ap length (are ∙ ap (parts_of G) is))
