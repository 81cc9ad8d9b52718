-- What the core phrases of written ones measure.
use Rattle.std.proofs.Common.{◌≡◌, ℕ, suc, ◌+◌, ◌-◌, ◌≤◌, if◌then◌else◌, max, List, [], ◌∷◌, length, map, refl, sym, ap, ◌∙◌, arith}
use Rattle.fy_base.specs.Outside.{Bytes}
use Rattle.fy_base.specs.declared.data.Place.{Place}
use Rattle.fy_base.specs.declared.data.PutKind.TheVariants as kind
use Rattle.fy_types.specs.declared.types.Atom.TheVariants as atom
use Rattle.fy_types.specs.Types.{PlainType, PlainTypes}
use Rattle.fy_syntax.specs.declared.surface.Prefixed.{Prefixed}
use Rattle.fy_syntax.specs.Trees.{Defs, Links}
use Rattle.fy_syntax.specs.Trees as written
use Rattle.fy_phrase.specs.Tree.{Tree, Trees, var, binary, app, merge, field, sel, lam, let_in, rec, put, read}
use Rattle.fy_expand.specs.declared.size.Size.{Size}
use Rattle.fy_expand.specs.Scope.{Scope, behind}
use Rattle.fy_expand.specs.Core.{core, linked, applied, merged, merged_all, lets, all_fields, with_fields, prefixed, selected, parts_of, letters, text_parts, indexed, Item, items_of, one_after, no_item, by_halves, sequence, one_type, provided, cell_maker, in_prelude}
use Rattle.fy_phrase.specs.Sizes.{nesting, all_nesting}
use Rattle.fy_phrase.specs.CoreLimits.{size_of, parts_size}
use Rattle.fy_expand.specs.Measures.{capped_size, measure, parts_measure, under_nodes, over, grouped, grouped_all, trees_measures, links_measures, fields_measures, defs_measures, nested, text_measure, indexed_measure, halved, leaf, all_beside, beside, with_nodes, types_measure, type_measure, procedure, maker, prelude_measure}
use Rattle.fy_expand.proofs.HalvesLemmas.{by_halves-map}
use Rattle.std.proofs.lemmas.Bool.{ne_eqb}
use Rattle.std.proofs.lemmas.List.{length-map}

abbrev pub sized : ℕ → ℕ → Size
sized a b = record { nodes = a; nesting = b }

pub same_size : (a b c d : ℕ) → a ≡ c → b ≡ d → sized a b ≡ sized c d
same_size a b c d p q = ap (λ x. sized x b) p ∙ ap (λ y. sized c y) q

-- a node over two parts
pub over-capped : (m k n l : ℕ) → over (capped_size m k) (capped_size n l) ≡ capped_size (suc (m + n)) (1 + max k l)
over-capped m k n l = same_size _ _ _ _ (omega arith) (omega arith)

-- a node over one part
pub under-capped : (m k n : ℕ) → under_nodes n (capped_size m k) ≡ capped_size (m + n) (k + n)
under-capped m k n = same_size _ _ _ _ (omega arith) (omega arith)

beside-capped : (m k n l : ℕ) → capped_size (m + n) (max k l) ≡ beside (capped_size m k) (capped_size n l)
beside-capped m k n l = same_size _ _ _ _ (omega arith) (omega arith)

pub measure-linked : (s : Scope) (p : Tree) (links : Links) → measure (linked s p links) ≡ grouped (measure p) (links_measures s links)
measure-linked s p Links.no_links = refl
measure-linked s p (Links.and_link op at q more) =
    measure-linked s (binary op p (core s q) at) more
    ∙ ap (λ m. grouped m (links_measures s more)) (sym (over-capped (size_of p) (nesting p) (size_of (core s q)) (nesting (core s q))))

pub measure-applied : (s : Scope) (at : Place) (p : Tree) (arguments : written.Trees) → measure (applied s at p arguments) ≡ grouped (measure p) (trees_measures s arguments)
measure-applied s at p written.Trees.no_trees = refl
measure-applied s at p (written.Trees.and_tree q more) =
    measure-applied s at (app p (core s q) at) more
    ∙ ap (λ m. grouped m (trees_measures s more)) (sym (over-capped (size_of p) (nesting p) (size_of (core s q)) (nesting (core s q))))

measure-merged : (s : Scope) (at : Place) (p : Tree) (members : written.Trees) → measure (merged s at p members) ≡ grouped (measure p) (trees_measures s members)
measure-merged s at p written.Trees.no_trees = refl
measure-merged s at p (written.Trees.and_tree q more) =
    measure-merged s at (merge p (core s q) at) more
    ∙ ap (λ m. grouped m (trees_measures s more)) (sym (over-capped (size_of p) (nesting p) (size_of (core s q)) (nesting (core s q))))

pub measure-merged_all : (s : Scope) (at : Place) (members : written.Trees) → measure (merged_all s at members) ≡ grouped_all (trees_measures s members)
measure-merged_all s at written.Trees.no_trees = refl
measure-merged_all s at (written.Trees.and_tree p more) = measure-merged s at (core s p) more

measure-field : (s : Scope) (f : ℕ) (p : Tree) (at : Place) → measure (field f p at) ≡ under_nodes 1 (measure p)
measure-field s f p at = same_size _ _ _ _ (omega arith) (omega arith)

measure-with_fields : (s : Scope) (at : Place) (p : Tree) (defs : Defs) → measure (with_fields s at p defs) ≡ grouped (measure p) (fields_measures s defs)
measure-with_fields s at p Defs.no_defs = refl
measure-with_fields s at p (Defs.and_def f here q more) =
    measure-with_fields s at (merge p (field f (core s q) here) at) more
    ∙ ap (λ m. grouped m (fields_measures s more)) (same_size _ _ _ _ (omega arith) (omega arith))

pub measure-all_fields : (s : Scope) (at : Place) (defs : Defs) → measure (all_fields s at defs) ≡ grouped_all (fields_measures s defs)
measure-all_fields s at Defs.no_defs = refl
measure-all_fields s at (Defs.and_def f here p more) =
    measure-with_fields s here (field f (core s p) here) more
    ∙ ap (λ m. grouped m (fields_measures s more)) (measure-field s f (core s p) here)

pub measure-lets : (s : Scope) (at : Place) (defs : Defs) (body : Tree) → measure (lets s at defs body) ≡ nested (defs_measures s defs) (measure body)
measure-lets s at Defs.no_defs body = refl
measure-lets s at (Defs.and_def x here p more) body =
    sym (over-capped (size_of (core s p)) (nesting (core s p)) (size_of (lets (behind s) at more body)) (nesting (lets (behind s) at more body)))
    ∙ ap (λ m. over (measure (core s p)) m) (measure-lets (behind s) at more body)

pub measure-prefixed : (operators : List Prefixed) (p : Tree) → measure (prefixed operators p) ≡ under_nodes (length operators) (measure p)
measure-prefixed [] p = same_size _ _ _ _ (omega arith) (omega arith)
measure-prefixed (o ∷ operators) p =
    let nodes = ap (λ (x : Size). x.nodes) (measure-prefixed operators p) in
    let nests = ap (λ (x : Size). x.nesting) (measure-prefixed operators p) in
    same_size _ _ _ _ (omega arith) (omega arith)

measure-joined : (a b : Item) → measure (one_after a b).phrase ≡ over (measure a.phrase) (measure b.phrase)
measure-joined a b = sym (over-capped (size_of a.phrase) (nesting a.phrase) (size_of b.phrase) (nesting b.phrase))

trees_measures-items : (s : Scope) (trees : written.Trees) → map (λ (i : Item). measure i.phrase) (items_of s trees) ≡ trees_measures s trees
trees_measures-items s written.Trees.no_trees = refl
trees_measures-items s (written.Trees.and_tree p more) = ap (λ ms. measure (core s p) ∷ ms) (trees_measures-items s more)

pub measure-sequence : (s : Scope) (at : Place) (trees : written.Trees) → measure (sequence at (items_of s trees)) ≡ halved (trees_measures s trees)
measure-sequence s at trees =
    by_halves-map (λ (i : Item). measure i.phrase) one_after over (no_item at) measure-joined (length (items_of s trees)) (items_of s trees)
    ∙ ap (λ n. by_halves over leaf n (map (λ (i : Item). measure i.phrase) (items_of s trees))) (sym (length-map (items_of s trees) (λ (i : Item). measure i.phrase)))
    ∙ ap halved (trees_measures-items s trees)

parts_measure-parts_of : (s : Scope) (trees : written.Trees) → parts_measure (parts_of s trees) ≡ all_beside (trees_measures s trees)
parts_measure-parts_of s written.Trees.no_trees = refl
parts_measure-parts_of s (written.Trees.and_tree p more) =
    beside-capped (size_of (core s p)) (nesting (core s p)) (parts_size (parts_of s more)) (all_nesting (parts_of s more))
    ∙ ap (beside (measure (core s p))) (parts_measure-parts_of s more)

measure-indexed : (d : ℕ) (at : Place) (n : ℕ) (parts : Trees) → measure (indexed d at n parts) ≡ indexed_measure (parts_measure parts)
measure-indexed d at n parts = same_size _ _ _ _ (omega arith) (omega arith)

pub measure-seq_of : (s : Scope) (d : ℕ) (at : Place) (n : ℕ) (trees : written.Trees) → measure (indexed d at n (parts_of s trees)) ≡ indexed_measure (all_beside (trees_measures s trees))
measure-seq_of s d at n trees = measure-indexed d at n (parts_of s trees) ∙ ap indexed_measure (parts_measure-parts_of s trees)

letters-size : (at : Place) (bytes : Bytes) → parts_size (letters at bytes) ≡ length bytes
letters-size at [] = refl
letters-size at (byte ∷ bytes) = omega (arith, letters-size at bytes)

letters-nesting : (at : Place) (bytes : Bytes) → all_nesting (letters at bytes) ≤ 1
letters-nesting at [] = omega arith
letters-nesting at (byte ∷ bytes) = omega (arith, letters-nesting at bytes)

text_measure-suc : (n : ℕ) → text_measure (suc n) ≡ with_nodes n leaf
text_measure-suc n =
    let some : suc n ≡ 0 → ⊥ = λ e. absurd (omega arith) in
    ap (λ b. if b then under_nodes 1 leaf else with_nodes (suc n - 1) leaf) (ne_eqb (suc n) 0 some) ∙ ap (λ k. with_nodes k leaf) (omega arith)

text-measure : (at : Place) (bytes : Bytes) → parts_measure (text_parts at bytes) ≡ text_measure (length bytes)
text-measure at [] = refl
text-measure at (byte ∷ bytes) =
    same_size _ _ _ _ (omega (arith, letters-size at bytes)) (omega (arith, letters-nesting at bytes)) ∙ sym (text_measure-suc (length bytes))

pub measure-string : (d : ℕ) (at : Place) (bytes : Bytes) → measure (indexed d at (length bytes) (text_parts at bytes)) ≡ indexed_measure (text_measure (length bytes))
measure-string d at bytes = measure-indexed d at (length bytes) (text_parts at bytes) ∙ ap indexed_measure (text-measure at bytes)

-- the forms with types
pub measure-lam : (d : ℕ) (As : PlainTypes) (p : Tree) (at : Place) → measure (lam d As p at) ≡ with_nodes (types_measure As).nodes (under_nodes 1 (measure p))
measure-lam d As p at = same_size _ _ _ _ (omega arith) (omega arith)

pub measure-rec : (d : ℕ) (A : PlainType) (p : Tree) (at : Place) → measure (rec d A p at) ≡ with_nodes (type_measure A).nodes (under_nodes 1 (measure p))
measure-rec d A p at = same_size _ _ _ _ (omega arith) (omega arith)

-- a definition around a phrase
measure-defined : (d : ℕ) (p q : Tree) (at : Place) (a : Size) → measure p ≡ a → measure (let_in d p q at) ≡ over a (measure q)
measure-defined d p q at a h = sym (over-capped (size_of p) (nesting p) (size_of q) (nesting q)) ∙ ap (λ m. over m (measure q)) h

-- a program inside the prelude
pub measure-in_prelude : (at : Place) (p : Tree) → measure (in_prelude at p) ≡ prelude_measure (measure p)
measure-in_prelude at p =
    let q4 : Tree = let_in 4 (cell_maker at) p at in
    let q3 : Tree = provided 3 atom.IntAcc (read (var 0 at) at) q4 at in
    let q2 : Tree = provided 2 atom.Bool (put kind.Bool (var 0 at) at) q3 at in
    let q1 : Tree = provided 1 atom.Char (put kind.Char (var 0 at) at) q2 at in
    measure-defined 0 (lam 0 (one_type atom.Int) (put kind.Int (var 0 at) at) at) q1 at procedure (same_size _ _ _ _ (omega arith) (omega arith))
    ∙ ap (over procedure) (measure-defined 1 (lam 1 (one_type atom.Char) (put kind.Char (var 0 at) at) at) q2 at procedure (same_size _ _ _ _ (omega arith) (omega arith))
    ∙ ap (over procedure) (measure-defined 2 (lam 2 (one_type atom.Bool) (put kind.Bool (var 0 at) at) at) q3 at procedure (same_size _ _ _ _ (omega arith) (omega arith))
    ∙ ap (over procedure) (measure-defined 3 (lam 3 (one_type atom.IntAcc) (read (var 0 at) at) at) q4 at procedure (same_size _ _ _ _ (omega arith) (omega arith))
    ∙ ap (over procedure) (measure-defined 4 (cell_maker at) p at maker (same_size _ _ _ _ (omega arith) (omega arith))))))

pub measure-selected : (at : Place) (names : List ℕ) (p : Tree) → measure (selected at p names) ≡ under_nodes (length names) (measure p)
measure-selected at [] p = same_size _ _ _ _ (omega arith) (omega arith)
measure-selected at (i ∷ names) p =
    let nodes = ap (λ (x : Size). x.nodes) (measure-selected at names (sel p i at)) in
    let nests = ap (λ (x : Size). x.nesting) (measure-selected at names (sel p i at)) in
    same_size _ _ _ _ (omega arith) (omega arith)
