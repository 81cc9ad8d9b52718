-- What the core phrases of some written forms measure.
use Rattle.std.proofs.Common.{◌≡◌, ℕ, suc, ◌+◌, ◌<◌, List, ◌∷◌, length, get_or, map, drop, sym, ap, ◌∙◌}
use Rattle.std.proofs.lemmas.List.{at_drop_more}
use Rattle.fy_base.specs.declared.data.Place.{Place}
use Rattle.fy_syntax.specs.declared.surface.Def.{Def, out-Def}
use Rattle.fy_syntax.specs.Trees.{DeclTree, Defs}
use Rattle.fy_syntax.specs.Trees as written
use Rattle.fy_syntax.specs.Reading.{DefTree, def_of, defs_from, tree_of}
use Rattle.fy_syntax.proofs.ReadLemmas.{def_of-at}
use Rattle.fy_phrase.specs.Tree.{Tree, let_in, rec}
use Rattle.fy_expand.specs.declared.size.Size.{Size}
use Rattle.fy_expand.specs.Scope.{Scope, behind, under_members}
use Rattle.fy_expand.specs.Core.{core, declared, meet_of, all_fields}
use Rattle.fy_phrase.specs.Sizes.{nesting}
use Rattle.fy_phrase.specs.CoreLimits.{size_of}
use Rattle.fy_expand.specs.Measures.{measure, type_measure, over, with_nodes, under_nodes, grouped_all, fields_measures, defs_measures}
use Rattle.fy_expand.specs.Frames.{behind_all}
use Rattle.fy_expand.proofs.MeasureLemmas.{over-capped, measure-rec, measure-all_fields}

measure-let_in : (d : ℕ) (p q : Tree) (at : Place) → measure (let_in d p q at) ≡ over (measure p) (measure q)
measure-let_in d p q at = sym (over-capped (size_of p) (nesting p) (size_of q) (nesting q))

pub measure-letrec : (s : Scope) (decls : List DeclTree) (defs : Defs) (in_at : Place) (p : written.Tree) (at : Place) →
    measure (core s (written.Tree.letrec decls defs in_at p at))
    ≡ over (with_nodes (type_measure (meet_of (declared s.types decls))).nodes (under_nodes 1 (grouped_all (fields_measures (under_members decls s) defs)))) (measure (core (under_members decls s) p))
measure-letrec s decls defs in_at p at =
    let inner = under_members decls s in
    let type = meet_of (declared s.types decls) in
    measure-let_in s.depth (rec s.depth type (all_fields inner at defs) at) (core inner p) at
    ∙ ap (λ m. over m (measure (core inner p)))
    (measure-rec s.depth type (all_fields inner at defs) at ∙ ap (λ m. with_nodes (type_measure type).nodes (under_nodes 1 m)) (measure-all_fields inner at defs))

-- one more definition of a `let`
pub defs_measures-more : (s : Scope) (xs : List Def) (i j : ℕ) (x : Def) → j ≡ suc i → i < length xs → x ≡ get_or xs i x →
    defs_measures (behind_all i s) (defs_from (map def_of (drop i xs)))
    ≡ measure (core (behind_all i s) (tree_of (out-Def x).body)) ∷ defs_measures (behind_all j s) (defs_from (map def_of (drop (i + 1) xs)))
defs_measures-more s xs i j x next h is =
    let here = behind_all i s in
    let measures : List Def → List Size = λ ys. defs_measures here (defs_from (map def_of ys)) in
    let rest = defs_from (map def_of (drop (i + 1) xs)) in
    at_drop_more measures xs i x h
    ∙ ap (λ y. measures (y ∷ drop (i + 1) xs)) (sym is)
    ∙ ap (λ (t : DefTree). measure (core here t.body) ∷ defs_measures (behind here) rest) (def_of-at x)
    ∙ ap (λ k. measure (core here (tree_of (out-Def x).body)) ∷ defs_measures (behind_all k s) rest) (sym next)
