-- What stands for names under several binders.
use Rattle.std.proofs.Common.{◌≡◌, ℕ, zero, suc, ◌+◌, ◌<◌, ◌==◌, if◌then◌else◌, Bool, true, false, Bor, rules, List, [], ◌∷◌, length, map, drop, get_or, Option, Some, refl, sym, ap, ◌∙◌, arith}
use Rattle.std.proofs.lemmas.List.{at_drop_more}
use Rattle.std.proofs.lemmas.Bool.{ne_eqb}
use Rattle.fy_syntax.specs.Reading.{DefTree}
use Rattle.fy_syntax.proofs.ReadLemmas.{def_of-at}
use Rattle.std.specs.Option.{option_map}
use Rattle.fy_syntax.specs.declared.surface.Def.{Def, out-Def}
use Rattle.fy_syntax.specs.declared.types.Decl.{Decl}
use Rattle.fy_syntax.specs.declared.types.SurfaceTy.{SurfaceTy}
use Rattle.fy_expand.specs.declared.size.Size.{Size}
use Rattle.fy_expand.specs.declared.frame.Frame.{Frame, the_lemmas}
use Rattle.fy_expand.specs.declared.frame.Frame.TheViews as view
use Rattle.fy_syntax.specs.Trees.{DeclTree, Defs}
use Rattle.fy_syntax.specs.Reading.{def_of, defs_from, decl_tree, type_tree}
use Rattle.fy_expand.specs.declared.frame.Standing.{Standing}
use Rattle.fy_expand.specs.declared.frame.Standing.TheVariants.{Variable, Member}
use Rattle.fy_expand.specs.Scope.{Scope, under, under_defs, under_members, with_type, with_defs, with_members, depth_under}
use Rattle.fy_expand.specs.Measures.{type_measure}
use Rattle.fy_expand.specs.Frames.{AreSized, behind_all, is_member, scope_of, sizes_of}

pub depth_under-defs_from : (d : ℕ) (xs : List Def) → depth_under d (defs_from (map def_of xs)) ≡ d + length xs
depth_under-defs_from d [] = omega arith
depth_under-defs_from d (x ∷ xs) = let e = depth_under-defs_from (suc d) xs in omega arith

pub behind_all-depth : (n : ℕ) (s : Scope) → (behind_all n s).depth ≡ s.depth + n
behind_all-depth zero s = omega arith
behind_all-depth (suc n) s = let e = behind_all-depth n s in omega arith

pub behind_all-phrases : (n : ℕ) (s : Scope) → (behind_all n s).phrases ≡ s.phrases
behind_all-phrases zero s = refl
behind_all-phrases (suc n) s = behind_all-phrases n s

pub behind_all-types : (n : ℕ) (s : Scope) → (behind_all n s).types ≡ s.types
behind_all-types zero s = refl
behind_all-types (suc n) s = behind_all-types n s

-- the older names matter at this name alone
pub with_defs-older : (d : ℕ) (defs : Defs) (older : ℕ → Option Standing) (n : ℕ) → with_defs d defs older n ≡ with_defs d defs (λ _. older n) n
with_defs-older d Defs.no_defs older n = refl
with_defs-older d (Defs.and_def x at p more) older n = ap (λ o. if n == x then Some (Variable d) else o) (with_defs-older (suc d) more older n)

pub with_members-older : (d : ℕ) (decls : List DeclTree) (older : ℕ → Option Standing) (n : ℕ) → with_members d decls older n ≡ with_members d decls (λ _. older n) n
with_members-older d [] older n = refl
with_members-older d (decl ∷ more) older n = ap (λ o. if n == decl.name then Some (Member d) else o) (with_members-older d more older n)

-- whether a name stands for a field matters alone at that name, and depths don't
pub with_defs-kind : (d e : ℕ) (defs : Defs) (older other : ℕ → Option Standing) (n : ℕ) → option_map is_member (older n) ≡ option_map is_member (other n) →
    option_map is_member (with_defs d defs older n) ≡ option_map is_member (with_defs e defs other n)
with_defs-kind d e Defs.no_defs older other n h = h
with_defs-kind d e (Defs.and_def x at p more) older other n h =
    elim (n == x) as (λ b. option_map is_member (if b then Some (Variable d) else with_defs (suc d) more older n) ≡ option_map is_member (if b then Some (Variable e) else with_defs (suc e) more other n))
    [ true ↦ refl | false ↦ with_defs-kind (suc d) (suc e) more older other n h ]

pub with_members-kind : (d e : ℕ) (decls : List DeclTree) (older other : ℕ → Option Standing) (n : ℕ) → option_map is_member (older n) ≡ option_map is_member (other n) →
    option_map is_member (with_members d decls older n) ≡ option_map is_member (with_members e decls other n)
with_members-kind d e [] older other n h = h
with_members-kind d e (decl ∷ more) older other n h =
    elim (n == decl.name) as (λ b. option_map is_member (if b then Some (Member d) else with_members d more older n) ≡ option_map is_member (if b then Some (Member e) else with_members e more other n))
    [ true ↦ refl | false ↦ with_members-kind d e more older other n h ]

-- one definition of another name
pub with_defs-more : (xs : List Def) (i : ℕ) (x : Def) (older : Option Standing) (name : ℕ) → i < length xs → x ≡ get_or xs i x → (name ≡ (out-Def x).name → ⊥) →
    option_map is_member (with_defs 0 (defs_from (map def_of (drop (i + 1) xs))) (λ _. older) name) ≡ option_map is_member (with_defs 0 (defs_from (map def_of (drop i xs))) (λ _. older) name)
with_defs-more xs i x older name h e ne =
    let kind : List Def → Option Bool = λ ys. option_map is_member (with_defs 0 (defs_from (map def_of ys)) (λ _. older) name) in
    let rest = drop (i + 1) xs in
    let skipped : kind (x ∷ rest) ≡ option_map is_member (with_defs 1 (defs_from (map def_of rest)) (λ _. older) name) =
    ap (λ (d : DefTree). option_map is_member (if name == d.name then Some (Variable 0) else with_defs 1 (defs_from (map def_of rest)) (λ _. older) name)) (def_of-at x)
    ∙ ap (λ b. option_map is_member (if b then Some (Variable 0) else with_defs 1 (defs_from (map def_of rest)) (λ _. older) name)) (ne_eqb name (out-Def x).name ne) in
    with_defs-kind 0 1 (defs_from (map def_of rest)) (λ _. older) (λ _. older) name refl
    ∙ sym skipped ∙ ap (λ y. kind (y ∷ rest)) e ∙ sym (at_drop_more kind xs i x h)

pub with_defs-rest : (xs : List Def) (i d e : ℕ) (x : Def) (older : Option Standing) (name : ℕ) → e ≡ suc d → i < length xs → x ≡ get_or xs i x → (name ≡ (out-Def x).name → ⊥) →
    with_defs e (defs_from (map def_of (drop (i + 1) xs))) (λ _. older) name ≡ with_defs d (defs_from (map def_of (drop i xs))) (λ _. older) name
with_defs-rest xs i d e x older name next h is ne =
    let stands : List Def → Option Standing = λ ys. with_defs d (defs_from (map def_of ys)) (λ _. older) name in
    let rest = drop (i + 1) xs in
    let skipped : stands (x ∷ rest) ≡ with_defs (suc d) (defs_from (map def_of rest)) (λ _. older) name =
    ap (λ (t : DefTree). if name == t.name then Some (Variable d) else with_defs (suc d) (defs_from (map def_of rest)) (λ _. older) name) (def_of-at x)
    ∙ ap (λ b. if b then Some (Variable d) else with_defs (suc d) (defs_from (map def_of rest)) (λ _. older) name) (ne_eqb name (out-Def x).name ne) in
    ap (λ n. with_defs n (defs_from (map def_of rest)) (λ _. older) name) next
    ∙ sym skipped ∙ ap (λ y. stands (y ∷ rest)) is ∙ sym (at_drop_more stands xs i x h)

-- what the names of one construct stand for, with those around it
pub scope_of-Name : (x : ℕ) (outer : Bor Frame) → scope_of (view.Name x outer) ≡ under x (scope_of outer.now)
scope_of-Name x outer = search (rules, the_lemmas)

pub scope_of-Defs : (defs : Bor (List Def)) (outer : Bor Frame) → scope_of (view.Defs defs outer) ≡ under_defs (defs_from (map def_of defs.now)) (scope_of outer.now)
scope_of-Defs defs outer = search (rules, the_lemmas)

pub scope_of-Members : (decls : Bor (List Decl)) (outer : Bor Frame) → scope_of (view.Members decls outer) ≡ under_members (map decl_tree decls.now) (scope_of outer.now)
scope_of-Members decls outer = search (rules, the_lemmas)

pub scope_of-Hidden : (n : ℕ) (outer : Bor Frame) → scope_of (view.Hidden n outer) ≡ behind_all n (scope_of outer.now)
scope_of-Hidden n outer = search (rules, the_lemmas)

pub scope_of-Type : (x : ℕ) (a : Bor SurfaceTy) (size : Size) (outer : Bor Frame) → scope_of (view.Type x a size outer) ≡ with_type x (type_tree a.now) (scope_of outer.now)
scope_of-Type x a size outer = search (rules, the_lemmas)

-- a frame of hidden binders keeps the sizes of types
pub AreSized-Hidden : (n : ℕ) (outer : Bor Frame) → AreSized outer.now → AreSized (view.Hidden n outer)
AreSized-Hidden n outer are = λ name.
    let kept : sizes_of (view.Hidden n outer) ≡ sizes_of outer.now = search (rules, the_lemmas) in
    let types = ap (λ (s : Scope). s.types) (scope_of-Hidden n outer) ∙ behind_all-types n (scope_of outer.now) in
    ap (λ f. f name) kept ∙ are name ∙ sym (ap (λ f. option_map type_measure (f name)) types)

pub ruleset frames = (scope_of-Name, scope_of-Defs, scope_of-Members, scope_of-Hidden, scope_of-Type)

pub ruleset scopes = (depth_under-defs_from, behind_all-depth, behind_all-phrases, behind_all-types)
