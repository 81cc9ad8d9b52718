-- A scope by its form.
use Rattle.std.proofs.Common.{◌<◌, length, get_or, ℕ, zero, suc, ◌-◌, ◌≡◌, ◌≢◌, List, [], ◌∷◌, map, reverse, Some, None, option_map, slice_get, sym, ap, ◌∙◌, refl, Bor, arith}
use Rattle.std.proofs.lemmas.List.{get_or-map, get_or-reverse, length-map, length-reverse}
use Rattle.std.proofs.lemmas.Option.{slice_get-get_or}
use Rattle.std.specs.Option.{unwrap_or}
use Rattle.fy_types.specs.Types.{PlainType}
use Rattle.fy_types.specs.Paths.{PlainPaths, no_paths, paths}
use Rattle.fy_types.specs.Once.{once}
use Rattle.fy_types.specs.Reading.{plain_paths}
use Rattle.fy_derive.specs.Derivations.{by_ns, rule, no_derivations}
use Rattle.fy_derive.specs.Least.{forms_of, paths_at}
use Rattle.fy_least.specs.Forms.{variable_rule}
use Rattle.fy_memo.specs.declared.table.Table.{Table}
use Rattle.fy_least.specs.declared.bound.Bound.{Bound}
use Rattle.fy_least.specs.declared.context.Context.{Context}
use Rattle.fy_least.specs.declared.outer.Outer.{Outer}
use Rattle.fy_least.specs.declared.scope.Scope as form
use Rattle.fy_least.specs.declared.scope.Scope.{Scope, Scope-F, fold-roll-Scope}
use Rattle.fy_least.specs.declared.scope.Scope.TheVariants.{rolls-Around, rolls-Under}
use Rattle.fy_least.specs.Scopes.{context_forms, outer_type, scope_forms, forms_step}

pub forms-under : (c : Scope) (P : Bor Bound) (o : Bor Scope) → c ≡ form.Under P o → scope_forms c ≡ plain_paths P.now.paths.now ∷ scope_forms o.now
forms-under c P o e = rw e (ap scope_forms (sym (rolls-Under P o)) ∙ fold-roll-Scope (List PlainPaths) forms_step (Scope-F.Under P o))

pub forms-around : (c : Scope) (x : Bor Context) (table : Bor Table) → c ≡ form.Around x table → scope_forms c ≡ context_forms x.now
forms-around c x table e =
    rw e (ap scope_forms (sym (rolls-Around x table)) ∙ fold-roll-Scope (List PlainPaths) forms_step (Scope-F.Around x table))

-- one place further in
pub next_place : (x : PlainPaths) (xs : List PlainPaths) (i : ℕ) → i ≢ 0 → slice_get (x ∷ xs) i ≡ slice_get xs (i - 1)
next_place x xs zero h = absurd (h refl)
next_place x xs (suc i) h = ap (slice_get xs) (omega arith)

-- the paths of a variable, by whether it is in scope
pub paths-out : (Gs : List PlainPaths) (k : ℕ) → None ≡ option_map once (slice_get Gs k) → paths_at Gs k ≡ no_paths
paths-out [] k e = refl
paths-out (P ∷ Gs) zero e = absurd (cc)
paths-out (P ∷ Gs) (suc k) e = paths-out Gs k e

pub paths-in : (Gs : List PlainPaths) (k : ℕ) (P : PlainPaths) → Some P ≡ option_map once (slice_get Gs k) → P ≡ once (paths_at Gs k)
paths-in [] k P e = absurd (cc)
paths-in (Q ∷ Gs) zero P e = cc
paths-in (Q ∷ Gs) (suc k) P e = paths-in Gs k P e

pub rule-out : (Gs : List PlainPaths) (k : ℕ) → None ≡ option_map once (slice_get Gs k) → variable_rule (slice_get Gs k) ≡ by_ns
rule-out [] k e = refl
rule-out (P ∷ Gs) zero e = absurd (cc)
rule-out (P ∷ Gs) (suc k) e = rule-out Gs k e

pub rule-in : (Gs : List PlainPaths) (k : ℕ) (P : PlainPaths) → Some P ≡ option_map once (slice_get Gs k) →
    variable_rule (slice_get Gs k) ≡ rule no_derivations
rule-in [] k P e = absurd (cc)
rule-in (Q ∷ Gs) zero P e = refl
rule-in (Q ∷ Gs) (suc k) P e = rule-in Gs k P e

-- the paths of a variable that is in scope, once
pub paths-there : (Gs : List PlainPaths) (k : ℕ) (P : PlainPaths) → Some P ≡ slice_get Gs k → paths_at Gs k ≡ P
paths-there [] k P e = absurd (cc)
paths-there (Q ∷ Gs) zero P e = cc
paths-there (Q ∷ Gs) (suc k) P e = paths-there Gs k P e

-- what two lists have at two places decides what paths are there
paths-got : (Gs : List PlainPaths) (k : ℕ) → paths_at Gs k ≡ unwrap_or (slice_get Gs k) no_paths
paths-got [] k = refl
paths-got (P ∷ Gs) zero = refl
paths-got (P ∷ Gs) (suc k) = paths-got Gs k

pub paths-same : (Gs Hs : List PlainPaths) (j k : ℕ) → slice_get Gs j ≡ slice_get Hs k → paths_at Gs j ≡ paths_at Hs k
paths-same Gs Hs j k is = paths-got Gs j ∙ (ap (λ o. unwrap_or o no_paths) is ∙ sym (paths-got Hs k))

-- what is known of a variable by the form of its scope
pub type-there : (As : List PlainType) (k : ℕ) (A : PlainType) → Some A ≡ slice_get As k → Some (paths A) ≡ slice_get (forms_of As) k
type-there [] k A e = absurd (cc)
type-there (B ∷ As) zero A e = cc
type-there (B ∷ As) (suc k) A e = type-there As k A e

pub type-out : (As : List PlainType) (k : ℕ) → None ≡ slice_get As k → None ≡ slice_get (forms_of As) k
type-out [] k e = refl
type-out (B ∷ As) zero e = absurd (cc)
type-out (B ∷ As) (suc k) e = type-out As k e

-- a variable by its place from the end
pub read-back : (xs : List Outer) (k : ℕ) (x : Outer) → k < length xs → x ≡ get_or xs (length xs - 1 - k) x →
    Some (outer_type x) ≡ slice_get (reverse (map outer_type xs)) k
read-back xs k x few is =
    let m = length-map xs outer_type in
    let within : k < length (reverse (map outer_type xs)) = omega (arith, m, length-reverse (map outer_type xs), few) in
    let back : get_or (reverse (map outer_type xs)) k (outer_type x) ≡ outer_type x =
    get_or-reverse (map outer_type xs) k (outer_type x) (omega (arith, m, few))
    ∙ (ap (λ j. get_or (map outer_type xs) (j - 1 - k) (outer_type x)) m
    ∙ (get_or-map outer_type xs (length xs - 1 - k) x (outer_type x) (omega (arith, few)) ∙ ap outer_type (sym is))) in
    sym (slice_get-get_or (reverse (map outer_type xs)) k (outer_type x) within ∙ ap Some back)
