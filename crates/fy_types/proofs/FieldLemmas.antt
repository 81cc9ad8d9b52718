-- The fields of types that are made of path forms, and their meets.
use Rattle.std.proofs.Common.{ℕ, ◌+◌, ◌<◌, ◌≤◌, ◌≡◌, List, [], ◌∷◌, ◌++◌, length, map, take, get_or, append_assoc, refl, sym, ap, ◌∙◌, subst, arith}
use Rattle.std.proofs.lemmas.List.{append-nil, map-append, take_more}
use Rattle.fy_types.specs.declared.types.Ty.{Ty}
use Rattle.fy_types.specs.declared.paths.Path.{Path}
use Rattle.fy_types.specs.Types.{PlainType, PlainTypes, ns, atom, arrow, field, meet, no_types, and_type}
use Rattle.fy_types.specs.Paths.{PlainPath, PlainPaths, end, call, pick, no_paths, and_path}
use Rattle.fy_types.specs.Reading.{PlainElem, a_call, a_field, front, plain_type, types_from, plain_path, paths_from}
use Rattle.fy_types.specs.Fields.{AllFields, AllFieldsOf, AllPathFields, AllFormFields, fields_in, fields_in_all, fields_in_path, fields_in_form, fields_in_elem, AreSome, HasFullMeets, HaveFullMeets}

-- lists with one more
full-push : (As : List PlainType) (B : PlainType) → HaveFullMeets (types_from As) → HasFullMeets B → HaveFullMeets (types_from (As ++ B ∷ []))
full-push [] B h k = (k, tt)
full-push (A ∷ As) B h k = (h.0, full-push As B h.1 k)

fields-push : (As : List PlainType) (B : PlainType) → fields_in_all (types_from (As ++ B ∷ [])) ≡ fields_in_all (types_from As) ++ fields_in B
fields-push [] B = append-nil (fields_in B)
fields-push (A ∷ As) B =
    ap (λ l. fields_in A ++ l) (fields-push As B) ∙ sym (append_assoc (fields_in A) (fields_in_all (types_from As)) (fields_in B))

form-push : (ps : List PlainPath) (q : PlainPath) → fields_in_form (paths_from (ps ++ q ∷ [])) ≡ fields_in_form (paths_from ps) ++ fields_in_path q
form-push [] q = append-nil (fields_in_path q)
form-push (p ∷ ps) q =
    ap (λ l. fields_in_path p ++ l) (form-push ps q) ∙ sym (append_assoc (fields_in_path p) (fields_in_form (paths_from ps)) (fields_in_path q))

pub full-more : (xs ys : List Ty) (y : Ty) → ys ≡ xs ++ y ∷ [] → HaveFullMeets (types_from (map plain_type xs)) → HasFullMeets (plain_type y) →
    HaveFullMeets (types_from (map plain_type ys))
full-more xs ys y e h k =
    subst (λ zs. HaveFullMeets (types_from zs)) (sym (ap (map plain_type) e ∙ map-append plain_type xs (y ∷ [])))
    (full-push (map plain_type xs) (plain_type y) h k)

pub fields-more : (xs ys : List Ty) (y : Ty) → ys ≡ xs ++ y ∷ [] →
    fields_in_all (types_from (map plain_type ys)) ≡ fields_in_all (types_from (map plain_type xs)) ++ fields_in (plain_type y)
fields-more xs ys y e =
    ap (λ zs. fields_in_all (types_from (map plain_type zs))) e
    ∙ (ap (λ zs. fields_in_all (types_from zs)) (map-append plain_type xs (y ∷ [])) ∙ fields-push (map plain_type xs) (plain_type y))

pub form-more : (xs : List Path) (i : ℕ) (x : Path) → i < length xs → x ≡ get_or xs i x →
    fields_in_form (paths_from (map plain_path (take (i + 1) xs))) ≡ fields_in_form (paths_from (map plain_path (take i xs))) ++ fields_in_path (plain_path x)
form-more xs i x within is =
    ap (λ zs. fields_in_form (paths_from (map plain_path zs))) (take_more xs i x within ∙ ap (λ y. take i xs ++ (y ∷ [])) (sym is))
    ∙ (ap (λ zs. fields_in_form (paths_from zs)) (map-append plain_path (take i xs) (x ∷ [])) ∙ form-push (map plain_path (take i xs)) (plain_path x))

pub some-types : (xs : List Ty) → 2 ≤ length xs → AreSome (types_from (map plain_type xs))
some-types [] many = absurd (omega arith)
some-types (x ∷ []) many = absurd (omega arith)
some-types (x ∷ y ∷ xs) many = tt

pub front-fields : (x : PlainElem) (p : PlainPath) → fields_in_path (front x p) ≡ fields_in_elem x ++ fields_in_path p
front-fields (a_call D) p = refl
front-fields (a_field i) p = refl

-- a property of each name of a list
abbrev Each : (ℕ → Type 0) → List ℕ → Type 0
Each P [] = Unit {0}
Each P (i ∷ is) = P i × Each P is

each-both : (P : ℕ → Type 0) (xs ys : List ℕ) → Each P xs → Each P ys → Each P (xs ++ ys)
each-both P [] ys h k = k
each-both P (x ∷ xs) ys h k = (h.0, each-both P xs ys h.1 k)

each-left : (P : ℕ → Type 0) (xs ys : List ℕ) → Each P (xs ++ ys) → Each P xs
each-left P [] ys h = tt
each-left P (x ∷ xs) ys h = (h.0, each-left P xs ys h.1)

each-right : (P : ℕ → Type 0) (xs ys : List ℕ) → Each P (xs ++ ys) → Each P ys
each-right P [] ys h = h
each-right P (x ∷ xs) ys h = each-right P xs ys h.1

mutual
  path-each : (P : ℕ → Type 0) (p : PlainPath) → AllPathFields P p → Each P (fields_in_path p)
  path-each P (end a) h = tt
  path-each P (call D p) h = each-both P (fields_in_form D) (fields_in_path p) (form-each P D h.0) (path-each P p h.1)
  path-each P (pick i p) h = (h.0, path-each P p h.1)

  form-each : (P : ℕ → Type 0) (F : PlainPaths) → AllFormFields P F → Each P (fields_in_form F)
  form-each P no_paths h = tt
  form-each P (and_path p F) h = each-both P (fields_in_path p) (fields_in_form F) (path-each P p h.0) (form-each P F h.1)

mutual
  each-type : (P : ℕ → Type 0) (A : PlainType) → Each P (fields_in A) → AllFields P A
  each-type P ns h = tt
  each-type P (atom a) h = tt
  each-type P (arrow A B) h =
      (each-type P A (each-left P (fields_in A) (fields_in B) h), each-type P B (each-right P (fields_in A) (fields_in B) h))
  each-type P (field i A) h = (h.0, each-type P A h.1)
  each-type P (meet As) h = each-types P As h

  each-types : (P : ℕ → Type 0) (As : PlainTypes) → Each P (fields_in_all As) → AllFieldsOf P As
  each-types P no_types h = tt
  each-types P (and_type A As) h =
      (each-type P A (each-left P (fields_in A) (fields_in_all As) h), each-types P As (each-right P (fields_in A) (fields_in_all As) h))

-- a type with the fields of a path form has each property of names that they all have
pub AllFields-form : (P : ℕ → Type 0) (F : PlainPaths) (A : PlainType) → fields_in A ≡ fields_in_form F → AllFormFields P F → AllFields P A
AllFields-form P F A e h = each-type P A (subst (Each P) (sym e) (form-each P F h))
