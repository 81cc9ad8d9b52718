-- The first demands of the paths of a node.
use Rattle.std.proofs.Common.{ℕ, ◌<◌, ◌≡◌, Bool, true, false, not, ◌&&◌, ◌||◌, List, [], ◌∷◌, ◌++◌, length, get_or, eqb, refl, sym, ap, ◌∙◌, subst, arith, inl, inr}
use Rattle.std.proofs.lemmas.Bool.{cases_lt}
use Rattle.std.proofs.lemmas.List.{get_or_append_left, get_or_push, length_push}
use Rattle.fy_types.specs.Paths.{PlainPaths, no_paths, and_path, append, called, picked, paths}
use Rattle.fy_derive.specs.declared.table.TypeTable.{TypeTable}
use Rattle.fy_derive.specs.declared.node.TypeNode.{TypeNode}
use Rattle.fy_derive.specs.declared.node.TypeNode.TheVariants as node
use Rattle.fy_derive.specs.Tables.{node_type, is_meet_behind}
use Rattle.fy_derive.specs.Shown.{shown, types_in}
use Rattle.fy_derive.specs.Kinds.{Kind, of_call, of_field, of_assignment, begins, none_begins}
use Rattle.fy_derive.specs.Clear.{has_none, AreEmpty, AreClear}
use Rattle.fy_derive.proofs.CoverLemmas.{in_front-paths}

pub has_none-append : (P Q : PlainPaths) → has_none (append P Q) ≡ has_none P && has_none Q
has_none-append no_paths Q = refl
has_none-append (and_path p P) Q = refl

pub has_none-called : (D P : PlainPaths) → has_none (called D P) ≡ has_none P
has_none-called D no_paths = refl
has_none-called D (and_path p P) = refl

pub has_none-picked : (i : ℕ) (P : PlainPaths) → has_none (picked i P) ≡ has_none P
has_none-picked i no_paths = refl
has_none-picked i (and_path p P) = refl

and_assoc : (a b c : Bool) → (a && b) && c ≡ a && (b && c)
and_assoc true b c = refl
and_assoc false b c = refl

pub none_begins-append : (k : Kind) (P Q : PlainPaths) → none_begins k (append P Q) ≡ none_begins k P && none_begins k Q
none_begins-append k no_paths Q = refl
none_begins-append k (and_path p P) Q = ap (λ b. not (begins k p) && b) (none_begins-append k P Q) ∙ sym (and_assoc (not (begins k p)) (none_begins k P) (none_begins k Q))

pub call_clear-called : (D P : PlainPaths) → none_begins of_call (called D P) ≡ has_none P
call_clear-called D no_paths = refl
call_clear-called D (and_path p P) = refl

pub call_clear-picked : (i : ℕ) (P : PlainPaths) → none_begins of_call (picked i P) ≡ true
call_clear-picked i no_paths = refl
call_clear-picked i (and_path p P) = call_clear-picked i P

pub field_clear-called : (i : ℕ) (D P : PlainPaths) → none_begins (of_field i) (called D P) ≡ true
field_clear-called i D no_paths = refl
field_clear-called i D (and_path p P) = field_clear-called i D P

pub field_clear-picked : (i j : ℕ) (P : PlainPaths) → none_begins (of_field i) (picked j P) ≡ not (eqb i j) || has_none P
field_clear-picked i j no_paths = cases (eqb i j)
  where
    cases : (b : Bool) → true ≡ not b || true
    cases true = refl
    cases false = refl
field_clear-picked i j (and_path p P) = ap (λ b. not (eqb i j) && b) (field_clear-picked i j P) ∙ cases (eqb i j) (has_none P)
  where
    cases : (b c : Bool) → not b && (not b || c) ≡ not b || false
    cases true c = refl
    cases false c = refl

pub AreEmpty-push : (t : TypeTable) (xs ys : List Bool) (x : Bool) → AreEmpty t xs → x ≡ has_none (paths (shown t (length xs))) → ys ≡ xs ++ x ∷ [] → AreEmpty t ys
AreEmpty-push t xs ys x h e s = subst (AreEmpty t) (sym s) (record {
  each = λ k d l. elim (cases_lt k (length xs)) [
    | inl below ↦ get_or_append_left xs (x ∷ []) d k below ∙ h.each k d below
    | inr past ↦ let at : length xs ≡ k = omega (arith, length_push xs x) in
        get_or_push xs x d k at ∙ (e ∙ ap (λ n. has_none (paths (shown t n))) at)
  ];
})

pub AreClear-push : (kind : Kind) (t : TypeTable) (xs ys : List Bool) (x : Bool) → AreClear kind t xs → x ≡ none_begins kind (paths (shown t (length xs))) → ys ≡ xs ++ x ∷ [] → AreClear kind t ys
AreClear-push kind t xs ys x h e s = subst (AreClear kind t) (sym s) (record {
  each = λ k d l. elim (cases_lt k (length xs)) [
    | inl below ↦ get_or_append_left xs (x ∷ []) d k below ∙ h.each k d below
    | inr past ↦ let at : length xs ≡ k = omega (arith, length_push xs x) in
        get_or_push xs x d k at ∙ (e ∙ ap (λ n. none_begins kind (paths (shown t n))) at)
  ];
})

-- a meet is clear where both its parts are
pub both_clear : (kind : Kind) (t : TypeTable) (answers : List Bool) (n : TypeNode) (f o : ℕ) → AreClear kind t answers → n ≡ node.AndType f o →
    is_meet_behind (types_in t) n ≡ true → f < length answers → o < length answers →
    none_begins kind (paths (node_type (types_in t) n)) ≡ get_or answers f false && get_or answers o false
both_clear kind t answers n f o h e l p q =
    ap (λ m. none_begins kind (paths (node_type (types_in t) m))) e
    ∙ (ap (none_begins kind) (in_front-paths (shown t f) (shown t o) (sym (ap (is_meet_behind (types_in t)) e) ∙ l))
    ∙ (none_begins-append kind (paths (shown t f)) (paths (shown t o))
    ∙ (ap (λ b. b && none_begins kind (paths (shown t o))) (sym (h.each f false p))
    ∙ ap (λ b. get_or answers f false && b) (sym (h.each o false q)))))

pub assignment_clear-called : (D P : PlainPaths) → none_begins of_assignment (called D P) ≡ true
assignment_clear-called D no_paths = refl
assignment_clear-called D (and_path p P) = assignment_clear-called D P

pub assignment_clear-picked : (i : ℕ) (P : PlainPaths) → none_begins of_assignment (picked i P) ≡ true
assignment_clear-picked i no_paths = refl
assignment_clear-picked i (and_path p P) = assignment_clear-picked i P
