-- The shapes of types by their form.
use Rattle.std.proofs.Common.{ℕ, ◌≡◌, ◌⊎◌, inl, inr, List, [], ◌∷◌, ◌++◌, map, take, drop, refl, sym, ap, ◌∙◌, subst}
use Rattle.std.specs.List.{Contains}
use Rattle.std.proofs.lemmas.List.{take-append-drop, map-append}
use Rattle.std.proofs.lemmas.List.Elements.{Contains-append_left, Contains-append_right, Contains-append_cases}
use Rattle.fy_phrase.specs.declared.shapes.ShapeElem.{ShapeElem}
use Rattle.fy_phrase.specs.declared.shapes.ShapeElem.TheVariants as elem
use Rattle.fy_phrase.specs.declared.shapes.ShapeEnd.{ShapeEnd}
use Rattle.fy_types.specs.declared.types.Atom.{Atom}
use Rattle.fy_types.specs.declared.types.Atom.TheVariants.{Int}
use Rattle.fy_types.specs.Types.{PlainType, PlainTypes, ns, atom, arrow, field, meet, no_types, and_type}
use Rattle.fy_types.specs.Paths.{PlainPath, PlainPaths, end, call, pick, no_paths, and_path, append, paths, all_paths}
use Rattle.fy_types.specs.Reading.{types_from}
use Rattle.fy_phrase.specs.declared.phrase.DataTy.{DataTy}
use Rattle.fy_phrase.specs.declared.phrase.DataTy.TheVariants as data_type
use Rattle.fy_derive.specs.Atoms.{data_atom, acceptor_atom, cell_type, sequence_type}
use Rattle.fy_derive.specs.Shapes.{PlainShape, a_value, an_assignment, end_shape, at_end, a_call, a_field, erase, HasPath, first_path, later_path}
use Rattle.fy_derive.specs.ShapeTables.{plain_end}
use Rattle.pe_shapes.specs.declared.error.ShapeError.{ShapeError}
use Rattle.pe_shapes.specs.declared.error.ShapeError.TheVariants.{TooManyShapes, TooManyEntries, TablesTooLarge, OutOfMemory}
use Rattle.pe_shapes.specs.Numbering.{in_front}
use Rattle.pe_shapes.specs.Origins.{IsFronted}
use Rattle.pe_shapes.specs.Standing.{HasShape, AreJust, IsStop}
use Rattle.pe_shapes.proofs.Members.{Contains-none, Contains-head, Contains-split, Contains-map, Contains-unmap, HasMany-weaker, HasMany-map}
use Rattle.pe_shapes.proofs.NodeTests.{in_front-same}
use Rattle.pe_shapes.proofs.RuleBelow.{called-path, picked-path, path-called, path-picked}
use Rattle.pe_shapes.proofs.OriginLemmas.{acceptor_end}

none : {q : PlainPath} → HasPath no_paths q → ⊥
none among = elim among [ ]

only : {p q : PlainPath} → HasPath (and_path p no_paths) q → p ≡ q
only first_path = refl
only (later_path among) = absurd (none among)

in_left : {P : PlainPaths} (Q : PlainPaths) {q : PlainPath} → HasPath P q → HasPath (append P Q) q
in_left Q first_path = first_path
in_left Q (later_path x) = later_path (in_left Q x)

in_right : (P Q : PlainPaths) {q : PlainPath} → HasPath Q q → HasPath (append P Q) q
in_right no_paths Q x = x
in_right (and_path p P) Q x = later_path (in_right P Q x)

in_either : (P Q : PlainPaths) {q : PlainPath} → HasPath (append P Q) q → HasPath P q ⊎ HasPath Q q
in_either no_paths Q x = inr x
in_either (and_path p P) Q first_path = inl first_path
in_either (and_path p P) Q (later_path x) = elim (in_either P Q x) [ inl y ↦ inl (later_path y) | inr y ↦ inr y ]

pub no_shape : (s : PlainShape) → HasShape ns s → ⊥
no_shape s h = none h.stands

pub AreJust-none : AreJust [] ns
AreJust-none = record { has = λ s h. absurd (no_shape s h); known = λ s h. absurd (Contains-none s h) }

pub AreJust-as : {S : List PlainShape} {A B : PlainType} → A ≡ B → AreJust S A → AreJust S B
AreJust-as {S = S} e j = subst (AreJust S) e j

pub AreJust-atom : (a : Atom) → AreJust (at_end (end_shape a) ∷ []) (atom a)
AreJust-atom a = record {
  has = λ s h. subst (Contains (at_end (end_shape a) ∷ [])) (ap erase (only h.stands) ∙ h.shape_is) (Contains-head (at_end (end_shape a)) []);
  known = λ s h. elim (Contains-split (at_end (end_shape a)) s [] h) [
    | inl e ↦ record { path = end a; stands = first_path; shape_is = e }
    | inr t ↦ absurd (Contains-none s t)
  ];
}

-- ---- a demand in front

called : (D A : PlainType) (s : PlainShape) → HasShape A s → HasShape (arrow D A) (a_call s)
called D A s h = record { path = call (paths D) h.path; stands = called-path (paths D) h.stands; shape_is = ap a_call h.shape_is }

picked : (i : ℕ) (A : PlainType) (s : PlainShape) → HasShape A s → HasShape (field i A) (a_field i s)
picked i A s h = record { path = pick i h.path; stands = picked-path i h.stands; shape_is = ap (a_field i) h.shape_is }

uncalled : (D A : PlainType) (s : PlainShape) → HasShape (arrow D A) s → (r : PlainShape) × HasShape A r × (a_call r ≡ s)
uncalled D A s h =
    let x = path-called (paths D) (paths A) h.stands in
    (erase x.0, record { path = x.0; stands = x.1; shape_is = refl }, ap erase (sym x.2) ∙ h.shape_is)

unpicked : (i : ℕ) (A : PlainType) (s : PlainShape) → HasShape (field i A) s → (r : PlainShape) × HasShape A r × (a_field i r ≡ s)
unpicked i A s h =
    let x = path-picked i (paths A) h.stands in
    (erase x.0, record { path = x.0; stands = x.1; shape_is = refl }, ap erase (sym x.2) ∙ h.shape_is)

pub HasShape-front : (x : ShapeElem) (F A : PlainType) → IsFronted x F A → (s : PlainShape) → HasShape A s → HasShape F (in_front x s)
HasShape-front elem.Call F A f s h = subst (λ B. HasShape B (a_call s)) (sym f.1) (called f.0 A s h)
HasShape-front (elem.Field i) F A f s h = subst (λ B. HasShape B (a_field i s)) (sym f) (picked i A s h)

pub HasShape-behind : (x : ShapeElem) (F A : PlainType) → IsFronted x F A → (s : PlainShape) → HasShape F s → (r : PlainShape) × HasShape A r × (in_front x r ≡ s)
HasShape-behind elem.Call F A f s h = uncalled f.0 A s (subst (λ B. HasShape B s) f.1 h)
HasShape-behind (elem.Field i) F A f s h = unpicked i A s (subst (λ B. HasShape B s) f h)

pub AreJust-front : (x : ShapeElem) (F A : PlainType) → IsFronted x F A → (S : List PlainShape) → AreJust S A → AreJust (map (in_front x) S) F
AreJust-front x F A f S j = record {
  has = λ s h. let r = HasShape-behind x F A f s h in subst (Contains (map (in_front x) S)) r.2 (Contains-map (in_front x) S r.0 (j.has r.0 r.1));
  known = λ s h. let r = Contains-unmap (in_front x) S s h in subst (HasShape F) r.2 (HasShape-front x F A f r.0 (j.known r.0 r.1));
}

pub AreJust-behind : (x : ShapeElem) (F A : PlainType) → IsFronted x F A → (S R : List PlainShape) → AreJust S F →
    ((s : PlainShape) → Contains S (in_front x s) → Contains R s) → ((s : PlainShape) → Contains R s → Contains S (in_front x s)) → AreJust R A
AreJust-behind x F A f S R j to from = record {
  has = λ s h. to s (j.has (in_front x s) (HasShape-front x F A f s h));
  known = λ s h.
      let r = HasShape-behind x F A f (in_front x s) (j.known (in_front x s) (from s h)) in
      subst (HasShape A) (in_front-same x r.0 s r.2) r.1;
}

-- ---- meets

pub HasShape-member : (A : PlainType) (As : PlainTypes) (s : PlainShape) → HasShape A s → HasShape (meet (and_type A As)) s
HasShape-member A As s h = record { path = h.path; stands = in_left (all_paths As) h.stands; shape_is = h.shape_is }

pub HasShape-others : (A : PlainType) (As : PlainTypes) (s : PlainShape) → HasShape (meet As) s → HasShape (meet (and_type A As)) s
HasShape-others A As s h = record { path = h.path; stands = in_right (paths A) (all_paths As) h.stands; shape_is = h.shape_is }

HasShape-either : (A : PlainType) (As : PlainTypes) (s : PlainShape) → HasShape (meet (and_type A As)) s → HasShape A s ⊎ HasShape (meet As) s
HasShape-either A As s h = elim (in_either (paths A) (all_paths As) h.stands) [
  | inl x ↦ inl (record { path = h.path; stands = x; shape_is = h.shape_is })
  | inr x ↦ inr (record { path = h.path; stands = x; shape_is = h.shape_is })
]

no_meet_shape : (s : PlainShape) → HasShape (meet no_types) s → ⊥
no_meet_shape s h = none h.stands

pub AreJust-no_meet : AreJust [] (meet no_types)
AreJust-no_meet = record { has = λ s h. absurd (no_meet_shape s h); known = λ s h. absurd (Contains-none s h) }

-- the meet of types with one more behind them
pushed-old : (As : List PlainType) (B : PlainType) (s : PlainShape) → HasShape (meet (types_from As)) s → HasShape (meet (types_from (As ++ B ∷ []))) s
pushed-old [] B s h = absurd (no_meet_shape s h)
pushed-old (A ∷ As) B s h = elim (HasShape-either A (types_from As) s h) [
  | inl x ↦ HasShape-member A (types_from (As ++ B ∷ [])) s x
  | inr x ↦ HasShape-others A (types_from (As ++ B ∷ [])) s (pushed-old As B s x)
]

pushed-new : (As : List PlainType) (B : PlainType) (s : PlainShape) → HasShape B s → HasShape (meet (types_from (As ++ B ∷ []))) s
pushed-new [] B s h = HasShape-member B no_types s h
pushed-new (A ∷ As) B s h = HasShape-others A (types_from (As ++ B ∷ [])) s (pushed-new As B s h)

pushed-either : (As : List PlainType) (B : PlainType) (s : PlainShape) → HasShape (meet (types_from (As ++ B ∷ []))) s → HasShape (meet (types_from As)) s ⊎ HasShape B s
pushed-either [] B s h = elim (HasShape-either B no_types s h) [ inl x ↦ inr x | inr x ↦ inl x ]
pushed-either (A ∷ As) B s h = elim (HasShape-either A (types_from (As ++ B ∷ [])) s h) [
  | inl x ↦ inl (HasShape-member A (types_from As) s x)
  | inr x ↦ elim (pushed-either As B s x) [ inl y ↦ inl (HasShape-others A (types_from As) s y) | inr y ↦ inr y ]
]

-- shapes that are just those of two lists together
pub AreJust-both : (As : List PlainType) (B : PlainType) (S T U : List PlainShape) → AreJust S (meet (types_from As)) → AreJust T B →
    ((s : PlainShape) → Contains S s → Contains U s) → ((s : PlainShape) → Contains T s → Contains U s) →
    ((s : PlainShape) → Contains U s → Contains S s ⊎ Contains T s) → AreJust U (meet (types_from (As ++ B ∷ [])))
AreJust-both As B S T U j k left right from = record {
  has = λ s h. elim (pushed-either As B s h) [ inl x ↦ left s (j.has s x) | inr x ↦ right s (k.has s x) ];
  known = λ s h. elim (from s h) [ inl x ↦ pushed-old As B s (j.known s x) | inr x ↦ pushed-new As B s (k.known s x) ];
}

-- a member of the list, and its first members
pub HasShape-contained : (As : List PlainType) (A : PlainType) (s : PlainShape) → Contains As A → HasShape A s → HasShape (meet (types_from As)) s
HasShape-contained [] A s c h = absurd (Contains-none A c)
HasShape-contained (B ∷ As) A s c h = elim (Contains-split B A As c) [
  | inl e ↦ HasShape-member B (types_from As) s (subst (λ C. HasShape C s) (sym e) h)
  | inr t ↦ HasShape-others B (types_from As) s (HasShape-contained As A s t h)
]

before : (As Bs : List PlainType) (s : PlainShape) → HasShape (meet (types_from As)) s → HasShape (meet (types_from (As ++ Bs))) s
before [] Bs s h = absurd (no_meet_shape s h)
before (A ∷ As) Bs s h = elim (HasShape-either A (types_from As) s h) [
  | inl x ↦ HasShape-member A (types_from (As ++ Bs)) s x
  | inr x ↦ HasShape-others A (types_from (As ++ Bs)) s (before As Bs s x)
]

pub HasShape-first : {X : Type 0} (f : X → PlainType) (xs : List X) (i : ℕ) (s : PlainShape) → HasShape (meet (types_from (map f (take i xs)))) s →
    HasShape (meet (types_from (map f xs))) s
HasShape-first f xs i s h =
    subst (λ As. HasShape (meet (types_from As)) s) (sym (map-append f (take i xs) (drop i xs)) ∙ ap (map f) (take-append-drop i xs))
    (before (map f (take i xs)) (map f (drop i xs)) s h)

-- ---- stops

pub IsStop-weaker : (e : ShapeError) (F H : PlainShape → Type 0) → ((s : PlainShape) → F s → H s) → IsStop e F → IsStop e H
IsStop-weaker TooManyShapes F H f m = HasMany-weaker F H f m
IsStop-weaker TooManyEntries F H f m = m
IsStop-weaker TablesTooLarge F H f m = m
IsStop-weaker OutOfMemory F H f m = tt

pub IsStop-front : (e : ShapeError) (x : ShapeElem) (F A : PlainType) → IsFronted x F A → IsStop e (HasShape A) → IsStop e (HasShape F)
IsStop-front TooManyShapes x F A f m = HasMany-map (in_front x) (HasShape A) (HasShape F) (λ s t e. in_front-same x s t e) (λ s h. HasShape-front x F A f s h) m
IsStop-front TooManyEntries x F A f m = m
IsStop-front TablesTooLarge x F A f m = m
IsStop-front OutOfMemory x F A f m = tt

pub IsStop-memory : (e : ShapeError) (F : PlainShape → Type 0) → e ≡ OutOfMemory → IsStop e F
IsStop-memory e F is = subst (λ x. IsStop x F) (sym is) tt

-- ---- one shape, or the demand in front, as they are made

pub AreJust-end : (S : List PlainShape) (e : ShapeEnd) (a : Atom) (A : PlainType) → A ≡ atom a → end_shape a ≡ plain_end e → S ≡ at_end (plain_end e) ∷ [] → AreJust S A
AreJust-end S e a A is ends made =
    subst (AreJust S) (sym is) (subst (λ T. AreJust T (atom a)) (ap (λ x. at_end x ∷ []) ends ∙ sym made) (AreJust-atom a))

pub AreJust-fronted : (x : ShapeElem) (F A : PlainType) → IsFronted x F A → (S T : List PlainShape) → AreJust S A → T ≡ map (in_front x) S → AreJust T F
AreJust-fronted x F A f S T j made = subst (λ U. AreJust U F) (sym made) (AreJust-front x F A f S j)

pub data_end : (D : DataTy) → end_shape (data_atom D) ≡ a_value
data_end data_type.Int = refl
data_end data_type.Bool = refl
data_end data_type.Char = refl

-- the shapes of a cell
pub AreJust-cell : (D : DataTy) → AreJust (at_end a_value ∷ at_end an_assignment ∷ []) (cell_type D)
AreJust-cell D =
    AreJust-both (atom (data_atom D) ∷ []) (atom (acceptor_atom D)) (at_end a_value ∷ []) (at_end an_assignment ∷ []) (at_end a_value ∷ at_end an_assignment ∷ [])
    (AreJust-both [] (atom (data_atom D)) [] (at_end a_value ∷ []) (at_end a_value ∷ []) AreJust-no_meet (value D) (λ s h. absurd (Contains-none s h)) (λ s h. h) (λ s h. inr h))
    (acceptor D)
    (λ s h. Contains-append_left (at_end a_value ∷ []) (at_end an_assignment ∷ []) s h)
    (λ s h. Contains-append_right (at_end a_value ∷ []) (at_end an_assignment ∷ []) s h)
    (λ s h. Contains-append_cases (at_end a_value ∷ []) (at_end an_assignment ∷ []) s h)
  where
    value : (D : DataTy) → AreJust (at_end a_value ∷ []) (atom (data_atom D))
    value D = subst (λ e. AreJust (at_end e ∷ []) (atom (data_atom D))) (data_end D) (AreJust-atom (data_atom D))

    acceptor : (D : DataTy) → AreJust (at_end an_assignment ∷ []) (atom (acceptor_atom D))
    acceptor D = subst (λ e. AreJust (at_end e ∷ []) (atom (acceptor_atom D))) (acceptor_end D) (AreJust-atom (acceptor_atom D))

AreJust-joined : (As : List PlainType) (B : PlainType) (S T : List PlainShape) → AreJust S (meet (types_from As)) → AreJust T B →
    AreJust (S ++ T) (meet (types_from (As ++ B ∷ [])))
AreJust-joined As B S T j k =
    AreJust-both As B S T (S ++ T) j k (λ s h. Contains-append_left S T s h) (λ s h. Contains-append_right S T s h) (λ s h. Contains-append_cases S T s h)

-- the shapes of a sequence
pub AreJust-sequence : AreJust (a_call (at_end a_value) ∷ a_call (at_end an_assignment) ∷ a_field 0 (at_end a_value) ∷ []) sequence_type
AreJust-sequence =
    AreJust-joined (arrow (atom Int) (cell_type data_type.Int) ∷ []) (field 0 (atom Int)) (a_call (at_end a_value) ∷ a_call (at_end an_assignment) ∷ [])
    (a_field 0 (at_end a_value) ∷ [])
    (AreJust-joined [] (arrow (atom Int) (cell_type data_type.Int)) [] (a_call (at_end a_value) ∷ a_call (at_end an_assignment) ∷ []) AreJust-no_meet
    (AreJust-front elem.Call (arrow (atom Int) (cell_type data_type.Int)) (cell_type data_type.Int) (atom Int, refl) (at_end a_value ∷ at_end an_assignment ∷ [])
    (AreJust-cell data_type.Int)))
    (AreJust-front (elem.Field 0) (field 0 (atom Int)) (atom Int) refl (at_end a_value ∷ []) (AreJust-atom Int))
