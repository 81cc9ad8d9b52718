-- First demands of paths, and lists of what is behind them.
use Rattle.std.proofs.Common.{ℕ, zero, suc, ◌<◌, ◌≤◌, ◌≡◌, ◌≢◌, ◌↔◌, nat_eq, Bool, true, false, IsTrue, List, [], ◌∷◌, ◌++◌, length, map, drop, get_or, append_assoc, refl, sym, ap, ◌∙◌, if◌then◌else◌, arith}
use Rattle.std.proofs.lemmas.Bool.{ne_eqb}
use Rattle.std.proofs.lemmas.List.{append-nil, drop-map, map-append}
use Rattle.std.specs.declared.alloc.Global.{Global}
use Rattle.std.specs.declared.rc.Rc.{Rc}
use Rattle.fy_types.specs.declared.types.Atom.{Atom}
use Rattle.fy_types.specs.declared.paths.ElemList.{ElemList}
use Rattle.fy_types.specs.declared.paths.Path.{Path, out-Path, roll-Path}
use Rattle.fy_types.specs.declared.paths.PathElem.{PathElem, Call, Field}
use Rattle.fy_types.specs.declared.paths.Paths.{Paths}
use Rattle.fy_types.specs.Subtyping.{IsSubtype}
use Rattle.fy_types.specs.Paths.{PlainPath, PlainPaths, end, call, pick, no_paths, and_path, append, type_of_paths}
use Rattle.fy_types.specs.PathOrder.{IsEndBelow, HasBelow, and_above, none_left}
use Rattle.fy_types.specs.Reading.{PlainElem, a_call, a_field, front, fronted, plain_elem, plain_elems, plain_path, plain_paths, elems_in, paths_from}
use Rattle.fy_types.specs.Bounds.{is_end_low}
use Rattle.fy_types.proofs.Laws.{append_assoc as appended_assoc}
use Rattle.fy_types.proofs.Central.{forms-iff}
use Rattle.fy_types.proofs.ReadLemmas.{plain_path-at, plain_path-made, plain_elems-at, plain_elem-Call, plain_elem-Field}
use Rattle.fy_types.proofs.Making.{made-push}
use Rattle.fy_types.proofs.OnceLemmas.{both_true}
use Rattle.fy_types.proofs.Steps.{drop_item, drop_end}
use Rattle.fy_types.proofs.BoundLemmas.{is_end_low-sound, is_end_low-complete}
use Rattle.fy_derive.specs.Kinds.{Kind, of_field, begins}
use Rattle.fy_derive.specs.Least.{if_passed, rest_of_call, rest_of_field, others}
use Rattle.fy_derive.specs.Subsumption.{path_below, paths_below, some_below}
use Rattle.fy_derive.proofs.SubsumptionLemmas.{some_below-sound, ArePathsBelow-le, paths_below-iff}
use Rattle.fy_order.specs.Demands.{takes, takes_argument, behind}

pub behind-fronted : (n : ℕ) (xs : List PlainElem) (a : Atom) → behind n (fronted xs (end a)) ≡ fronted (drop n xs) (end a)
behind-fronted zero xs a = refl
behind-fronted (suc n) [] a = refl
behind-fronted (suc n) (a_call D ∷ xs) a = behind-fronted n xs a
behind-fronted (suc n) (a_field i ∷ xs) a = behind-fronted n xs a

-- a path without elements, and one with a first element
pub path-end : (p : Path) (xs : List PathElem) → plain_elems (out-Path p).elems ≡ map plain_elem xs → length xs ≤ 0 →
    plain_path p ≡ end (out-Path p).end
path-end p xs e l = plain_path-at p ∙ ap (λ ys. fronted ys (end (out-Path p).end)) (e ∙ drop_end plain_elem xs 0 l)

pub path-front : (p : Path) (xs : List PathElem) (x : PathElem) → plain_elems (out-Path p).elems ≡ map plain_elem xs →
    0 < length xs → x ≡ get_or xs 0 x → plain_path p ≡ front (plain_elem x) (fronted (map plain_elem (drop 1 xs)) (end (out-Path p).end))
path-front p xs x e l is = plain_path-at p ∙ ap (λ ys. fronted ys (end (out-Path p).end)) (e ∙ drop_item plain_elem xs 0 x l is)

pub no_end-front : (x : PlainElem) (p : PlainPath) (a : Atom) → false ≡ path_below (front x p) (end a)
no_end-front (a_call D) p a = refl
no_end-front (a_field i) p a = refl

-- a path with elements doesn't end at once
pub no_end-longer : (p : Path) (xs : List PathElem) (a : Atom) → plain_elems (out-Path p).elems ≡ map plain_elem xs → length xs ≢ 0 →
    nat_eq (length xs) 0 ≡ path_below (plain_path p) (end a)
no_end-longer p [] a e some = absurd (some refl)
no_end-longer p (x ∷ xs) a e some =
    ne_eqb (length (x ∷ xs)) 0 some
    ∙ (no_end-front (plain_elem x) (fronted (map plain_elem xs) (end (out-Path p).end)) a
    ∙ ap (λ q. path_below q (end a)) (sym (plain_path-at p ∙ ap (λ ys. fronted ys (end (out-Path p).end)) e)))

same_truth : (r s : Bool) → (IsTrue r → IsTrue s) → (IsTrue s → IsTrue r) → r ≡ s
same_truth true true f g = refl
same_truth true false f g = sym (f refl)
same_truth false true f g = g refl
same_truth false false f g = refl

pub end-test : (r : Bool) (a b : Atom) → (IsTrue r ↔ IsEndBelow a b) → r ≡ is_end_low a b
end-test r a b h = same_truth r (is_end_low a b) (λ t. is_end_low-complete (h.0 t)) (λ t. h.1 (is_end_low-sound a b t))

-- the test that a path has one below it
pub some-test : (r : Bool) (P : PlainPaths) (q : PlainPath) → (IsTrue r ↔ HasBelow P q) → r ≡ some_below P q
some-test r P q h =
    same_truth r (some_below P q)
    (λ t. (both_true (some_below P q) true (ArePathsBelow-le (and_above (h.0 t) none_left))).0)
    (λ t. h.1 (some_below-sound P q t))

pub below-test : (r : Bool) (P Q : PlainPaths) → (IsTrue r ↔ IsSubtype (type_of_paths P) (type_of_paths Q)) → r ≡ paths_below P Q
below-test r P Q h =
    same_truth r (paths_below P Q)
    (λ t. (paths_below-iff P Q).1 ((forms-iff P Q).0 (h.0 t)))
    (λ t. h.1 ((forms-iff P Q).1 ((paths_below-iff P Q).0 t)))

-- what a path takes whose first element is a call, or a field
pub takes-call : (Q : PlainPaths) (p : Path) (xs : List PathElem) (x : PathElem) (d : Rc Paths Global) → plain_elems (out-Path p).elems ≡ map plain_elem xs →
    0 < length xs → x ≡ get_or xs 0 x → x ≡ Call d → takes_argument Q (plain_path p) ≡ paths_below Q (plain_paths d.value)
takes-call Q p xs x d e l is f =
    ap (takes_argument Q) (path-front p xs x e l is)
    ∙ ap (λ y. takes_argument Q (front y (fronted (map plain_elem (drop 1 xs)) (end (out-Path p).end)))) (ap plain_elem f ∙ plain_elem-Call d)

pub takes-field : (Q : PlainPaths) (p : Path) (xs : List PathElem) (x : PathElem) (i : ℕ) → plain_elems (out-Path p).elems ≡ map plain_elem xs →
    0 < length xs → x ≡ get_or xs 0 x → x ≡ Field i → takes_argument Q (plain_path p) ≡ false
takes-field Q p xs x i e l is f =
    ap (takes_argument Q) (path-front p xs x e l is)
    ∙ ap (λ y. takes_argument Q (front y (fronted (map plain_elem (drop 1 xs)) (end (out-Path p).end)))) (ap plain_elem f ∙ plain_elem-Field i)

-- the elements that were copied are those behind the first n
pub copied-path : (p : Path) (xs : List PathElem) (es : ElemList) (n i : ℕ) → plain_elems (out-Path p).elems ≡ map plain_elem xs →
    map plain_elem (elems_in es) ++ map plain_elem (drop i xs) ≡ map plain_elem (drop n xs) → length xs ≤ i →
    plain_path (roll-Path (record { elems = es; end = (out-Path p).end })) ≡ behind n (plain_path p)
copied-path p xs es n i e so_far past =
    plain_path-made es (out-Path p).end
    ∙ (ap (λ ys. fronted ys (end (out-Path p).end))
    (plain_elems-at es
    ∙ (sym (append-nil (map plain_elem (elems_in es)))
    ∙ (ap (λ ys. map plain_elem (elems_in es) ++ ys) (sym (drop_end plain_elem xs i past))
    ∙ (so_far ∙ (sym (drop-map plain_elem n xs) ∙ ap (drop n) (sym e))))))
    ∙ (sym (behind-fronted n (plain_elems (out-Path p).elems) (out-Path p).end) ∙ ap (behind n) (sym (plain_path-at p))))

-- a list with one path more before what is left
pub kept-one : (xs : List Path) (x : Path) (p : PlainPath) (R : PlainPaths) → plain_path x ≡ p →
    append (paths_from (map plain_path (xs ++ x ∷ []))) R ≡ append (paths_from (map plain_path xs)) (and_path p R)
kept-one xs x p R e =
    ap (λ P. append P R) (made-push xs x) ∙ (appended_assoc (paths_from (map plain_path xs)) (and_path (plain_path x) no_paths) R
    ∙ ap (λ q. append (paths_from (map plain_path xs)) (and_path q R)) e)

pub moved-one : (xs : List PathElem) (x : PathElem) (y : PlainElem) (ys zs : List PlainElem) → plain_elem x ≡ y → ys ≡ y ∷ zs →
    map plain_elem (xs ++ x ∷ []) ++ zs ≡ map plain_elem xs ++ ys
moved-one xs x y ys zs e d =
    ap (λ l. l ++ zs) (map-append plain_elem xs (x ∷ []))
    ∙ (append_assoc (map plain_elem xs) (plain_elem x ∷ []) zs ∙ ap (λ l. map plain_elem xs ++ l) (ap (λ z. z ∷ zs) e ∙ sym d))

-- a list of flags with one more, before what is left
pub flagged-one : (ts : List Bool) (a b : Bool) (R S : List Bool) → a ≡ b → S ≡ b ∷ R → (ts ++ a ∷ []) ++ R ≡ ts ++ S
flagged-one ts a b R S e d = append_assoc ts (a ∷ []) R ∙ ap (λ l. ts ++ l) (ap (λ z. z ∷ R) e ∙ sym d)

-- a flag for each path
pub takes-length : (Q : PlainPaths) (xs : List Path) → length (takes Q (paths_from (map plain_path xs))) ≡ length xs
takes-length Q [] = refl
takes-length Q (x ∷ xs) = ap suc (takes-length Q xs)

pub takes-at : (Q : PlainPaths) (xs : List Path) (k : ℕ) (x : Path) (b : Bool) → k < length xs → x ≡ get_or xs k x →
    get_or (takes Q (paths_from (map plain_path xs))) k b ≡ takes_argument Q (plain_path x)
takes-at Q [] k x b within is = absurd (omega (arith, within))
takes-at Q (y ∷ xs) zero x b within is = ap (λ z. takes_argument Q (plain_path z)) (sym is)
takes-at Q (y ∷ xs) (suc k) x b within is = takes-at Q xs k x b (omega (arith, within)) is

pub rest-taken : (Q : PlainPaths) (p : PlainPath) → true ≡ takes_argument Q p → rest_of_call Q p ≡ and_path (behind 1 p) no_paths
rest-taken Q (end a) e = absurd (cc)
rest-taken Q (call D p) e = ap (λ b. if_passed b (and_path p no_paths)) (sym e)
rest-taken Q (pick i p) e = absurd (cc)

pub rest-left : (Q : PlainPaths) (p : PlainPath) → false ≡ takes_argument Q p → rest_of_call Q p ≡ no_paths
rest-left Q (end a) e = refl
rest-left Q (call D p) e = ap (λ b. if_passed b (and_path p no_paths)) (sym e)
rest-left Q (pick i p) e = refl

pub field-taken : (i : ℕ) (p : PlainPath) → true ≡ begins (of_field i) p → rest_of_field i p ≡ and_path (behind 1 p) no_paths
field-taken i (end a) e = absurd (cc)
field-taken i (call D p) e = absurd (cc)
field-taken i (pick j p) e = ap (λ b. if_passed b (and_path p no_paths)) (sym e)

pub field-left : (i : ℕ) (p : PlainPath) → false ≡ begins (of_field i) p → rest_of_field i p ≡ no_paths
field-left i (end a) e = refl
field-left i (call D p) e = refl
field-left i (pick j p) e = ap (λ b. if_passed b (and_path p no_paths)) (sym e)

pub other-kept : (k : Kind) (p : PlainPath) (P : PlainPaths) → begins k p ≡ false → others k (and_path p P) ≡ and_path p (others k P)
other-kept k p P e = ap (λ b. if b then others k P else and_path p (others k P)) e

pub other-left : (k : Kind) (p : PlainPath) (P : PlainPaths) → begins k p ≡ true → others k (and_path p P) ≡ others k P
other-left k p P e = ap (λ b. if b then others k P else and_path p (others k P)) e

-- the others of a list, and then those of another one
pub others-append : (k : Kind) (P Q : PlainPaths) → others k (append P Q) ≡ append (others k P) (others k Q)
others-append k no_paths Q = refl
others-append k (and_path p P) Q = step (begins k p) (others-append k P Q)
  where
    step : (b : Bool) → others k (append P Q) ≡ append (others k P) (others k Q) →
        (if b then others k (append P Q) else and_path p (others k (append P Q)))
        ≡ append (if b then others k P else and_path p (others k P)) (others k Q)
    step true e = e
    step false e = ap (and_path p) e
