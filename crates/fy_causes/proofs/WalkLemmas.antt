-- Walks along lists of paths: their first demands.
use Rattle.std.proofs.Common.{ℕ, ◌+◌, ◌<◌, ◌≡◌, List, [], ◌∷◌, ◌++◌, length, map, drop, get_or, refl, sym, ap, ◌∙◌}
use Rattle.fy_types.specs.declared.paths.ElemList.{ElemList}
use Rattle.fy_types.specs.declared.paths.Path.{Path, roll-Path}
use Rattle.fy_types.specs.declared.paths.Paths.{Paths}
use Rattle.fy_types.specs.Paths.{PlainPath, PlainPaths, end, no_paths, and_path, append}
use Rattle.fy_types.specs.declared.types.Atom.TheVariants.{Comm}
use Rattle.fy_types.specs.Reading.{PlainElem, a_call, a_field, elems_in, front as in_front, fronted, paths_from, paths_in, plain_elem, plain_path, plain_paths}
use Rattle.fy_types.proofs.Laws.{append_assoc}
use Rattle.fy_types.proofs.Making.{made-push}
use Rattle.fy_types.proofs.ReadLemmas.{plain_elems-at, plain_path-made, plain_paths-at}
use Rattle.fy_causes.specs.Causes.{head_of, heads_of}
use Rattle.fy_causes.proofs.LoopLemmas.{left_more}

-- the paths that are left, and the first of them
paths-left : (xs : List Path) (i : ℕ) (x : Path) → i < length xs → x ≡ get_or xs i x →
    paths_from (map plain_path (drop i xs)) ≡ and_path (plain_path x) (paths_from (map plain_path (drop (i + 1) xs)))
paths-left xs i x within is = ap paths_from (left_more plain_path xs i x within is)

-- first demands
pub heads-more : (xs : List Path) (i : ℕ) (x : Path) (H N W : PlainPaths) → i < length xs → x ≡ get_or xs i x → N ≡ append H (head_of (plain_path x)) →
    append H (heads_of (paths_from (map plain_path (drop i xs)))) ≡ W → append N (heads_of (paths_from (map plain_path (drop (i + 1) xs)))) ≡ W
heads-more xs i x H N W within is more so_far =
    ap (λ P. append P (heads_of (paths_from (map plain_path (drop (i + 1) xs))))) more
    ∙ (append_assoc H (head_of (plain_path x)) (heads_of (paths_from (map plain_path (drop (i + 1) xs))))
    ∙ (sym (ap (λ P. append H (heads_of P)) (paths-left xs i x within is)) ∙ so_far))

head-front : (x : PlainElem) (p : PlainPath) → head_of (in_front x p) ≡ and_path (in_front x (end Comm)) no_paths
head-front (a_call D) p = refl
head-front (a_field i) p = refl

pub head-pushed : (old new : Paths) (p item : Path) (x : PlainElem) (q : PlainPath) → paths_in new ≡ paths_in old ++ item ∷ [] →
    plain_path item ≡ in_front x (end Comm) → plain_path p ≡ in_front x q → plain_paths new ≡ append (plain_paths old) (head_of (plain_path p))
head-pushed old new p item x q pushed made begins =
    plain_paths-at new
    ∙ (ap (λ ps. paths_from (map plain_path ps)) pushed
    ∙ (made-push (paths_in old) item
    ∙ (ap (λ P. append P (and_path (plain_path item) no_paths)) (sym (plain_paths-at old))
    ∙ ap (append (plain_paths old)) (ap (λ y. and_path y no_paths) made ∙ sym (ap head_of begins ∙ head-front x q)))))

pub head-made : (l : ElemList) (item : Path) (y x : PlainElem) → elems_in l ≡ [] →
    plain_path item ≡ in_front y (plain_path (roll-Path (record { elems = l; end = Comm }))) → y ≡ x → plain_path item ≡ in_front x (end Comm)
head-made l item y x none made same =
    made
    ∙ (ap (λ z. in_front z (plain_path (roll-Path (record { elems = l; end = Comm })))) same
    ∙ ap (in_front x) (plain_path-made l Comm ∙ ap (λ ys. fronted ys (end Comm)) (plain_elems-at l ∙ ap (map plain_elem) none)))
