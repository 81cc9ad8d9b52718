-- What is typed answers each path of its type.
use Rattle.std.proofs.Common.{ℕ, zero, suc, ◌≡◌, Bool, true, false, not, List, [], ◌∷◌, map, Some, slice_get, refl, sym, subst, inl, inr}
use Rattle.fy_types.specs.declared.types.Atom.TheVariants.{Compl}
use Rattle.fy_types.specs.Types.{PlainType, PlainTypes}
use Rattle.fy_types.specs.Paths.{PlainPath, PlainPaths, call, pick, no_paths, and_path, append, called, picked, paths, all_paths}
use Rattle.fy_types.specs.PathOrder.{ArePathsBelow, and_above, HasBelow, here, there}
use Rattle.fy_types.proofs.Order.{IsPathBelow-refl}
use Rattle.fy_types.proofs.Laws.{IsSubtype-paths}
use Rattle.fy_types.proofs.OnceLemmas.{both_true}
use Rattle.fy_phrase.specs.Tree.{Tree, Trees}
use Rattle.fy_derive.specs.Kinds.{Kind, begins, none_begins}
use Rattle.fy_derive.specs.Typing.{HasType, HasEach, EachHasType, by_ns, by_subsumption, by_meet, by_var, by_lit, by_unary, by_binary, by_cond, by_case, by_lam, by_app, by_field, by_sel, by_left, by_right, by_let, by_rec, by_skip, by_seq, by_assign, by_while, by_forever, by_new, by_cells, by_escape, by_accept, by_put, by_read, no_more, and_has, no_parts, and_part}
use Rattle.fy_derive.proofs.PathTyping.{World, paths_at, EachPath, EachPath-map, Answers, EachAnswers, answers-above}

-- ---- each path of a list

pub EachPath-append : (F : PlainPath → Type 0) (P Q : PlainPaths) → EachPath F P → EachPath F Q → EachPath F (append P Q)
EachPath-append F no_paths Q each more = more
EachPath-append F (and_path p P) Q each more = (each.0, EachPath-append F P Q each.1 more)

pub EachPath-both : {F H K : PlainPath → Type 0} (P : PlainPaths) → ((p : PlainPath) → F p → H p → K p) → EachPath F P → EachPath H P → EachPath K P
EachPath-both no_paths f each more = tt
EachPath-both (and_path p P) f each more = (f p each.0 more.0, EachPath-both P f each.1 more.1)

pub EachPath-called : (F : PlainPath → Type 0) (D P : PlainPaths) → EachPath (λ R. F (call D R)) P → EachPath F (called D P)
EachPath-called F D no_paths each = tt
EachPath-called F D (and_path p P) each = (each.0, EachPath-called F D P each.1)

pub called-EachPath : (F : PlainPath → Type 0) (D P : PlainPaths) → EachPath F (called D P) → EachPath (λ R. F (call D R)) P
called-EachPath F D no_paths each = tt
called-EachPath F D (and_path p P) each = (each.0, called-EachPath F D P each.1)

pub EachPath-picked : (F : PlainPath → Type 0) (i : ℕ) (P : PlainPaths) → EachPath (λ R. F (pick i R)) P → EachPath F (picked i P)
EachPath-picked F i no_paths each = tt
EachPath-picked F i (and_path p P) each = (each.0, EachPath-picked F i P each.1)

pub picked-EachPath : (F : PlainPath → Type 0) (i : ℕ) (P : PlainPaths) → EachPath F (picked i P) → EachPath (λ R. F (pick i R)) P
picked-EachPath F i no_paths each = tt
picked-EachPath F i (and_path p P) each = (each.0, picked-EachPath F i P each.1)

pub EachPath-unit : (P : PlainPaths) → EachPath (λ R. Unit {0}) P
EachPath-unit no_paths = tt
EachPath-unit (and_path p P) = (tt, EachPath-unit P)

pub not_true : (b : Bool) → not b ≡ true → b ≡ false
not_true false e = refl
not_true true e = absurd cc

EachPath-clear : (k : Kind) (P : PlainPaths) → none_begins k P ≡ true → EachPath (λ R. begins k R ≡ false) P
EachPath-clear k no_paths e = tt
EachPath-clear k (and_path p P) e =
    let both = both_true (not (begins k p)) (none_begins k P) e in (not_true (begins k p) both.0, EachPath-clear k P both.1)

-- a list has its own paths
EachPath-own : (P Q : PlainPaths) → ((R : PlainPath) → HasBelow Q R → HasBelow P R) → EachPath (λ R. HasBelow P R) Q
EachPath-own P no_paths f = tt
EachPath-own P (and_path q Q) f = (f q (here (IsPathBelow-refl q)), EachPath-own P Q (λ R some. f R (there some)))

pub EachPath-self : (P : PlainPaths) → EachPath (λ R. HasBelow P R) P
EachPath-self P = EachPath-own P P (λ R some. some)

-- ---- contexts

-- the paths of the variables of these types
abbrev pub variable_paths : List PlainType → List PlainPaths
variable_paths G = map paths G

pub paths_at-get : (G : List PlainType) (k : ℕ) (A : PlainType) → slice_get G k ≡ Some A → paths_at (variable_paths G) k ≡ paths A
paths_at-get [] k A e = absurd cc
paths_at-get (B ∷ G) zero A e = let f : B ≡ A = cc in subst (λ C. paths B ≡ paths C) f refl
paths_at-get (B ∷ G) (suc k) A e = paths_at-get G k A e

-- ---- typing

module _ (W : World) where
  -- subsumption
  EachPath-above : (p : Tree) (G : List PlainPaths) (P Q : PlainPaths) → ArePathsBelow P Q →
      EachPath (λ R. Answers W G p R) P → EachPath (λ R. Answers W G p R) Q
  EachPath-above p G P no_paths below each = tt
  EachPath-above p G P (and_path q Q) (and_above some rest) each = (answers-above W p G some each, EachPath-above p G P Q rest each)

  mutual
    pub typed-answers : {G : List PlainType} {p : Tree} {A : PlainType} → HasType G p A → EachPath (λ R. Answers W (variable_paths G) p R) (paths A)
    typed-answers by_ns = tt
    typed-answers (by_subsumption {G = G} {p = p} {A = A} {B = B} t low) =
        EachPath-above p (variable_paths G) (paths A) (paths B) (IsSubtype-paths low) (typed-answers t)
    typed-answers (by_meet {A = A} {B = B} {As = As} t u more) =
        EachPath-append _ (paths A) (append (paths B) (all_paths As)) (typed-answers t)
        (EachPath-append _ (paths B) (all_paths As) (typed-answers u) (typed-each more))
    typed-answers (by_var {G = G} {k = k} {A = A} e) =
        subst (λ D. EachPath (λ R. HasBelow D R) (paths A)) (sym (paths_at-get G k A e)) (EachPath-self (paths A))
    typed-answers by_lit = (refl, tt)
    typed-answers (by_unary t) = ((refl, (typed-answers t).0), tt)
    typed-answers (by_binary D e t u) = ((D, e, refl, (typed-answers t).0, (typed-answers u).0), tt)
    typed-answers (by_cond {A = A} t u v) =
        let b = (typed-answers t).0 in EachPath-both (paths A) (λ R x y. (b, x, y)) (typed-answers u) (typed-answers v)
    typed-answers (by_case {A = A} t u more) =
        let e = (typed-answers t).0 in EachPath-both (paths A) (λ R x y. (e, (x, y))) (typed-answers u) (typed-parts more)
    typed-answers (by_lam {A = A} {C = C} among t) =
        EachPath-called _ (paths A) (paths C) (EachPath-map (paths C) (λ R x. (paths A, R, refl, x)) (typed-answers t))
    typed-answers (by_app {A = A} {C = C} t u) =
        let a = typed-answers u in EachPath-map (paths C) (λ R x. (paths A, x, a)) (called-EachPath _ (paths A) (paths C) (typed-answers t))
    typed-answers (by_field {i = i} {A = A} t) = EachPath-picked _ i (paths A) (EachPath-map (paths A) (λ R x. (R, refl, x)) (typed-answers t))
    typed-answers (by_sel {i = i} {A = A} t) = picked-EachPath _ i (paths A) (typed-answers t)
    typed-answers (by_left {k = k} {A = A} e t clear) =
        EachPath-both (paths A) (λ R x y. (k, e, inl (y, x))) (typed-answers t) (EachPath-clear k (paths A) clear)
    typed-answers (by_right {k = k} {A = A} e t) = EachPath-map (paths A) (λ R x. (k, e, inr x)) (typed-answers t)
    typed-answers (by_let {A = A} {C = C} t u) = let a = typed-answers t in EachPath-map (paths C) (λ R x. (paths A, a, x)) (typed-answers u)
    typed-answers (by_rec {T = T} t) = let a = typed-answers t in EachPath-map (paths T) (λ R some. (some, a)) (EachPath-self (paths T))
    typed-answers by_skip = (refl, tt)
    typed-answers (by_seq {R = R} is t u) = (((R, is, refl), (typed-answers t).0, (typed-answers u).0), tt)
    typed-answers (by_assign D t u) = ((D, refl, (typed-answers t).0, (typed-answers u).0), tt)
    typed-answers (by_while t u) = ((refl, (typed-answers t).0, (typed-answers u).0), tt)
    typed-answers (by_forever t) = (((Compl, refl, refl), (typed-answers t).0), tt)
    typed-answers (by_new {R = R} is t u) = (((R, is, refl), (typed-answers t).0, (typed-answers u).0), tt)
    typed-answers (by_cells {R = R} is t u) = (((R, is, refl), (typed-answers t).0, (typed-answers u).0), tt)
    typed-answers (by_escape t) = ((refl, (typed-answers t).0), tt)
    typed-answers (by_accept t) = ((refl, (typed-answers t).0), tt)
    typed-answers (by_put t) = ((refl, (typed-answers t).0), tt)
    typed-answers (by_read t) = ((refl, (typed-answers t).0), tt)

    typed-each : {G : List PlainType} {p : Tree} {As : PlainTypes} → HasEach G p As → EachPath (λ R. Answers W (variable_paths G) p R) (all_paths As)
    typed-each no_more = tt
    typed-each (and_has {A = A} {As = As} t more) = EachPath-append _ (paths A) (all_paths As) (typed-answers t) (typed-each more)

    typed-parts : {G : List PlainType} {ps : Trees} {A : PlainType} → EachHasType G ps A → EachPath (λ R. EachAnswers W (variable_paths G) ps R) (paths A)
    typed-parts (no_parts {A = A}) = EachPath-unit (paths A)
    typed-parts (and_part {A = A} t more) = EachPath-both (paths A) (λ R x y. (x, y)) (typed-answers t) (typed-parts more)
