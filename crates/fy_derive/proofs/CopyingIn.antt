-- Substitution: a closed phrase that answers all paths of a variable can be copied in for it, and the phrase answers what it did.
use Rattle.std.proofs.Common.{ℕ, zero, suc, ◌+◌, ◌<◌, ◌≡◌, List, [], ◌∷◌, Some, refl, ◌⊎◌, inl, inr, arith, eq-eqb, lt-ltb, le-ltb}
use Rattle.fy_base.specs.declared.data.Place.{Place}
use Rattle.fy_types.specs.declared.types.Atom.TheVariants.{Compl}
use Rattle.fy_types.specs.Paths.{PlainPath, PlainPaths, call, pick, paths}
use Rattle.fy_types.specs.PathOrder.{HasBelow}
use Rattle.fy_types.proofs.Order.{IsPathBelow-refl}
use Rattle.fy_phrase.specs.declared.phrase.MarkKind.{MarkKind}
use Rattle.fy_phrase.specs.declared.phrase.MarkKind.TheVariants as marks
use Rattle.fy_phrase.specs.Tree.{Tree, Trees, no_trees, and_tree, var, lit, unary, binary, cond, case, lam, app, field, sel, merge, let_in, rec, skip, seq, assign, while_do, forever, new, cells, escape, accept, put, read, mark}
use Rattle.fy_phrase.specs.Closing.{closed_at, all_closed_at, closed_with}
use Rattle.fy_derive.specs.Atoms.{data_atom, cell_type, sequence_type}
use Rattle.fy_derive.specs.Kinds.{Kind, kind_of}
use Rattle.fy_derive.proofs.PathTyping.{World, paths_at, EachPath, EachPath-map, only, Answers, EachAnswers, answers-up, answers-above}

-- a closed phrase has no use for variables
any_variables : (W : World) (p : Tree) (G : List PlainPaths) (P : PlainPath) → Answers W [] p P → Answers W G p P
any_variables W p G P h = answers-up W W (λ m s. s) p [] G P P (λ k Q some. elim some [ ]) (IsPathBelow-refl P) h

kind_of-closed : (q : Tree) (n : ℕ) (a : Tree) (k : Kind) → kind_of q ≡ Some k → kind_of (closed_at n a q) ≡ Some k
kind_of-closed (lam d As b at) n a k e = e
kind_of-closed (field i p at) n a k e = e
kind_of-closed (accept d D b at) n a k e = e
kind_of-closed q n a k e = absurd cc

mark-closed : (W : World) (m : MarkKind) (at : Place) (H G : List PlainPaths) (P : PlainPath) → Answers W G (mark m at) P → Answers W H (mark m at) P
mark-closed W (marks.Cell n) at H G P h = h
mark-closed W (marks.Jump n) at H G P h = h
mark-closed W (marks.Sequence n) at H G P h = h
mark-closed W (marks.Element n i) at H G P h = h

module _ (W : World) (a : Tree) where
  -- of the variables with the paths G, number n is the phrase a, and those below it have the paths H
  abbrev pub Fits : ℕ → List PlainPaths → List PlainPaths → Type 0
  Fits n H G = (k : ℕ) (P : PlainPath) → HasBelow (paths_at G k) P → ((k ≡ n) × Answers W [] a P) ⊎ ((k < n) × HasBelow (paths_at H k) P)

  fits-under : (n : ℕ) (E : PlainPaths) (H G : List PlainPaths) → Fits n H G → Fits (n + 1) (E ∷ H) (E ∷ G)
  fits-under n E H G f zero P some = inr (omega arith, some)
  fits-under n E H G f (suc k) P some =
      elim (f k P some) [
        | inl is ↦ inl (let e = is.0 in omega arith, is.1)
        | inr less ↦ inr (let l = less.0 in omega arith, less.1)
      ]

  var-closed : (k n : ℕ) (at : Place) (H : List PlainPaths) (P : PlainPath) →
      ((k ≡ n) × Answers W [] a P) ⊎ ((k < n) × HasBelow (paths_at H k) P) → Answers W H (closed_at n a (var k at)) P
  var-closed k n at H P (inl is) = let e = is.0 in rw (le-ltb k n (omega arith), eq-eqb k n e) (any_variables W a H P is.1)
  var-closed k n at H P (inr less) = rw (lt-ltb k n less.0) less.1

  mutual
    pub answers-closed : (p : Tree) (n : ℕ) (H G : List PlainPaths) (P : PlainPath) → Fits n H G → Answers W G p P → Answers W H (closed_at n a p) P
    answers-closed (var k at) n H G P f h = var-closed k n at H P (f k P h)
    answers-closed (lit v at) n H G P f h = h
    answers-closed (unary op p at) n H G P f h = (h.0, answers-closed p n H G _ f h.1)
    answers-closed (binary op p q at) n H G P f h = (h.0, h.1, h.2, answers-closed p n H G _ f h.3, answers-closed q n H G _ f h.4)
    answers-closed (cond b p q at) n H G P f h = (answers-closed b n H G _ f h.0, answers-closed p n H G P f h.1, answers-closed q n H G P f h.2)
    answers-closed (case e parts at) n H G P f h = (answers-closed e n H G _ f h.0, each-closed parts n H G P f h.1)
    answers-closed (lam d As b at) n H G P f h =
        (h.0, h.1, h.2, answers-closed b (n + 1) (h.0 ∷ H) (h.0 ∷ G) h.1 (fits-under n h.0 H G f) h.3)
    answers-closed (app p q at) n H G P f h =
        (h.0, answers-closed p n H G (call h.0 P) f h.1, EachPath-map h.0 (λ R r. answers-closed q n H G R f r) h.2)
    answers-closed (field i p at) n H G P f h = (h.0, h.1, answers-closed p n H G h.0 f h.2)
    answers-closed (sel p i at) n H G P f h = answers-closed p n H G (pick i P) f h
    answers-closed (merge p q at) n H G P f (k, e, inl h) = (k, kind_of-closed q n a k e, inl (h.0, answers-closed p n H G P f h.1))
    answers-closed (merge p q at) n H G P f (k, e, inr h) = (k, kind_of-closed q n a k e, inr (answers-closed q n H G P f h))
    answers-closed (let_in d p b at) n H G P f h =
        (h.0, EachPath-map h.0 (λ R r. answers-closed p n H G R f r) h.1, answers-closed b (n + 1) (h.0 ∷ H) (h.0 ∷ G) P (fits-under n h.0 H G f) h.2)
    answers-closed (rec d T b at) n H G P f h =
        (h.0, EachPath-map (paths T) (λ R r. answers-closed b (n + 1) (paths T ∷ H) (paths T ∷ G) R (fits-under n (paths T) H G f) r) h.1)
    answers-closed (skip at) n H G P f h = h
    answers-closed (seq p q at) n H G P f h = (h.0, answers-closed p n H G _ f h.1, answers-closed q n H G P f h.2)
    answers-closed (assign p q at) n H G P f h = (h.0, h.1, answers-closed p n H G _ f h.2, answers-closed q n H G _ f h.3)
    answers-closed (while_do b c at) n H G P f h = (h.0, answers-closed b n H G _ f h.1, answers-closed c n H G _ f h.2)
    answers-closed (forever c at) n H G P f h = (h.0, answers-closed c n H G _ f h.1)
    answers-closed (new d D e b at) n H G P f h =
        (h.0, answers-closed e n H G _ f h.1, answers-closed b (n + 1) (paths (cell_type D) ∷ H) (paths (cell_type D) ∷ G) P (fits-under n (paths (cell_type D)) H G f) h.2)
    answers-closed (cells d e b at) n H G P f h =
        (h.0, answers-closed e n H G _ f h.1, answers-closed b (n + 1) (paths sequence_type ∷ H) (paths sequence_type ∷ G) P (fits-under n (paths sequence_type) H G f) h.2)
    answers-closed (escape d b at) n H G P f h =
        (h.0, answers-closed b (n + 1) (only Compl ∷ H) (only Compl ∷ G) _ (fits-under n (only Compl) H G f) h.1)
    answers-closed (accept d D b at) n H G P f h =
        (h.0, answers-closed b (n + 1) (only (data_atom D) ∷ H) (only (data_atom D) ∷ G) _ (fits-under n (only (data_atom D)) H G f) h.1)
    answers-closed (put kind p at) n H G P f h = (h.0, answers-closed p n H G _ f h.1)
    answers-closed (read p at) n H G P f h = (h.0, answers-closed p n H G _ f h.1)
    answers-closed (mark m at) n H G P f h = mark-closed W m at H G P h

    each-closed : (ps : Trees) (n : ℕ) (H G : List PlainPaths) (P : PlainPath) → Fits n H G → EachAnswers W G ps P → EachAnswers W H (all_closed_at n a ps) P
    each-closed no_trees n H G P f h = tt
    each-closed (and_tree p ps) n H G P f h = (answers-closed p n H G P f h.0, each-closed ps n H G P f h.1)

  fits-first : (D : PlainPaths) → EachPath (λ Q. Answers W [] a Q) D → Fits 0 [] (D ∷ [])
  fits-first D each zero P some = inl (refl, answers-above W a [] some each)
  fits-first D each (suc k) P some = elim some [ ]

  -- a body with the phrase for its variable
  pub copied-in : (b : Tree) (D : PlainPaths) (P : PlainPath) → EachPath (λ Q. Answers W [] a Q) D → Answers W (D ∷ []) b P → Answers W [] (closed_with b a) P
  copied-in b D P each h = answers-closed b 0 [] (D ∷ []) P (fits-first D each) h
