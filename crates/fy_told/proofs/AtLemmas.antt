-- The names in scope at a node, one step down.
use Rattle.std.proofs.Common.{ℕ, ◌+◌, ◌≡◌, ◌≢◌, if◌then◌else◌, ◌∷◌, refl, sym, ap, eq-eqb}
use Rattle.fy_types.specs.Types.{PlainType}
use Rattle.fy_phrase.specs.Tree.{Tree}
use Rattle.fy_derive.specs.Derivations.{PlainDerivation, PlainDerivations, by_ns, sub, meets, alt, left, right, rule, count}
use Rattle.fy_derive.specs.Placed.{body_of, left_of, right_of}
use Rattle.fy_derive.proofs.RuleLemmas.{eqb_apart}
use Rattle.fy_show.specs.Entries.{Known, Scope}
use Rattle.fy_show.specs.Fresh.{bound}
use Rattle.fy_told.specs.ReasonTexts.{names_at, names_in, premises_at, whole_premises}

pub at-own : (k : Known) (m n : ℕ) (s : Scope) (p : Tree) (d : PlainDerivation) → n ≡ m → names_at k m d n s p ≡ s
at-own k m n s p by_ns e = refl
at-own k m n s p (sub B d) e = ap (λ b. if b then s else names_at k m d (n + 1) s p) (eq-eqb m n (sym e))
at-own k m n s p (meets ds) e = ap (λ b. if b then s else names_in k m ds (n + 1) s p (whole_premises (count ds) p)) (eq-eqb m n (sym e))
at-own k m n s p (alt i d) e = ap (λ b. if b then s else names_at k m d (n + 1) (bound k s p ∷ s) (body_of p)) (eq-eqb m n (sym e))
at-own k m n s p (left d) e = ap (λ b. if b then s else names_at k m d (n + 1) s (left_of p)) (eq-eqb m n (sym e))
at-own k m n s p (right d) e = ap (λ b. if b then s else names_at k m d (n + 1) s (right_of p)) (eq-eqb m n (sym e))
at-own k m n s p (rule ds) e = ap (λ b. if b then s else names_in k m ds (n + 1) s p (premises_at p)) (eq-eqb m n (sym e))

pub at-sub : (k : Known) (m n : ℕ) (s : Scope) (p : Tree) (B : PlainType) (d : PlainDerivation) → n ≢ m → names_at k m (sub B d) n s p ≡ names_at k m d (n + 1) s p
at-sub k m n s p B d e = ap (λ b. if b then s else names_at k m d (n + 1) s p) (eqb_apart m n e)

pub at-meet : (k : Known) (m n : ℕ) (s : Scope) (p : Tree) (ds : PlainDerivations) → n ≢ m → names_at k m (meets ds) n s p ≡ names_in k m ds (n + 1) s p (whole_premises (count ds) p)
at-meet k m n s p ds e = ap (λ b. if b then s else names_in k m ds (n + 1) s p (whole_premises (count ds) p)) (eqb_apart m n e)

pub at-alt : (k : Known) (m n : ℕ) (s : Scope) (p : Tree) (i : ℕ) (d : PlainDerivation) → n ≢ m → names_at k m (alt i d) n s p ≡ names_at k m d (n + 1) (bound k s p ∷ s) (body_of p)
at-alt k m n s p i d e = ap (λ b. if b then s else names_at k m d (n + 1) (bound k s p ∷ s) (body_of p)) (eqb_apart m n e)

pub at-left : (k : Known) (m n : ℕ) (s : Scope) (p : Tree) (d : PlainDerivation) → n ≢ m → names_at k m (left d) n s p ≡ names_at k m d (n + 1) s (left_of p)
at-left k m n s p d e = ap (λ b. if b then s else names_at k m d (n + 1) s (left_of p)) (eqb_apart m n e)

pub at-right : (k : Known) (m n : ℕ) (s : Scope) (p : Tree) (d : PlainDerivation) → n ≢ m → names_at k m (right d) n s p ≡ names_at k m d (n + 1) s (right_of p)
at-right k m n s p d e = ap (λ b. if b then s else names_at k m d (n + 1) s (right_of p)) (eqb_apart m n e)

pub at-rule : (k : Known) (m n : ℕ) (s : Scope) (p : Tree) (ds : PlainDerivations) → n ≢ m → names_at k m (rule ds) n s p ≡ names_in k m ds (n + 1) s p (premises_at p)
at-rule k m n s p ds e = ap (λ b. if b then s else names_in k m ds (n + 1) s p (premises_at p)) (eqb_apart m n e)

pub ruleset at_rules = (at-own, at-sub, at-meet, at-alt, at-left, at-right, at-rule)
