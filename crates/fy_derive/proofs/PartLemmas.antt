-- The parts that a derivation goes down to.
use Rattle.std.proofs.Common.{ℕ, ◌≡◌, List, [], ◌∷◌, Option, option_map, unwrap_or, Some, None, ap}
use Rattle.fy_types.specs.Types.{PlainType}
use Rattle.fy_phrase.specs.Tree.{Tree, lam, merge}
use Rattle.fy_derive.specs.Kinds.{Kind, kind_of}
use Rattle.fy_derive.specs.Rules.{Premise, premises}
use Rattle.fy_derive.specs.Judging.{member, alternative, operands}
use Rattle.fy_derive.specs.Shapes.{subjects, parts_of}
use Rattle.fy_derive.proofs.SoundLemmas.{some_same}

pub alternative-parts : (i : ℕ) (p : Tree) (x : PlainType × Tree) → alternative i p ≡ Some x → parts_of p ≡ x.1 ∷ []
alternative-parts i (lam d As b at) x e = by (member As i) e
  where
    by : (o : Option PlainType) → option_map {U = PlainType × Tree} (λ A. (A, b)) o ≡ Some x → b ∷ [] ≡ x.1 ∷ []
    by None f = absurd cc
    by (Some A) f = ap (λ y. y.1 ∷ []) (some_same f)
alternative-parts i p x e = absurd cc

pub operands-parts : (p : Tree) (x : Tree × Tree × Kind) → operands p ≡ Some x → parts_of p ≡ x.0 ∷ x.1 ∷ []
operands-parts (merge q r at) x e = by (kind_of r) e
  where
    by : (o : Option Kind) → option_map {U = Tree × Tree × Kind} (λ k. (q, r, k)) o ≡ Some x → q ∷ r ∷ [] ≡ x.0 ∷ x.1 ∷ []
    by None f = absurd cc
    by (Some k) f = ap (λ y. y.0 ∷ y.1 ∷ []) (some_same f)
operands-parts p x e = absurd cc

pub rule-parts : (p : Tree) (Ps : List Premise) → premises p ≡ Some Ps → parts_of p ≡ subjects Ps
rule-parts (lam d As b at) Ps e = absurd cc
rule-parts (merge q r at) Ps e = absurd cc
rule-parts p Ps e = ap (λ o. subjects (unwrap_or o [])) e
