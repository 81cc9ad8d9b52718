-- The answer of finding, from what is found of the whole phrase.
use Rattle.std.proofs.Common.{ℕ, List, ◌≤◌, ◌≡◌, [], ◌∷◌, All, Some, None, refl, sym, ap, ◌∙◌, subst, arith, if◌then◌else◌}
use Rattle.std.proofs.lemmas.List.Elements.{All-nil, All-head, All-tail}
use Rattle.std.specs.Prelude.{Result, Ok, Err, IfOk, IsErrOf}
use Rattle.fy_base.specs.Outside.{Bytes}
use Rattle.fy_types.specs.declared.types.Atom.TheVariants.{Comm}
use Rattle.fy_types.specs.Types.{PlainType, atom}
use Rattle.fy_types.specs.Fields.{IsNamed, AllFields, HasFullMeets}
use Rattle.fy_types.specs.Nested.{type_nesting}
use Rattle.fy_types.specs.Paths.{paths}
use Rattle.fy_types.specs.PathOrder.{ArePathsBelow}
use Rattle.fy_types.specs.Reading.{plain_paths}
use Rattle.fy_types.specs.Subtyping.{IsSubtype}
use Rattle.fy_types.proofs.Central.{subtype-iff}
use Rattle.fy_phrase.specs.Tree.{Tree}
use Rattle.fy_derive.specs.declared.derivation.Derivation.{Derivation}
use Rattle.fy_derive.specs.Derivations.{sub}
use Rattle.fy_derive.specs.Reading.{plain_derivation}
use Rattle.fy_derive.specs.Typing.{HasType}
use Rattle.fy_derive.specs.Judging.{judged, refusal_at}
use Rattle.fy_derive.specs.Shapes.{in_sub}
use Rattle.fy_derive.proofs.RuleLemmas.{same_type-refl}
use Rattle.fy_derive.specs.Least.{forms_of, least_type, visits}
use Rattle.fy_least.specs.declared.found.Found.{Found}
use Rattle.fy_least.specs.declared.error.FindError.{FindError}
use Rattle.fy_least.specs.declared.error.LeastError.{LeastError}
use Rattle.fy_least.specs.declared.error.LeastError.TheVariants as least
use Rattle.fy_least.specs.Counts.{PassLimits}
use Rattle.fy_derive.specs.Limits.{KeepsLimits, most_type_nesting}
use Rattle.fy_least.specs.Refused.{of_least}
use Rattle.fy_phrase.specs.CoreLimits.{KeepsCoreLimits}
use Rattle.fy_phrase.specs.PhraseNames.{AllNames, HasFullTypes}
use Rattle.fy_derive.specs.Printable.{IsPrintable}
use Rattle.fy_least.specs.Finding.{IsFinding, IsFindingOf}
use Rattle.fy_least.specs.Layers.{subsumed, IsLayered, one_sub}
use Rattle.fy_least.specs.Limits.{most_together, KeepTypeLimits}
use Rattle.fy_least.specs.Pairs.{HasAllPairs}
use Rattle.fy_least.specs.Visited.{IsFound, derivation_of}
use Rattle.fy_least.specs.Writable.{AllContextFields}
use Rattle.fy_least.proofs.BelowLemmas.{AreContextsBelow-refl}
use Rattle.fy_least.proofs.FormFields.{paths-fields}
use Rattle.fy_least.proofs.LeastLemmas.{HasType-least}
use Rattle.fy_least.proofs.FoundLemmas.{taken}
use Rattle.fy_least.proofs.CountLemmas.{limits-kept, limits-passed}
use Rattle.fy_least.proofs.VisitLemmas.{visits-length}

-- the names in the types of a context are those in their paths
fields-around : (P : ℕ → Type 0) (G : List PlainType) → All (AllFields P) G → AllContextFields P (forms_of G)
fields-around P [] h = tt
fields-around P (A ∷ G) h =
    (paths-fields P A (All-head (AllFields P) A G h), fields-around P G (All-tail (AllFields P) A G h))

module _ (G : List PlainType) (p : Tree) (T : PlainType) (f : Found) (h : IsFound (forms_of G) p f) where
  pub found-kept : KeepTypeLimits (visits 0 (forms_of G) p)
  found-kept = limits-kept (visits 0 (forms_of G) p) (h.within 0) (subst (λ n. n ≤ most_together) (h.total 0) h.low)

  same-least : (A : PlainType) → paths A ≡ plain_paths f.paths → paths A ≡ least_type (forms_of G) p
  same-least A e = e ∙ h.paths

  pub found-accepted : (A : PlainType) → paths A ≡ plain_paths f.paths → IsSubtype A T →
      refusal_at T (judged (sub T (derivation_of f)) 0 G p) ≡ None
  found-accepted A e low =
      ap (refusal_at T)
      (taken (forms_of G) p (derivation_of f) h.derived T
      (subst (λ P. ArePathsBelow P (paths T)) (same-least A e) ((subtype-iff A T).0 low)) G refl 0)
      ∙ ap (λ b. if b then None else Some 0) (same_type-refl T)

  pub found-untyped : (A : PlainType) → paths A ≡ plain_paths f.paths → (IsSubtype A T → ⊥) → HasType G p T → ⊥
  found-untyped A e high t =
      high ((subtype-iff A T).1 (subst (λ P. ArePathsBelow P (paths T)) (sym (same-least A e)) (HasType-least t)))

  pub found-limits : KeepsCoreLimits p → type_nesting T ≤ most_type_nesting → KeepsLimits (sub T (derivation_of f))
  found-limits l low = record {
    few = omega (arith, h.few 0, l.few_visits, visits-length p 0 (forms_of G));
    shallow = omega (arith, h.shallow, l.shallow);
    types = omega (arith, h.types, l.written);
  }

  pub found-layered : IsLayered subsumed (sub T (derivation_of f))
  found-layered = one_sub h.layered

  pub found-pairs : HasAllPairs G p (sub T (derivation_of f))
  found-pairs e A j k s pair = in_sub (h.pairs G G refl (AreContextsBelow-refl (forms_of G)) e A j 0 k s pair)

  pub found-printable : KeepsCoreLimits p → HasFullTypes p → HasFullMeets T → (names : List Bytes) → AllNames (IsNamed names) p →
      All (AllFields (IsNamed names)) G → AllFields (IsNamed names) T → IsPrintable names (sub T (derivation_of f))
  found-printable l full meets names named around written = (
    written,
    meets,
    h.printable names (record { around = fields-around (IsNamed names) G around; named = named; full = full; few = l.few_visits }),
  )

pub found-refused : {S : Type 0} (G : List PlainType) (p : Tree) (T : PlainType) (x : LeastError) →
    (IsErrOf {T = S} (Err x) least.TypeTooLarge → (m : ℕ) → PassLimits (visits m (forms_of G) p)) → IsFindingOf G p T (Err (of_least x))
found-refused G p T least.TypeTooLarge h = limits-passed (visits 0 (forms_of G) p) (h refl 0)
found-refused G p T least.OutOfMemory h = tt

-- what is said of a context and of a type, where there is no variable and the type is that of a command
pub finding-alone : (r : Result Derivation FindError) (p : Tree) (G : List PlainType) (T : PlainType) → G ≡ [] → T ≡ atom Comm →
    IsFindingOf G p T r → IsFinding p r
finding-alone r p G T none comm h =
    subst (λ A. IsFindingOf [] p A r) comm (subst (λ H. IsFindingOf H p T r) none h)

pub limits-alone : (r : Result Derivation FindError) (p : Tree) (T : PlainType) → T ≡ atom Comm →
    IfOk r (λ d. KeepsCoreLimits p → type_nesting T ≤ most_type_nesting → KeepsLimits (plain_derivation d)) →
    IfOk r (λ d. KeepsCoreLimits p → KeepsLimits (plain_derivation d))
limits-alone (Ok d) p T comm h = λ l. h l (subst (λ A. type_nesting A ≤ most_type_nesting) (sym comm) (omega arith))
limits-alone (Err x) p T comm h = tt

pub pairs-alone : (r : Result Derivation FindError) (p : Tree) (G : List PlainType) → G ≡ [] →
    IfOk r (λ d. HasAllPairs G p (plain_derivation d)) → IfOk r (λ d. HasAllPairs [] p (plain_derivation d))
pairs-alone r p G none h = subst (λ H. IfOk r (λ d. HasAllPairs H p (plain_derivation d))) none h

pub printable-alone : (r : Result Derivation FindError) (p : Tree) (G : List PlainType) (T : PlainType) → G ≡ [] → T ≡ atom Comm →
    IfOk r (λ d. KeepsCoreLimits p → HasFullTypes p → HasFullMeets T → (names : List Bytes) → AllNames (IsNamed names) p →
    All (AllFields (IsNamed names)) G → AllFields (IsNamed names) T → IsPrintable names (plain_derivation d)) →
    IfOk r (λ d. KeepsCoreLimits p → HasFullTypes p → (names : List Bytes) → AllNames (IsNamed names) p → IsPrintable names (plain_derivation d))
printable-alone (Ok d) p G T none comm h = λ l full names named.
    h l full (subst HasFullMeets (sym comm) tt) names named
    (subst (All (AllFields (IsNamed names))) (sym none) (All-nil (AllFields (IsNamed names))))
    (subst (AllFields (IsNamed names)) (sym comm) tt)
printable-alone (Err x) p G T none comm h = tt
