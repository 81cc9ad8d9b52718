-- Derivations placed one premise at a time, and the types that are wanted.
use Rattle.std.proofs.Common.{ℕ, zero, suc, ◌+◌, ◌<◌, ◌≤◌, ◌≡◌, List, [], ◌∷◌, ◌++◌, length, map, take, replicate, get_or, slice_get, Option, Some, None, Bor, refl, sym, ap, ◌∙◌, arith}
use Rattle.std.proofs.lemmas.List.{take_more, map_push, length-map, length-take-le}
use mathlib.Core.Path.{fun_ext}
use Rattle.fy_types.specs.declared.types.Ty.{Ty}
use Rattle.fy_phrase.specs.declared.premise.Premise.{Premise as PremiseValue}
use Rattle.fy_phrase.specs.Premises.{plain_binder, premise_shown}
use Rattle.fy_phrase.specs.Tree.{Tree}
use Rattle.fy_phrase.specs.Reads.{reads}
use Rattle.std.specs.declared.alloc.Global.{Global}
use Rattle.std.specs.declared.boxed.Box.{Box}
use Rattle.fy_derive.specs.declared.derivation.Derivation as node
use Rattle.fy_derive.specs.declared.derivation.Derivation.{Derivation, Derivation-F, fold-roll-Derivation}
use Rattle.fy_derive.specs.declared.derivation.Derivation.TheVariants.{rolls-Alt}
use Rattle.fy_derive.specs.Derivations.{PlainDerivation, PlainDerivations, alt, count}
use Rattle.fy_derive.specs.Placed.{Wanted, behind, behind_binder, body_of, placed, all_placed}
use Rattle.fy_derive.specs.Reading.{plain_derivation, derivations_from, derivation_step, derivations_step}
use Rattle.fy_derive.specs.Rules.{nothing, Premise}
use Rattle.fy_link.specs.declared.composed.Wanted as form
use Rattle.fy_link.specs.declared.composed.Wanted.{Wanted as WantedValue, Wanted-F, fold-roll-Wanted}
use Rattle.fy_link.specs.declared.composed.Wanted.TheVariants.{rolls-Imports}
use Rattle.fy_link.specs.Sources.{Named}
use Rattle.fy_link.specs.Composed.{wanted}
use Rattle.fy_link.specs.Placing.{wanted_for, wanted_in, plain_wanted_types, wanted_step, plain_wanted}

-- an item of a list of images
pub map-at : {X Y : Type 0} (f : X → Y) (xs : List X) (i : ℕ) (x : X) → i < length xs → x ≡ get_or xs i x → slice_get (map f xs) i ≡ Some (f x)
map-at f [] i x h e = absurd (omega (arith, h))
map-at f (y ∷ xs) zero x h e = ap (λ z. Some (f z)) (sym e)
map-at f (y ∷ xs) (suc i) x h e = map-at f xs i x (omega (arith, h)) e

pub map-past : {X Y : Type 0} (f : X → Y) (xs : List X) (i : ℕ) → length xs ≤ i → slice_get (map f xs) i ≡ None
map-past f [] i h = refl
map-past f (y ∷ xs) zero h = absurd (omega (arith, h))
map-past f (y ∷ xs) (suc i) h = map-past f xs i (omega (arith, h))

-- the wanted types by the form of the value
pub wanted-imports : (w : WantedValue) (types : Bor (List (Option (Bor Ty)))) → w ≡ form.Imports types → plain_wanted w ≡ plain_wanted_types types.now
wanted-imports w types e = rw e (ap plain_wanted (sym (rolls-Imports types)) ∙ fold-roll-Wanted Wanted wanted_step (Wanted-F.Imports types))

wanted-each : (earlier imports : List Named) (k : ℕ) → wanted_in (map (wanted_for earlier) imports) k ≡ wanted imports earlier k
wanted-each earlier [] k = refl
wanted-each earlier (x ∷ imports) zero = refl
wanted-each earlier (x ∷ imports) (suc k) = wanted-each earlier imports k

pub wanted-of : (earlier imports : List Named) → wanted_in (map (wanted_for earlier) imports) ≡ wanted imports earlier
wanted-of earlier imports = fun_ext (wanted-each earlier imports)

-- a derivation placed with its premise; past the premises it stays as it is
abbrev pub placed_at : Wanted → Option Premise → PlainDerivation → PlainDerivation
placed_at w None d = d
placed_at w (Some P) d = placed (behind_binder P.0 w) P.1 d

abbrev pub placed_items : Wanted → List Premise → List PlainDerivation → List PlainDerivation
placed_items w Ps [] = []
placed_items w [] (d ∷ ds) = d ∷ ds
placed_items w (P ∷ Ps) (d ∷ ds) = placed (behind_binder P.0 w) P.1 d ∷ placed_items w Ps ds

placed_items-push : (w : Wanted) (Ps : List Premise) (ds : List PlainDerivation) (d : PlainDerivation) →
    placed_items w Ps (ds ++ d ∷ []) ≡ placed_items w Ps ds ++ placed_at w (slice_get Ps (length ds)) d ∷ []
placed_items-push w [] [] d = refl
placed_items-push w [] (e ∷ ds) d = refl
placed_items-push w (P ∷ Ps) [] d = refl
placed_items-push w (P ∷ Ps) (e ∷ ds) d = ap (λ es. placed (behind_binder P.0 w) P.1 e ∷ es) (placed_items-push w Ps ds d)

pub placed-all : (w : Wanted) (Ps : List Premise) (ds : List PlainDerivation) → derivations_from (placed_items w Ps ds) ≡ all_placed w Ps (derivations_from ds)
placed-all w Ps [] = refl
placed-all w [] (d ∷ ds) = refl
placed-all w (P ∷ Ps) (d ∷ ds) = ap (PlainDerivations.and_derivation (placed (behind_binder P.0 w) P.1 d)) (placed-all w Ps ds)

pub placed-repeated : (w : Wanted) (p : Tree) (ds : List PlainDerivation) →
    derivations_from (map (placed w p) ds) ≡ all_placed w (replicate (count (derivations_from ds)) (nothing, p)) (derivations_from ds)
placed-repeated w p [] = refl
placed-repeated w p (d ∷ ds) =
    ap (PlainDerivations.and_derivation (placed w p d)) (placed-repeated w p ds)
    ∙ ap (λ n. all_placed w (replicate n (nothing, p)) (derivations_from (d ∷ ds))) more
  where
    more : suc (count (derivations_from ds)) ≡ 1 + count (derivations_from ds)
    more = omega arith

-- one item more
items-next : (items : List Derivation) (i : ℕ) (x : Derivation) → i < length items → x ≡ get_or items i x →
    map plain_derivation (take (i + 1) items) ≡ map plain_derivation (take i items) ++ plain_derivation x ∷ []
items-next items i x h e =
    ap (map plain_derivation) (take_more items i x h ∙ ap (λ y. take i items ++ y ∷ []) (sym e)) ∙ map_push plain_derivation (take i items) x

pub placed-next : (w : Wanted) (Ps : List Premise) (items old new : List Derivation) (i : ℕ) (x y : Derivation) →
    i < length items → x ≡ get_or items i x → new ≡ old ++ y ∷ [] → plain_derivation y ≡ placed_at w (slice_get Ps i) (plain_derivation x) →
    map plain_derivation old ≡ placed_items w Ps (map plain_derivation (take i items)) →
    map plain_derivation new ≡ placed_items w Ps (map plain_derivation (take (i + 1) items))
placed-next w Ps items old new i x y h e n one so =
    ap (map plain_derivation) n
    ∙ (map_push plain_derivation old y
    ∙ (ap (λ ds. ds ++ plain_derivation y ∷ []) so
    ∙ (ap (λ d. placed_items w Ps before ++ d ∷ []) (one ∙ ap (λ k. placed_at w (slice_get Ps k) (plain_derivation x)) (sym long))
    ∙ (sym (placed_items-push w Ps before (plain_derivation x)) ∙ ap (placed_items w Ps) (sym (items-next items i x h e))))))
  where
    before : List PlainDerivation
    before = map plain_derivation (take i items)

    long : length before ≡ i
    long = length-map (take i items) plain_derivation ∙ length-take-le i items (omega (arith, h))

-- one premise's derivation, by the list of the premises
pub premise-at : (w v : Wanted) (Ps : List PremiseValue) (i : ℕ) (P : PremiseValue) (x : PlainDerivation) → i < length Ps → P ≡ get_or Ps i P →
    v ≡ behind_binder (plain_binder P.binds) w → placed v (reads P.part.now) x ≡ placed_at w (slice_get (map premise_shown Ps) i) x
premise-at w v Ps i P x h e f =
    ap (λ u. placed u (reads P.part.now) x) f ∙ ap (λ o. placed_at w o x) (sym (map-at premise_shown Ps i P h e))

pub premise-past : (w : Wanted) (Ps : List PremiseValue) (i : ℕ) (x : PlainDerivation) → length Ps ≤ i →
    x ≡ placed_at w (slice_get (map premise_shown Ps) i) x
premise-past w Ps i x h = ap (λ o. placed_at w o x) (sym (map-past premise_shown Ps i h))

-- an alternative's derivation
alt-read : (d : Derivation) (i : ℕ) (b : Box Derivation Global) → d ≡ node.Alt i b → plain_derivation d ≡ alt i (plain_derivation b.value)
alt-read d i b e =
    rw e (ap plain_derivation (sym (rolls-Alt i b)) ∙ fold-roll-Derivation PlainDerivation PlainDerivations derivation_step derivations_step (Derivation-F.Alt i b))

pub alt-placed : (made d : Derivation) (i : ℕ) (b a : Box Derivation Global) (x y : Derivation) (w v : Wanted) (p q : Tree) →
    made ≡ node.Alt i b → d ≡ node.Alt i a → b.value ≡ y → x ≡ a.value → plain_derivation y ≡ placed v q (plain_derivation x) → v ≡ behind w → q ≡ body_of p →
    plain_derivation made ≡ placed w p (plain_derivation d)
alt-placed made d i b a x y w v p q e m f k one g h =
    alt-read made i b e
    ∙ (ap (alt i) (ap plain_derivation f
    ∙ (one
    ∙ (ap (λ u. placed u q (plain_derivation x)) g
    ∙ (ap (λ r. placed (behind w) r (plain_derivation x)) h ∙ ap (λ z. placed (behind w) (body_of p) (plain_derivation z)) k))))
    ∙ sym (ap (placed w p) (alt-read d i a m)))
