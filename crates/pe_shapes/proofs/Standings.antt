-- Numbers keep what they stand for as a table grows.
use Rattle.std.proofs.Common.{ℕ, zero, suc, rules, ◌<◌, ◌≡◌, ◌⊎◌, inl, inr, List, [], ◌∷◌, ◌++◌, length, get_or, slice_get, Some, None, refl, sym, ap, ◌∙◌, subst, arith}
use Rattle.std.specs.List.{Contains, AllZip}
use Rattle.std.proofs.lemmas.List.{map_push}
use Rattle.std.proofs.lemmas.List.Elements.{All-push, All-weaker, All-head, All-tail, All-get_or, All-cons, All-contains, All-nil}
use Rattle.fy_types.specs.Types.{PlainType, meet}
use Rattle.fy_types.specs.Reading.{types_from}
use Rattle.fy_derive.specs.Shapes.{PlainShape}
use Rattle.fy_derive.specs.Tables.{type_at}
use Rattle.fy_derive.specs.Judging.{under}
use Rattle.pe_shapes.specs.declared.numbers.ShapeNumbers.{ShapeNumbers}
use Rattle.fy_phrase.specs.declared.premise.Binds.{Binds}
use Rattle.fy_phrase.specs.declared.premise.Binds.TheVariants as binds
use Rattle.fy_phrase.specs.Premises.{given_type, plain_binder}
use Rattle.pe_shapes.specs.Contexts.{PlainBound, by_shapes, by_type, bounds_under}
use Rattle.pe_shapes.specs.Counts.{StandOnce}
use Rattle.pe_shapes.specs.Shown.{total, all_shown, shown, Extends, AreIn, AreAllIn}
use Rattle.pe_shapes.specs.Standing.{AreJust, IsBound, AreBound, Fits, AreFit, AreShapesOfEach}
use Rattle.pe_shapes.proofs.JudgedLemmas.{some_same}
use Rattle.pe_shapes.proofs.Members.{Contains-at, Contains-head, Contains-tail, Contains-map, Contains-unmap, StandOnce-map}
use Rattle.pe_shapes.proofs.NodeTests.{same_number}
use Rattle.pe_shapes.proofs.ShapeLemmas.{AreJust-none, AreJust-both}

pub Extends-itself : (t : ShapeNumbers) → Extends t t
Extends-itself t = record { more = omega arith; same = λ k h. refl }

pub Extends-trans : {t u v : ShapeNumbers} → Extends t u → Extends u v → Extends t v
Extends-trans e f = record { more = omega (arith, e.more, f.more); same = λ k h. f.same k (omega (arith, e.more)) ∙ e.same k h }

pub AreIn-kept : {t u : ShapeNumbers} {ks : List ℕ} → Extends t u → AreIn t ks → AreIn u ks
AreIn-kept {t = t} {u = u} {ks = ks} e h = record { below = All-weaker (λ k. k < total t) (λ k. k < total u) (λ k l. omega (arith, e.more)) ks h.below }

pub AreIn-push : {t : ShapeNumbers} {ks : List ℕ} → (k : ℕ) → AreIn t ks → k < total t → AreIn t (ks ++ k ∷ [])
AreIn-push {t = t} {ks = ks} k h l = record { below = All-push (λ k. k < total t) ks k h.below l }

pub AreIn-none : (t : ShapeNumbers) → AreIn t []
AreIn-none t = record { below = λ k d h. absurd (omega arith) }

pub AreIn-at : {t : ShapeNumbers} {ks : List ℕ} → (i d : ℕ) → AreIn t ks → i < length ks → get_or ks i d < total t
AreIn-at {t = t} {ks = ks} i d h l = All-get_or (λ k. k < total t) ks i d l h.below

pub AreIn-contained : (t : ShapeNumbers) (ks : List ℕ) → ((k : ℕ) → Contains ks k → k < total t) → AreIn t ks
AreIn-contained t [] f = AreIn-none t
AreIn-contained t (k ∷ ks) f = record {
  below = All-cons (λ k. k < total t) k ks (f k (Contains-head k ks)) (AreIn-contained t ks (λ j h. f j (Contains-tail k j ks h))).below;
}

-- the same shapes in the larger table
pub all_shown-kept : {t u : ShapeNumbers} → (ks : List ℕ) → Extends t u → AreIn t ks → all_shown u ks ≡ all_shown t ks
all_shown-kept [] e h = refl
all_shown-kept {t = t} {u = u} (k ∷ ks) e h =
    let rest : AreIn t ks = record { below = All-tail (λ k. k < total t) k ks h.below } in
    ap (λ A. A ∷ all_shown u ks) (e.same k (All-head (λ k. k < total t) k ks h.below))
    ∙ ap (λ As. shown t k ∷ As) (all_shown-kept ks e rest)

pub AreJust-kept : {t u : ShapeNumbers} {A : PlainType} → (ks : List ℕ) → Extends t u → AreIn t ks → AreJust (all_shown t ks) A → AreJust (all_shown u ks) A
AreJust-kept {A = A} ks e h j = subst (λ S. AreJust S A) (sym (all_shown-kept ks e h)) j

-- one shape more at the end
pub all_shown-push : {t u : ShapeNumbers} → (ks ms : List ℕ) (k : ℕ) (s : PlainShape) → Extends t u → AreIn t ks → ms ≡ ks ++ k ∷ [] → shown u k ≡ s →
    all_shown u ms ≡ all_shown t ks ++ s ∷ []
all_shown-push {t = t} {u = u} ks ms k s e h m is =
    ap (all_shown u) m ∙ (map_push (shown u) ks k ∙ (ap (λ S. S ++ shown u k ∷ []) (all_shown-kept ks e h) ∙ ap (λ x. all_shown t ks ++ x ∷ []) is))

-- different numbers stand for different shapes
pub StandOnce-shown : (t : ShapeNumbers) (ks : List ℕ) → AreIn t ks → StandOnce ks → StandOnce (all_shown t ks)
StandOnce-shown t ks h once =
    StandOnce-map (shown t) ks (λ x y a b e. same_number t.nodes.keys t.sound x y (All-contains (λ k. k < total t) ks x h.below a) (All-contains (λ k. k < total t) ks y h.below b) e) once

-- the shapes of two sets together
pub AreJust-added : (t : ShapeNumbers) (ms ks now : List ℕ) (As : List PlainType) (B : PlainType) →
    AreJust (all_shown t ms) (meet (types_from As)) → AreJust (all_shown t ks) B →
    ((k : ℕ) → Contains ms k → Contains now k) → ((k : ℕ) → Contains ks k → Contains now k) →
    ((k : ℕ) → Contains now k → Contains ms k ⊎ Contains ks k) → AreJust (all_shown t now) (meet (types_from (As ++ B ∷ [])))
AreJust-added t ms ks now As B j k left right from =
    AreJust-both As B (all_shown t ms) (all_shown t ks) (all_shown t now) j k (into ms left) (into ks right)
    (λ s h. let r = Contains-unmap (shown t) now s h in elim (from r.0 r.1) [
      | inl x ↦ inl (subst (Contains (all_shown t ms)) r.2 (Contains-map (shown t) ms r.0 x))
      | inr x ↦ inr (subst (Contains (all_shown t ks)) r.2 (Contains-map (shown t) ks r.0 x))
    ])
  where
    into : (ls : List ℕ) → ((k : ℕ) → Contains ls k → Contains now k) → (s : PlainShape) → Contains (all_shown t ls) s → Contains (all_shown t now) s
    into ls f s h =
        let r = Contains-unmap (shown t) ls s h in
        subst (Contains (all_shown t now)) r.2 (Contains-map (shown t) now r.0 (f r.0 r.1))

pub AreIn-added : (t : ShapeNumbers) (ms ks now : List ℕ) → AreIn t ms → AreIn t ks → ((k : ℕ) → Contains now k → Contains ms k ⊎ Contains ks k) → AreIn t now
AreIn-added t ms ks now h l from = AreIn-contained t now (λ k c. elim (from k c) [
  | inl x ↦ All-contains (λ k. k < total t) ms k h.below x
  | inr x ↦ All-contains (λ k. k < total t) ks k l.below x
])

-- ---- contexts

IsBound-kept : {t u : ShapeNumbers} → Extends t u → (b : PlainBound) → IsBound t b → IsBound u b
IsBound-kept e (by_shapes ks) h = AreIn-kept e h
IsBound-kept e (by_type A) h = tt

pub AreBound-kept : {t u : ShapeNumbers} {bs : List PlainBound} → Extends t u → AreBound t bs → AreBound u bs
AreBound-kept {t = t} {u = u} {bs = bs} e h = record { each = All-weaker (IsBound t) (IsBound u) (λ b x. IsBound-kept e b x) bs h.each }

pub AreBound-cons : {t : ShapeNumbers} {bs : List PlainBound} → (b : PlainBound) → IsBound t b → AreBound t bs → AreBound t (b ∷ bs)
AreBound-cons {t = t} {bs = bs} b x h = record { each = All-cons (IsBound t) b bs x h.each }

pub AreBound-none : (t : ShapeNumbers) → AreBound t []
AreBound-none t = record { each = All-nil (IsBound t) }

pub bound-at : (t : ShapeNumbers) (bs : List PlainBound) (i : ℕ) (b : PlainBound) → AreBound t bs → slice_get bs i ≡ Some b → IsBound t b
bound-at t bs i b h e = All-contains (IsBound t) bs b h.each (Contains-at bs i b e)

Fits-kept : {t u : ShapeNumbers} → Extends t u → (b : PlainBound) (A : PlainType) → IsBound t b → Fits t b A → Fits u b A
Fits-kept e (by_shapes ks) A h f = AreJust-kept ks e h f
Fits-kept e (by_type B) A h f = f

fits-kept : {t u : ShapeNumbers} → Extends t u → (bs : List PlainBound) (G : List PlainType) → AreBound t bs → AllZip (Fits t) bs G → AllZip (Fits u) bs G
fits-kept e [] [] h z = z
fits-kept e [] (A ∷ G) h z = z
fits-kept e (b ∷ bs) [] h z = z
fits-kept {t = t} e (b ∷ bs) (A ∷ G) h z =
    (Fits-kept e b A (All-head (IsBound t) b bs h.each) z.0, fits-kept e bs G (record { each = All-tail (IsBound t) b bs h.each }) z.1)

pub AreFit-kept : {t u : ShapeNumbers} {bs : List PlainBound} {G : List PlainType} → Extends t u → AreBound t bs → AreFit t bs G → AreFit u bs G
AreFit-kept {bs = bs} {G = G} e h f = record { each = fits-kept e bs G h f.each }

pub AreFit-none : (t : ShapeNumbers) → AreFit t [] []
AreFit-none t = record { each = AllZip-none t }
  where
    AllZip-none : (t : ShapeNumbers) → AllZip (Fits t) [] []
    AllZip-none t = search rules

pub AreFit-cons : {t : ShapeNumbers} {bs : List PlainBound} {G : List PlainType} → (b : PlainBound) (A : PlainType) → Fits t b A → AreFit t bs G → AreFit t (b ∷ bs) (A ∷ G)
AreFit-cons b A x f = record { each = (x, f.each) }

-- what is known of a variable fits its type
fit-at : (t : ShapeNumbers) (bs : List PlainBound) (G : List PlainType) (i : ℕ) (b : PlainBound) (A : PlainType) → AllZip (Fits t) bs G →
    slice_get bs i ≡ Some b → slice_get G i ≡ Some A → Fits t b A
fit-at t [] G i b A z e f = absurd cc
fit-at t (c ∷ bs) [] i b A z e f = absurd cc
fit-at t (c ∷ bs) (B ∷ G) zero b A z e f =
    let same : c ≡ b = some_same e in
    let type : B ≡ A = some_same f in
    subst (λ x. Fits t x A) same (subst (Fits t c) type z.0)
fit-at t (c ∷ bs) (B ∷ G) (suc i) b A z e f = fit-at t bs G i b A z.1 e f

pub AreFit-at : {t : ShapeNumbers} {bs : List PlainBound} {G : List PlainType} → (i : ℕ) (b : PlainBound) (A : PlainType) → AreFit t bs G →
    slice_get bs i ≡ Some b → slice_get G i ≡ Some A → Fits t b A
AreFit-at {t = t} {bs = bs} {G = G} i b A f e g = fit-at t bs G i b A f.each e g

fit-none : (t : ShapeNumbers) (bs : List PlainBound) (G : List PlainType) (i : ℕ) (A : PlainType) → AllZip (Fits t) bs G → slice_get bs i ≡ None → slice_get G i ≡ Some A → ⊥
fit-none t [] [] i A z e f = cc
fit-none t [] (B ∷ G) i A z e f = z
fit-none t (c ∷ bs) [] i A z e f = z
fit-none t (c ∷ bs) (B ∷ G) zero A z e f = cc
fit-none t (c ∷ bs) (B ∷ G) (suc i) A z e f = fit-none t bs G i A z.1 e f

pub AreFit-past : {t : ShapeNumbers} {bs : List PlainBound} {G : List PlainType} → (i : ℕ) (A : PlainType) → AreFit t bs G → slice_get bs i ≡ None → slice_get G i ≡ Some A → ⊥
AreFit-past {t = t} {bs = bs} {G = G} i A f e g = fit-none t bs G i A f.each e g

-- the shapes of each premise
each-kept : {t u : ShapeNumbers} → Extends t u → (sets : List (List ℕ)) (As : List PlainType) → AreAllIn t sets →
    AllZip (λ ks A. AreJust (all_shown t ks) A) sets As → AllZip (λ ks A. AreJust (all_shown u ks) A) sets As
each-kept e [] [] h z = z
each-kept e [] (A ∷ As) h z = z
each-kept e (ks ∷ sets) [] h z = z
each-kept {t = t} e (ks ∷ sets) (A ∷ As) h z =
    (AreJust-kept ks e (All-head (AreIn t) ks sets h.each) z.0, each-kept e sets As (record { each = All-tail (AreIn t) ks sets h.each }) z.1)

pub AreShapesOfEach-kept : {t u : ShapeNumbers} {sets : List (List ℕ)} {As : List PlainType} → Extends t u → AreAllIn t sets → AreShapesOfEach t sets As → AreShapesOfEach u sets As
AreShapesOfEach-kept {sets = sets} {As = As} e h z = record { each = each-kept e sets As h z.each }

each-push : (t : ShapeNumbers) (sets : List (List ℕ)) (As : List PlainType) (ks : List ℕ) (A : PlainType) → AllZip (λ ks A. AreJust (all_shown t ks) A) sets As →
    AreJust (all_shown t ks) A → AllZip (λ ks A. AreJust (all_shown t ks) A) (sets ++ ks ∷ []) (As ++ A ∷ [])
each-push t [] [] ks A z j = (j, z)
each-push t [] (B ∷ As) ks A z j = absurd z
each-push t (ms ∷ sets) [] ks A z j = absurd z
each-push t (ms ∷ sets) (B ∷ As) ks A z j = (z.0, each-push t sets As ks A z.1 j)

pub AreShapesOfEach-push : {t : ShapeNumbers} {sets : List (List ℕ)} {As : List PlainType} → (ks : List ℕ) (A : PlainType) → AreShapesOfEach t sets As →
    AreJust (all_shown t ks) A → AreShapesOfEach t (sets ++ ks ∷ []) (As ++ A ∷ [])
AreShapesOfEach-push {t = t} {sets = sets} {As = As} ks A z j = record { each = each-push t sets As ks A z.each j }

pub AreShapesOfEach-none : (t : ShapeNumbers) → AreShapesOfEach t [] []
AreShapesOfEach-none t = record { each = search rules }

pub AreAllIn-kept : {t u : ShapeNumbers} {sets : List (List ℕ)} → Extends t u → AreAllIn t sets → AreAllIn u sets
AreAllIn-kept {t = t} {u = u} {sets = sets} e h = record { each = All-weaker (AreIn t) (AreIn u) (λ ks x. AreIn-kept e x) sets h.each }

pub AreAllIn-push : {t : ShapeNumbers} {sets : List (List ℕ)} → (ks : List ℕ) → AreAllIn t sets → AreIn t ks → AreAllIn t (sets ++ ks ∷ [])
AreAllIn-push {t = t} {sets = sets} ks h x = record { each = All-push (AreIn t) sets ks h.each x }

pub AreAllIn-none : (t : ShapeNumbers) → AreAllIn t []
AreAllIn-none t = record { each = All-nil (AreIn t) }

-- the set with an index, and the empty one past the end
pub set-in : (t : ShapeNumbers) (sets : List (List ℕ)) (i : ℕ) → AreAllIn t sets → AreIn t (get_or sets i [])
set-in t [] i h = AreIn-none t
set-in t (ks ∷ sets) zero h = All-head (AreIn t) ks sets h.each
set-in t (ks ∷ sets) (suc i) h = set-in t sets i (record { each = All-tail (AreIn t) ks sets h.each })

set-just : (t : ShapeNumbers) (sets : List (List ℕ)) (As : List PlainType) (i : ℕ) → AllZip (λ ks A. AreJust (all_shown t ks) A) sets As →
    AreJust (all_shown t (get_or sets i [])) (type_at As i)
set-just t [] [] i z = AreJust-none
set-just t [] (A ∷ As) i z = absurd z
set-just t (ks ∷ sets) [] i z = absurd z
set-just t (ks ∷ sets) (A ∷ As) zero z = z.0
set-just t (ks ∷ sets) (A ∷ As) (suc i) z = set-just t sets As i z.1

pub AreJust-set : {t : ShapeNumbers} {sets : List (List ℕ)} {As : List PlainType} → (i : ℕ) → AreShapesOfEach t sets As →
    AreJust (all_shown t (get_or sets i [])) (type_at As i)
AreJust-set {t = t} {sets = sets} {As = As} i z = set-just t sets As i z.each

-- the context of a premise
pub AreBound-under : (t : ShapeNumbers) (b : Binds) (sets : List (List ℕ)) (bs : List PlainBound) → AreAllIn t sets → AreBound t bs →
    AreBound t (bounds_under b sets bs)
AreBound-under t binds.Nothing sets bs h k = k
AreBound-under t binds.First [] bs h k = k
AreBound-under t binds.First (ks ∷ sets) bs h k = AreBound-cons (by_shapes ks) (All-head (AreIn t) ks sets h.each) k
AreBound-under t (binds.Given g) sets bs h k = AreBound-cons (by_type (given_type g)) tt k

pub AreFit-under : (t : ShapeNumbers) (b : Binds) (sets : List (List ℕ)) (bs : List PlainBound) (As G : List PlainType) → AreShapesOfEach t sets As →
    AreFit t bs G → AreFit t (bounds_under b sets bs) (under (plain_binder b) As G)
AreFit-under t binds.Nothing sets bs As G z f = f
AreFit-under t binds.First [] bs [] G z f = f
AreFit-under t binds.First [] bs (A ∷ As) G z f = absurd z.each
AreFit-under t binds.First (ks ∷ sets) bs [] G z f = absurd z.each
AreFit-under t binds.First (ks ∷ sets) bs (A ∷ As) G z f = AreFit-cons (by_shapes ks) A z.each.0 f
AreFit-under t (binds.Given g) sets bs As G z f = AreFit-cons (by_type (given_type g)) (given_type g) refl f
