-- The shapes of a table by their first demands.
use Rattle.std.proofs.Common.{ℕ, zero, suc, ◌+◌, ◌<◌, ◌≡◌, Bool, true, inl, inr, List, [], ◌∷◌, ◌++◌, length, Option, Some, None, refl, ap, sym, ◌∙◌, subst, arith}
use Rattle.std.specs.Option.{option_map, MatchOption}
use Rattle.std.specs.Prelude.{◌≢◌, slice_get}
use Rattle.indexmap.specs.IndexSet.{insert_key}
use Rattle.fy_phrase.specs.declared.shapes.Shape.{Shape}
use Rattle.fy_phrase.specs.declared.shapes.ShapeElem.{ShapeElem}
use Rattle.fy_phrase.specs.declared.shapes.ShapeElem.TheVariants as elem
use Rattle.fy_phrase.specs.declared.shapes.ShapeEnd.{ShapeEnd}
use Rattle.fy_phrase.specs.declared.shapes.ShapeEnd.TheVariants as ending
use Rattle.fy_phrase.specs.declared.shapes.ShapeTable.{ShapeTable}
use Rattle.fy_derive.specs.Shapes.{EndShape, PlainShape, at_end}
use Rattle.fy_derive.specs.ShapeTables.{plain_end, behind, plain_shape}
use Rattle.pe_gen.specs.declared.steps.ShapeStep.{ShapeStep}
use Rattle.pe_gen.specs.declared.steps.ShapeStep.TheVariants.{End, Before, Apart}
use Rattle.pe_gen.specs.Steps.{shape_in, AreShapesOnce, IsStep, AreSteps}
use Rattle.pe_right.specs.Right.{IsNumberOf}
use Rattle.pe_gen.proofs.Gets.{some_same, get-within, get-some}
use Rattle.pe_gen.proofs.KeyLists.{pushed-member, insert-last}

-- ---- shapes

pub plain_end-same : (e f : ShapeEnd) → plain_end e ≡ plain_end f → e ≡ f
plain_end-same ending.Value ending.Value h = refl
plain_end-same ending.Assign ending.Assign h = refl
plain_end-same ending.Run ending.Run h = refl
plain_end-same e f h = absurd cc

pub front-same : (e f : ShapeElem) (s t : PlainShape) → behind (e ∷ []) s ≡ behind (f ∷ []) t → (e ≡ f) × (s ≡ t)
front-same elem.Call elem.Call s t h = (refl, cc)
front-same elem.Call (elem.Field j) s t h = absurd cc
front-same (elem.Field i) elem.Call s t h = absurd cc
front-same (elem.Field i) (elem.Field j) s t h = let n : i ≡ j = cc in (ap elem.Field n, cc)

pub front-not_end : (e : ShapeElem) (s : PlainShape) (x : EndShape) → behind (e ∷ []) s ≡ at_end x → ⊥
front-not_end elem.Call s x h = absurd cc
front-not_end (elem.Field i) s x h = absurd cc

pub front-behind : (e : ShapeElem) (es : List ShapeElem) (s : PlainShape) → behind (e ∷ es) s ≡ behind (e ∷ []) (behind es s)
front-behind elem.Call es s = refl
front-behind (elem.Field i) es s = refl

end-same : (a b : EndShape) → at_end a ≡ at_end b → a ≡ b
end-same a b h = cc

pub behind-same : (es fs : List ShapeElem) (a b : EndShape) → behind es (at_end a) ≡ behind fs (at_end b) → (es ≡ fs) × (a ≡ b)
behind-same [] [] a b h = (refl, end-same a b h)
behind-same [] (f ∷ fs) a b h = absurd (front-not_end f (behind fs (at_end b)) a (sym (front-behind f fs (at_end b)) ∙ sym h))
behind-same (e ∷ es) [] a b h = absurd (front-not_end e (behind es (at_end a)) b (sym (front-behind e es (at_end a)) ∙ h))
behind-same (e ∷ es) (f ∷ fs) a b h =
    let p = front-same e f (behind es (at_end a)) (behind fs (at_end b)) (sym (front-behind e es (at_end a)) ∙ (h ∙ front-behind f fs (at_end b))) in
    let q = behind-same es fs a b p.1 in
    (ap (λ x. x ∷ es) p.0 ∙ ap (λ xs. f ∷ xs) q.0, q.1)

pub shape-within : (shapes : List Shape) (n : ℕ) (s : PlainShape) → shape_in shapes n ≡ Some s → n < length shapes
shape-within [] n s h = absurd cc
shape-within (x ∷ xs) zero s h = omega arith
shape-within (x ∷ xs) (suc n) s h = omega (arith, shape-within xs n s h)

-- the shape that stands at a place
pub shape-read : (shapes : List Shape) (n : ℕ) (x : Shape) → slice_get shapes n ≡ Some x → shape_in shapes n ≡ Some (plain_shape x)
shape-read shapes n x h = ap (λ o. option_map plain_shape o) h

-- each number below the length has a shape
pub shape-at : (shapes : List Shape) (n : ℕ) → n < length shapes → (s : PlainShape) × (shape_in shapes n ≡ Some s)
shape-at shapes n h = let x = get-some shapes n h in (plain_shape x.0, shape-read shapes n x.0 x.1)

-- a number that is found is the shape's, where no shape stands twice
pub number-found : (table : ShapeTable) (shapes : List Shape) (o : Option ℕ) (s : PlainShape) → shapes ≡ table.shapes → AreShapesOnce table.shapes →
    MatchOption o ((n : ℕ) → shape_in shapes n ≢ Some s) (λ n. shape_in shapes n ≡ Some s) → IsNumberOf table o s
number-found table shapes None s same once none = λ n. (λ e. absurd cc, λ at. absurd (none n (ap (λ (ss : List Shape). shape_in ss n) same ∙ at)))
number-found table shapes (Some k) s same once found = λ n. (
  λ e. ap (λ (ss : List Shape). shape_in ss n) (sym same) ∙ (ap (shape_in shapes) (sym (some_same e)) ∙ found),
  λ at. ap Some (once k n s (ap (λ (ss : List Shape). shape_in ss k) (sym same) ∙ found) at),
)

-- ---- steps

-- two shapes with one step are one
pub same-step : (shapes : List Shape) → AreShapesOnce shapes → (t : ShapeStep) (n m : ℕ) → IsStep shapes n t → IsStep shapes m t → n ≡ m
same-step shapes once (End e) n m a b = once n m (at_end (plain_end e)) a b
same-step shapes once (Before e k) n m a b =
    let same : a.0 ≡ b.0 = some_same (sym a.1 ∙ b.1) in
    once n m (behind (e ∷ []) a.0) a.2 (b.2 ∙ ap (λ s. Some (behind (e ∷ []) s)) (sym same))
same-step shapes once (Apart k) n m a b = sym a.0 ∙ b.0

pub step-at : (shapes : List Shape) (steps : List ShapeStep) → AreSteps shapes steps → (n : ℕ) (s : PlainShape) → shape_in shapes n ≡ Some s →
    (t : ShapeStep) × (slice_get steps n ≡ Some t) × IsStep shapes n t
step-at shapes steps all n s h =
    let x = get-some steps n (let w = shape-within shapes n s h in omega (arith, all.all)) in
    (x.0, x.1, all.each n x.0 x.1)

pub end-step : (shapes : List Shape) (steps : List ShapeStep) → AreSteps shapes steps → (n : ℕ) (e : ShapeEnd) →
    shape_in shapes n ≡ Some (at_end (plain_end e)) → slice_get steps n ≡ Some (End e)
end-step shapes steps all n e h = let x = step-at shapes steps all n (at_end (plain_end e)) h in by x.0 x.1 x.2
  where
    by : (t : ShapeStep) → slice_get steps n ≡ Some t → IsStep shapes n t → slice_get steps n ≡ Some (End e)
    by (End f) at is = at ∙ ap (λ x. Some (End x)) (plain_end-same f e (end-same (plain_end f) (plain_end e) (some_same (sym is ∙ h))))
    by (Before f m) at is = absurd (front-not_end f is.0 (plain_end e) (some_same (sym is.2 ∙ h)))
    by (Apart m) at is = absurd (front-not_end is.1.0 is.1.1 (plain_end e) (some_same (sym is.1.2 ∙ h)))

pub before-step : (shapes : List Shape) (steps : List ShapeStep) → AreShapesOnce shapes → AreSteps shapes steps → (n m : ℕ) (e : ShapeElem) (s : PlainShape) →
    shape_in shapes n ≡ Some (behind (e ∷ []) s) → shape_in shapes m ≡ Some s → slice_get steps n ≡ Some (Before e m)
before-step shapes steps once all n m e s h g = let x = step-at shapes steps all n (behind (e ∷ []) s) h in by x.0 x.1 x.2
  where
    by : (t : ShapeStep) → slice_get steps n ≡ Some t → IsStep shapes n t → slice_get steps n ≡ Some (Before e m)
    by (End f) at is = absurd (front-not_end e s (plain_end f) (some_same (sym h ∙ is)))
    by (Before f k) at is =
        let same = front-same f e is.0 s (some_same (sym is.2 ∙ h)) in
        let number : k ≡ m = once k m s (is.1 ∙ ap Some same.1) g in
        at ∙ (ap (λ x. Some (Before x k)) same.0 ∙ ap (λ j. Some (Before e j)) number)
    by (Apart k) at is =
        let same = front-same is.1.0 e is.1.1 s (some_same (sym is.1.2 ∙ h)) in
        absurd (is.1.3 m (g ∙ ap Some (sym same.1)))

-- ---- steps as far as they are made

pub record AreStepsTo (shapes : List Shape) (i : ℕ) (steps : List ShapeStep) : Type 0 where
  pub all : length steps ≡ i
  pub each : (n : ℕ) (t : ShapeStep) → slice_get steps n ≡ Some t → IsStep shapes n t

pub no-steps : (shapes : List Shape) → AreStepsTo shapes 0 []
no-steps shapes = record { all = refl; each = λ n t is. absurd cc }

pub one-step : (eq : ShapeStep → ShapeStep → Bool) → ((x y : ShapeStep) → eq x y ≡ true → x ≡ y) → ((x : ShapeStep) → eq x x ≡ true) →
    (shapes : List Shape) → AreShapesOnce shapes → (i : ℕ) (ks : List ShapeStep) (t : ShapeStep) → AreStepsTo shapes i ks → IsStep shapes i t →
    AreStepsTo shapes (i + 1) (insert_key eq ks t)
one-step eq same reflexive shapes once i ks t r its =
    let last = insert-last eq same reflexive ks t (λ j is.
    let e : j ≡ i = same-step shapes once t j i (r.each j t is) its in
    let l = get-within ks j t is in
    omega (arith, r.all)) in
    subst (λ xs. AreStepsTo shapes (i + 1) xs) (sym last) (record {
      all = omega (arith, length-last ks, r.all);
      each = λ n u is. elim (pushed-member ks t u n is) [
        | inl m ↦ r.each n u m.1
        | inr e ↦ subst (λ v. IsStep shapes n v) e.1 (subst (λ k. IsStep shapes k t) (sym (e.0 ∙ r.all)) its)
      ];
    })
  where
    length-last : (xs : List ShapeStep) → length (xs ++ t ∷ []) ≡ length xs + 1
    length-last [] = omega arith
    length-last (x ∷ xs) = omega (arith, length-last xs)
