-- The addresses of pairs, from the last pair to the first.
use Rattle.std.proofs.Common.{ℕ, ◌+◌, ◌<◌, ◌≡◌, ◌≢◌, Bool, true, false, if◌then◌else◌, inl, inr, List, length, get_or, None, Some, refl, ap, sym, ◌∙◌, subst, arith}
use Rattle.std.specs.Prelude.{slice_get}
use Rattle.std.proofs.Math.ListN.{set, length-set}
use Rattle.std.proofs.lemmas.Bool.{cases_lt}
use Rattle.std.proofs.lemmas.List.{get_or-set_same, get_or-set_other}
use Rattle.std.proofs.lemmas.Option.{slice_get-get_or, get_or_from_slice_get}
use Rattle.fy_phrase.specs.declared.shapes.Pair.{Pair}
use Rattle.fy_phrase.specs.declared.shapes.Shape.{Shape}
use Rattle.fy_phrase.specs.Sizes.{nodes}
use Rattle.fy_phrase.specs.Tree.{Tree, merge}
use Rattle.fy_derive.specs.Shapes.{PlainShape}
use Rattle.pe_gen.specs.Preorder.{preorder}
use Rattle.pe_gen.specs.Sites.{taken_by, landing, operand_at, pair, IsListing, LeadsTo, ArePassed, AreAddressesFrom}
use Rattle.pe_gen.specs.Steps.{shape_in}
use Rattle.pe_gen.proofs.Gets.{some_same, pair_second, get-within}
use Rattle.pe_gen.proofs.KeyLists.{AreKeysOnce}
use Rattle.pe_gen.proofs.LandLemmas.{landing-right, landing-left}
use Rattle.pe_gen.proofs.MergeLemmas.{left-listed, right-listed}

-- what no operand takes lands at the node itself
pub landing-none : (k : ℕ) (q : Tree) (s : PlainShape) → operand_at k q s ≡ None → landing k q s ≡ k
landing-none k (merge l r at) s e = absurd cc
landing-none k q s e = refl

-- what a merge passes to its operand lands where it lands from the operand
pub landing-passed : (p : Tree) (ns : List (ℕ × Tree)) → ns ≡ preorder 0 p → (k d : ℕ) (q : Tree) (s : PlainShape) (j : ℕ) → slice_get ns k ≡ Some (d, q) →
    operand_at k q s ≡ Some j → (r : Tree) × (slice_get ns j ≡ Some (d, r)) × (landing k q s ≡ landing j r s)
landing-passed p ns made k d (merge l r at) s j is e = by (taken_by r s) refl (some_same e)
  where
    by : (b : Bool) → taken_by r s ≡ b → (if b then k + 1 + nodes l else k + 1) ≡ j →
        (t : Tree) × (slice_get ns j ≡ Some (d, t)) × (landing k (merge l r at) s ≡ landing j t s)
    by true t f = (r, ap (slice_get ns) (sym f) ∙ right-listed p ns made k d l r at is, landing-right k l r at s t ∙ ap (λ n. landing n r s) f)
    by false t f = (l, ap (slice_get ns) (sym f) ∙ left-listed p ns made k d l r at is, landing-left k l r at s t ∙ ap (λ n. landing n l s) f)
landing-passed p ns made k d q s j is e = absurd cc

module _ (ns : List (ℕ × Tree)) (shapes : List Shape) (pairs sites : List Pair) where
  -- a node and a number of a shape say which site it is
  pub leads : (x : Pair) (d : ℕ) (q : Tree) (s : PlainShape) (a : ℕ) → slice_get ns x.node ≡ Some (d, q) → shape_in shapes x.shape ≡ Some s →
      slice_get sites a ≡ Some (pair (landing x.node q s) x.shape) → LeadsTo ns shapes sites x a
  leads x d q s a here is at t u listed its =
      let form : q ≡ t = pair_second (some_same (sym here ∙ listed.1)) in
      let shape : s ≡ u = some_same (sym is ∙ its) in
      at ∙ (ap (λ f. Some (pair (landing x.node f s) x.shape)) form ∙ ap (λ f. Some (pair (landing x.node t f) x.shape)) shape)

  -- a merge's pair has the address that is found at the place of the pair to which it passes the demand
  pub passed-leads : IsListing ns → ArePassed ns shapes pairs → AreKeysOnce pairs → (i k m v : ℕ) (addresses : List ℕ) →
      AreAddressesFrom ns shapes pairs sites i addresses → i ≡ k + 1 → (x : Pair) (d : ℕ) (q : Tree) (s : PlainShape) (j : ℕ) →
      slice_get pairs k ≡ Some x → slice_get ns x.node ≡ Some (d, q) → shape_in shapes x.shape ≡ Some s → operand_at x.node q s ≡ Some j →
      slice_get pairs m ≡ Some (pair j x.shape) → v ≡ get_or addresses m v → LeadsTo ns shapes sites x v
  passed-leads listing passed once i k m v addresses done next x d q s j here node is operand place read =
      let behind = passed k x q s j here (d, node) is operand in
      let same : behind.0 ≡ m = once behind.0 m (pair j x.shape) behind.2 place in
      let its = done.each m (pair j x.shape) (omega (arith, behind.1)) place in
      let r = landing-passed listing.0 ns listing.1 x.node d q s j node operand in
      let value : v ≡ its.0 = read ∙ get_or_from_slice_get addresses m its.0 v its.1 in
      leads x d q s v node is (ap (slice_get sites) value ∙ (its.2 r.0 s (d, r.1) is ∙ ap (λ n. Some (pair n x.shape)) (sym r.2)))

  -- one more address, before the others
  pub next-address : (i k : ℕ) (addresses : List ℕ) (x : Pair) (a : ℕ) → i ≡ k + 1 → AreAddressesFrom ns shapes pairs sites i addresses → slice_get pairs k ≡ Some x →
      LeadsTo ns shapes sites x a → AreAddressesFrom ns shapes pairs sites k (set addresses k a)
  next-address i k addresses x a next done here its =
      let within : k < length addresses = omega (arith, get-within pairs k x here, done.all) in
      record {
        all = length-set addresses k a ∙ done.all;
        each = λ j y h at. elim (cases_lt k j) [
          | inl l ↦
              let old = done.each j y (omega arith) at in
              let inside : j < length addresses = get-within addresses j old.0 old.1 in
              let other : j ≢ k = omega arith in (
                old.0,
                slice_get-get_or (set addresses k a) j 0 (omega (arith, length-set addresses k a))
                    ∙ (ap Some (get_or-set_other addresses k j a 0 other) ∙ (sym (slice_get-get_or addresses j 0 inside) ∙ old.1)),
                old.2,
              )
          | inr g ↦
              let place : k ≡ j = omega arith in
              let same : x ≡ y = some_same (sym here ∙ (ap (slice_get pairs) place ∙ at)) in (
                a,
                ap (slice_get (set addresses k a)) (sym place)
                    ∙ (slice_get-get_or (set addresses k a) k 0 (omega (arith, length-set addresses k a)) ∙ ap Some (get_or-set_same addresses k a 0 within)),
                subst (λ z. LeadsTo ns shapes sites z a) same its,
              )
        ];
      }
