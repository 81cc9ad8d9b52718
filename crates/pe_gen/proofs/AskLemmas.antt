-- What a pair's form asks of its parts is in the table, since the table is closed.
use Rattle.std.proofs.Common.{ℕ, ◌+◌, ◌≡◌, [], ◌∷◌, Some, refl, ap, sym, ◌∙◌, subst}
use Rattle.std.specs.Prelude.{slice_get}
use Rattle.fy_phrase.specs.declared.shapes.Pair.{Pair}
use Rattle.fy_phrase.specs.declared.shapes.ShapeTable.{ShapeTable}
use Rattle.fy_phrase.specs.Sizes.{nodes}
use Rattle.fy_phrase.specs.Tree.{Tree, Trees, var, lit, unary, binary, cond, case, lam, app, field, sel, merge, let_in, rec, skip, seq, assign, while_do, forever, new, cells, escape, accept, put, read, mark, no_trees, and_tree}
use Rattle.fy_derive.specs.Shapes.{PlainShape, IsClosed, PassesEach, to_this, to_later, Passes, of_app, of_sel, of_lam, of_definition, of_let, of_rec, of_test, of_then, of_else, of_index, of_parts, of_unary, of_operand, of_operand_behind, of_put, of_target, of_value, of_read, of_first, of_second, of_forever, of_escape, of_accept, of_while_test, of_while_body, of_new_value, of_new_body, of_cells_count, of_cells_body}
use Rattle.fy_derive.specs.ShapeTables.{shape_at, HasPairOf}
use Rattle.pe_gen.specs.declared.plan.Plan.{Plan}
use Rattle.pe_gen.specs.Plan.{nodes_in, IsDue, AreDue, AsksParts}
use Rattle.pe_gen.specs.Preorder.{preorder}
use Rattle.pe_right.specs.Right.{with_depth, IsNodeUnder, itself, IsNodeAmongUnder, in_first, in_later}
use Rattle.pe_gen.specs.Sites.{Stands, IsListed}
use Rattle.pe_gen.proofs.FitLemmas.{Fits}
use Rattle.pe_gen.proofs.NodeLists.{node-placed, part-within, first-part, second-part, third-part, plain-node}

-- ---- pairs of a table

pub HasPairOf-from : (table : ShapeTable) (x : Pair) (s : PlainShape) → Stands table.pairs x → shape_at table x.shape ≡ Some s → HasPairOf table x.node s
HasPairOf-from table x s at is = record { place = at.0; pair = x; stands = at.1; node_is = refl; shape_is = is }

-- ---- what is asked of the parts

module _ (plan : Plan) (p : Tree) (made : nodes_in plan ≡ preorder 0 p) (closed : IsClosed p (HasPairOf plan.table.now)) where
  -- a node is listed
  listed : (d k : ℕ) (q : Tree) → IsNodeUnder 0 0 p d k q → IsListed (nodes_in plan) k q
  listed d k q node = (d, ap (λ xs. slice_get xs k) made ∙ node-placed node)

  due : (d k e j : ℕ) (q r : Tree) (s t : PlainShape) → IsNodeUnder 0 0 p d k q → HasPairOf plan.table.now k s → IsNodeUnder 0 0 p e j r → Passes k q s j t →
      IsDue plan j r t
  due d k e j q r s t node asked part passes = (listed e j r part, closed.passed k j q s t (plain-node node) asked passes)

  due-all : (d k : ℕ) (e : Tree) (all : Trees) (s : PlainShape) → ((j : ℕ) (t : PlainShape) → PassesEach (k + 1 + nodes e) all s j t → HasPairOf plan.table.now j t) →
      (ps : Trees) (j : ℕ) → ((i f : ℕ) (q : Tree) → IsNodeAmongUnder j (with_depth d ps) f i q → IsListed (nodes_in plan) i q) →
      ((i : ℕ) (t : PlainShape) → PassesEach j ps s i t → PassesEach (k + 1 + nodes e) all s i t) → AreDue plan j ps s
  due-all d k e all s has no_trees j here up = tt
  due-all d k e all s has (and_tree q ps) j here up = (
    (here j d q (in_first itself), has j s (up j s to_this)),
    due-all d k e all s has ps (j + nodes q) (λ i f r among. here i f r (in_later among)) (λ i t each. up i t (to_later each)),
  )

  pub asks : (d k : ℕ) (q : Tree) (s : PlainShape) → IsNodeUnder 0 0 p d k q → HasPairOf plan.table.now k s → Fits q s → AsksParts plan k q s
  asks d k (var j at) s node has fits = tt
  asks d k (lit v at) s node has fits = tt
  asks d k (unary op q at) s node has fits = due d k d (k + 1) _ q s _ node has (first-part [] node refl) of_unary
  asks d k (binary op q r at) s node has fits = (
    due d k d (k + 1) _ q s _ node has (first-part ((d, r) ∷ []) node refl) of_operand,
    due d k d (k + 1 + nodes q) _ r s _ node has (second-part [] node refl) of_operand_behind,
  )
  asks d k (cond b q r at) s node has fits = (
    due d k d (k + 1) _ b s _ node has (first-part ((d, q) ∷ (d, r) ∷ []) node refl) of_test,
    due d k d (k + 1 + nodes b) _ q s _ node has (second-part ((d, r) ∷ []) node refl) of_then,
    due d k d (k + 1 + nodes b + nodes q) _ r s _ node has (third-part [] node refl) of_else,
  )
  asks d k (case e parts at) s node has fits = (
    due d k d (k + 1) _ e s _ node has (first-part (with_depth d parts) node refl) of_index,
    due-all d k e parts s (λ j t each. closed.passed k j (case e parts at) s t (plain-node node) has (of_parts each)) parts (k + 1 + nodes e)
        (λ i f q among. listed f i q (part-within ((d, e) ∷ with_depth d parts) node refl (in_later among)))
        (λ i t each. each),
  )
  asks d k (lam n As b at) s node has fits = (
    fits.0,
    fits.1,
    due d k (d + 1) (k + 1) _ b s _ node has (first-part [] node refl) (subst (λ t. Passes k (lam n As b at) t (k + 1) fits.0) (sym fits.1) of_lam),
  )
  asks d k (app q r at) s node has fits = due d k d (k + 1) _ q s _ node has (first-part ((d, r) ∷ []) node refl) of_app
  asks d k (field i q at) s node has fits = (
    fits.0,
    fits.1,
    due d k d (k + 1) _ q s _ node has (first-part [] node refl) (subst (λ t. Passes k (field i q at) t (k + 1) fits.0) (sym fits.1) of_definition),
  )
  asks d k (sel q i at) s node has fits = due d k d (k + 1) _ q s _ node has (first-part [] node refl) of_sel
  asks d k (merge q r at) s node has fits = tt
  asks d k (let_in n q b at) s node has fits = (
    listed d (k + 1) q (first-part ((d + 1, b) ∷ []) node refl),
    due d k (d + 1) (k + 1 + nodes q) _ b s _ node has (second-part [] node refl) of_let,
  )
  asks d k (rec n T b at) s node has fits = due d k (d + 1) (k + 1) _ b s _ node has (first-part [] node refl) of_rec
  asks d k (skip at) s node has fits = tt
  asks d k (seq q r at) s node has fits = (
    due d k d (k + 1) _ q s _ node has (first-part ((d, r) ∷ []) node refl) of_first,
    due d k d (k + 1 + nodes q) _ r s _ node has (second-part [] node refl) of_second,
  )
  asks d k (assign q r at) s node has fits = (
    due d k d (k + 1) _ q s _ node has (first-part ((d, r) ∷ []) node refl) of_target,
    due d k d (k + 1 + nodes q) _ r s _ node has (second-part [] node refl) of_value,
  )
  asks d k (while_do b c at) s node has fits = (
    due d k d (k + 1) _ b s _ node has (first-part ((d, c) ∷ []) node refl) of_while_test,
    due d k d (k + 1 + nodes b) _ c s _ node has (second-part [] node refl) of_while_body,
  )
  asks d k (forever c at) s node has fits = due d k d (k + 1) _ c s _ node has (first-part [] node refl) of_forever
  asks d k (new n D e b at) s node has fits = (
    due d k d (k + 1) _ e s _ node has (first-part ((d + 1, b) ∷ []) node refl) of_new_value,
    due d k (d + 1) (k + 1 + nodes e) _ b s _ node has (second-part [] node refl) of_new_body,
  )
  asks d k (cells n e b at) s node has fits = (
    due d k d (k + 1) _ e s _ node has (first-part ((d + 1, b) ∷ []) node refl) of_cells_count,
    due d k (d + 1) (k + 1 + nodes e) _ b s _ node has (second-part [] node refl) of_cells_body,
  )
  asks d k (escape n b at) s node has fits = due d k (d + 1) (k + 1) _ b s _ node has (first-part [] node refl) of_escape
  asks d k (accept n D b at) s node has fits = due d k (d + 1) (k + 1) _ b s _ node has (first-part [] node refl) of_accept
  asks d k (put kind q at) s node has fits = due d k d (k + 1) _ q s _ node has (first-part [] node refl) of_put
  asks d k (read q at) s node has fits = due d k d (k + 1) _ q s _ node has (first-part [] node refl) of_read
  asks d k (mark m at) s node has fits = fits
