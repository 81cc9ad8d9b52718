-- Code in which constants among the nodes of a phrase are handed as data.
use Rattle.std.proofs.Common.{ℕ, ◌≡◌, List, length, map, Option, Some, None, refl, sym, ap, ◌∙◌, subst}
use Rattle.std.specs.Option.{option_map}
use Rattle.std.specs.Prelude.{slice_get}
use Rattle.std.proofs.lemmas.List.{length-map}
use Rattle.std.proofs.lemmas.Option.{slice_get-map}
use Rattle.fy_base.specs.declared.data.Datum.{Datum}
use Rattle.fy_phrase.specs.Tree.{Tree}
use Rattle.pe_code.specs.declared.code.PeInsn.{PeInsn}
use Rattle.pe_code.specs.declared.code.PeInsn.TheVariants as insn
use Rattle.pe_code.specs.declared.code.PeCode.{PeCode}
use Rattle.pe_right.specs.Direct.{IsConstantAt, IsHanded, passed, bound, same, IsDirectOf}
use Rattle.pe_gen.specs.Handing.{datum_in, passing, binding, with_data, item_with_data}
use Rattle.pe_gen.specs.Preorder.{preorder}
use Rattle.pe_gen.proofs.Gets.{some_same}
use Rattle.pe_gen.proofs.NodeLists.{listed-node, node-listed}

module _ (p : Tree) (ns : List (ℕ × Tree)) (made : ns ≡ preorder 0 p) where
  -- a node whose datum is found is a constant
  is-constant : (k : ℕ) (v : Datum) → datum_in (slice_get ns k) ≡ Some v → IsConstantAt p k v
  is-constant k v e = by (slice_get ns k) refl e
    where
      by : (o : Option (ℕ × Tree)) → slice_get ns k ≡ o → datum_in o ≡ Some v → IsConstantAt p k v
      by None at f = absurd cc
      by (Some x) at f = record { depth = x.0; node = x.1; stands = listed-node p ns made k x.0 x.1 at; value = f }

  -- and one of which none is found is no constant
  no-constant : (k : ℕ) (v : Datum) → datum_in (slice_get ns k) ≡ None → IsConstantAt p k v → ⊥
  no-constant k v e c =
      let at : slice_get ns k ≡ Some (c.depth, c.node) = node-listed p ns made k c.depth c.node c.stands in
      let f : Some v ≡ None = sym c.value ∙ (sym (ap datum_in at) ∙ e) in
      cc

  insn-handed : (i : PeInsn) → IsHanded p i (with_data ns i)
  insn-handed (insn.Pass k y) = by (datum_in (slice_get ns k)) refl
    where
      by : (o : Option Datum) → datum_in (slice_get ns k) ≡ o → IsHanded p (insn.Pass k y) (passing k y o)
      by None e = same (λ j v is c. no-constant k v e (subst (λ n. IsConstantAt p n v) (sym (some_same is)) c))
      by (Some v) e = passed (is-constant k v e)
  insn-handed (insn.Let k y) = by (datum_in (slice_get ns k)) refl
    where
      by : (o : Option Datum) → datum_in (slice_get ns k) ≡ o → IsHanded p (insn.Let k y) (binding k y o)
      by None e = same (λ j v is c. no-constant k v e (subst (λ n. IsConstantAt p n v) (sym (some_same is)) c))
      by (Some v) e = bound (is-constant k v e)
  insn-handed i = same (λ j v is c. absurd cc)

  -- code with the items of another one, with data, and all else as there
  pub direct-of : (code new : PeCode) → new.items ≡ map (item_with_data ns) code.items → new.entries ≡ code.entries → new.shapes ≡ code.shapes →
      new.assignment ≡ code.assignment → new.sequences ≡ code.sequences → new.thunks ≡ code.thunks → IsDirectOf p code new
  direct-of code new items entries shapes assignment sequences thunks = record {
    count = ap length items ∙ length-map code.items (item_with_data ns);
    items = λ a old at. (
      item_with_data ns old,
      ap (λ xs. slice_get xs a) items ∙ (slice_get-map (item_with_data ns) code.items a ∙ ap (option_map (item_with_data ns)) at),
      record { insn = insn-handed old.insn; depth = refl; place = refl },
    );
    entries = entries;
    shapes = shapes;
    assignment = assignment;
    sequences = sequences;
    thunks = thunks;
  }
