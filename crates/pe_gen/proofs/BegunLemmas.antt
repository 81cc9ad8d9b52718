-- What is so of the nodes, steps, pairs and sites of a phrase and the table of an accepted derivation.
use Rattle.std.proofs.Common.{ℕ, ◌<◌, ◌≤◌, ◌≡◌, false, List, length, Option, Some, None, refl, ap, sym, ◌∙◌, subst, arith}
use Rattle.std.specs.List.Sorted.{IsPermutation, IsNonDecreasingBy}
use Rattle.std.specs.Option.{MatchOption, IsSome}
use Rattle.std.specs.Prelude.{◌≢◌, slice_get}
use Rattle.fy_phrase.specs.declared.shapes.Pair.{Pair}
use Rattle.fy_phrase.specs.declared.shapes.Shape.{Shape}
use Rattle.fy_phrase.specs.declared.shapes.ShapeEnd.TheVariants as ending
use Rattle.fy_phrase.specs.declared.shapes.ShapeTable.{ShapeTable}
use Rattle.fy_phrase.specs.Sizes.{nodes, depth}
use Rattle.fy_phrase.specs.Tree.{Tree}
use Rattle.fy_phrase.specs.WellMade.{IsClosed as IsClosedPhrase, HasDepths, IsWellMade}
use Rattle.fy_derive.specs.Shapes.{at_end, a_run, an_assignment, IsClosed}
use Rattle.fy_derive.specs.ShapeTables.{shape_at, HasPairOf, IsShapeTable}
use Rattle.pe_code.specs.declared.code.PeCode.{PeCode}
use Rattle.pe_code.specs.declared.code.PeItem.{PeItem}
use Rattle.pe_code.specs.Code.{address_in}
use Rattle.pe_gen.specs.declared.plan.Plan.{Plan}
use Rattle.pe_gen.specs.declared.steps.ShapeStep.{ShapeStep}
use Rattle.pe_gen.specs.declared.steps.ShapeStep.TheVariants.{End}
use Rattle.pe_gen.specs.Plan.{nodes_in, IsPlan, IsSite, IsItemIn}
use Rattle.pe_gen.specs.Preorder.{preorder, thunks_from}
use Rattle.pe_right.specs.Constants.{no_data}
use Rattle.pe_right.specs.Right.{IsItemOf, AreSequencesOf}
use Rattle.pe_gen.specs.Sites.{is_merge, pair, Stands, IsPlain, AreWithin, AreSites, LandAmong, ArePassed, AreEntries}
use Rattle.pe_gen.specs.Steps.{AreSteps}
use Rattle.pe_right.specs.Typed.{IsTableOf}
use Rattle.pe_gen.proofs.AskLemmas.{asks}
use Rattle.pe_gen.proofs.CodeLemmas.{IsMade}
use Rattle.pe_gen.proofs.EntryLists.{address-of}
use Rattle.pe_gen.proofs.Gets.{some_same}
use Rattle.pe_gen.proofs.Injections.{few-among}
use Rattle.pe_gen.proofs.LandLemmas.{pair-stands, pairs-land, pairs-passed}
use Rattle.pe_gen.proofs.NodeLists.{length-preorder, listed-node, plain-node}
use Rattle.pe_gen.proofs.ScopeLemmas.{IsScoped}
use Rattle.pe_gen.proofs.StepLemmas.{end-step}
use Rattle.pe_gen.proofs.TableLemmas.{closed-table, fits-table, pair-shape, pair-within, stands-permuted, stands-back, once-permuted}
use Rattle.pe_gen.proofs.ThunkLemmas.{thunks_from-preorder}

-- a value that is there
pub some-from : {X : Type 0} (o : Option X) (P : Type 0) (Q : X → Type 0) → MatchOption o P Q → (P → ⊥) → IsSome o
some-from None P Q m never = absurd (never m)
some-from (Some x) P Q m never = refl

-- what is begun with
pub record IsBegun (p : Tree) (table : ShapeTable) (ns : List (ℕ × Tree)) (ks : List ShapeStep) (pairs : List Pair) : Type 0 where
  pub its : IsTableOf p table
  pub scoped : IsScoped 0 p
  pub whole : is_merge p ≡ false
  pub made : ns ≡ preorder 0 p
  pub steps : AreSteps table.shapes ks
  pub moved : IsPermutation table.pairs pairs

pub begun-of : (p : Tree) (table : ShapeTable) (ns : List (ℕ × Tree)) (ks : List ShapeStep) (pairs : List Pair) (shapes : List Shape) (first : List Pair) →
    IsTableOf p table → is_merge p ≡ false → IsClosedPhrase p → HasDepths p → IsWellMade p → depth p ≤ 511 → ns ≡ preorder 0 p →
    shapes ≡ table.shapes → AreSteps shapes ks → first ≡ table.pairs → IsPermutation first pairs → IsBegun p table ns ks pairs
begun-of p table ns ks pairs shapes first its whole is_closed depths is_made low made same_shapes steps same_pairs moved = record {
  its = its;
  scoped = record { closed = is_closed; depths = depths; made = is_made; low = low; few = omega arith };
  whole = whole;
  made = made;
  steps = subst (λ ss. AreSteps ss ks) same_shapes steps;
  moved = subst (λ xs. IsPermutation xs pairs) same_pairs moved;
}

module _ (p : Tree) (table : ShapeTable) (ns : List (ℕ × Tree)) (steps : List ShapeStep) (pairs : List Pair) (b : IsBegun p table ns steps pairs) where
  closed : IsClosed p (HasPairOf table)
  closed = closed-table p table b.its

  there : (x : Pair) → Stands pairs x → Stands table.pairs x
  there x at = stands-back table.pairs pairs x b.moved at

  back : (x : Pair) → Stands table.pairs x → Stands pairs x
  back x at = stands-permuted table.pairs pairs x b.moved at

  pub begun-within : AreWithin (length ns) pairs
  begun-within i x at = omega (arith, pair-within p table b.its x (there x (i, at)), ap length b.made, length-preorder 0 p)

  pub begun-shapes : (i : ℕ) (x : Pair) → slice_get pairs i ≡ Some x → x.shape < length table.shapes
  begun-shapes i x at = let t = there x (i, at) in b.its.pairs.sound.pairs_within t.0 x t.1

  pub begun-once : (i j : ℕ) (x : Pair) → slice_get pairs i ≡ Some x → slice_get pairs j ≡ Some x → i ≡ j
  begun-once i j x c d = once-permuted table.pairs pairs b.moved b.its.pairs.sound.pairs_once i j x c d

  -- the shape of a run has a step
  pub run-step : ((n : ℕ) → slice_get steps n ≢ Some (End ending.Run)) → ⊥
  run-step none = let has = closed.program in none has.pair.shape (end-step table.shapes steps b.steps has.pair.shape ending.Run has.shape_is)

  -- the program's pair
  pub program-stands : (n : ℕ) → slice_get steps n ≡ Some (End ending.Run) → Stands pairs (pair 0 n)
  program-stands n at = back (pair 0 n) (pair-stands p table closed b.scoped b.its.pairs.sound 0 n (at_end a_run) closed.program (b.steps.each n (End ending.Run) at))

  pub program-plain : (n : ℕ) → IsPlain ns (pair 0 n)
  program-plain n = (p, (0, ap (λ xs. slice_get xs 0) b.made), b.whole)

  pub begun-land : (program : Pair) (sites : List Pair) → AreSites ns pairs program sites → LandAmong ns table.shapes pairs sites
  begun-land program sites all = pairs-land p table closed b.scoped b.its.pairs.sound ns pairs sites program b.made there back all

  pub begun-passed : IsNonDecreasingBy (λ (x : Pair). x.node) pairs → ArePassed ns table.shapes pairs
  begun-passed rising = pairs-passed p table closed b.scoped b.its.pairs.sound ns pairs b.made rising there back

  pub begun-few : (program : Pair) (sites : List Pair) → AreSites ns pairs program sites → length table.pairs ≤ 65536 → length sites ≤ 65536
  begun-few program sites all few =
      let short = few-among table.pairs sites all.apart (λ i x at. there x (all.known i x at).0) in omega arith

  module _ (plan : Plan) (is_nodes : nodes_in plan ≡ ns) (is_table : plan.table.now ≡ table) (is_steps : plan.steps.keys ≡ steps)
      (program : Pair) (sites : List Pair) (all : AreSites ns pairs program sites) (entries : AreEntries ns table.shapes pairs sites plan.entries) where
    pub plan-of : length plan.nodes.items ≤ 65536 → length table.shapes ≤ 256 → IsPlan plan
    plan-of nodes shapes = record {
      table = subst (λ t. IsShapeTable t) (sym is_table) b.its.pairs.sound;
      listing = (p, is_nodes ∙ b.made);
      few_nodes = nodes;
      few_shapes = subst (λ (t : ShapeTable). length t.shapes ≤ 256) (sym is_table) shapes;
      steps = subst (λ (t : ShapeTable). AreSteps t.shapes plan.steps.keys) (sym is_table) (subst (λ ks. AreSteps table.shapes ks) (sym is_steps) b.steps);
      entered = λ x at.
          let e = entries.has x (back x (subst (λ (t : ShapeTable). Stands t.pairs x) is_table at)) in (
            e.0.address,
            ap (λ k. address_in plan.entries k x.shape) (sym e.2) ∙ (ap (address_in plan.entries e.0.node) (sym e.3)
                ∙ address-of plan.entries entries.once e.1.0 e.0 e.1.1),
          );
    }

    pub site-asked : (i : ℕ) (x : Pair) → slice_get sites i ≡ Some x → IsSite plan x
    site-asked i x at =
        let known = all.known i x at in
        let t = there x known.0 in
        let shape = pair-shape p table b.its x t in
        let node = listed-node p ns b.made x.node known.1.1.0 known.1.0 known.1.1.1 in
        let has : HasPairOf table x.node shape.0 = record { place = t.0; pair = x; stands = t.1; node_is = refl; shape_is = shape.1 } in
        let fits = fits-table p table b.its x.node known.1.0 shape.0 (plain-node node) has in
        let has_too = subst (λ u. HasPairOf u x.node shape.0) (sym is_table) has in
        record {
          node = known.1.0;
          shape = shape.0;
          listed = (known.1.1.0, ap (λ xs. slice_get xs x.node) is_nodes ∙ known.1.1.1);
          whole = known.1.2;
          is = subst (λ u. shape_at u x.shape ≡ Some shape.0) (sym is_table) shape.1;
          asked = has_too;
          parts = asks plan p (is_nodes ∙ b.made) (subst (λ u. IsClosed p (HasPairOf u)) (sym is_table) closed) known.1.1.0 x.node known.1.0 shape.0 node has_too fits;
        }

    -- the code that is made
    pub code-made : (code : PeCode) → code.entries ≡ plan.entries → program.node ≡ 0 → slice_get steps program.shape ≡ Some (End ending.Run) →
        length code.items ≡ length sites →
        ((i : ℕ) (x : Pair) (item : PeItem) → slice_get sites i ≡ Some x → slice_get code.items i ≡ Some item → IsItemIn plan x item) →
        code.shapes ≡ length table.shapes →
        MatchOption code.assignment ((n : ℕ) → slice_get steps n ≢ Some (End ending.Assign)) (λ n. slice_get steps n ≡ Some (End ending.Assign)) →
        AreSequencesOf table code.sequences → code.thunks ≡ thunks_from 0 ns → IsMade p table code
    code-made code is_entries at_zero run every items shapes assignment sequences thunks = record {
      closed = closed;
      sound = b.its.pairs.sound;
      scoped = b.scoped;
      pairs = pairs;
      there = there;
      back = back;
      program = program;
      program_node = at_zero;
      program_shape = b.steps.each program.shape (End ending.Run) run;
      places = sites;
      sites = subst (λ xs. AreSites xs pairs program sites) b.made all;
      entries = subst (λ es. AreEntries (preorder 0 p) table.shapes pairs sites es) (sym is_entries) (subst (λ xs. AreEntries xs table.shapes pairs sites plan.entries) b.made entries);
      all = every;
      items = λ i x item at here d q s node is.
          subst (λ u. IsItemOf no_data u code d x.node q s item) is_table
          (items i x item at here d q s (ap (λ xs. slice_get xs x.node) (is_nodes ∙ b.made) ∙ node) (subst (λ u. shape_at u x.shape ≡ Some s) (sym is_table) is) code is_entries);
      shapes = shapes;
      assignment = λ n. (named code.assignment assignment n, unnamed code.assignment assignment n);
      sequences = sequences;
      thunks = thunks ∙ (ap (thunks_from 0) b.made ∙ thunks_from-preorder 0 0 p);
    }
      where
        named : (o : Option ℕ) → MatchOption o ((n : ℕ) → slice_get steps n ≢ Some (End ending.Assign)) (λ n. slice_get steps n ≡ Some (End ending.Assign)) →
            (n : ℕ) → o ≡ Some n → shape_at table n ≡ Some (at_end an_assignment)
        named None m n e = absurd cc
        named (Some k) m n e = b.steps.each n (End ending.Assign) (ap (slice_get steps) (sym (some_same e)) ∙ m)

        unnamed : (o : Option ℕ) → MatchOption o ((n : ℕ) → slice_get steps n ≢ Some (End ending.Assign)) (λ n. slice_get steps n ≡ Some (End ending.Assign)) →
            (n : ℕ) → shape_at table n ≡ Some (at_end an_assignment) → o ≡ Some n
        unnamed None m n is = absurd (m n (end-step table.shapes steps b.steps n ending.Assign is))
        unnamed (Some k) m n is =
            ap Some (b.its.pairs.sound.shapes_once k n (at_end an_assignment) (b.steps.each k (End ending.Assign) m) is)
