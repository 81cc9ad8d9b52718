-- Code that is made of a site for each pair whose node is no merge is the code of the phrase and the table.
use Rattle.std.proofs.Common.{ℕ, ◌+◌, ◌≤◌, ◌≡◌, ◌↔◌, Bool, true, false, ◌⊎◌, inl, inr, List, [], ◌∷◌, length, Some, refl, ap, sym, ◌∙◌, subst, arith}
use Rattle.std.specs.Prelude.{slice_get}
use Rattle.fy_phrase.specs.declared.shapes.Pair.{Pair}
use Rattle.fy_phrase.specs.declared.shapes.ShapeTable.{ShapeTable}
use Rattle.fy_phrase.specs.Sizes.{nodes}
use Rattle.fy_phrase.specs.Tree.{Tree, merge}
use Rattle.fy_derive.specs.Kinds.{Kind, kind_of}
use Rattle.fy_derive.specs.Shapes.{PlainShape, at_end, a_run, an_assignment, shape_begins, IsClosed}
use Rattle.fy_derive.specs.ShapeTables.{plain_shape, shape_at, HasPairOf, IsShapeTable}
use Rattle.pe_code.specs.declared.code.PeCode.{PeCode}
use Rattle.pe_code.specs.declared.code.PeItem.{PeItem}
use Rattle.pe_code.specs.Code.{item_at, entry_of}
use Rattle.pe_gen.specs.Preorder.{preorder}
use Rattle.pe_right.specs.Constants.{no_data}
use Rattle.pe_right.specs.Entered.{none_straight}
use Rattle.pe_right.specs.Right.{IsNodeUnder, itself, thunk_nodes, Enters, IsItemOf, AreSequencesOf, IsCodeOf}
use Rattle.pe_gen.specs.Layout.{IsOwn, IsLaidOut}
use Rattle.pe_gen.specs.Sites.{is_merge, taken_by, landing, pair, Stands, AreSites, AreEntries}
use Rattle.pe_gen.proofs.EntryLists.{pair_same, address-of, address-from}
use Rattle.pe_gen.proofs.Gets.{some_same, pair_second, get-within, get-some}
use Rattle.pe_gen.proofs.Injections.{few-among}
use Rattle.pe_gen.proofs.LandLemmas.{operand-kind, taken-begins, landing-plain, landing-right, landing-left, passed-right, passed-left, pair-stands}
use Rattle.pe_gen.proofs.NodeLists.{node-found, node-placed, first-part, second-part}
use Rattle.pe_gen.proofs.PlainLemmas.{IsPlainAt, right-plain}
use Rattle.pe_gen.proofs.ScopeLemmas.{IsScoped, node-scoped}
use Rattle.pe_gen.proofs.StepLemmas.{shape-read}

-- how the code of a phrase is made from a table: the pairs are the table's in another order
pub record IsMade (p : Tree) (table : ShapeTable) (code : PeCode) : Type 0 where
  pub closed : IsClosed p (HasPairOf table)
  pub sound : IsShapeTable table
  pub scoped : IsScoped 0 p
  pub pairs : List Pair
  pub there : (x : Pair) → Stands pairs x → Stands table.pairs x
  pub back : (x : Pair) → Stands table.pairs x → Stands pairs x
  pub program : Pair
  pub program_node : program.node ≡ 0
  pub program_shape : shape_at table program.shape ≡ Some (at_end a_run)
  pub places : List Pair
  pub sites : AreSites (preorder 0 p) pairs program places
  pub entries : AreEntries (preorder 0 p) table.shapes pairs places code.entries
  pub all : length code.items ≡ length places
  pub items : (i : ℕ) (x : Pair) (item : PeItem) → slice_get places i ≡ Some x → slice_get code.items i ≡ Some item →
      (d : ℕ) (q : Tree) (s : PlainShape) → slice_get (preorder 0 p) x.node ≡ Some (d, q) → shape_at table x.shape ≡ Some s →
      IsItemOf no_data table code d x.node q s item
  pub shapes : code.shapes ≡ length table.shapes
  pub assignment : (n : ℕ) → (code.assignment ≡ Some n) ↔ (shape_at table n ≡ Some (at_end an_assignment))
  pub sequences : AreSequencesOf table code.sequences
  pub thunks : code.thunks ≡ thunk_nodes 0 p

module _ (p : Tree) (table : ShapeTable) (code : PeCode) (made : IsMade p table code) where
  -- an entry leads to the site at which the demand lands
  pub leads : (d k n a : ℕ) (q : Tree) (s : PlainShape) → IsNodeUnder 0 0 p d k q → shape_at table n ≡ Some s → entry_of code k n ≡ Some a →
      slice_get made.places a ≡ Some (pair (landing k q s) n)
  leads d k n a q s node is at =
      let x = address-from code.entries k n a at in
      let e = x.0 in
      let its = made.entries.known x.1.0 e x.1.1 in
      let same : its.node ≡ q = pair_second (some_same (sym its.listed.1 ∙ (ap (slice_get (preorder 0 p)) x.2 ∙ node-placed node))) in
      let shape : its.shape ≡ s = some_same (sym its.is ∙ (ap (shape_at table) x.3 ∙ is)) in
      ap (slice_get made.places) (sym x.4)
      ∙ (its.leads
      ∙ (ap (λ m. Some (pair m e.shape)) (ap (λ j. landing j its.node its.shape) x.2 ∙ (ap (λ r. landing k r its.shape) same ∙ ap (landing k q) shape))
      ∙ ap (λ m. Some (pair (landing k q s) m)) x.3))

  -- each pair has an entry
  pub entered : (k n : ℕ) → Stands table.pairs (pair k n) → (a : ℕ) × (entry_of code k n ≡ Some a)
  entered k n at =
      let x = made.entries.has (pair k n) (made.back (pair k n) at) in
      let e = x.0 in
      (e.address, ap (λ m. entry_of code m n) (sym x.2) ∙ (ap (entry_of code e.node) (sym x.3) ∙ address-of code.entries made.entries.once x.1.0 e x.1.1))

  -- and each entry is that of a pair
  pub entry-pair : (k n a : ℕ) → entry_of code k n ≡ Some a → Stands table.pairs (pair k n)
  entry-pair k n a at =
      let x = address-from code.entries k n a at in
      let its = made.entries.known x.1.0 x.0 x.1.1 in
      subst (λ y. Stands table.pairs y) (pair_same (pair x.0.node x.0.shape) (pair k n) x.2 x.3) (made.there _ its.stands)

  pub has-pair : (k n a : ℕ) (s : PlainShape) → shape_at table n ≡ Some s → entry_of code k n ≡ Some a → HasPairOf table k s
  has-pair k n a s is at =
      let x = entry-pair k n a at in
      record { place = x.0; pair = pair k n; stands = x.1; node_is = refl; shape_is = is }

  -- what is entered at one site is entered at one address
  same-address : (a b : ℕ) (x y : Pair) → slice_get made.places a ≡ Some x → slice_get made.places b ≡ Some y → y ≡ x → b ≡ a
  same-address a b x y at bt e = made.sites.apart b a x (bt ∙ ap Some e) at

  -- a part at which a demand lands as it does at the whole is entered at the same address
  entered-same : (d e k j n a : ℕ) (q r : Tree) (s : PlainShape) → IsNodeUnder 0 0 p d k q → IsNodeUnder 0 0 p e j r → shape_at table n ≡ Some s →
      entry_of code k n ≡ Some a → HasPairOf table j s → landing k q s ≡ landing j r s → Enters table code j s a
  entered-same d e k j n a q r s node part is at has same =
      let x = entered j n (pair-stands p table made.closed made.scoped made.sound j n s has is) in
      let here = leads d k n a q s node is at in
      let there = leads e j n x.0 r s part is x.1 in
      let number : x.0 ≡ a = same-address a x.0 _ _ here there (ap (λ m. pair m n) (sym same)) in
      (n, is, x.1 ∙ ap Some number)

  -- the item of a form that is no merge
  item-right : (d k n a : ℕ) (q : Tree) (s : PlainShape) → IsNodeUnder 0 0 p d k q → shape_at table n ≡ Some s → entry_of code k n ≡ Some a → is_merge q ≡ false →
      (item : PeItem) × (item_at code a ≡ Some item) × IsItemOf no_data table code d k q s item
  item-right d k n a q s node is at whole =
      let site = leads d k n a q s node is at ∙ ap (λ m. Some (pair m n)) (landing-plain k q s whole) in
      let x = get-some code.items a (let h = get-within made.places a (pair k n) site in omega (arith, made.all)) in
      (x.0, x.1, made.items a (pair k n) x.0 site x.1 d q s (node-placed node) is)

  pub right-at : (q : Tree) (d k a : ℕ) (s : PlainShape) → IsNodeUnder 0 0 p d k q → Enters table code k s a → IsPlainAt no_data table code d k q s a
  right-at (merge q r at) d k a s node enters =
      let kind = operand-kind r (node-scoped node made.scoped).made.1 in
      (kind.0, kind.1, by kind.0 kind.1 (taken_by r s) refl)
    where
      by : (kind : Kind) → kind_of r ≡ Some kind → (b : Bool) → taken_by r s ≡ b →
          (shape_begins kind s ≡ true) × Enters table code (k + 1 + nodes q) s a ⊎ (shape_begins kind s ≡ false) × Enters table code (k + 1) s a
      by kind e true t =
          let has = has-pair k enters.0 a s enters.1 enters.2 in
          inl (
            sym (taken-begins r kind s e) ∙ t,
            entered-same d d k (k + 1 + nodes q) enters.0 a (merge q r at) r s node (second-part [] node refl) enters.1 enters.2
                (passed-right p table made.closed made.scoped d k q r at s node has t) (landing-right k q r at s t),
          )
      by kind e false t =
          let has = has-pair k enters.0 a s enters.1 enters.2 in
          inr (
            sym (taken-begins r kind s e) ∙ t,
            entered-same d d k (k + 1) enters.0 a (merge q r at) q s node (first-part ((d, r) ∷ []) node refl) enters.1 enters.2
                (passed-left p table made.closed made.scoped d k q r at s node has t) (landing-left k q r at s t),
          )
  right-at q d k a s node enters = item-right d k enters.0 a q s node enters.1 enters.2 refl

  pub code-of : IsCodeOf no_data none_straight p table code
  code-of = record {
    entries = λ k n. (λ at. entered k n at, λ at. entry-pair k n at.0 at.1);
    program =
        let first = made.sites.known 0 made.program made.sites.first in
        let named : made.program ≡ pair 0 made.program.shape = pair_same made.program (pair 0 made.program.shape) made.program_node refl in
        let at = made.there (pair 0 made.program.shape) (subst (λ x. Stands made.pairs x) named first.0) in
        let x = entered 0 made.program.shape at in
        let whole : is_merge p ≡ false =
        subst (λ q. is_merge q ≡ false)
        (pair_second (some_same (sym first.1.1.1 ∙ (ap (slice_get (preorder 0 p)) made.program_node ∙ node-placed itself)))) first.1.2 in
        let site = leads 0 0 made.program.shape x.0 p (at_end a_run) itself made.program_shape x.1
        ∙ ap (λ m. Some (pair m made.program.shape)) (landing-plain 0 p (at_end a_run) whole) in
        let zero_is : x.0 ≡ 0 = same-address 0 x.0 made.program _ made.sites.first site (sym named) in
        (made.program.shape, made.program_shape, x.1 ∙ ap Some zero_is);
    right = right-plain no_data table code p (λ d k a q s node enters. right-at q d k a s node enters);
    fits = λ w k q node. tt;
    shapes = made.shapes;
    assignment = made.assignment;
    sequences = made.sequences;
    thunks = made.thunks;
  }

  -- what is a pair's own stands at its site
  own-site : (x : Pair) (a : ℕ) → IsOwn p code x a → slice_get made.places a ≡ Some x
  own-site x a own =
      let at = entry-pair x.node x.shape a own.entered in
      let stands = get-some table.shapes x.shape (made.sound.pairs_within at.0 (pair x.node x.shape) at.1) in
      let is = shape-read table.shapes x.shape stands.0 stands.1 in
      let s = plain_shape stands.0 in
      leads own.depth x.node x.shape a own.form s own.node is own.entered
      ∙ (ap (λ m. Some (pair m x.shape)) (landing-plain x.node own.form s own.whole) ∙ ap Some (pair_same (pair x.node x.shape) x refl refl))

  site-own : (a : ℕ) (x : Pair) → slice_get made.places a ≡ Some x → IsOwn p code x a
  site-own a x at =
      let known = made.sites.known a x at in
      let named : x ≡ pair x.node x.shape = pair_same x (pair x.node x.shape) refl refl in
      let e = entered x.node x.shape (subst (λ y. Stands table.pairs y) named (made.there x known.0)) in
      let node = node-found 0 p x.node known.1.1.0 known.1.0 known.1.1.1 in
      let own : IsOwn p code x e.0 = record { depth = known.1.1.0; form = known.1.0; node = node; whole = known.1.2; entered = e.1 } in
      let here : e.0 ≡ a = same-address a e.0 x x at (own-site x e.0 own) refl in
      record { depth = known.1.1.0; form = known.1.0; node = node; whole = known.1.2; entered = e.1 ∙ ap Some here }

  pub laid-out : IsLaidOut p code
  laid-out = record {
    each = λ a h. let x = get-some made.places a (omega (arith, h, made.all)) in (x.0, site-own a x.0 x.1);
    one = λ a x y o u. some_same (sym (own-site x a o) ∙ own-site y a u);
    order = λ a b x y one l o u. made.sites.order a b x y one l (own-site x a o) (own-site y b u);
    entries = made.entries.ordered;
  }

  pub items-few : length code.items ≤ length table.pairs
  items-few =
      let short = few-among table.pairs made.places made.sites.apart (λ i x at. made.there x (made.sites.known i x at).0) in
      omega (arith, short, made.all)

-- an item, with its site
pub record HasSite (p : Tree) (table : ShapeTable) (code : PeCode) (places : List Pair) (i : ℕ) (item : PeItem) : Type 0 where
  pub site : Pair
  pub at : slice_get places i ≡ Some site
  pub depth : ℕ
  pub form : Tree
  pub shape : PlainShape
  pub node : IsNodeUnder 0 0 p depth site.node form
  pub whole : is_merge form ≡ false
  pub is : shape_at table site.shape ≡ Some shape
  pub its : IsItemOf no_data table code depth site.node form shape item

pub site-of : (p : Tree) (table : ShapeTable) (code : PeCode) (made : IsMade p table code) (i : ℕ) (item : PeItem) → slice_get code.items i ≡ Some item →
    HasSite p table code made.places i item
site-of p table code made i item at =
    let x = get-some made.places i (let h = get-within code.items i item at in omega (arith, made.all)) in
    let known = made.sites.known i x.0 x.1 in
    let there = made.there x.0 known.0 in
    let stands = get-some table.shapes x.0.shape (made.sound.pairs_within there.0 x.0 there.1) in
    let is = shape-read table.shapes x.0.shape stands.0 stands.1 in
    record {
      site = x.0;
      at = x.1;
      depth = known.1.1.0;
      form = known.1.0;
      shape = plain_shape stands.0;
      node = node-found 0 p x.0.node known.1.1.0 known.1.0 known.1.1.1;
      whole = known.1.2;
      is = is;
      its = made.items i x.0 item x.1 at known.1.1.0 known.1.0 (plain_shape stands.0) known.1.1.1 is;
    }
