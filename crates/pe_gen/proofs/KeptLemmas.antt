-- Code in which constants are handed as data is valid and of its phrase's sizes where the code given is.
use Rattle.std.proofs.Common.{ℕ, suc, ◌+◌, ◌*◌, ◌<◌, ◌≤◌, ◌≡◌, List, [], ◌∷◌, length, Option, Some, refl, ap, sym, ◌∙◌, subst, arith}
use Rattle.std.specs.List.{All}
use Rattle.std.specs.Option.{ForSome}
use Rattle.std.specs.Prelude.{slice_get}
use Rattle.std.proofs.lemmas.List.Elements.{All-weaker}
use Rattle.std.proofs.lemmas.Option.{get_or_from_slice_get}
use Rattle.fy_phrase.specs.Sizes.{depth}
use Rattle.fy_phrase.specs.Tree.{Tree}
use Rattle.pe_code.specs.declared.code.Entry.{Entry}
use Rattle.pe_code.specs.declared.code.PeCode.{PeCode}
use Rattle.pe_code.specs.declared.code.SequenceShapes.{SequenceShapes}
use Rattle.pe_code.specs.declared.code.PeInsn.{PeInsn}
use Rattle.pe_code.specs.declared.code.StraightPart.{StraightPart}
use Rattle.pe_code.specs.declared.code.StraightPart.TheVariants as part
use Rattle.pe_code.specs.declared.code.PeItem.{PeItem}
use Rattle.pe_code.specs.Code.{beside, body_of, variable_of, shape_of, node_of, picked_from, straight_of}
use Rattle.pe_code.specs.Valid.{LeadsTo, IsThunkNode, IsSoundPart, IsSoundStraight, IsSoundItem, IsSoundEntry, all_picked_from, parts_run_by, all_parts_run, places_in, all_places_in, AreOnce, asked_sequences, asked_shapes, IsValid}
use Rattle.pe_right.specs.Direct.{IsHanded, passed, bound, same, IsItemHanded, IsDirectOf}
use Rattle.pe_gen.specs.Layout.{IsLaidOut}
use Rattle.pe_gen.specs.Sizes.{HasSizesOf}
use Rattle.pe_gen.proofs.Gets.{some_same, get-within, get-some}
use Rattle.pe_gen.proofs.MovedLemmas.{moved-layout}
use Rattle.pe_gen.proofs.SoundLemmas.{All-from_gets}

pub at-place : {X : Type 0} (P : X → Type 0) (xs : List X) (i : ℕ) (x : X) → All P xs → slice_get xs i ≡ Some x → P x
at-place P xs i x all at = subst P (get_or_from_slice_get xs i x x at) (all i x (get-within xs i x at))

-- ---- an instruction names the same

same-beside : {p : Tree} {i j : PeInsn} → IsHanded p i j → beside j ≡ beside i
same-beside (passed c) = refl
same-beside (bound c) = refl
same-beside (same none) = refl

same-body : {p : Tree} {i j : PeInsn} → IsHanded p i j → body_of j ≡ body_of i
same-body (passed c) = refl
same-body (bound c) = refl
same-body (same none) = refl

same-variable : {p : Tree} {i j : PeInsn} → IsHanded p i j → variable_of j ≡ variable_of i
same-variable (passed c) = refl
same-variable (bound c) = refl
same-variable (same none) = refl

same-shape : {p : Tree} {i j : PeInsn} → IsHanded p i j → shape_of j ≡ shape_of i
same-shape (passed c) = refl
same-shape (bound c) = refl
same-shape (same none) = refl

same-picked : {p : Tree} {i j : PeInsn} → IsHanded p i j → picked_from j ≡ picked_from i
same-picked (passed c) = refl
same-picked (bound c) = refl
same-picked (same none) = refl

-- of the nodes that it names at most one is left out
no-other-node : {p : Tree} {i j : PeInsn} → IsHanded p i j → (n : ℕ) → node_of j ≡ Some n → node_of i ≡ Some n
no-other-node (passed c) n e = absurd cc
no-other-node (bound c) n e = absurd cc
no-other-node (same none) n e = e

-- ---- as many parts are picked from

parts-kept : (p : Tree) (xs ys : List PeItem) → length ys ≡ length xs →
    ((a : ℕ) (x : PeItem) → slice_get xs a ≡ Some x → (y : PeItem) × (slice_get ys a ≡ Some y) × IsItemHanded p x y) → all_picked_from ys ≡ all_picked_from xs
parts-kept p [] [] count items = refl
parts-kept p [] (y ∷ ys) count items = absurd (omega arith)
parts-kept p (x ∷ xs) [] count items = absurd (omega arith)
parts-kept p (x ∷ xs) (y ∷ ys) count items =
    let first = items 0 x refl in
    let own : picked_from y.insn ≡ picked_from x.insn = ap (λ (i : PeItem). picked_from i.insn) (some_same first.1) ∙ same-picked first.2.insn in
    let rest = parts-kept p xs ys (omega arith) (λ a z at. items (suc a) z at) in
    omega (arith, ap length own, rest)

-- ---- as much straight code is run

same-straight : {p : Tree} {i j : PeInsn} → IsHanded p i j → straight_of j ≡ straight_of i
same-straight (passed c) = refl
same-straight (bound c) = refl
same-straight (same none) = refl

same-run : {p : Tree} {i j : PeInsn} → IsHanded p i j → parts_run_by j ≡ parts_run_by i
same-run (passed c) = refl
same-run (bound c) = refl
same-run (same none) = refl

same-places : {p : Tree} {i j : PeInsn} → IsHanded p i j → places_in j ≡ places_in i
same-places (passed c) = refl
same-places (bound c) = refl
same-places (same none) = refl

run-kept : (p : Tree) (xs ys : List PeItem) → length ys ≡ length xs →
    ((a : ℕ) (x : PeItem) → slice_get xs a ≡ Some x → (y : PeItem) × (slice_get ys a ≡ Some y) × IsItemHanded p x y) → (all_parts_run ys ≡ all_parts_run xs) × (all_places_in ys ≡ all_places_in xs)
run-kept p [] [] count items = (refl, refl)
run-kept p [] (y ∷ ys) count items = absurd (omega arith)
run-kept p (x ∷ xs) [] count items = absurd (omega arith)
run-kept p (x ∷ xs) (y ∷ ys) count items =
    let first = items 0 x refl in
    let parts : parts_run_by y.insn ≡ parts_run_by x.insn = ap (λ (i : PeItem). parts_run_by i.insn) (some_same first.1) ∙ same-run first.2.insn in
    let places : places_in y.insn ≡ places_in x.insn = ap (λ (i : PeItem). places_in i.insn) (some_same first.1) ∙ same-places first.2.insn in
    let rest = run-kept p xs ys (omega arith) (λ a z at. items (suc a) z at) in
    (omega (arith, parts, rest.0), omega (arith, places, rest.1))

-- ---- the code

module _ (p : Tree) (code made : PeCode) (direct : IsDirectOf p code made) where
  leads : {d a : ℕ} → LeadsTo code d a → LeadsTo made d a
  leads {a = a} l = let x = direct.items a l.item l.stands in record { item = x.0; stands = x.1; depth_is = x.2.depth ∙ l.depth_is }

  thunk-node : {d n : ℕ} → IsThunkNode code d n → IsThunkNode made d n
  thunk-node {d = d} {n = n} t = record {
    place = t.place;
    listed = ap (λ ns. slice_get ns t.place) direct.thunks ∙ t.listed;
    led = subst (λ (es : List Entry). All (λ e. e.node ≡ n → LeadsTo made d e.address) es) (sym direct.entries)
        (All-weaker (λ (e : Entry). e.node ≡ n → LeadsTo code d e.address) (λ (e : Entry). e.node ≡ n → LeadsTo made d e.address) (λ e h is. leads (h is)) code.entries t.led);
  }

  part-kept : (d e : ℕ) → e ≡ d → (s : StraightPart) → IsSoundPart code d s → IsSoundPart made e s
  part-kept d e equal (part.Literal v) h = tt
  part-kept d e equal (part.Cell k) h = omega (arith, h, equal)
  part-kept d e equal (part.Unary op a) h = subst (λ n. LeadsTo made n a) (sym equal) (leads h)
  part-kept d e equal (part.Binary op a) h = subst (λ n. LeadsTo made n a) (sym equal) (leads h)

  straight-kept : (d e : ℕ) → e ≡ d → (ss : List StraightPart) → IsSoundStraight code d ss → IsSoundStraight made e ss
  straight-kept d e equal ss h = record { short = h.short; one = h.one; parts = All-weaker (IsSoundPart code d) (IsSoundPart made e) (part-kept d e equal) ss h.parts }

  sound : (old new : PeItem) → IsItemHanded p old new → IsSoundItem code old → IsSoundItem made new
  sound old new h s = record {
    depth = omega (arith, h.depth, s.depth);
    beside_it =
        let there = All-weaker (λ a. LeadsTo code old.depth a) (λ a. LeadsTo made old.depth a) (λ a l. leads l) (beside old.insn) s.beside_it in
        subst (λ xs. All (λ a. LeadsTo made new.depth a) xs) (sym (same-beside h.insn)) (subst (λ d. All (λ a. LeadsTo made d a) (beside old.insn)) (sym h.depth) there);
    body = λ a e. subst (λ d. LeadsTo made (d + 1) a) (sym h.depth) (leads (s.body a (sym (same-body h.insn) ∙ e)));
    variable = λ k e. let w = s.variable k (sym (same-variable h.insn) ∙ e) in omega (arith, w, h.depth);
    shape = λ n e. let w = s.shape n (sym (same-shape h.insn) ∙ e) in omega (arith, w, direct.shapes);
    thunk = λ n e. subst (λ d. IsThunkNode made d n) (sym h.depth) (thunk-node (s.thunk n (no-other-node h.insn n e)));
    straight = λ ss e. straight-kept old.depth new.depth h.depth ss (s.straight ss (sym (same-straight h.insn) ∙ e));
  }

  -- each item is that of an item of the code
  item-before : (a : ℕ) (new : PeItem) → slice_get made.items a ≡ Some new → (old : PeItem) × (slice_get code.items a ≡ Some old) × IsItemHanded p old new
  item-before a new at =
      let within = get-within made.items a new at in
      let old = get-some code.items a (omega (arith, within, direct.count)) in
      let x = direct.items a old.0 old.1 in
      (old.0, old.1, subst (λ n. IsItemHanded p old.0 n) (some_same (sym x.1 ∙ at)) x.2)

  pub valid-kept : IsValid code → IsValid made
  valid-kept v = record {
    some = omega (arith, v.some, direct.count);
    few = omega (arith, v.few, direct.count);
    program = leads v.program;
    items = All-from_gets (λ i. IsSoundItem made i) made.items (λ a new at.
        let x = item-before a new at in
        sound x.0 new x.2 (at-place (λ i. IsSoundItem code i) code.items a x.0 v.items x.1));
    parts = omega (arith, parts-kept p code.items made.items direct.count direct.items, v.parts, direct.count);
    straight = (let kept = run-kept p code.items made.items direct.count direct.items in let few = v.straight in let parts = kept.0 in let places = kept.1 in omega arith);
    entries = subst (λ es. All (λ e. IsSoundEntry made e) es) (sym direct.entries)
        (All-weaker (λ e. IsSoundEntry code e) (λ e. IsSoundEntry made e) (λ e s. record { address = omega (arith, s.address, direct.count); shape = omega (arith, s.shape, direct.shapes) }) code.entries v.entries);
    once = subst AreOnce (sym direct.entries) v.once;
    asked =
        subst (λ (a : Option ℕ). All (λ o. ForSome o (λ s. s < made.shapes)) (a ∷ asked_sequences made.sequences)) (sym direct.assignment)
        (subst (λ (q : SequenceShapes). All (λ o. ForSome o (λ s. s < made.shapes)) (code.assignment ∷ asked_sequences q)) (sym direct.sequences)
        (subst (λ n. All (λ o. ForSome o (λ s. s < n)) (asked_shapes code)) (sym direct.shapes) v.asked));
    words =
        let same : made.shapes * (4 + length made.thunks) ≡ code.shapes * (4 + length code.thunks) =
        ap (λ n. n * (4 + length made.thunks)) direct.shapes ∙ ap (λ (ts : List ℕ). code.shapes * (4 + length ts)) direct.thunks in
        omega (arith, same, v.words);
  }

  pub sizes-kept : HasSizesOf p code → HasSizesOf p made
  sizes-kept s = record {
    frames = All-from_gets (λ (item : PeItem). ForSome (body_of item.insn) (λ body. item.depth ≤ depth p)) made.items (λ a new at.
        let x = item-before a new at in
        λ body e.
        let w = at-place (λ (item : PeItem). ForSome (body_of item.insn) (λ body. item.depth ≤ depth p)) code.items a x.0 s.frames x.1 body (sym (same-body x.2.insn) ∙ e) in
        omega (arith, w, x.2.depth));
    thunk_nodes = ap length direct.thunks ∙ s.thunk_nodes;
  }

  pub layout-kept : IsLaidOut p code → IsLaidOut p made
  layout-kept h = moved-layout code made direct.entries p direct.count h
