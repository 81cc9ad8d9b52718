-- Code that is made so is valid.
use Rattle.std.proofs.Common.{ℕ, suc, ◌+◌, ◌*◌, ◌<◌, ◌≤◌, ◌≡◌, true, false, ◌⊎◌, inl, inr, List, [], ◌∷◌, length, get_or, Option, Some, None, refl, ap, sym, ◌∙◌, subst, arith}
use Rattle.std.specs.List.{All}
use Rattle.std.specs.Option.{ForSome}
use Rattle.std.specs.Prelude.{slice_get}
use Rattle.std.proofs.lemmas.List.Elements.{All-nil, All-cons}
use Rattle.std.proofs.lemmas.Option.{slice_get-get_or}
use Rattle.fy_phrase.specs.declared.shapes.ShapeTable.{ShapeTable}
use Rattle.fy_phrase.specs.Sizes.{nodes}
use Rattle.fy_phrase.specs.Tree.{Tree, Trees, no_trees, and_tree, var, merge}
use Rattle.fy_phrase.specs.WellMade.{IsClosedUnder}
use Rattle.fy_derive.specs.Kinds.{Kind, kind_of}
use Rattle.fy_derive.specs.Shapes.{PlainShape, at_end, a_call, a_field, a_value, a_run, an_assignment, shape_begins, table_words}
use Rattle.pe_code.specs.declared.code.Entry.{Entry}
use Rattle.pe_code.specs.declared.code.PeCode.{PeCode}
use Rattle.pe_code.specs.declared.code.SequenceShapes.{SequenceShapes}
use Rattle.pe_code.specs.declared.code.PeInsn.{PeInsn}
use Rattle.pe_code.specs.declared.code.PeInsn.TheVariants as insn
use Rattle.pe_code.specs.declared.code.PeItem.{PeItem}
use Rattle.pe_code.specs.Code.{entry_of, beside, body_of, variable_of, shape_of, node_of, straight_of}
use Rattle.pe_code.specs.Valid.{LeadsTo, IsThunkNode, IsSoundItem, IsSoundEntry, parts_run_by, all_parts_run, asked_sequences, IsValid}
use Rattle.pe_right.proofs.EntryLemmas.{form-plain}
use Rattle.pe_gen.specs.Preorder.{own_thunks}
use Rattle.pe_right.specs.Constants.{no_data}
use Rattle.pe_right.specs.Right.{with_depth, is_variable, IsNodeUnder, itself, IsNodeAmongUnder, in_first, in_later, Enters, EachEnters, IsNumberOf, AreSequencesOf, no_parts, and_part, IsInsnOf, of_var, of_lit, of_unary, of_binary, of_cond, of_case, of_lam, of_app, of_app_variable, of_app_datum, of_field, of_sel, of_let, of_let_variable, of_let_datum, of_rec, of_skip, of_seq, of_assign, of_while, of_forever, of_new, of_cells, of_escape, of_accept, of_put, of_read}
use Rattle.pe_gen.specs.Sites.{Stands}
use Rattle.pe_gen.proofs.CodeLemmas.{IsMade, right-at, code-of, site-of}
use Rattle.pe_gen.proofs.EntryLists.{address-of}
use Rattle.pe_gen.proofs.Gets.{some_same, get-within}
use Rattle.pe_gen.proofs.Injections.{few-among}
use Rattle.pe_gen.proofs.NodeLists.{part-within, first-part, second-part, third-part}
use Rattle.pe_gen.proofs.PartLemmas.{parts-few}
use Rattle.pe_gen.proofs.ScopeLemmas.{IsScoped, node-scoped}
use Rattle.pe_gen.proofs.StepLemmas.{shape-within}
use Rattle.pe_gen.proofs.ThunkLemmas.{length-thunk_nodes, own-stands}

pub All-from_gets : {X : Type 0} (P : X → Type 0) (xs : List X) → ((i : ℕ) (x : X) → slice_get xs i ≡ Some x → P x) → All P xs
All-from_gets P xs h i d lt = h i (get_or xs i d) (slice_get-get_or xs i d lt)

for-none : {X : Type 0} (P : X → Type 0) → ForSome None P
for-none P x e = absurd cc

for-some : {X : Type 0} (P : X → Type 0) (v : X) → P v → ForSome (Some v) P
for-some P v h x e = subst P (some_same e) h

-- a phrase that is a variable is one in scope
scope-variable : (d : ℕ) (q : Tree) (j : ℕ) → IsClosedUnder d q → is_variable q ≡ Some j → j < d
scope-variable d (var k at) j h e = let same : k ≡ j = some_same e in omega arith
scope-variable d q j h e = absurd cc

module _ (p : Tree) (table : ShapeTable) (code : PeCode) (made : IsMade p table code) where
  -- an entry of a node leads to an item of the node's depth
  pub leads-to : (q : Tree) (d k a : ℕ) (s : PlainShape) → IsNodeUnder 0 0 p d k q → Enters table code k s a → LeadsTo code d a
  leads-to (merge q r at) d k a s node enters =
      by (right-at p table code made (merge q r at) d k a s node enters) (leads-to r d (k + 1 + nodes q) a s (second-part [] node refl)) (leads-to q d (k + 1) a s (first-part ((d, r) ∷ []) node refl))
    where
      by : (kind : Kind) × (kind_of r ≡ Some kind)
          × ((shape_begins kind s ≡ true) × Enters table code (k + 1 + nodes q) s a ⊎ (shape_begins kind s ≡ false) × Enters table code (k + 1) s a) →
          (Enters table code (k + 1 + nodes q) s a → LeadsTo code d a) → (Enters table code (k + 1) s a → LeadsTo code d a) → LeadsTo code d a
      by x right left = elim x.2 [ inl y ↦ right y.1 | inr y ↦ left y.1 ]
  leads-to q d k a s node enters =
      let x = right-at p table code made q d k a s node enters in
      record { item = x.0; stands = x.1; depth_is = x.2.depth }

  each-leads : (d k : ℕ) (ps : Trees) (s : PlainShape) (ys : List ℕ) → EachEnters table code k ps s ys →
      ((e u : ℕ) (a : Tree) → IsNodeAmongUnder k (with_depth d ps) e u a → IsNodeUnder 0 0 p e u a) → All (λ a. LeadsTo code d a) ys
  each-leads d k no_trees s [] no_parts here = All-nil (λ a. LeadsTo code d a)
  each-leads d k no_trees s (y ∷ ys) each here = elim each [ ]
  each-leads d k (and_tree q ps) s [] each here = elim each [ ]
  each-leads d k (and_tree q ps) s (y ∷ ys) (and_part enters rest) here =
      All-cons (λ a. LeadsTo code d a) y ys (leads-to q d k y s (here d k q (in_first itself)) enters)
      (each-leads d (k + nodes q) ps s ys rest (λ e u a among. here e u a (in_later among)))

  -- a node that a form makes thunks of
  thunk-node : (d k e n : ℕ) (q r : Tree) → IsNodeUnder 0 0 p d k q → Stands (own_thunks k q) n → IsNodeUnder 0 0 p e n r → IsThunkNode code e n
  thunk-node d k e n q r node own part =
      let at = own-stands node n own in
      record {
        place = at.0;
        listed = ap (λ ns. slice_get ns at.0) made.thunks ∙ at.1;
        led = All-from_gets (λ (x : Entry). x.node ≡ n → LeadsTo code e x.address) code.entries (λ i x h is.
            let its = made.entries.known i x h in
            let enters = address-of code.entries made.entries.once i x h in
            leads-to r e n x.address its.shape part (x.shape, its.is, ap (λ m. entry_of code m x.shape) (sym is) ∙ enters));
      }

  -- what an instruction names is there
  record IsSoundInsn (d : ℕ) (o : PeInsn) : Type 0 where
    pub beside_it : All (λ a. LeadsTo code d a) (beside o)
    pub body : ForSome (body_of o) (λ a. LeadsTo code (d + 1) a)
    pub variable : ForSome (variable_of o) (λ k. k < d)
    pub shape : ForSome (shape_of o) (λ s. s < code.shapes)
    pub thunk : ForSome (node_of o) (λ n. IsThunkNode code d n)

  none : (d : ℕ) → All (λ a. LeadsTo code d a) []
  none d = All-nil (λ a. LeadsTo code d a)

  one : (d x : ℕ) → LeadsTo code d x → All (λ a. LeadsTo code d a) (x ∷ [])
  one d x h = All-cons (λ a. LeadsTo code d a) x [] h (none d)

  two : (d x y : ℕ) → LeadsTo code d x → LeadsTo code d y → All (λ a. LeadsTo code d a) (x ∷ y ∷ [])
  two d x y h g = All-cons (λ a. LeadsTo code d a) x (y ∷ []) h (one d y g)

  no_body : (d : ℕ) → ForSome None (λ a. LeadsTo code (d + 1) a)
  no_body d = for-none (λ a. LeadsTo code (d + 1) a)

  no_variable : (d : ℕ) → ForSome None (λ k. k < d)
  no_variable d = for-none (λ k. k < d)

  no_shape : ForSome None (λ s. s < code.shapes)
  no_shape = for-none (λ s. s < code.shapes)

  no_thunk : (d : ℕ) → ForSome None (λ n. IsThunkNode code d n)
  no_thunk d = for-none (λ n. IsThunkNode code d n)

  sound-insn : (d k : ℕ) (q : Tree) (s : PlainShape) (o : PeInsn) → IsNodeUnder 0 0 p d k q → IsScoped d q → IsInsnOf no_data table code k q s o → IsSoundInsn d o
  sound-insn d k q s o node scoped (of_var {n = n} is) =
      record { beside_it = none d; body = no_body d; variable = for-some (λ k. k < d) _ scoped.closed; shape = for-some (λ m. m < code.shapes) n (let h = shape-within table.shapes n s is in omega (arith, made.shapes)); thunk = no_thunk d }
  sound-insn d k q s o node scoped of_lit = record { beside_it = none d; body = no_body d; variable = no_variable d; shape = no_shape; thunk = no_thunk d }
  sound-insn d k q s o node scoped (of_unary {x = x} {p = r} ex) =
      record { beside_it = one d x (leads-to r d (k + 1) x _ (first-part [] node refl) ex); body = no_body d; variable = no_variable d; shape = no_shape; thunk = no_thunk d }
  sound-insn d k q s o node scoped (of_binary {x = x} {y = y} {p = a} {q = b} ex ey) = record {
    beside_it = two d x y (leads-to a d (k + 1) x _ (first-part ((d, b) ∷ []) node refl) ex) (leads-to b d (k + 1 + nodes a) y _ (second-part [] node refl) ey);
    body = no_body d;
    variable = no_variable d;
    shape = no_shape;
    thunk = no_thunk d;
  }
  sound-insn d k q s o node scoped (of_cond {x = x} {y = y} {z = z} {b = c} {p = a} {q = b} ex ey ez) = record {
    beside_it = All-cons (λ a. LeadsTo code d a) x (y ∷ z ∷ []) (leads-to c d (k + 1) x _ (first-part ((d, a) ∷ (d, b) ∷ []) node refl) ex)
        (two d y z (leads-to a d (k + 1 + nodes c) y s (second-part ((d, b) ∷ []) node refl) ey) (leads-to b d (k + 1 + nodes c + nodes a) z s (third-part [] node refl) ez));
    body = no_body d;
    variable = no_variable d;
    shape = no_shape;
    thunk = no_thunk d;
  }
  sound-insn d k q s o node scoped (of_case {x = x} {ys = ys} {e = e} {parts = parts} ex each) = record {
    beside_it = All-cons (λ a. LeadsTo code d a) x ys (leads-to e d (k + 1) x _ (first-part (with_depth d parts) node refl) ex)
        (each-leads d (k + 1 + nodes e) parts s ys each (λ f u a among. part-within ((d, e) ∷ with_depth d parts) node refl (in_later among)));
    body = no_body d;
    variable = no_variable d;
    shape = no_shape;
    thunk = no_thunk d;
  }
  sound-insn d k q s o node scoped (of_lam {y = y} {b = b} {s = t} ey) =
      record { beside_it = none d; body = for-some (λ a. LeadsTo code (d + 1) a) y (leads-to b (d + 1) (k + 1) y t (first-part [] node refl) ey); variable = no_variable d; shape = no_shape; thunk = no_thunk d }
  sound-insn d k q s o node scoped (of_app {y = y} {p = a} {q = b} plain unknown ey) = record {
    beside_it = one d y (leads-to a d (k + 1) y _ (first-part ((d, b) ∷ []) node refl) ey);
    body = no_body d;
    variable = no_variable d;
    shape = no_shape;
    thunk = for-some (λ n. IsThunkNode code d n) (k + 1 + nodes a) (thunk-node d k d (k + 1 + nodes a) q b node (0, refl) (second-part [] node refl));
  }
  sound-insn d k q s o node scoped (of_app_variable {j = j} {y = y} {p = a} {q = b} named ey) = record {
    beside_it = one d y (leads-to a d (k + 1) y _ (first-part ((d, b) ∷ []) node refl) ey);
    body = no_body d;
    variable = for-some (λ k. k < d) j (scope-variable d b j scoped.closed.1 named);
    shape = no_shape;
    thunk = no_thunk d;
  }
  sound-insn d k q s o node scoped (of_app_datum {y = y} {p = a} {q = b} known ey) =
      record { beside_it = one d y (leads-to a d (k + 1) y _ (first-part ((d, b) ∷ []) node refl) ey); body = no_body d; variable = no_variable d; shape = no_shape; thunk = no_thunk d }
  sound-insn d k q s o node scoped (of_field {x = x} {p = a} {s = t} ex) =
      record { beside_it = one d x (leads-to a d (k + 1) x t (first-part [] node refl) ex); body = no_body d; variable = no_variable d; shape = no_shape; thunk = no_thunk d }
  sound-insn d k q s o node scoped (of_sel {x = x} {p = a} ex) =
      record { beside_it = one d x (leads-to a d (k + 1) x _ (first-part [] node refl) ex); body = no_body d; variable = no_variable d; shape = no_shape; thunk = no_thunk d }
  sound-insn d k q s o node scoped (of_let {y = y} {p = a} {b = b} plain unknown ey) = record {
    beside_it = none d;
    body = for-some (λ a. LeadsTo code (d + 1) a) y (leads-to b (d + 1) (k + 1 + nodes a) y s (second-part [] node refl) ey);
    variable = no_variable d;
    shape = no_shape;
    thunk = for-some (λ n. IsThunkNode code d n) (k + 1) (thunk-node d k d (k + 1) q a node (0, refl) (first-part ((d + 1, b) ∷ []) node refl));
  }
  sound-insn d k q s o node scoped (of_let_variable {j = j} {y = y} {p = a} {b = b} named ey) = record {
    beside_it = none d;
    body = for-some (λ a. LeadsTo code (d + 1) a) y (leads-to b (d + 1) (k + 1 + nodes a) y s (second-part [] node refl) ey);
    variable = for-some (λ k. k < d) j (scope-variable d a j scoped.closed.0 named);
    shape = no_shape;
    thunk = no_thunk d;
  }
  sound-insn d k q s o node scoped (of_let_datum {y = y} {p = a} {b = b} known ey) = record {
    beside_it = none d;
    body = for-some (λ a. LeadsTo code (d + 1) a) y (leads-to b (d + 1) (k + 1 + nodes a) y s (second-part [] node refl) ey);
    variable = no_variable d;
    shape = no_shape;
    thunk = no_thunk d;
  }
  sound-insn d k q s o node scoped (of_rec {y = y} {b = b} ey) = record {
    beside_it = none d;
    body = for-some (λ a. LeadsTo code (d + 1) a) y (leads-to b (d + 1) (k + 1) y s (first-part [] node refl) ey);
    variable = no_variable d;
    shape = no_shape;
    thunk = for-some (λ n. IsThunkNode code d n) k (thunk-node d k d k q q node (0, refl) node);
  }
  sound-insn d k q s o node scoped of_skip = record { beside_it = none d; body = no_body d; variable = no_variable d; shape = no_shape; thunk = no_thunk d }
  sound-insn d k q s o node scoped (of_seq {x = x} {y = y} {p = a} {q = b} ex ey) = record {
    beside_it = two d x y (leads-to a d (k + 1) x _ (first-part ((d, b) ∷ []) node refl) ex) (leads-to b d (k + 1 + nodes a) y _ (second-part [] node refl) ey);
    body = no_body d;
    variable = no_variable d;
    shape = no_shape;
    thunk = no_thunk d;
  }
  sound-insn d k q s o node scoped (of_assign {x = x} {y = y} {p = a} {q = b} ex ey) = record {
    beside_it = two d x y (leads-to a d (k + 1) x _ (first-part ((d, b) ∷ []) node refl) ex) (leads-to b d (k + 1 + nodes a) y _ (second-part [] node refl) ey);
    body = no_body d;
    variable = no_variable d;
    shape = no_shape;
    thunk = no_thunk d;
  }
  sound-insn d k q s o node scoped (of_while {x = x} {y = y} {b = a} {c = b} ex ey) = record {
    beside_it = two d x y (leads-to a d (k + 1) x _ (first-part ((d, b) ∷ []) node refl) ex) (leads-to b d (k + 1 + nodes a) y _ (second-part [] node refl) ey);
    body = no_body d;
    variable = no_variable d;
    shape = no_shape;
    thunk = no_thunk d;
  }
  sound-insn d k q s o node scoped (of_forever {x = x} {c = a} ex) =
      record { beside_it = one d x (leads-to a d (k + 1) x _ (first-part [] node refl) ex); body = no_body d; variable = no_variable d; shape = no_shape; thunk = no_thunk d }
  sound-insn d k q s o node scoped (of_new {x = x} {y = y} {e = e} {b = b} ex ey) = record {
    beside_it = one d x (leads-to e d (k + 1) x _ (first-part ((d + 1, b) ∷ []) node refl) ex);
    body = for-some (λ a. LeadsTo code (d + 1) a) y (leads-to b (d + 1) (k + 1 + nodes e) y _ (second-part [] node refl) ey);
    variable = no_variable d;
    shape = no_shape;
    thunk = no_thunk d;
  }
  sound-insn d k q s o node scoped (of_cells {x = x} {y = y} {e = e} {b = b} ex ey) = record {
    beside_it = one d x (leads-to e d (k + 1) x _ (first-part ((d + 1, b) ∷ []) node refl) ex);
    body = for-some (λ a. LeadsTo code (d + 1) a) y (leads-to b (d + 1) (k + 1 + nodes e) y _ (second-part [] node refl) ey);
    variable = no_variable d;
    shape = no_shape;
    thunk = no_thunk d;
  }
  sound-insn d k q s o node scoped (of_escape {x = x} {b = b} ex) =
      record { beside_it = none d; body = for-some (λ a. LeadsTo code (d + 1) a) x (leads-to b (d + 1) (k + 1) x _ (first-part [] node refl) ex); variable = no_variable d; shape = no_shape; thunk = no_thunk d }
  sound-insn d k q s o node scoped (of_accept {x = x} {b = b} ex) =
      record { beside_it = none d; body = for-some (λ a. LeadsTo code (d + 1) a) x (leads-to b (d + 1) (k + 1) x _ (first-part [] node refl) ex); variable = no_variable d; shape = no_shape; thunk = no_thunk d }
  sound-insn d k q s o node scoped (of_put {x = x} {p = a} ex) =
      record { beside_it = one d x (leads-to a d (k + 1) x _ (first-part [] node refl) ex); body = no_body d; variable = no_variable d; shape = no_shape; thunk = no_thunk d }
  sound-insn d k q s o node scoped (of_read {x = x} {p = a} ex) =
      record { beside_it = one d x (leads-to a d (k + 1) x _ (first-part [] node refl) ex); body = no_body d; variable = no_variable d; shape = no_shape; thunk = no_thunk d }

  sound-item : (i : ℕ) (item : PeItem) → slice_get code.items i ≡ Some item → IsSoundItem code item
  sound-item i item at =
      let x = site-of p table code made i item at in
      let scoped = node-scoped x.node made.scoped in
      let same : x.depth ≡ item.depth = sym x.its.depth in
      let sound = subst (λ d. IsSoundInsn d item.insn) same (sound-insn x.depth x.site.node x.form x.shape item.insn x.node scoped x.its.insn) in
      record {
        depth = omega (arith, scoped.few);
        beside_it = sound.beside_it;
        body = sound.body;
        variable = sound.variable;
        shape = sound.shape;
        thunk = sound.thunk;
        straight = λ ss e. let f : None ≡ Some ss = sym (form-plain x.its.insn) ∙ e in absurd cc;
      }

  -- no straight code is run
  plain-item : (i : ℕ) (item : PeItem) → slice_get code.items i ≡ Some item → straight_of item.insn ≡ None
  plain-item i item at = let x = site-of p table code made i item at in form-plain x.its.insn

  sound-entry : (i : ℕ) (e : Entry) → slice_get code.entries i ≡ Some e → IsSoundEntry code e
  sound-entry i e at =
      let its = made.entries.known i e at in record {
        address = omega (arith, made.all, get-within made.places e.address _ its.leads);
        shape = omega (arith, made.shapes, shape-within table.shapes e.shape its.shape its.is);
      }

  -- the number of a shape is among the code's
  number-within : (o : Option ℕ) (s : PlainShape) → IsNumberOf table o s → ForSome o (λ n. n < code.shapes)
  number-within None s h = for-none (λ n. n < code.shapes)
  number-within (Some n) s h = for-some (λ n. n < code.shapes) n (let w = shape-within table.shapes n s ((h n).0 refl) in omega (arith, made.shapes))

  sequences-within : (q : SequenceShapes) → AreSequencesOf table q → All (λ o. ForSome o (λ n. n < code.shapes)) (asked_sequences q)
  sequences-within q h =
      let P : Option ℕ → Type 0 = λ o. ForSome o (λ n. n < code.shapes) in
      All-cons P q.value (q.element ∷ q.assigned_element ∷ q.row_length ∷ []) (number-within q.value (at_end a_value) h.value)
      (All-cons P q.element (q.assigned_element ∷ q.row_length ∷ []) (number-within q.element (a_call (at_end a_value)) h.element)
      (All-cons P q.assigned_element (q.row_length ∷ []) (number-within q.assigned_element (a_call (at_end an_assignment)) h.assigned_element)
      (All-cons P q.row_length [] (number-within q.row_length (a_field 0 (at_end a_value)) h.row_length) (All-nil P))))

  run-by-none : (i : PeInsn) → straight_of i ≡ None → parts_run_by i ≡ 0
  run-by-none (insn.Eval ss) e = absurd cc
  run-by-none (insn.Set k ss) e = absurd cc
  run-by-none (insn.EvalFor ss u) e = absurd cc
  run-by-none i e = refl

  none-run : (is : List PeItem) → ((i : ℕ) (item : PeItem) → slice_get is i ≡ Some item → straight_of item.insn ≡ None) → all_parts_run is ≡ 0
  none-run [] each = refl
  none-run (i ∷ is) each = let first = run-by-none i.insn (each 0 i refl) in let rest = none-run is (λ a item at. each (suc a) item at) in omega arith

  pub valid-of : length table.pairs ≤ 65536 → table_words p (length table.shapes) ≤ 1048576 → IsValid code
  valid-of few words =
      let short = few-among table.pairs made.places made.sites.apart (λ i x at. made.there x (made.sites.known i x at).0) in
      let first = get-within made.places 0 made.program made.sites.first in
      record {
        some = omega (arith, made.all);
        few = omega (arith, made.all);
        program =
            let c = code-of p table code made in
            leads-to p 0 0 0 (at_end a_run) itself c.program;
        items = All-from_gets (λ i. IsSoundItem code i) code.items sound-item;
        parts = parts-few p table code made;
        straight = (let none = none-run code.items plain-item in omega arith);
        entries = All-from_gets (λ e. IsSoundEntry code e) code.entries sound-entry;
        once = made.entries.once;
        asked =
            let P : Option ℕ → Type 0 = λ o. ForSome o (λ s. s < code.shapes) in
            All-cons P code.assignment (asked_sequences code.sequences) (number-within code.assignment (at_end an_assignment) made.assignment)
            (sequences-within code.sequences made.sequences);
        words =
            let count = ap length made.thunks ∙ length-thunk_nodes 0 p in
            let same : code.shapes * (4 + length code.thunks) ≡ table_words p (length table.shapes) =
            ap (λ n. n * (4 + length code.thunks)) made.shapes ∙ ap (λ n. length table.shapes * (4 + n)) count in
            omega (arith, same);
      }
