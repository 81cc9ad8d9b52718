-- What a plan places is an assembly.
use Rattle.std.proofs.Common.{◌≡◌, ℕ, suc, ◌+◌, ◌*◌, ◌%◌, ◌^◌, ◌<◌, ◌≤◌, ℤ, List, [], ◌∷◌, length, Bool, true, false, Some, inl, inr, refl, sym, ap, ◌∙◌, subst, arith, lit≤, if◌then◌else◌}
use Rattle.std.specs.List.{slice_get, slice_index, All, AllZip}
use Rattle.std.specs.Int.{cast_unsigned, w64}
use Rattle.std.proofs.lemmas.List.{length-map, get_or-map}
use Rattle.std.proofs.lemmas.List.Elements.{All-get_or, All-from_recursion}
use Rattle.std.proofs.lemmas.Option.{slice_get_within, get_or_from_slice_get}
use Rattle.rv_insn.specs.declared.instructions.BranchOp.{BranchOp}
use Rattle.rv_insn.specs.declared.instructions.ImmOp.TheVariants.{Addi}
use Rattle.rv_insn.specs.declared.instructions.Insn.{Insn}
use Rattle.rv_insn.specs.declared.instructions.Insn.TheVariants.{Imm}
use Rattle.rv_insn.specs.Encoding.{IsWordOf}
use Rattle.rv_insn.specs.Program.{Program}
use Rattle.rv_insn.specs.Step.{Core, reg}
use Rattle.rv_asm.specs.declared.items.Item.{Item}
use Rattle.rv_asm.specs.declared.items.Item.TheVariants.{Mark, Plain, BranchTo, JumpTo, FarTo, CallTo, AddressOf, Constant}
use Rattle.rv_asm.specs.declared.items.LabelAt.{LabelAt}
use Rattle.rv_asm.specs.declared.items.Assembled.{Assembled}
use Rattle.rv_asm.specs.declared.planning.Choice.{Choice}
use Rattle.rv_asm.specs.declared.planning.Plan.{Plan}
use Rattle.rv_asm.specs.Items.{AreItems, AreDistinct, AreKnown, IsFit, marks_of, named_by}
use Rattle.rv_asm.specs.Meaning.{Does}
use Rattle.rv_asm.specs.Forms.{IsFormOf, IsFar, IsNearJump, Builds, IsConstant, has_bits}
use Rattle.rv_asm.specs.Forms.Builds.{upper, first, more, more_word, moved}
use Rattle.rv_asm.specs.Assembly.{joined, word_of, address_of, label_address, target_in, IsAssembly}
use Rattle.rv_asm.specs.Choosing.{offset_between, distance, upper_part, lower_part, form_of, near_jump, near_branch, far_jump, far_branch, word_form, double_form, constant_form}
use Rattle.rv_asm.specs.Planning.{forms_of, places_of, targets_of, labelled, IsSmall, IsPlan}
use Rattle.rv_asm.proofs.Numbers.{near_leads, far_leads}
use Rattle.rv_asm.proofs.Steps.{Stands, step_is}
use Rattle.rv_asm.proofs.Jumps.{near_jump_does, far_jump_does, near_goes, far_goes, near_branch_does, far_branch_does, address_does}
use Rattle.rv_asm.proofs.Constants.{constant_does}
use Rattle.rv_asm.proofs.Fetching.{words_are, form_stands}
use Rattle.rv_asm.proofs.Choices.{length-form_of, length-forms_of, Given, given, length-places_of, places_low, labelled_places}
use Rattle.rv_asm.proofs.Labels.{even_address, address_is}

-- ---- chosen forms are forms

is_far : (rd here to : ℕ) → here ≤ 2 ^ 26 → to ≤ 2 ^ 26 → IsFar rd (address_of here) (address_of to) (far_jump rd here to)
is_far rd here to h k = record { high = upper_part (distance here to); low = lower_part (distance here to); is = refl; leads = far_leads here to h k }

is_near : (rd here to : ℕ) → here ≤ 2 ^ 26 → to ≤ 2 ^ 26 → IsNearJump rd (address_of here) (address_of to) (near_jump rd here to ∷ [])
is_near rd here to h k = record { offset = offset_between here to; is = refl; leads = near_leads here to h k }

-- the form of a constant, by how many bits it has
abbrev constant_by : ℕ → ℤ → Bool → Bool → List Insn
constant_by rd value few word = if few then Imm Addi rd 0 value ∷ [] else (if word then word_form rd (cast_unsigned w64 value % 2 ^ 32) else double_form rd (cast_unsigned w64 value))

builds : (rd : ℕ) (value : ℤ) (few word : Bool) → All (Builds rd) (constant_by rd value few word)
builds rd value true word = All-from_recursion (Builds rd) (constant_by rd value true word) (first value, tt)
builds rd value false true = All-from_recursion (Builds rd) (constant_by rd value false true) (upper _, (more_word _, tt))
builds rd value false false =
    All-from_recursion (Builds rd) (constant_by rd value false false) (upper _, (more_word _, (moved _, (more _, (moved _, (more _, (moved _, (more _, tt))))))))

not_none : (rd : ℕ) (value : ℤ) (few word : Bool) → 1 ≤ length (constant_by rd value few word)
not_none rd value true word = lit≤ tt
not_none rd value false true = lit≤ tt
not_none rd value false false = lit≤ tt

is_constant : (rd : ℕ) (value : ℤ) → IsConstant rd value (constant_form rd value)
is_constant rd value = record {
  each = builds rd value (has_bits 12 value) (has_bits 32 value);
  least = not_none rd value (has_bits 12 value) (has_bits 32 value);
  most = omega (arith, length-form_of false 0 0 (Constant rd value));
}

is_branch : (near : Bool) (op : BranchOp) (rs1 rs2 here to : ℕ) → here ≤ 2 ^ 25 → to ≤ 2 ^ 25
    → IsFormOf (BranchTo op rs1 rs2 0) (address_of here) (address_of to) (if near then near_branch op rs1 rs2 here to ∷ [] else far_branch op rs1 rs2 here to)
is_branch true op rs1 rs2 here to h k = inl (record { offset = offset_between here to; is = refl; leads = near_leads here to (omega arith) (omega arith) })
is_branch false op rs1 rs2 here to h k =
    let F : ℕ → Type 0 = λ a. IsFar 0 a (address_of to) (far_jump 0 (here + 1) to) in
    let behind : address_of (here + 1) ≡ address_of here + 4 = omega arith in
    inr (record { jump = far_jump 0 (here + 1) to; is = refl; far = subst F behind (is_far 0 (here + 1) to (omega arith) (omega arith)) })

is_jump : (near : Bool) (rd here to : ℕ) → here ≤ 2 ^ 25 → to ≤ 2 ^ 25 → IsFormOf (CallTo rd 0) (address_of here) (address_of to) (if near then near_jump rd here to ∷ [] else far_jump rd here to)
is_jump true rd here to h k = inl (is_near rd here to (omega arith) (omega arith))
is_jump false rd here to h k = inr (is_far rd here to (omega arith) (omega arith))

form_is : (near : Bool) (here to : ℕ) (item : Item) → here ≤ 2 ^ 25 → to ≤ 2 ^ 25 → IsFormOf item (address_of here) (address_of to) (form_of near here to item)
form_is near here to (Mark label) h k = refl
form_is near here to (Plain insn) h k = refl
form_is near here to (BranchTo op rs1 rs2 label) h k = is_branch near op rs1 rs2 here to h k
form_is near here to (JumpTo label) h k = is_jump near 0 here to h k
form_is near here to (FarTo label) h k = is_far 0 here to (omega arith) (omega arith)
form_is near here to (CallTo rd label) h k = is_jump near rd here to h k
form_is near here to (AddressOf rd label) h k = record { high = upper_part (distance here to); low = lower_part (distance here to); is = refl; leads = far_leads here to (omega arith) (omega arith) }
form_is near here to (Constant rd value) h k = is_constant rd value

-- where the label of an item has the address that was taken
retarget : (labels : List LabelAt) (item : Item) (a to : ℕ) (form : List Insn) → ((label : ℕ) → named_by item ≡ Some label → label_address labels label ≡ to) → IsFormOf item a to form → IsFormOf item a (target_in labels (named_by item)) form
retarget labels (Mark label) a to form h f = f
retarget labels (Plain insn) a to form h f = f
retarget labels (BranchTo op rs1 rs2 label) a to form h f = let F : ℕ → Type 0 = λ t. IsFormOf (BranchTo op rs1 rs2 label) a t form in subst F (sym (h label refl)) f
retarget labels (JumpTo label) a to form h f = let F : ℕ → Type 0 = λ t. IsFormOf (JumpTo label) a t form in subst F (sym (h label refl)) f
retarget labels (FarTo label) a to form h f = let F : ℕ → Type 0 = λ t. IsFormOf (FarTo label) a t form in subst F (sym (h label refl)) f
retarget labels (CallTo rd label) a to form h f = let F : ℕ → Type 0 = λ t. IsFormOf (CallTo rd label) a t form in subst F (sym (h label refl)) f
retarget labels (AddressOf rd label) a to form h f = let F : ℕ → Type 0 = λ t. IsFormOf (AddressOf rd label) a t form in subst F (sym (h label refl)) f
retarget labels (Constant rd value) a to form h f = f

-- ---- forms do what their items say

pub form_does : (p : Program) (labels : List LabelAt) (near : Bool) (here to next : ℕ) (c : Core) (item : Item) → IsFit item → IsSmall item → here ≤ 2 ^ 25
    → IsFormOf item (address_of here) (target_in labels (named_by item)) (form_of near here to item) → Stands p (address_of here) (form_of near here to item)
    → c.pc ≡ address_of here → address_of here + 4 * length (form_of near here to item) ≡ next → length c.regs ≡ 32 → reg c 0 ≡ 0 → Does p (label_address labels) next c item
form_does p labels near here to next c (Mark label) fit small low f s at e count z = at ∙ (let same : address_of here ≡ next = omega arith in same)
form_does p labels near here to next c (Plain insn) fit small low f s at e count z = step_is p c (address_of here) insn s.0 at
form_does p labels near here to next c (BranchTo op rs1 rs2 label) fit small low f s at e count z = elim f [
  | inl n ↦ near_branch_does p op rs1 rs2 (address_of here) (label_address labels label) next _ c n s at e
  | inr r ↦ far_branch_does p op rs1 rs2 (address_of here) (label_address labels label) next _ c count (omega arith) r s at (even_address labels label) e
]
form_does p labels near here to next c (JumpTo label) fit small low f s at e count z = elim f [
  | inl n ↦ near_goes p (address_of here) (label_address labels label) _ c n s at
  | inr r ↦ far_goes p (address_of here) (label_address labels label) _ c count r s at (even_address labels label)
]
form_does p labels near here to next c (FarTo label) fit small low f s at e count z = far_goes p (address_of here) (label_address labels label) _ c count f s at (even_address labels label)
form_does p labels near here to next c (CallTo rd label) fit small low f s at e count z = elim f [
  | inl n ↦ near_jump_does p rd (address_of here) (label_address labels label) next _ c n s at e
  | inr r ↦ far_jump_does p rd (address_of here) (label_address labels label) next _ c fit count r s at (even_address labels label) e
]
form_does p labels near here to next c (AddressOf rd label) fit small low f s at e count z = address_does p rd (address_of here) (label_address labels label) next _ c fit count f s at e
form_does p labels near here to next c (Constant rd value) fit small low f s at e count z = constant_does p rd (address_of here) next value c fit count z small s at e

-- ---- the whole

-- an item as it was placed
record Placed (items : List Item) (labels : List LabelAt) (forms : List (List Insn)) (k : ℕ) (item : Item) : Type 0 where
  near : Bool
  here : ℕ
  to : ℕ
  here_is : here ≡ word_of forms k
  low : here ≤ 2 ^ 25
  form_there : slice_get forms k ≡ Some (form_of near here to item)
  next_is : word_of forms (suc k) ≡ word_of forms k + length (form_of near here to item)
  is_form : IsFormOf item (address_of here) (target_in labels (named_by item)) (form_of near here to item)

-- what holds of each holds of one
one_of_all : (P : Item → Type 0) (items : List Item) (k : ℕ) (item : Item) → All P items → slice_get items k ≡ Some item → P item
one_of_all P items k item all there = subst P (get_or_from_slice_get items k item item there) (All-get_or P items k item (slice_get_within items k item there) all)

placed : (items : List Item) (plan : Plan) (labels : List LabelAt) → AreItems items → IsPlan items plan → labels ≡ labelled (marks_of items) plan.places.items → (k : ℕ) (item : Item) → slice_get items k ≡ Some item
    → Placed items labels (forms_of plan.places.items 0 items plan.choices.items) k item
placed items plan labels are is labels_are k item there =
    let places : List ℕ = plan.places.items in
    let choices : List Choice = plan.choices.items in
    let long : length choices ≡ length items = sym (length-map choices (λ (c : Choice). c.target)) ∙ is.aimed.same_length in
    let below : k < length items = slice_get_within items k item there in
    let g : Given places 0 items choices k item = given places 0 items choices k item long there in
    let target : ℕ = g.choice.target in
    let to : ℕ = slice_index places target in
    let few : length items ≤ 4194304 = are.few in
    let low : g.here ≤ 2 ^ 25 = omega (arith, g.low) in
    let to_low : to ≤ 2 ^ 25 = (let e : to ≡ slice_index (places_of 0 items choices) target = ap (λ (ps : List ℕ). slice_index ps target) is.places_are in omega (arith, e, places_low 0 (2 ^ 25) items choices target (omega arith))) in
    let target_is : slice_index (targets_of choices) k ≡ target =
    get_or-map (λ (c : Choice). c.target) choices k g.choice 0 (omega arith) ∙ ap (λ (c : Choice). c.target) (get_or_from_slice_get choices k g.choice g.choice g.chosen) in
    let as_many : length places ≡ length (marks_of items) = ap (λ (ps : List ℕ). length ps) is.places_are ∙ length-places_of 0 items choices long in
    let named : (label : ℕ) → named_by item ≡ Some label → label_address labels label ≡ address_of to = (λ label n.
    ap (λ (ls : List LabelAt). label_address ls label) labels_are ∙ address_is (marks_of items) places label target as_many (is.aimed.each k item there label n ∙ ap (λ t. Some t) target_is)) in
    let zero_more : 0 + word_of (forms_of places 0 items choices) k ≡ word_of (forms_of places 0 items choices) k = omega arith in
    record {
      near = g.choice.near;
      here = g.here;
      to = to;
      here_is = g.here_is ∙ zero_more;
      low = low;
      form_there = g.form_is;
      next_is = g.next_is;
      is_form = retarget labels item (address_of g.here) (address_of to) (form_of g.choice.near g.here to item) named (form_is g.choice.near g.here to item low to_low);
    }

pub is_assembly : (items : List Item) (plan : Plan) (assembled : Assembled) → AreItems items → AreDistinct items → AreKnown items → IsPlan items plan → All IsSmall items
    → AllZip IsWordOf (joined (forms_of plan.places.items 0 items plan.choices.items)) assembled.words → assembled.labels ≡ labelled (marks_of items) plan.places.items → IsAssembly items assembled
is_assembly items plan assembled are distinct known is small zipped labels_are =
    let places : List ℕ = plan.places.items in
    let choices : List Choice = plan.choices.items in
    let forms : List (List Insn) = forms_of places 0 items choices in
    let long : length choices ≡ length items = sym (length-map choices (λ (c : Choice). c.target)) ∙ is.aimed.same_length in
    record {
      distinct = distinct;
      known = known;
      forms = forms;
      count = length-forms_of places 0 items choices long;
      words_are = words_are (joined forms) assembled.words zipped;
      labels_are = labels_are ∙ ap (λ (ps : List ℕ). labelled (marks_of items) ps) is.places_are ∙ labelled_places places 0 items choices long;
      each = λ k item form there form_there.
          let q : Placed items assembled.labels forms k item = placed items plan assembled.labels are is labels_are k item there in
          let same : form_of q.near q.here q.to item ≡ form = (let e : Some (form_of q.near q.here q.to item) ≡ Some form = sym q.form_there ∙ form_there in cc) in
          let F : ℕ → Type 0 = λ w. IsFormOf item (address_of w) (target_in assembled.labels (named_by item)) (form_of q.near q.here q.to item) in
          let G : List Insn → Type 0 = λ f. IsFormOf item (address_of (word_of forms k)) (target_in assembled.labels (named_by item)) f in
          subst G same (subst F q.here_is q.is_form);
      does = λ k item program core there s.
          let q : Placed items assembled.labels forms k item = placed items plan assembled.labels are is labels_are k item there in
          let form : List Insn = form_of q.near q.here q.to item in
          let S : ℕ → Type 0 = λ w. Stands program (address_of w) form in
          let stands : Stands program (address_of q.here) form = subst S (sym q.here_is) (form_stands program assembled.words forms k form s.words_are s.read (words_are (joined forms) assembled.words zipped) q.form_there) in
          let more : word_of forms (k + 1) ≡ word_of forms (suc k) = (let n : k + 1 ≡ suc k = omega arith in ap (word_of forms) n) in
          let next : address_of q.here + 4 * length form ≡ address_of (word_of forms (k + 1)) = omega (arith, q.here_is, q.next_is, more) in
          form_does program assembled.labels q.near q.here q.to (address_of (word_of forms (k + 1))) core item
          (one_of_all IsFit items k item are.fit there) (one_of_all IsSmall items k item small there) q.low q.is_form stands
          (s.pc_is ∙ ap (λ w. address_of w) (sym q.here_is)) next s.count s.zero_is;
    }

-- ---- what the emission asks for

pub as_long : (items : List Item) (plan : Plan) → IsPlan items plan → length plan.choices.items ≡ length items
as_long items plan is = sym (length-map plan.choices.items (λ (c : Choice). c.target)) ∙ is.aimed.same_length

-- labels lie within 2 ^ 25 words
pub place_low : (items : List Item) (plan : Plan) (j : ℕ) → AreItems items → IsPlan items plan → slice_index plan.places.items j ≤ 2 ^ 25
place_low items plan j are is =
    let few : length items ≤ 4194304 = are.few in
    let e : slice_index plan.places.items j ≡ slice_index (places_of 0 items plan.choices.items) j = ap (λ (ps : List ℕ). slice_index ps j) is.places_are in
    omega (arith, e, places_low 0 (2 ^ 25) items plan.choices.items j (omega arith))

pub as_many_places : (items : List Item) (plan : Plan) → IsPlan items plan → length plan.places.items ≡ length (marks_of items)
as_many_places items plan is = ap (λ (ps : List ℕ). length ps) is.places_are ∙ length-places_of 0 items plan.choices.items (as_long items plan is)
