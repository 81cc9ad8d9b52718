-- A datum meets the context of an operator.
use Rattle.std.proofs.Common.{◌≡◌, ℕ, ◌+◌, ◌<◌, Bool, List, length, ℤ, pos, negsuc, ◌+ℤ◌, ◌-ℤ◌, ◌*ℤ◌, Some, refl, sym, ap, ◌∙◌, subst, inr, arith}
use Rattle.std.proofs.lemmas.Bool.{cond_both}
use Rattle.std.specs.Prelude.{slice_index, nat_lt, int_div, int_rem}
use Rattle.std.specs.Ordering.{int_eq}
use Rattle.fy_base.specs.declared.data.Place.{Place}
use Rattle.fy_base.specs.declared.data.Datum.{Datum as DatumType}
use Rattle.fy_base.specs.declared.data.Datum.TheVariants as datum
use Rattle.fy_base.specs.declared.data.UnOp.{UnOp}
use Rattle.fy_base.specs.declared.data.UnOp.TheVariants.{Neg, Not, Ord, Chr}
use Rattle.fy_base.specs.declared.data.BinOp.{BinOp}
use Rattle.fy_base.specs.declared.data.BinOp.TheVariants.{Add, Sub, Mul, Div, Rem, Eq, Ne, Lt, Le, Gt, Ge, And, Or}
use Rattle.fy_base.specs.declared.data.FaultKind.{FaultKind}
use Rattle.fy_base.specs.declared.data.FaultKind.TheVariants as fault
use Rattle.fy_base.specs.declared.arithmetic.Applied.{Applied}
use Rattle.fy_base.specs.declared.arithmetic.Applied.TheVariants.{Gives, Faults, NoSense}
use Rattle.fy_base.specs.Arithmetic.{is_int, int_or_overflow, unless_zero, char_of, unary_result, int_result, char_result, bool_result, binary_result}
use Rattle.fy_phrase.specs.Contexts.{op_1, op_r}
use Rattle.pe_code.specs.declared.code.PeInsn.{PeInsn}
use Rattle.pe_code.specs.declared.code.PeInsn.TheVariants as insn
use Rattle.pe_code.specs.declared.code.PeCode.{PeCode}
use Rattle.pe_code.specs.Code.{item_at}
use Rattle.pe_machine.specs.States.{value, PeContext}
use Rattle.pe_items.specs.Items.{Item, address_on, ItemState}
use Rattle.pe_items.specs.Step as item
use Rattle.pe_items.specs.Step.{ItemMove, focused, operated}
use Rattle.rv_word.specs.Word.{Data, Code, goes, word_address, block}
use Rattle.rv_operators.specs.Operators.{word_of, unary_label, binary_label, fault_number}
use Rattle.rv_operators.specs.Laws.{IsDatum, ComesTo, IsResult}
use Rattle.rv_select.specs.Numbers.{meet, first_operator, entry_count, label_of, entry_number, entry_word}
use Rattle.rv_select.specs.Blocks.{entries_of}
use Rattle.rv_select.specs.Layout.{word_in, HasItems}
use Rattle.rv_select.proofs.Runs.{wider, known, known_later}
use Rattle.rv_select.proofs.SelectedCode.{IsSelected}
use Rattle.rv_select.proofs.ItemSteps.{Helpers}
use Rattle.rv_select.proofs.Landing.{AreBytes, went_value}
use Rattle.rv_select.proofs.Meeting.{IsMet, TellsFault, Q, From, Kept, nothing, fault_told, cut}

-- ---- where the faults of operators are told

-- entry n of an item leads to the block that tells the fault
pub record LeadsToFault (code : PeCode) (a d : ℕ) (i : PeInsn) (k : FaultKind) (n : ℕ) : Type 0 where
  pub block_number : ℕ
  pub tells : TellsFault code a d i k block_number
  pub within : n < entry_count i
  pub leads : slice_index (entries_of code a d i) n ≡ label_of code a + block_number

only_overflow : (z : ℤ) (k : FaultKind) → int_or_overflow z ≡ Faults k → fault.Overflow ≡ k
only_overflow z k h =
    cond_both (is_int z) (Gives (datum.Int z)) (Faults fault.Overflow) (λ (r : Applied). r ≡ Faults k → fault.Overflow ≡ k) (λ t e. absurd (cc)) (λ f e. cc) h

only_range : (z : ℤ) (k : FaultKind) → char_of z ≡ Faults k → fault.Range ≡ k
only_range (pos n) k h = cond_both (nat_lt n 256) (Gives (datum.Char n)) (Faults fault.Range) (λ (r : Applied). r ≡ Faults k → fault.Range ≡ k) (λ t e. absurd (cc)) (λ f e. cc) h
only_range (negsuc n) k h = cc

only_zero : (y : ℤ) (r : Applied) (k : FaultKind) → (r ≡ Faults k → ⊥) → unless_zero y r ≡ Faults k → fault.Zero ≡ k
only_zero y r k not h = cond_both (int_eq y (pos 0)) (Faults fault.Zero) r (λ (q : Applied). q ≡ Faults k → fault.Zero ≡ k) (λ t e. cc) (λ f e. absurd (not e)) h

chars_never : (op : BinOp) (x y : ℕ) (k : FaultKind) → char_result op x y ≡ Faults k → ⊥
chars_never Add x y k h = cc
chars_never Sub x y k h = cc
chars_never Mul x y k h = cc
chars_never Div x y k h = cc
chars_never Rem x y k h = cc
chars_never Eq x y k h = cc
chars_never Ne x y k h = cc
chars_never Lt x y k h = cc
chars_never Le x y k h = cc
chars_never Gt x y k h = cc
chars_never Ge x y k h = cc
chars_never And x y k h = cc
chars_never Or x y k h = cc

truths_never : (op : BinOp) (x y : Bool) (k : FaultKind) → bool_result op x y ≡ Faults k → ⊥
truths_never Add x y k h = cc
truths_never Sub x y k h = cc
truths_never Mul x y k h = cc
truths_never Div x y k h = cc
truths_never Rem x y k h = cc
truths_never Eq x y k h = cc
truths_never Ne x y k h = cc
truths_never Lt x y k h = cc
truths_never Le x y k h = cc
truths_never Gt x y k h = cc
truths_never Ge x y k h = cc
truths_never And x y k h = cc
truths_never Or x y k h = cc

module _ (code : PeCode) (a d x y : ℕ) where
  unary_fault : (op : UnOp) (v : DatumType) (k : FaultKind) → unary_result op v ≡ Faults k → LeadsToFault code a d (insn.Op1 op x) k 2
  unary_fault Neg (datum.Int z) k h =
      subst (λ (q : FaultKind). LeadsToFault code a d (insn.Op1 Neg x) q 2) (only_overflow (pos 0 -ℤ z) k h) (record { block_number = 1; tells = (omega arith, refl); within = omega arith; leads = refl })
  unary_fault Neg (datum.Bool b) k h = absurd (cc)
  unary_fault Neg (datum.Char c) k h = absurd (cc)
  unary_fault Not (datum.Int z) k h = absurd (cc)
  unary_fault Not (datum.Bool b) k h = absurd (cc)
  unary_fault Not (datum.Char c) k h = absurd (cc)
  unary_fault Ord (datum.Int z) k h = absurd (cc)
  unary_fault Ord (datum.Bool b) k h = absurd (cc)
  unary_fault Ord (datum.Char c) k h = absurd (cc)
  unary_fault Chr (datum.Int z) k h =
      subst (λ (q : FaultKind). LeadsToFault code a d (insn.Op1 Chr x) q 2) (only_range z k h) (record { block_number = 1; tells = (omega arith, refl); within = omega arith; leads = refl })
  unary_fault Chr (datum.Bool b) k h = absurd (cc)
  unary_fault Chr (datum.Char c) k h = absurd (cc)

  quotient_fault : (p q : ℤ) (k : FaultKind) → unless_zero q (int_or_overflow (int_div p q)) ≡ Faults k → LeadsToFault code a d (insn.Op2 Div x y) k (2 + fault_number Div k)
  quotient_fault p q k h =
      cond_both (int_eq q (pos 0)) (Faults fault.Zero) (int_or_overflow (int_div p q)) (λ (r : Applied). r ≡ Faults k → LeadsToFault code a d (insn.Op2 Div x y) k (2 + fault_number Div k))
      (λ t e. let same : fault.Zero ≡ k = cc in subst (λ (q : FaultKind). LeadsToFault code a d (insn.Op2 Div x y) q (2 + fault_number Div q)) same (record { block_number = 2; tells = (omega arith, refl); within = omega arith; leads = refl }))
      (λ f e. subst (λ (q : FaultKind). LeadsToFault code a d (insn.Op2 Div x y) q (2 + fault_number Div q)) (only_overflow (int_div p q) k e) (record { block_number = 3; tells = (omega arith, refl); within = omega arith; leads = refl }))
      h

  int_fault : (op : BinOp) (p q : ℤ) (k : FaultKind) → int_result op p q ≡ Faults k → LeadsToFault code a d (insn.Op2 op x y) k (2 + fault_number op k)
  int_fault Add p q k h =
      subst (λ (f : FaultKind). LeadsToFault code a d (insn.Op2 Add x y) f (2 + fault_number Add f)) (only_overflow (p +ℤ q) k h) (record { block_number = 2; tells = (omega arith, refl); within = omega arith; leads = refl })
  int_fault Sub p q k h =
      subst (λ (f : FaultKind). LeadsToFault code a d (insn.Op2 Sub x y) f (2 + fault_number Sub f)) (only_overflow (p -ℤ q) k h) (record { block_number = 2; tells = (omega arith, refl); within = omega arith; leads = refl })
  int_fault Mul p q k h =
      subst (λ (f : FaultKind). LeadsToFault code a d (insn.Op2 Mul x y) f (2 + fault_number Mul f)) (only_overflow (p *ℤ q) k h) (record { block_number = 2; tells = (omega arith, refl); within = omega arith; leads = refl })
  int_fault Div p q k h = quotient_fault p q k h
  int_fault Rem p q k h =
      subst (λ (f : FaultKind). LeadsToFault code a d (insn.Op2 Rem x y) f (2 + fault_number Rem f)) (only_zero q (Gives (datum.Int (int_rem p q))) k (λ e. cc) h) (record { block_number = 2; tells = (omega arith, refl); within = omega arith; leads = refl })
  int_fault Eq p q k h = absurd (cc)
  int_fault Ne p q k h = absurd (cc)
  int_fault Lt p q k h = absurd (cc)
  int_fault Le p q k h = absurd (cc)
  int_fault Gt p q k h = absurd (cc)
  int_fault Ge p q k h = absurd (cc)
  int_fault And p q k h = absurd (cc)
  int_fault Or p q k h = absurd (cc)

  binary_fault : (op : BinOp) (u v : DatumType) (k : FaultKind) → binary_result op u v ≡ Faults k → LeadsToFault code a d (insn.Op2 op x y) k (2 + fault_number op k)
  binary_fault op (datum.Int p) (datum.Int q) k h = int_fault op p q k h
  binary_fault op (datum.Char p) (datum.Char q) k h = absurd (chars_never op p q k h)
  binary_fault op (datum.Bool p) (datum.Bool q) k h = absurd (truths_never op p q k h)
  binary_fault op (datum.Int p) (datum.Char q) k h = absurd (cc)
  binary_fault op (datum.Int p) (datum.Bool q) k h = absurd (cc)
  binary_fault op (datum.Char p) (datum.Int q) k h = absurd (cc)
  binary_fault op (datum.Char p) (datum.Bool q) k h = absurd (cc)
  binary_fault op (datum.Bool p) (datum.Int q) k h = absurd (cc)
  binary_fault op (datum.Bool p) (datum.Char q) k h = absurd (cc)

-- ---- what an operator comes to

module _ (code : PeCode) (w : Code) (sel : IsSelected code w) (help : Helpers) (e0 : Data) (s : ItemState) (older : List Item) (outside : ℕ) where
  -- from its block, with the entry k of the item in the context
  comes_by : (content : PeContext) (e : Data) (a d k from : ℕ) (i : PeInsn) (at : Place) (number : FaultKind → ℕ) → item_at code a ≡ Some (record { insn = i; depth = d; place = at }) → IsMet code older content outside e → Kept code w sel help e0 e
      → (r : Applied) → IsResult r → ((f : FaultKind) → r ≡ Faults f → LeadsToFault code a d i f (k + number f)) → ComesTo w from meet (address_on older) (entry_word (entry_number code a + k)) (word_address outside) number e r
      → From code w sel help e0 (operated r at (cut code w sel help e0 s older outside)) 70 from e
  comes_by content e a d k from i at number stands met keeps (Gives v) good leads h =
      wider w (Q code w sel help e0 (focused (value v) (cut code w sel help e0 s older outside))) 60 70 (record { rest = block w from; held = e }) (omega arith)
      (known w (Q code w sel help e0 (focused (value v) (cut code w sel help e0 s older outside))) (record { rest = block w from; held = e }) (goes (record { rest = block w meet; held = h.after })) h.steps 60 h.some h.leads h.cost
      (went_value code w outside older v h.after e0.input e0.output (length e0.words)
      (record {
        newest_is = h.holds.context;
        top_is = h.holds.top;
        memory = subst (λ (m : List ℕ). HasItems code m older) (sym h.holds.keeps.words) met.memory;
        bytes = subst AreBytes (sym h.holds.keeps.input) met.bytes;
      })
      h.holds.datum good
      (record { input_is = h.holds.keeps.input ∙ keeps.input_is; output_is = h.holds.keeps.output ∙ keeps.output_is; size_is = ap (λ (m : List ℕ). length m) h.holds.keeps.words ∙ keeps.size_is })))
  comes_by content e a d k from i at number stands met keeps (Faults f) good leads h =
      let told = leads f refl in
      let entry = sel.entries a _ (k + number f) stands told.within in
      let inside = entry.inside in
      let sum : entry_number code a + (k + number f) ≡ entry_number code a + k + number f = omega arith in
      let l = h (entry_number code a + k) refl (omega arith) in
      let label : slice_index w.entries (entry_number code a + k + number f) ≡ label_of code a + told.block_number = ap (λ j. slice_index w.entries j) (sym sum) ∙ entry.leads ∙ told.leads in
      wider w (Q code w sel help e0 (item.faults f at)) 69 70 (record { rest = block w from; held = e }) (omega arith)
      (known_later w (Q code w sel help e0 (item.faults f at)) (record { rest = block w from; held = e }) (goes (record { rest = block w (slice_index w.entries (entry_number code a + k + number f)); held = l.after })) l.steps 60 9 l.some l.leads l.cost
      (inr (subst (λ j. From code w sel help e0 (item.faults f at) 9 j l.after) (sym label)
      (fault_told code w sel help e0 a d told.block_number i f at l.after stands told.tells
      (record { input_is = l.holds.input ∙ keeps.input_is; output_is = l.holds.output ∙ keeps.output_is; size_is = ap (λ (m : List ℕ). length m) l.holds.words ∙ keeps.size_is })))))
  comes_by content e a d k from i at number stands met keeps NoSense good leads h = nothing code w sel help e0 70 from e (omega arith)

  first_word : (e : Data) (v : ℕ) → word_in e.words (address_on older) 0 ≡ v → slice_index e.words (address_on older) ≡ v
  first_word e v is = let same : address_on older ≡ address_on older + 0 = omega arith in ap (λ j. slice_index e.words j) same ∙ is

  pub met_op_1 : (op : UnOp) (v : DatumType) (e : Data) (a d x : ℕ) (at : Place) → item_at code a ≡ Some (record { insn = insn.Op1 op x; depth = d; place = at }) → word_in e.words (address_on older) 0 ≡ entry_word (entry_number code a + 1)
      → e.named.datum ≡ word_of v → IsDatum v → IsMet code older (op_1 op at) outside e → Kept code w sel help e0 e → From code w sel help e0 (operated (unary_result op v) at (cut code w sel help e0 s older outside)) 70 (unary_label first_operator op) e
  met_op_1 op v e a d x at stands entry is good met keeps =
      let room = met.room in
      comes_by (op_1 op at) e a d 1 (unary_label first_operator op) (insn.Op1 op x) at (λ f. 1) stands met keeps (unary_result op v) (help.unary_fits op v good) (λ f. unary_fault code a d x 0 op v f)
      (help.unary w first_operator meet op e (address_on older) (entry_word (entry_number code a + 1)) (word_address outside) v sel.operators
      (record { context = met.newest_is; inside = omega arith; few = met.memory.few; entry_is = first_word e _ entry; outside_is = met.here.outside_is; datum = is; fits = good }))

  pub met_op_r : (op : BinOp) (u v : DatumType) (e : Data) (a d x y : ℕ) (at : Place) → item_at code a ≡ Some (record { insn = insn.Op2 op x y; depth = d; place = at }) → word_in e.words (address_on older) 0 ≡ entry_word (entry_number code a + 2)
      → word_in e.words (address_on older) 2 ≡ word_of u → IsDatum u → e.named.datum ≡ word_of v → IsDatum v → IsMet code older (op_r op u at) outside e → Kept code w sel help e0 e
      → From code w sel help e0 (operated (binary_result op u v) at (cut code w sel help e0 s older outside)) 70 (binary_label first_operator op) e
  met_op_r op u v e a d x y at stands entry left good_left is good met keeps =
      let room = met.room in
      comes_by (op_r op u at) e a d 2 (binary_label first_operator op) (insn.Op2 op x y) at (fault_number op) stands met keeps (binary_result op u v) (help.binary_fits op u v good_left good) (λ f. binary_fault code a d x y op u v f)
      (help.binary w first_operator meet op e (address_on older) (entry_word (entry_number code a + 2)) (word_address outside) u v sel.operators
      (record {
        right = record { context = met.newest_is; inside = omega arith; few = met.memory.few; entry_is = first_word e _ entry; outside_is = met.here.outside_is; datum = is; fits = good };
        left = left;
        left_fits = good_left;
      }))
