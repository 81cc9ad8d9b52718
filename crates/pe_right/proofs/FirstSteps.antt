-- The first step of an item: where it comes to a datum, no context is there, and where it ends, no frame.
use Rattle.std.proofs.Common.{ℕ, ◌≡◌, ◌≢◌, List, [], ◌∷◌, Option, Some, None, refl, sym, ap, ◌∙◌, Bool, true, false}
use Rattle.fy_base.specs.declared.data.Place.{Place}
use Rattle.fy_base.specs.declared.data.Datum.{Datum}
use Rattle.fy_base.specs.Outside.{Bytes}
use Rattle.fy_derive.specs.Shapes.{PlainShape, at_end, a_run}
use Rattle.fy_phrase.specs.declared.shapes.ShapeTable.{ShapeTable}
use Rattle.fy_phrase.specs.Tree.{Tree}
use Rattle.fy_base.specs.declared.data.Datum.TheVariants as datum
use Rattle.fy_base.specs.Arithmetic.{written_text}
use Rattle.pe_code.specs.declared.code.Purpose.{Purpose}
use Rattle.pe_code.specs.declared.code.Purpose.TheVariants as purpose
use Rattle.pe_code.specs.declared.code.PeInsn.{PeInsn}
use Rattle.pe_code.specs.declared.code.PeInsn.TheVariants as insn
use Rattle.pe_code.specs.declared.code.PeItem.{PeItem}
use Rattle.pe_code.specs.declared.code.PeCode.{PeCode}
use Rattle.pe_code.specs.Code.{item_at, straight_of}
use Rattle.pe_code.specs.Straight.{Outcome, leaves, fails, has_none, misses}
use Rattle.fy_base.specs.declared.data.FaultKind.{FaultKind}
use Rattle.pe_machine.specs.States.{Pointer, Frame, Focus, value, completed, PeState}
use Rattle.pe_machine.specs.Step.{PeMove, goes, puts, takes, faults, sticks, loses, focus_on, focused, own_cell_set, faults_at as faults_there, outcome_move, datum_meets, written, waiting, executed, item_executed}
use Rattle.pe_machine.specs.Run.{pe_start}
use Rattle.pe_right.specs.Entered.{Entering}
use Rattle.pe_right.specs.Straight.{IsStraightOf, of_value, of_assignment}
use Rattle.pe_right.specs.Right.{IsFedOf, of_condition, of_test, of_assigned, of_output}

abbrev focus_in : PeMove → Option Focus
focus_in (goes s) = Some s.focus
focus_in (puts text s) = None
focus_in (takes go) = None
focus_in (faults kind at) = None
focus_in sticks = None
focus_in loses = None

-- straight code goes on with its datum
outcome-goes : (code : PeCode) (o : Outcome) (go : Datum → PeMove) (m : PeMove) → outcome_move code o go ≡ m → ((kind : FaultKind) (at : Place) → m ≢ faults kind at) → m ≢ sticks → m ≢ loses →
    (v : Datum) × (go v ≡ m)
outcome-goes code (leaves []) go m e f k l = absurd (k (sym e))
outcome-goes code (leaves (v ∷ [])) go m e f k l = (v, e)
outcome-goes code (leaves (v ∷ u ∷ stack)) go m e f k l = absurd (k (sym e))
outcome-goes code (fails kind a) go m e f k l = by (item_at code a) e
  where
    by : (o : Option PeItem) → faults_there kind o ≡ m → (v : Datum) × (go v ≡ m)
    by (Some i) h = absurd (f kind i.place (sym h))
    by None h = absurd (k (sym h))
outcome-goes code has_none go m e f k l = absurd (k (sym e))
outcome-goes code misses go m e f k l = absurd (l (sym e))

-- a form comes to no datum where its part's datum meets it
written-none : (o : Option Bytes) (s : PeState) → focus_in (written o s) ≡ None
written-none (Some text) s = refl
written-none None s = refl

no-datum : (code : PeCode) (u : Purpose) (v w : Datum) (here : Pointer) → focus_in (datum_meets code v (waiting u here) pe_start) ≡ Some (value w) → ⊥
no-datum code (purpose.Choose x y) (datum.Bool true) w here e = cc
no-datum code (purpose.Choose x y) (datum.Bool false) w here e = cc
no-datum code (purpose.Choose x y) v w here e = cc
no-datum code (purpose.Repeat x) (datum.Bool true) w here e = cc
no-datum code (purpose.Repeat x) (datum.Bool false) w here e = cc
no-datum code (purpose.Repeat x) v w here e = cc
no-datum code (purpose.Store x) v w here e = cc
no-datum code (purpose.Write kind) v w here e = let n = written-none (written_text kind v) pe_start in let f : None ≡ Some (value w) = sym n ∙ e in cc

-- nor does it make a frame
abbrev frames_in : PeMove → List Frame
frames_in (goes s) = s.frames
frames_in m = []

still-none : (code : PeCode) (u : Purpose) (v : Datum) (here : Pointer) (s : PeState) → datum_meets code v (waiting u here) pe_start ≡ goes s → s.frames ≡ []
still-none code (purpose.Choose x y) (datum.Bool true) here s e = sym (ap frames_in e)
still-none code (purpose.Choose x y) (datum.Bool false) here s e = sym (ap frames_in e)
still-none code (purpose.Choose x y) v here s e = absurd cc
still-none code (purpose.Repeat x) (datum.Bool true) here s e = sym (ap frames_in e)
still-none code (purpose.Repeat x) (datum.Bool false) here s e = sym (ap frames_in e)
still-none code (purpose.Repeat x) v here s e = absurd cc
still-none code (purpose.Store x) v here s e = sym (ap frames_in e)
still-none code (purpose.Write kind) v here s e = let n = written-none (written_text kind v) pe_start in let f : None ≡ Some s.focus = sym n ∙ ap focus_in e in absurd cc

-- where the first step comes to a datum, no context is there
first-datum : (code : PeCode) (i : PeInsn) (d : ℕ) (at : Place) (here : Pointer) (s : PeState) (v : Datum) → executed code i d at here pe_start ≡ goes s → s.focus ≡ value v → s.contexts ≡ []
first-datum code (insn.Answer w) d at here s v e f = let x : focus_on (value w) pe_start ≡ s = cc in ap (λ (t : PeState). t.contexts) (sym x)
first-datum code (insn.Eval ss) d at here s v e f =
    let y = outcome-goes code _ (λ w. focused (value w) pe_start) (goes s) e (λ kind there q. cc) (λ q. cc) (λ q. cc) in
    let x : focus_on (value y.0) pe_start ≡ s = (let q = y.1 in cc) in
    ap (λ (t : PeState). t.contexts) (sym x)
first-datum code (insn.Set j ss) d at here s v e f =
    let y = outcome-goes code _ (λ w. own_cell_set None w pe_start) (goes s) e (λ kind there q. cc) (λ q. cc) (λ q. cc) in
    let x : loses ≡ goes s = y.1 in
    absurd cc
first-datum code (insn.EvalFor ss u) d at here s v e f =
    let y = outcome-goes code _ (λ w. datum_meets code w (waiting u here) pe_start) (goes s) e (λ kind there q. cc) (λ q. cc) (λ q. cc) in
    absurd (no-datum code u y.0 v here (ap focus_in y.1 ∙ ap Some f))
first-datum code i d at here s v e f = let x = sym (ap focus_in e ∙ ap Some f) in absurd cc

-- and where it comes to a finished command, no frame is
first-end : (code : PeCode) (i : PeInsn) (d : ℕ) (at : Place) (here : Pointer) (s : PeState) → executed code i d at here pe_start ≡ goes s → s.focus ≡ completed → s.frames ≡ []
first-end code insn.Done d at here s e f = let x : focus_on completed pe_start ≡ s = cc in ap (λ (t : PeState). t.frames) (sym x)
first-end code (insn.Eval ss) d at here s e f =
    let y = outcome-goes code _ (λ w. focused (value w) pe_start) (goes s) e (λ kind there q. cc) (λ q. cc) (λ q. cc) in
    let x : focus_on (value y.0) pe_start ≡ s = (let q = y.1 in cc) in
    let z : value y.0 ≡ completed = ap (λ (t : PeState). t.focus) x ∙ f in
    absurd cc
first-end code (insn.Set j ss) d at here s e f =
    let y = outcome-goes code _ (λ w. own_cell_set None w pe_start) (goes s) e (λ kind there q. cc) (λ q. cc) (λ q. cc) in
    let x : loses ≡ goes s = y.1 in
    absurd cc
first-end code (insn.EvalFor ss u) d at here s e f =
    let y = outcome-goes code _ (λ w. datum_meets code w (waiting u here) pe_start) (goes s) e (λ kind there q. cc) (λ q. cc) (λ q. cc) in
    still-none code u y.0 here s y.1
first-end code i d at here s e f = let x = sym (ap focus_in e ∙ ap Some f) in absurd cc

pub first-item-end : (code : PeCode) (o : Option PeItem) (here : Pointer) (s : PeState) → item_executed code o here pe_start ≡ goes s → s.focus ≡ completed → s.frames ≡ []
first-item-end code None here s e f = absurd cc
first-item-end code (Some item) here s e f = first-end code item.insn item.depth item.place here s e f

pub first-item : (code : PeCode) (o : Option PeItem) (here : Pointer) (s : PeState) (v : Datum) → item_executed code o here pe_start ≡ goes s → s.focus ≡ value v → s.contexts ≡ []
first-item code None here s v e f = absurd cc
first-item code (Some item) here s v e f = first-datum code item.insn item.depth item.place here s v e f

-- an instruction of a form never faults at first
abbrev is_fault : PeMove → Bool
is_fault (faults kind at) = true
is_fault m = false

pub plain-starts : (code : PeCode) (i : PeInsn) (d : ℕ) (at : Place) (here : Pointer) (kind : FaultKind) (there : Place) → straight_of i ≡ None → executed code i d at here pe_start ≢ faults kind there
plain-starts code (insn.Eval ss) d at here kind there n e = absurd cc
plain-starts code (insn.Set j ss) d at here kind there n e = absurd cc
plain-starts code (insn.EvalFor ss u) d at here kind there n e = absurd cc
plain-starts code i d at here kind there n e = let x : is_fault (executed code i d at here pe_start) ≡ true = ap is_fault e in absurd cc

-- no command is evaluated in one step within no binder
pub no-straight : (code : PeCode) (q : Tree) (t : PlainShape) (i : PeInsn) → t ≡ at_end a_run → IsStraightOf code [] q t i → ⊥
no-straight code q t i e (of_value post height) = cc
no-straight code q t i e (of_assignment is post height) = cc

-- and no form is executed with a part
pub none-fed : {table : ShapeTable} {code : PeCode} {k : ℕ} {q : Tree} {t : PlainShape} {e : Entering} {i : PeInsn} → IsFedOf table code [] k q t e i → ⊥
none-fed (of_condition feeds x y) = feeds.within
none-fed (of_test feeds x) = feeds.within
none-fed (of_assigned feeds x) = feeds.within
none-fed (of_output feeds) = feeds.within
