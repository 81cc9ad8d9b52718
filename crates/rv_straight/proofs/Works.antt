-- Straight code comes to the outcome of its run.
use Rattle.std.proofs.Common.{◌≡◌, ℕ, zero, suc, ◌+◌, ◌-◌, ◌*◌, ◌^◌, ◌<◌, ◌≤◌, nat_lt, List, [], ◌∷◌, ◌++◌, length, refl, sym, ap, ◌∙◌, subst, arith, length-append, get_or-append-add}
use Rattle.std.specs.Prelude.{slice_index_or}
use Rattle.std.proofs.lemmas.Bool.{cond_both, ltb-true}
use Rattle.std.proofs.lemmas.List.{length-map, get_or_append_left}
use Rattle.std.proofs.lemmas.List.Elements.{All-head, All-tail}
use Rattle.fy_base.specs.declared.data.Datum.{Datum}
use Rattle.fy_base.specs.declared.data.FaultKind.{FaultKind}
use Rattle.fy_base.specs.declared.arithmetic.Applied.{Applied}
use Rattle.fy_base.specs.declared.arithmetic.Applied.TheVariants.{Gives, Faults, NoSense}
use Rattle.fy_base.specs.Arithmetic.{unary_result, binary_result}
use Rattle.pe_code.specs.declared.code.StraightPart.{StraightPart}
use Rattle.pe_code.specs.declared.code.StraightPart.TheVariants as part
use Rattle.pe_code.specs.Straight.{Reading, reads, no_cell, no_frame, Outcome, leaves, fails, has_none, misses, pushed, cell_pushed, replaced, outcome_then, outcome_with, outcome_after}
use Rattle.rv_word.specs.declared.micros.Micro.{Micro}
use Rattle.rv_word.specs.declared.micros.Micro.TheVariants.{Fault}
use Rattle.rv_word.specs.Word.{Data, Code, State, goes, get, block}
use Rattle.rv_operators.specs.Operators.{word_of}
use Rattle.rv_operators.specs.Laws.{IsDatum, IsResult}
use Rattle.rv_operators.proofs.Fitting.{unary_fits, binary_fits}
use Rattle.rv_straight.specs.Straight.{slot, cell_code, part_code, height_behind, unary_kinds, binary_kinds, kinds_of, straight_code, blocks_for, part_blocks, fault_blocks}
use Rattle.rv_straight.specs.Laws.{HoldsFaults, IsReady, AreReady, CellLies, HasCells, Keeps, Has, LeadsAs, StraightCodeWorks}
use Rattle.rv_straight.proofs.Registers.{with_value, read_same, keeps_itself, keeps_then, Same, set_slot, Holds, holds_same}
use Rattle.rv_straight.proofs.Needs.{Needs, needs_joined, state, At, Ends, comes}
use Rattle.rv_straight.proofs.Unary.{Held, Behind, unary_works}
use Rattle.rv_straight.proofs.Binary.{binary_works}
use Rattle.rv_straight.proofs.Cells.{cell_works}
use Rattle.rv_straight.proofs.Sizes.{code_cost}

-- ---- the blocks of faults

pub part_length : (s : StraightPart) → length (part_blocks s) ≡ length (kinds_of s)
part_length (part.Literal v) = refl
part_length (part.Cell k) = refl
part_length (part.Unary op a) = length-map (unary_kinds op) (λ (kind : FaultKind). Fault kind a ∷ [])
part_length (part.Binary op a) = length-map (binary_kinds op) (λ (kind : FaultKind). Fault kind a ∷ [])

-- those of a part
abbrev HeldPart : Code → ℕ → StraightPart → Type 0
HeldPart code label s = (j : ℕ) → j < length (part_blocks s) → block code (label + j) ≡ slice_index_or (part_blocks s) j []

held_kinds : (code : Code) (label a : ℕ) (kinds : List FaultKind) → ((j : ℕ) → j < length (blocks_for kinds a) → block code (label + j) ≡ slice_index_or (blocks_for kinds a) j []) → Held code label a kinds
held_kinds code label a kinds h j lt = let size = length-map kinds (λ (kind : FaultKind). Fault kind a ∷ []) in h j (omega arith)

-- the first part's come first, and then the others'
faults_here : (code : Code) (label : ℕ) (s : StraightPart) (ss : List StraightPart) → HoldsFaults code label (s ∷ ss) → HeldPart code label s
faults_here code label s ss h j lt =
    let size = length-append (part_blocks s) (fault_blocks ss) in
    h j (omega arith) ∙ get_or_append_left (part_blocks s) (fault_blocks ss) [] j lt

faults_later : (code : Code) (label : ℕ) (s : StraightPart) (ss : List StraightPart) → HoldsFaults code label (s ∷ ss) → HoldsFaults code (label + length (kinds_of s)) ss
faults_later code label s ss h j lt =
    let size = length-append (part_blocks s) (fault_blocks ss) in
    let same = part_length s in
    let spot : label + length (kinds_of s) + j ≡ label + (length (part_blocks s) + j) = omega arith in
    ap (block code) spot ∙ (h (length (part_blocks s) + j) (omega arith) ∙ get_or-append-add (part_blocks s) (fault_blocks ss) j [])

-- ---- cells as they were

cells_along : (depth : ℕ) (read : ℕ → Reading) (e f : Data) → Keeps e f → HasCells depth read e → HasCells depth read f
cells_along depth read e f keeps h = record {
  few = (let size = ap (λ (l : List ℕ). length l) keeps.words in let most = h.few in omega arith);
  cells = λ k v lt is.
      let c = h.cells k v lt is in
      (subst (λ (l : List ℕ). CellLies l f.named.frame k (word_of v)) (sym keeps.words) (subst (λ (x : ℕ). CellLies e.words x k (word_of v)) (sym keeps.frame) c.0), c.1);
}

module _ (code : Code) (F : ℕ → Data → Type 0) where
  -- ---- what has to be shown behind one part, which leaves m data, and behind all

  abbrev Then : ℕ → Data → (Data → Type 0) → Outcome → Type 0
  Then m e Q (leaves more) = (f : Data) → Keeps e f → Holds more f → length more ≤ 3 → length more ≡ m → Q f
  Then m e Q (fails kind a) = (f : Data) → Keeps e f → (l : ℕ) → block code l ≡ Fault kind a ∷ [] → F l f
  Then m e Q has_none = ⊥
  Then m e Q misses = ⊥

  abbrev pub Run : Data → (Data → Type 0) → Outcome → Type 0
  Run e Q (leaves stack) = (f : Data) → Keeps e f → Holds stack f → Q f
  Run e Q (fails kind a) = (f : Data) → Keeps e f → (l : ℕ) → block code l ≡ Fault kind a ∷ [] → F l f
  Run e Q has_none = ⊥
  Run e Q misses = ⊥

  run_on : (e f : Data) (Q : Data → Type 0) (o : Outcome) → Keeps e f → Run e Q o → Run f Q o
  run_on e f Q (leaves stack) keeps k = λ g more h. k g (keeps_then e f g keeps more) h
  run_on e f Q (fails kind a) keeps k = λ g more l is. k g (keeps_then e f g keeps more) l is
  run_on e f Q has_none keeps k = k
  run_on e f Q misses keeps k = k

  -- ---- a datum more

  newest : (m : ℕ) (e : Data) (Q : Data → Type 0) (v : Datum) (stack : List Datum) → suc (length stack) ≡ m → length stack < 3 → IsDatum v → Holds stack e → Then m e Q (leaves (v ∷ stack))
      → (f : Data) → Same (length stack) e f → get f.named (slot (length stack)) ≡ word_of v → Q f
  newest m e Q v stack size lt good h k f same here = k f same.keeps (here, good, holds_same stack (length stack) e f (omega arith) same h) (omega arith) size

  pushed_goes : (m : ℕ) (e : Data) (Q : Data → Type 0) (v : Datum) (stack : List Datum) → suc (length stack) ≡ m → IsDatum v → Holds stack e → Then m e Q (pushed v stack)
      → (f : Data) → Same (length stack) e f → get f.named (slot (length stack)) ≡ word_of v → Q f
  pushed_goes m e Q v stack size good h =
      cond_both (nat_lt (length stack) 3) (leaves (v ∷ stack)) has_none (λ o. Then m e Q o → (f : Data) → Same (length stack) e f → get f.named (slot (length stack)) ≡ word_of v → Q f)
      (λ is k. newest m e Q v stack size (ltb-true (length stack) 3 is) good h k)
      (λ is k. absurd k)

  replaced_goes : (m : ℕ) (e : Data) (Q : Data → Type 0) (r : Applied) (a : ℕ) (stack : List Datum) → suc (length stack) ≡ m → IsResult r → Holds stack e → Then m e Q (replaced r a stack) → Behind code F a e Q (length stack) r
  replaced_goes m e Q (Gives w) a stack size good h k = pushed_goes m e Q w stack size good h k
  replaced_goes m e Q (Faults kind) a stack size good h k = k
  replaced_goes m e Q NoSense a stack size good h k = k

  -- ---- a part

  literal_works : (v : Datum) (stack : List Datum) (e : Data) (Q : Data → Type 0) → Holds stack e → IsDatum v → Then (suc (length stack)) e Q (pushed v stack) → Q (with_value (slot (length stack)) (word_of v) e)
  literal_works v stack e Q h good =
      cond_both (nat_lt (length stack) 3) (leaves (v ∷ stack)) has_none (λ o. Then (suc (length stack)) e Q o → Q (with_value (slot (length stack)) (word_of v) e))
      (λ is k.
      let lt = ltb-true (length stack) 3 is in
      newest (suc (length stack)) e Q v stack refl lt good h k (with_value (slot (length stack)) (word_of v) e) (set_slot (length stack) (length stack) e (word_of v) (omega arith) (omega arith)) (read_same (length stack) e.named (word_of v)))
      (λ is k. absurd k)

  read_works : (k : ℕ) (v : Datum) (stack : List Datum) (e : Data) (Q : Data → Type 0) → Holds stack e → length e.words ≤ 2 ^ 27 → CellLies e.words e.named.frame k (word_of v) → IsDatum v
      → Then (suc (length stack)) e Q (pushed v stack) → Needs F (cell_code (slot (length stack)) k) e Q
  read_works k v stack e Q h few lies good =
      cond_both (nat_lt (length stack) 3) (leaves (v ∷ stack)) has_none (λ o. Then (suc (length stack)) e Q o → Needs F (cell_code (slot (length stack)) k) e Q)
      (λ is go.
      let lt = ltb-true (length stack) 3 is in
      cell_works F (length stack) (omega arith) e few Q k (word_of v) lies (newest (suc (length stack)) e Q v stack refl lt good h go))
      (λ is go. absurd go)

  cell_by : (depth : ℕ) (read : ℕ → Reading) (k : ℕ) (stack : List Datum) (e : Data) (Q : Data → Type 0) → Holds stack e → HasCells depth read e → k < depth → (o : Reading) → read k ≡ o
      → Then (suc (length stack)) e Q (cell_pushed o stack) → Needs F (cell_code (slot (length stack)) k) e Q
  cell_by depth read k stack e Q h cells within (reads v) found go = let c = cells.cells k v within found in read_works k v stack e Q h cells.few c.0 c.1 go
  cell_by depth read k stack e Q h cells within no_cell found go = absurd go
  cell_by depth read k stack e Q h cells within no_frame found go = absurd go

  part_works : (depth : ℕ) (read : ℕ → Reading) (s : StraightPart) (stack : List Datum) (label : ℕ) (e : Data) (Q : Data → Type 0) → length stack ≤ 3 → Holds stack e → HasCells depth read e → IsReady depth s → HeldPart code label s
      → Then (height_behind s (length stack)) e Q (outcome_with read s stack) → Needs F (part_code s (length stack) label) e Q
  part_works depth read (part.Literal v) stack label e Q few h cells range held k = literal_works v stack e Q h range k
  part_works depth read (part.Cell j) stack label e Q few h cells range held k = cell_by depth read j stack e Q h cells range (read j) refl k
  part_works depth read (part.Unary op a) [] label e Q few h cells range held k = absurd k
  part_works depth read (part.Unary op a) (v ∷ stack) label e Q few h cells range held k =
      unary_works code F a e Q (length stack) label (omega arith) op v h.1 h.0 (held_kinds code label a (unary_kinds op) held)
      (replaced_goes (suc (length stack)) e Q (unary_result op v) a stack refl (unary_fits op v h.1) h.2 k)
  part_works depth read (part.Binary op a) [] label e Q few h cells range held k = absurd k
  part_works depth read (part.Binary op a) (v ∷ []) label e Q few h cells range held k = absurd k
  part_works depth read (part.Binary op a) (v ∷ u ∷ stack) label e Q few h cells range held k =
      binary_works code F a e Q (length stack) label (omega arith) op u v h.2.1 h.1 h.2.0 h.0 (held_kinds code label a (binary_kinds op) held)
      (replaced_goes (suc (suc (length stack)) - 1) e Q (binary_result op u v) a stack (omega arith) (binary_fits op u v h.2.1 h.1) h.2.2 k)

  -- ---- all parts

  along : (read : ℕ → Reading) (ss : List StraightPart) (m : ℕ) (e : Data) (Q R : Data → Type 0) (o : Outcome)
      → ((more : List Datum) (f : Data) → Keeps e f → Holds more f → length more ≤ 3 → length more ≡ m → Run f Q (outcome_after read ss more) → R f)
      → Run e Q (outcome_then o (λ more. outcome_after read ss more)) → Then m e R o
  along read ss m e Q R (leaves more) go k = λ f keeps h few size. go more f keeps h few size (run_on e f Q (outcome_after read ss more) keeps k)
  along read ss m e Q R (fails kind a) go k = k
  along read ss m e Q R has_none go k = k
  along read ss m e Q R misses go k = k

  pub parts_work : (depth : ℕ) (read : ℕ → Reading) (ss : List StraightPart) (stack : List Datum) (label : ℕ) (e : Data) (Q : Data → Type 0) → length stack ≤ 3 → Holds stack e → HasCells depth read e → AreReady depth ss → HoldsFaults code label ss
      → Run e Q (outcome_after read ss stack) → Needs F (straight_code ss (length stack) label) e Q
  parts_work depth read [] stack label e Q few h cells range held k = k e (keeps_itself e) h
  parts_work depth read (s ∷ ss) stack label e Q few h cells range held k =
      let n = height_behind s (length stack) in
      let next = label + length (kinds_of s) in
      needs_joined F (part_code s (length stack) label) (straight_code ss n next) e Q
      (part_works depth read s stack label e (λ f. Needs F (straight_code ss n next) f Q) few h cells (All-head (λ z. IsReady depth z) s ss range) (faults_here code label s ss held)
      (along read ss n e Q (λ f. Needs F (straight_code ss n next) f Q) (outcome_with read s stack)
      (λ more f keeps stands most size run.
      subst (λ (j : ℕ). Needs F (straight_code ss j next) f Q) size
      (parts_work depth read ss more next f Q most stands (cells_along depth read e f keeps cells) (All-tail (λ z. IsReady depth z) s ss range) (faults_later code label s ss held) run))
      k))

-- ---- as the law says it

pub works : StraightCodeWorks
works code label ss depth read e rest held range cells = by (outcome_after read ss []) refl
  where
    by : (o : Outcome) → outcome_after read ss [] ≡ o → LeadsAs code (state (straight_code ss 0 label ++ rest) e) rest (18 * length ss) o
    by (leaves []) is = tt
    by (leaves (v ∷ [])) is =
        let P : State → Type 0 = λ t. (f : Data) × (t ≡ state rest f) × Keeps e f × Has v f in
        let c =
        comes code P rest (straight_code ss 0 label) e
        (parts_work code (At code P rest) depth read ss [] label e (Ends code P rest) (omega arith) tt cells range held
        (subst (λ (o : Outcome). Run code (At code P rest) e (Ends code P rest) o) (sym is) (λ f keeps h. (f, refl, keeps, record { datum = h.0; good = h.1 })))) in
        let most = code_cost ss 0 label in
        let cost = c.cost in
        let q = c.holds in
        record { steps = c.steps; after = q.0; leads = c.leads ∙ ap (λ (t : State). goes t) q.1; cost = omega arith; keeps = q.2; holds = q.3 }
    by (leaves (v ∷ u ∷ stack)) is = tt
    by (fails kind a) is =
        let P : State → Type 0 = λ t. (f : Data) × (t ≡ state (Fault kind a ∷ []) f) × Keeps e f in
        let c =
        comes code P rest (straight_code ss 0 label) e
        (parts_work code (At code P rest) depth read ss [] label e (Ends code P rest) (omega arith) tt cells range held
        (subst (λ (o : Outcome). Run code (At code P rest) e (Ends code P rest) o) (sym is) (λ f keeps l there. (f, ap (λ (ms : List Micro). state ms f) there, keeps)))) in
        let most = code_cost ss 0 label in
        let cost = c.cost in
        let q = c.holds in
        record { steps = c.steps; after = q.0; leads = c.leads ∙ ap (λ (t : State). goes t) q.1; cost = omega arith; keeps = q.2; holds = tt }
    by has_none is = tt
    by misses is = tt
