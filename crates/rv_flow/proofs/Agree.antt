-- The lines of each micro-operation lead where it leads: computed, with arithmetic where numbers meet.
use Rattle.std.proofs.Common.{◌≡◌, ℕ, ◌+◌, ◌-◌, ◌*◌, ◌/◌, ◌%◌, ◌^◌, ◌<◌, ◌≤◌, pos, negsuc, Bool, true, false, not, nat_lt, nat_le, ◌&&◌, if◌then◌else◌, List, [], ◌∷◌, ◌++◌, length, drop, slice_index, All, Option, Some, None, refl, ◌∙◌, ap, arith, lit<}
use Rattle.std.specs.List.{slice_get}
use Rattle.std.specs.Int.{cast_unsigned, w64}
use Rattle.std.proofs.lemmas.Bool.{and_parts, false_from_ne_true, leb-true}
use Rattle.fy_base.specs.declared.data.Place.{Place}
use Rattle.fy_base.specs.declared.data.FaultKind.{FaultKind}
use Rattle.fy_base.specs.declared.data.FaultKind.TheVariants as fault
use Rattle.rv_insn.specs.declared.instructions.RegOp.TheVariants.{Add, Sub}
use Rattle.rv_insn.specs.declared.instructions.ImmOp.TheVariants.{Addi, Andi}
use Rattle.rv_insn.specs.declared.instructions.BranchOp.TheVariants.{Bne, Bltu, Bgeu}
use Rattle.rv_insn.specs.Operations.{reg_value, imm_value, is_taken, upper_value}
use Rattle.rv_insn.specs.Program.{code_start, table_start, stack_start}
use Rattle.rv_insn.specs.Step.{displaced}
use Rattle.rv_word.specs.declared.micros.Register.{Register}
use Rattle.rv_word.specs.declared.micros.Micro.{Micro}
use Rattle.rv_word.specs.declared.micros.Micro.TheVariants.{Set, Imm, Shift, Alu, Window, Get, Save, Look, Room, Test, Jump, Enter, Put, Take, End, Exhaust, Fault}
use Rattle.rv_word.specs.Word.{Named, Data, Code, Led, hangs, wrong, get, set, limit, has_window, is_in_table, block, onward, taken_in, faulted, does}
use Rattle.rv_word.specs.Discipline.{is_zero, has_needs, bounds_of, is_disciplined}
use Rattle.rv_word.specs.Laws.{IsSound}
use Rattle.rv_word.proofs.Right.{entry_within}
use Rattle.rv_word.proofs.Sound.{taken_below}
use Rattle.rv_flow.specs.Lowering.{upper_part, lower_part, minus, kind_number}
use Rattle.rv_flow.proofs.Shown.{X31, R, X3, Scratch, view}
use Rattle.rv_flow.proofs.Lines.{Num, Op, Open, Did, Behind, Unsaid, faulted_by, lines_do, to_label, entry_number, is_entry, led_by, number_lines, window_lines, lines_of, last_of}
use Rattle.rv_flow.proofs.Reached.{reached_either}
use Rattle.rv_flow.proofs.Sums.{copy_is, literal_is, constant_is, minus_is, parts_are, low_three, all_but_three}

-- the lines of a micro-operation lead where it does
abbrev pub AreLed : Code → List Micro → Micro → Data → Scratch → Type 0
AreLed code rest m e h = led_by code rest (lines_do code (lines_of (length code.entries) (length code.table) m) (last_of m) (view e h)) ≡ does code m rest e

-- ---- where conditions lead

hangs_here : (b : Bool) (r : Led) (e : Data) → b ≡ false → hangs e ≡ (if b then r else hangs e)
hangs_here b r e h = rw h refl

goes_here : (b : Bool) (rest : List Micro) (r : Led) (e : Data) → b ≡ true → onward rest e ≡ (if b then onward rest e else r)
goes_here b rest r e h = rw h refl

said_either : (code : Code) (rest : List Micro) (b : Bool) (d : Did) → led_by code rest (if b then d else Unsaid) ≡ (if b then led_by code rest d else wrong)
said_either code rest true d = refl
said_either code rest false d = refl

said_both : (code : Code) (rest : List Micro) (b c : Bool) (d : Did) → c ≡ true → led_by code rest (if b && c then d else Unsaid) ≡ (if b then led_by code rest d else wrong)
said_both code rest true c d h = rw h refl
said_both code rest false c d h = refl

looked_here : (code : Code) (rest : List Micro) (b : Bool) (x e : Data) → b ≡ true → led_by code rest (if b then Behind x else Unsaid) ≡ (if b then onward rest x else hangs e)
looked_here code rest b x e h = rw h refl

label_led : (code : Code) (rest : List Micro) (label : ℕ) (e : Data) → nat_lt label (length code.blocks) ≡ true → led_by code rest (to_label code label e) ≡ onward (block code label) e
label_led code rest label e within = rw within refl

test_led : (code : Code) (rest : List Micro) (label : ℕ) (e : Data) (taken : Bool) → nat_lt label (length code.blocks) ≡ true
    → led_by code rest (if taken then to_label code label e else Behind e) ≡ onward (if taken then block code label else rest) e
test_led code rest label e true within = label_led code rest label e within
test_led code rest label e false within = refl

room_led : (code : Code) (rest : List Micro) (label : ℕ) (e : Data) (taken room : Bool) → nat_lt label (length code.blocks) ≡ true → (taken ≡ true → room ≡ false) → (taken ≡ false → room ≡ true)
    → led_by code rest (if taken then to_label code label e else Behind e) ≡ onward (if room then rest else block code label) e
room_led code rest label e true room within f g = rw (f refl) (label_led code rest label e within)
room_led code rest label e false room within f g = rw (g refl) refl

entry_led : (code : Code) (rest : List Micro) (b : Bool) (label to : ℕ) (e : Data) → b ≡ true → label ≡ to → nat_lt to (length code.blocks) ≡ true
    → led_by code rest (if b then to_label code label e else Unsaid) ≡ onward (block code to) e
entry_led code rest b label to e h same within = rw (h, same) (label_led code rest to e within)

below_is : (x y : ℕ) → x < y → nat_lt x y ≡ true
below_is x y h = grind arith

-- ---- words of the stack

window_below : (e : Data) (x k : ℕ) → is_taken Bltu x stack_start ≡ true → has_window e x k ≡ false
unfolding is_taken
window_below e x k h = grind arith

window_above : (e : Data) (x k : ℕ) → is_taken Bltu (limit e) x ≡ true → has_window e x k ≡ false
unfolding is_taken
window_above e x k h = grind arith

window_behind : (e : Data) (x k m : ℕ) → m ≡ 8 * k → x < 2 ^ 64 → k ≤ 4096 → length e.words ≤ 2 ^ 27 → is_taken Bltu (limit e) x ≡ false → is_taken Bltu (limit e) (reg_value Add m x) ≡ true → has_window e x k ≡ false
unfolding is_taken reg_value
window_behind e x k m s small fits few above h =
    let a : x ≤ limit e = grind arith in
    let b : limit e < (m + x) % 2 ^ 64 = grind arith in
    let c : limit e < x + 8 * k = omega arith in
    grind arith

window_odd : (e : Data) (x k m : ℕ) → m ≡ x % 8 → is_taken Bne m 0 ≡ true → has_window e x k ≡ false
unfolding is_taken
window_odd e x k m s h = grind arith

window_there : (e : Data) (x k m j : ℕ) → m ≡ 8 * k → j ≡ x % 8 → x < 2 ^ 64 → k ≤ 4096 → length e.words ≤ 2 ^ 27 → is_taken Bltu x stack_start ≡ false → is_taken Bltu (limit e) x ≡ false → is_taken Bltu (limit e) (reg_value Add m x) ≡ false
    → is_taken Bne j 0 ≡ false → has_window e x k ≡ true
unfolding is_taken reg_value
window_there e x k m j s t small fits few below above behind odd =
    let a : x ≤ limit e = grind arith in
    let b : (m + x) % 2 ^ 64 ≤ limit e = grind arith in
    let c : x + 8 * k ≤ limit e = omega arith in
    let d : x % 8 ≡ 0 = grind arith in
    let l : stack_start ≤ x = grind arith in
    grind arith

near_above : (e : Data) (x k m : ℕ) → m ≡ limit e - 8 * k → k ≤ 255 → is_taken Bltu m x ≡ true → has_window e x k ≡ false
unfolding is_taken
near_above e x k m s fits h =
    let a : m < x = grind arith in
    let b : limit e < x + 8 * k = omega arith in
    grind arith

near_there : (e : Data) (x k m j : ℕ) → m ≡ limit e - 8 * k → j ≡ x % 8 → k ≤ 255 → is_taken Bltu x stack_start ≡ false → is_taken Bltu m x ≡ false → is_taken Bne j 0 ≡ false → has_window e x k ≡ true
unfolding is_taken
near_there e x k m j s t fits below above odd =
    let a : x ≤ m = grind arith in
    let c : x + 8 * k ≤ limit e = omega arith in
    let d : x % 8 ≡ 0 = grind arith in
    let l : stack_start ≤ x = grind arith in
    grind arith

-- the lines of a window, near or not, lead where it does
abbrev AreLedBy : Bool → Code → List Micro → Register → ℕ → Data → Scratch → Type 0
AreLedBy b code rest r k e h = led_by code rest (lines_do code (window_lines b r k) Open (view e h)) ≡ does code (Window r k) rest e

near_led : (code : Code) (rest : List Micro) (r : Register) (k : ℕ) (e : Data) (h : Scratch) → k ≤ 255 → length e.words ≤ 2 ^ 27 → AreLedBy true code rest r k e h
near_led code rest r k e h fits few =
    let P : Did → Type 0 = λ d. led_by code rest d ≡ does code (Window r k) rest e in
    let x : ℕ = get e.named r in
    let m : ℕ = imm_value Addi (limit e) (cast_unsigned w64 (minus (8 * k))) in
    let j : ℕ = imm_value Andi x (cast_unsigned w64 (pos 7)) in
    let m_is : m ≡ limit e - 8 * k = minus_is (limit e) (8 * k) (omega arith) (omega arith) in
    let j_is : j ≡ x % 8 = low_three x in
    reached_either P (is_taken Bltu x stack_start) _ _ (λ b1. hangs_here _ _ e (window_below e x k b1)) (λ b1.
    reached_either P (is_taken Bltu m x) _ _ (λ b2. hangs_here _ _ e (near_above e x k m m_is fits b2)) (λ b2.
    reached_either P (is_taken Bne j 0) _ _ (λ b3. hangs_here _ _ e (window_odd e x k j j_is b3)) (λ b3.
    goes_here _ rest _ e (near_there e x k m j m_is j_is fits b1 b2 b3))))

far_led : (code : Code) (rest : List Micro) (r : Register) (k : ℕ) (e : Data) (h : Scratch) → get e.named r < 2 ^ 64 → k ≤ 4096 → length e.words ≤ 2 ^ 27 → AreLedBy false code rest r k e h
far_led code rest r k e h small fits few =
    let P : Did → Type 0 = λ d. led_by code rest d ≡ does code (Window r k) rest e in
    let x : ℕ = get e.named r in
    let m : ℕ = imm_value Addi (upper_value (upper_part (8 * k))) (cast_unsigned w64 (lower_part (8 * k))) in
    let j : ℕ = imm_value Andi x (cast_unsigned w64 (pos 7)) in
    let m_is : m ≡ 8 * k = parts_are (8 * k) (omega arith) in
    let j_is : j ≡ x % 8 = low_three x in
    reached_either P (is_taken Bltu x stack_start) _ _ (λ b1. hangs_here _ _ e (window_below e x k b1)) (λ b1.
    reached_either P (is_taken Bltu (limit e) x) _ _ (λ b2. hangs_here _ _ e (window_above e x k b2)) (λ b2.
    reached_either P (is_taken Bltu (limit e) (reg_value Add m x)) _ _ (λ b3. hangs_here _ _ e (window_behind e x k m m_is small fits few b2 b3)) (λ b3.
    reached_either P (is_taken Bne j 0) _ _ (λ b4. hangs_here _ _ e (window_odd e x k j j_is b4)) (λ b4.
    goes_here _ rest _ e (window_there e x k m j m_is j_is small fits few b1 b2 b3 b4)))))

window_led : (b : Bool) (code : Code) (rest : List Micro) (r : Register) (k : ℕ) (e : Data) (h : Scratch) → nat_le k 255 ≡ b → get e.named r < 2 ^ 64 → k ≤ 4096 → length e.words ≤ 2 ^ 27 → AreLedBy b code rest r k e h
window_led true code rest r k e h near small fits few = near_led code rest r k e h (leb-true k 255 near) few
window_led false code rest r k e h near small fits few = far_led code rest r k e h small fits few

-- ---- words of the table

table_below : (code : Code) (x : ℕ) → is_taken Bltu x table_start ≡ true → is_in_table code x ≡ false
unfolding is_taken
table_below code x h = grind arith

table_above : (code : Code) (x m : ℕ) → m ≡ 536870904 + 8 * length code.table → is_taken Bltu m x ≡ true → is_in_table code x ≡ false
unfolding is_taken
table_above code x m s h =
    let a : m < x = grind arith in
    false_from_ne_true (is_in_table code x) (λ t. beyond code x (omega arith) t)
  where
    beyond : (code : Code) (x : ℕ) → 536870904 + 8 * length code.table < x → is_in_table code x ≡ true → ⊥
    beyond code x past t =
        let high : x < table_start + 8 * length code.table = grind arith in
        let even : x % 8 ≡ 0 = grind arith in
        omega arith

table_odd : (code : Code) (x m : ℕ) → m ≡ x % 8 → is_taken Bne m 0 ≡ true → is_in_table code x ≡ false
unfolding is_taken
table_odd code x m s h = grind arith

table_there : (code : Code) (x m j : ℕ) → m ≡ 536870904 + 8 * length code.table → j ≡ x % 8 → is_taken Bltu x table_start ≡ false → is_taken Bltu m x ≡ false → is_taken Bne j 0 ≡ false → is_in_table code x ≡ true
unfolding is_taken
table_there code x m j s t below above odd =
    let a : x ≤ 536870904 + 8 * length code.table = grind arith in
    let b : x < table_start + 8 * length code.table = omega arith in
    let c : table_start ≤ x = grind arith in
    let d : x % 8 ≡ 0 = grind arith in
    grind arith

look_led : (code : Code) (rest : List Micro) (r s : Register) (e : Data) (h : Scratch) → length code.table ≤ 1048576 → AreLed code rest (Look r s) e h
look_led code rest r s e h few =
    let P : Did → Type 0 = λ d. led_by code rest d ≡ does code (Look r s) rest e in
    let x : ℕ = get e.named s in
    let v : ℕ = 536870904 + 8 * length code.table in
    let m : ℕ = imm_value Addi (upper_value (upper_part v)) (cast_unsigned w64 (lower_part v)) in
    let j : ℕ = imm_value Andi x (cast_unsigned w64 (pos 7)) in
    let m_is : m ≡ v = parts_are v (omega arith) in
    let j_is : j ≡ x % 8 = low_three x in
    reached_either P (is_taken Bltu x table_start) _ _ (λ b1. hangs_here _ _ e (table_below code x b1)) (λ b1.
    reached_either P (is_taken Bltu m x) _ _ (λ b2. hangs_here _ _ e (table_above code x m m_is b2)) (λ b2.
    reached_either P (is_taken Bne j 0) _ _ (λ b3. hangs_here _ _ e (table_odd code x j j_is b3)) (λ b3.
    looked_here code rest _ _ e (table_there code x m j m_is j_is b1 b2 b3))))

-- ---- room

room_lacks : (e : Data) (k m : ℕ) → m ≡ limit e - 8 * k → k ≤ 4096 → is_taken Bltu m e.named.top ≡ true → nat_le (e.named.top + 8 * k) (limit e) ≡ false
unfolding is_taken
room_lacks e k m s fits h =
    let a : m < e.named.top = grind arith in
    let b : limit e < e.named.top + 8 * k = omega arith in
    grind arith

room_there : (e : Data) (k m : ℕ) → m ≡ limit e - 8 * k → k ≤ 4096 → is_taken Bltu m e.named.top ≡ false → nat_le (e.named.top + 8 * k) (limit e) ≡ true
unfolding is_taken
room_there e k m s fits h =
    let a : e.named.top ≤ m = grind arith in
    let b : e.named.top + 8 * k ≤ limit e = omega arith in
    grind arith

less_is : (e : Data) (k m : ℕ) → m ≡ 8 * k → k ≤ 4096 → length e.words ≤ 2 ^ 27 → reg_value Sub (limit e) m ≡ limit e - 8 * k
unfolding reg_value
less_is e k m s fits few = omega arith

room_by : (code : Code) (rest : List Micro) (k label : ℕ) (e : Data) (h : Scratch) (t : Bool) → k ≤ 4096 → nat_lt label (length code.blocks) ≡ true → length e.words ≤ 2 ^ 27
    → led_by code rest (lines_do code (if t then Num Addi X31 X3 (minus (8 * k)) ∷ [] else number_lines X31 (8 * k) (Op Sub X31 X3 (R X31) ∷ [])) (last_of (Room k label)) (view e h)) ≡ does code (Room k label) rest e
room_by code rest k label e h true fits within few =
    let m : ℕ = imm_value Addi (limit e) (cast_unsigned w64 (minus (8 * k))) in
    let m_is : m ≡ limit e - 8 * k = minus_is (limit e) (8 * k) (omega arith) (omega arith) in
    room_led code rest label e (is_taken Bltu m e.named.top) (nat_le (e.named.top + 8 * k) (limit e)) within (room_lacks e k m m_is fits) (room_there e k m m_is fits)
room_by code rest k label e h false fits within few =
    let v : ℕ = imm_value Addi (upper_value (upper_part (8 * k))) (cast_unsigned w64 (lower_part (8 * k))) in
    let m : ℕ = reg_value Sub (limit e) v in
    let m_is : m ≡ limit e - 8 * k = less_is e k v (parts_are (8 * k) (omega arith)) fits few in
    room_led code rest label e (is_taken Bltu m e.named.top) (nat_le (e.named.top + 8 * k) (limit e)) within (room_lacks e k m m_is fits) (room_there e k m m_is fits)

-- ---- entries

entry_past : (x count m v : ℕ) → m ≡ x / 8 * 8 → v ≡ 8 * count → is_taken Bgeu m v ≡ true → nat_lt (x / 8) count ≡ false
unfolding is_taken
entry_past x count m v s t h =
    let a : v ≤ m = grind arith in
    let b : count ≤ x / 8 = omega arith in
    grind arith

entry_below : (x count m v : ℕ) → m ≡ x / 8 * 8 → v ≡ 8 * count → is_taken Bgeu m v ≡ false → x / 8 < count
unfolding is_taken
entry_below x count m v s t h = let a : m < v = grind arith in omega arith

entry_place : (x count m : ℕ) → m ≡ x / 8 * 8 → x / 8 < count → count ≤ 2097152 → displaced (reg_value Add m (upper_value 16)) (pos 0) / 2 * 2 ≡ code_start + 8 * (x / 8)
unfolding reg_value
entry_place x count m s h few = omega arith

entry_there : (code : Code) (address k : ℕ) → address ≡ code_start + 8 * k → k < length code.entries → is_entry code address ≡ true
entry_there code address k s h =
    let number : entry_number address ≡ k = omega arith in
    let low : code_start ≤ address = omega arith in
    let even : address % 8 ≡ 0 = omega arith in
    grind arith

enter_led : (code : Code) (rest : List Micro) (r : Register) (e : Data) (h : Scratch) → is_disciplined code ≡ true → get e.named r < 2 ^ 64 → length code.entries ≤ 2097152 → AreLed code rest (Enter r) e h
enter_led code rest r e h disciplined small few =
    let P : Did → Type 0 = λ d. led_by code rest d ≡ does code (Enter r) rest e in
    let x : ℕ = get e.named r in
    let k : ℕ = x / 8 in
    let count : ℕ = length code.entries in
    let m : ℕ = imm_value Andi x (cast_unsigned w64 (negsuc 7)) in
    let v : ℕ = imm_value Addi (upper_value (upper_part (8 * count))) (cast_unsigned w64 (lower_part (8 * count))) in
    let m_is : m ≡ x / 8 * 8 = all_but_three x small in
    let v_is : v ≡ 8 * count = parts_are (8 * count) (omega arith) in
    reached_either P (is_taken Bgeu m v) _ _ (λ b. hangs_here _ _ e (entry_past x count m v m_is v_is b)) (λ b.
    let below : k < count = entry_below x count m v m_is v_is b in
    let address : ℕ = displaced (reg_value Add m (upper_value 16)) (pos 0) / 2 * 2 in
    let place : address ≡ code_start + 8 * k = entry_place x count m m_is below few in
    let number : entry_number address ≡ k = omega arith in
    let label : ℕ = slice_index code.entries k in
    let within : label < length code.blocks = entry_within code k disciplined below in
    entry_led code rest (is_entry code address) (slice_index code.entries (entry_number address)) label e (entry_there code address k place below) (ap (slice_index code.entries) number) (below_is label (length code.blocks) within)
    ∙ goes_here (nat_lt k count) (block code label) (hangs e) e (below_is k count below))

-- ---- services

put_led : (code : Code) (rest : List Micro) (r : Register) (e : Data) (h : Scratch) → get e.named r < 2 ^ 64 → AreLed code rest (Put r) e h
put_led code rest r e h small =
    rw (literal_is 1 (lit< tt)) (ap (λ x. onward rest (record e { output = e.output ++ (x % 256) ∷ [] })) (copy_is (get e.named r) small))

take_led : (code : Code) (rest : List Micro) (r : Register) (e : Data) (h : Scratch) → All (λ byte. byte < 256) e.input → AreLed code rest (Take r) e h
take_led code rest r e h bytes =
    rw (literal_is 2 (lit< tt)) (ap (λ x. onward rest (record e { input = drop 1 e.input; named = set e.named r x })) (copy_is (taken_in (slice_get e.input 0)) (taken_below e.input bytes)))

end_led : (code : Code) (rest : List Micro) (e : Data) (h : Scratch) → AreLed code rest End e h
end_led code rest e h = rw (literal_is 0 (lit< tt)) refl

exhaust_led : (code : Code) (rest : List Micro) (e : Data) (h : Scratch) → AreLed code rest Exhaust e h
exhaust_led code rest e h = rw (literal_is 4 (lit< tt)) refl

fault_by : (code : Code) (rest : List Micro) (o : Option Place) (kind : FaultKind) (e : Data) → led_by code rest (faulted_by o (kind_number kind) e) ≡ faulted o kind e
fault_by code rest None kind e = refl
fault_by code rest (Some place) fault.Overflow e = refl
fault_by code rest (Some place) fault.Zero e = refl
fault_by code rest (Some place) fault.Range e = refl

kind_below : (kind : FaultKind) → kind_number kind < 2 ^ 64
kind_below fault.Overflow = lit< tt
kind_below fault.Zero = lit< tt
kind_below fault.Range = lit< tt

fault_led : (code : Code) (rest : List Micro) (kind : FaultKind) (place : ℕ) (e : Data) (h : Scratch) → place < 524288 → AreLed code rest (Fault kind place) e h
fault_led code rest kind place e h small =
    rw (literal_is 3 (lit< tt), literal_is (kind_number kind) (kind_below kind), parts_are place (omega arith)) (fault_by code rest (slice_get code.places place) kind e)

-- ---- any micro-operation

-- what the numbers of code and its data keep
pub record IsSmall (code : Code) (e : Data) : Type 0 where
  pub sound : IsSound e
  pub entries : length code.entries ≤ 2097152
  pub table : length code.table ≤ 1048576
  pub places : length code.places ≤ 524288

pub are_led : (code : Code) (rest : List Micro) (m : Micro) (e : Data) (h : Scratch) (windows : Named) → is_disciplined code ≡ true → has_needs (bounds_of code) m windows ≡ true → IsSmall code e → AreLed code rest m e h
are_led code rest (Set r v) e h windows disciplined needs s =
    let small : v < 2 ^ 64 = grind arith in
    ap (λ x. onward rest (record e { named = set e.named r x })) (constant_is v small)
are_led code rest (Imm op r q imm) e h windows disciplined needs s = refl
are_led code rest (Shift op r q amount) e h windows disciplined needs s = refl
are_led code rest (Alu op r q t) e h windows disciplined needs s = refl
are_led code rest (Window r k) e h windows disciplined needs s =
    let outer = and_parts (not (is_zero r)) (nat_le 1 k && nat_le k 4096) needs in
    let inner = and_parts (nat_le 1 k) (nat_le k 4096) outer.1 in
    let second : nat_le k 4096 ≡ true = inner.1 in
    window_led (nat_le k 255) code rest r k e h refl (s.sound.named r) (grind arith) s.sound.size
are_led code rest (Get r q k) e h windows disciplined needs s = said_either code rest (has_window e (get e.named q) (k + 1)) _
are_led code rest (Save q k r) e h windows disciplined needs s = said_both code rest (has_window e (get e.named q) (k + 1)) _ _ (below_is (get e.named r) (2 ^ 64) (s.sound.named r))
are_led code rest (Look r q) e h windows disciplined needs s = look_led code rest r q e h s.table
are_led code rest (Room k label) e h windows disciplined needs s =
    let both = and_parts (nat_le k 4096) (nat_lt label (length code.blocks)) needs in
    let first : nat_le k 4096 ≡ true = both.0 in
    room_by code rest k label e h (nat_le k 255) (grind arith) both.1 s.sound.size
are_led code rest (Test op r q label) e h windows disciplined needs s = test_led code rest label e (is_taken op (get e.named r) (get e.named q)) needs
are_led code rest (Jump label) e h windows disciplined needs s = label_led code rest label e needs
are_led code rest (Enter r) e h windows disciplined needs s = enter_led code rest r e h disciplined (s.sound.named r) s.entries
are_led code rest (Put r) e h windows disciplined needs s = put_led code rest r e h (s.sound.named r)
are_led code rest (Take r) e h windows disciplined needs s = take_led code rest r e h s.sound.input
are_led code rest End e h windows disciplined needs s = end_led code rest e h
are_led code rest Exhaust e h windows disciplined needs s = exhaust_led code rest e h
are_led code rest (Fault kind place) e h windows disciplined needs s =
    let within : nat_lt place (length code.places) ≡ true = needs in
    let below : place < length code.places = grind arith in
    let few = s.places in
    fault_led code rest kind place e h (omega arith)
