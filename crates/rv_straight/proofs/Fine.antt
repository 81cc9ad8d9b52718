-- Straight code and its faults are disciplined, and what it reads is near.
use Rattle.std.proofs.Common.{◌≡◌, ℕ, zero, suc, ◌+◌, ◌-◌, ◌^◌, ◌<◌, ◌≤◌, Bool, true, false, ◌&&◌, nat_lt, nat_le, List, [], ◌∷◌, ◌++◌, length, map, refl, ap, ◌∙◌, arith, lt-ltb, length-append}
use Rattle.std.specs.Prelude.{if◌then◌else◌, All}
use Rattle.std.specs.List.{list_all}
use Rattle.std.proofs.lemmas.Bool.{and_from, and_parts, cond_both, le-leb, ltb-true, ltb-false}
use Rattle.std.proofs.lemmas.List.{length-map}
use Rattle.std.proofs.lemmas.List.Folds.{list_all-append}
use Rattle.std.proofs.lemmas.List.Elements.{All-head, All-tail}
use Rattle.fy_base.specs.declared.data.Datum.{Datum}
use Rattle.fy_base.specs.declared.data.Datum.TheVariants as datum
use Rattle.fy_base.specs.declared.data.UnOp.{UnOp}
use Rattle.fy_base.specs.declared.data.UnOp.TheVariants.{Neg, Not, Ord, Chr}
use Rattle.fy_base.specs.declared.data.BinOp.{BinOp}
use Rattle.fy_base.specs.declared.data.BinOp.TheVariants.{Add, Sub, Mul, Div, Rem, Eq, Ne, Lt, Le, Gt, Ge, And, Or}
use Rattle.fy_base.specs.declared.data.FaultKind.{FaultKind}
use Rattle.pe_code.specs.declared.code.StraightPart.{StraightPart}
use Rattle.pe_code.specs.declared.code.StraightPart.TheVariants as part
use Rattle.pe_frame.specs.Frames.{display_start}
use Rattle.rv_word.specs.declared.micros.Register.{Register}
use Rattle.rv_word.specs.declared.micros.Register.TheVariants.{Frame}
use Rattle.rv_word.specs.declared.micros.Micro.{Micro}
use Rattle.rv_word.specs.declared.micros.Micro.TheVariants.{Window, Get, Fault}
use Rattle.rv_word.specs.Word.{Named, get, set, zeros}
use Rattle.rv_word.specs.Discipline.{Bounds, has_needs, windows_behind, is_disciplined_from, are_disciplined}
use Rattle.rv_flow.specs.Emission.{is_near, are_near}
use Rattle.rv_operators.specs.Operators.{word_of}
use Rattle.rv_operators.specs.Laws.{IsDatum}
use Rattle.rv_operators.proofs.Numbers.{word_below}
use Rattle.rv_straight.specs.Straight.{behind, word_of_frame, reach_in, cell_code, unary_code, binary_code, slot, part_code, height_behind, unary_kinds, binary_kinds, kinds_of, straight_code, blocks_for, part_blocks, fault_blocks}
use Rattle.rv_straight.specs.Laws.{IsNear, IsFine, StraightCodeIsDisciplined, FaultsAreDisciplined}
use Rattle.rv_straight.proofs.Registers.{read_same}
use Rattle.rv_straight.proofs.Works.{part_length}

-- ---- operations that end no block have what they need

abbrev pub have_needs : Bounds → Named → List Micro → Bool
have_needs b windows [] = true
have_needs b windows (m ∷ rest) = has_needs b m windows && have_needs b (windows_behind m windows) rest

-- behind them a part is so whatever windows there are
pub chained : (b : Bounds) (windows : Named) (ms : List Micro) (n : Micro) (rest : List Micro) → have_needs b windows ms ≡ true
    → ((v : Named) → is_disciplined_from b v (n ∷ rest) ≡ true) → is_disciplined_from b windows (ms ++ (n ∷ rest)) ≡ true
chained b windows [] n rest h go = go windows
chained b windows (m ∷ []) n rest h go =
    and_from (has_needs b m windows) (is_disciplined_from b (windows_behind m windows) (n ∷ rest)) (and_parts (has_needs b m windows) true h).0 (go (windows_behind m windows))
chained b windows (m ∷ p ∷ ms) n rest h go =
    let parts = and_parts (has_needs b m windows) (have_needs b (windows_behind m windows) (p ∷ ms)) h in
    and_from (has_needs b m windows) (is_disciplined_from b (windows_behind m windows) (p ∷ (ms ++ (n ∷ rest)))) parts.0
    (chained b (windows_behind m windows) (p ∷ ms) n rest parts.1 go)

pub needs_more : (b : Bounds) (windows : Named) (xs ys : List Micro) → have_needs b windows xs ≡ true → ((v : Named) → have_needs b v ys ≡ true) → have_needs b windows (xs ++ ys) ≡ true
needs_more b windows [] ys h go = go windows
needs_more b windows (m ∷ xs) ys h go =
    let parts = and_parts (has_needs b m windows) (have_needs b (windows_behind m windows) xs) h in
    and_from (has_needs b m windows) (have_needs b (windows_behind m windows) (xs ++ ys)) parts.0 (needs_more b (windows_behind m windows) xs ys parts.1 go)

pub joined : (b : Bounds) (xs ys : List (List Micro)) → are_disciplined b xs ≡ true → are_disciplined b ys ≡ true → are_disciplined b (xs ++ ys) ≡ true
joined b [] ys h k = k
joined b (x ∷ xs) ys h k =
    let parts = and_parts (is_disciplined_from b zeros x) (are_disciplined b xs) h in
    and_from (is_disciplined_from b zeros x) (are_disciplined b (xs ++ ys)) parts.0 (joined b xs ys parts.1 k)

-- ---- frames and cells

-- a word is read under a window of so many, of which there are k more
read_fits : (word k : ℕ) → word < k → word < 256 → (nat_lt word k && nat_lt word 256) && true ≡ true
read_fits word k lt near = and_from (nat_lt word k && nat_lt word 256) true (and_from (nat_lt word k) (nat_lt word 256) (lt-ltb word k lt) (lt-ltb word 256 near)) refl

-- under a window of the frame in use
frame_needs : (b : Bounds) (n word size : ℕ) (w : Named) → word < size → word < 765 → have_needs b (set w Frame size) (word_of_frame (slot n) word) ≡ true
frame_needs b n word size w lt most =
    cond_both (nat_lt word 256) (Get (slot n) Frame word ∷ [])
    (if nat_lt word 510 then behind (slot n) Frame 255 ∷ Get (slot n) (slot n) (word - 255) ∷ []
    else behind (slot n) Frame 255 ∷ behind (slot n) (slot n) 255 ∷ Get (slot n) (slot n) (word - 510) ∷ [])
    (λ (ms : List Micro). have_needs b (set w Frame size) ms ≡ true)
    (λ near. read_fits word size lt (ltb-true word 256 near))
    (λ past. cond_both (nat_lt word 510) (behind (slot n) Frame 255 ∷ Get (slot n) (slot n) (word - 255) ∷ [])
    (behind (slot n) Frame 255 ∷ behind (slot n) (slot n) 255 ∷ Get (slot n) (slot n) (word - 510) ∷ [])
    (λ (ms : List Micro). have_needs b (set w Frame size) ms ≡ true)
    (λ near. once (ltb-false word 256 past) (ltb-true word 510 near))
    (λ far. twice (ltb-false word 510 far)))
  where
    once : 256 ≤ word → word < 510 → have_needs b (set w Frame size) (behind (slot n) Frame 255 ∷ Get (slot n) (slot n) (word - 255) ∷ []) ≡ true
    once past near =
        let under : get (set (set w Frame size) (slot n) (size - 255)) (slot n) ≡ size - 255 = read_same n (set w Frame size) (size - 255) in
        ap (λ (k : ℕ). (nat_lt (word - 255) k && nat_lt (word - 255) 256) && true) under
        ∙ read_fits (word - 255) (size - 255) (omega arith) (omega arith)

    twice : 510 ≤ word → have_needs b (set w Frame size) (behind (slot n) Frame 255 ∷ behind (slot n) (slot n) 255 ∷ Get (slot n) (slot n) (word - 510) ∷ []) ≡ true
    twice past =
        let w1 = set (set w Frame size) (slot n) (size - 255) in
        let first : get w1 (slot n) ≡ size - 255 = read_same n (set w Frame size) (size - 255) in
        let under : get (set w1 (slot n) (get w1 (slot n) - 255)) (slot n) ≡ size - 255 - 255 = read_same n w1 (get w1 (slot n) - 255) ∙ ap (λ (k : ℕ). k - 255) first in
        ap (λ (k : ℕ). (nat_lt (word - 510) k && nat_lt (word - 510) 256) && true) under
        ∙ read_fits (word - 510) (size - 255 - 255) (omega arith) (omega arith)

pub reach_needs : (b : Bounds) (n k : ℕ) (w : Named) → k < 512 → have_needs b w (reach_in (slot n) k) ≡ true
reach_needs b n zero w near = refl
reach_needs b n (suc k) w near =
    and_from (has_needs b (Window Frame (display_start + suc k)) w) (have_needs b (set w Frame (display_start + suc k)) (word_of_frame (slot n) (display_start + k)))
    (and_from (nat_le 1 (display_start + suc k)) (nat_le (display_start + suc k) 4096) (le-leb 1 (display_start + suc k) (omega arith)) (le-leb (display_start + suc k) 4096 (omega arith)))
    (frame_needs b n (display_start + k) (display_start + suc k) w (omega arith) (omega arith))

load_needs : (b : Bounds) (n : ℕ) (w : Named) → have_needs b w (Window (slot n) 3 ∷ Get (slot n) (slot n) 2 ∷ []) ≡ true
load_needs b zero w = refl
load_needs b (suc zero) w = refl
load_needs b (suc (suc n)) w = refl

cell_needs : (b : Bounds) (n k : ℕ) (w : Named) → k < 512 → have_needs b w (cell_code (slot n) k) ≡ true
cell_needs b n zero w near = refl
cell_needs b n (suc k) w near =
    needs_more b w (reach_in (slot n) (suc k)) (Window (slot n) 3 ∷ Get (slot n) (slot n) 2 ∷ []) (reach_needs b n (suc k) w near) (λ v. load_needs b n v)

-- ---- operators

unary_needs : (b : Bounds) (op : UnOp) (r : Register) (label : ℕ) (w : Named) → label + length (unary_kinds op) ≤ b.blocks → have_needs b w (unary_code op r label) ≡ true
unary_needs b Neg r label w fits = let there = lt-ltb label b.blocks (omega arith) in simp (there)
unary_needs b Not r label w fits = refl
unary_needs b Ord r label w fits = refl
unary_needs b Chr r label w fits = let there = lt-ltb label b.blocks (omega arith) in simp (there)

binary_needs : (b : Bounds) (op : BinOp) (x y : Register) (label : ℕ) (w : Named) → label + length (binary_kinds op) ≤ b.blocks → have_needs b w (binary_code op x y label) ≡ true
binary_needs b Add x y label w fits = let there = lt-ltb label b.blocks (omega arith) in simp (there)
binary_needs b Sub x y label w fits = let there = lt-ltb label b.blocks (omega arith) in simp (there)
binary_needs b Mul x y label w fits = let there = lt-ltb label b.blocks (omega arith) in simp (there)
binary_needs b Div x y label w fits =
    let there = lt-ltb label b.blocks (omega arith) in
    let next = lt-ltb (label + 1) b.blocks (omega arith) in
    simp (there, next)
binary_needs b Rem x y label w fits = let there = lt-ltb label b.blocks (omega arith) in simp (there)
binary_needs b Eq x y label w fits = refl
binary_needs b Ne x y label w fits = refl
binary_needs b Lt x y label w fits = refl
binary_needs b Le x y label w fits = refl
binary_needs b Gt x y label w fits = refl
binary_needs b Ge x y label w fits = refl
binary_needs b And x y label w fits = refl
binary_needs b Or x y label w fits = refl

-- ---- parts

word_small : (v : Datum) → IsDatum v → word_of v < 2 ^ 64
word_small (datum.Int z) h = word_below z h
word_small (datum.Bool true) h = omega arith
word_small (datum.Bool false) h = omega arith
word_small (datum.Char c) h = omega arith

part_needs : (b : Bounds) (s : StraightPart) (n label : ℕ) (w : Named) → IsFine b.places s → label + length (kinds_of s) ≤ b.blocks → have_needs b w (part_code s n label) ≡ true
part_needs b (part.Literal v) n label w fine fits = and_from (nat_lt (word_of v) (2 ^ 64)) true (lt-ltb (word_of v) (2 ^ 64) (word_small v fine)) refl
part_needs b (part.Cell k) n label w fine fits = cell_needs b n k w fine
part_needs b (part.Unary op a) zero label w fine fits = refl
part_needs b (part.Unary op a) (suc n) label w fine fits = unary_needs b op (slot n) label w fits
part_needs b (part.Binary op a) zero label w fine fits = refl
part_needs b (part.Binary op a) (suc zero) label w fine fits = refl
part_needs b (part.Binary op a) (suc (suc n)) label w fine fits = binary_needs b op (slot n) (slot (suc n)) label w fits

straight_needs : (b : Bounds) (ss : List StraightPart) (n label : ℕ) (w : Named) → All (λ s. IsFine b.places s) ss → label + length (fault_blocks ss) ≤ b.blocks → have_needs b w (straight_code ss n label) ≡ true
straight_needs b [] n label w fine fits = refl
straight_needs b (s ∷ ss) n label w fine fits =
    let here = part_length s in
    let all = length-append (part_blocks s) (fault_blocks ss) in
    let next = label + length (kinds_of s) in
    needs_more b w (part_code s n label) (straight_code ss (height_behind s n) next)
    (part_needs b s n label w (All-head (λ z. IsFine b.places z) s ss fine) (omega arith))
    (λ v. straight_needs b ss (height_behind s n) next v (All-tail (λ z. IsFine b.places z) s ss fine) (omega arith))

pub disciplined : StraightCodeIsDisciplined
disciplined b windows ss label m rest fine fits go = chained b windows (straight_code ss 0 label) m rest (straight_needs b ss 0 label windows fine fits) go

-- ---- faults

kinds_fine : (b : Bounds) (kinds : List FaultKind) (a : ℕ) → a < b.places → are_disciplined b (blocks_for kinds a) ≡ true
kinds_fine b [] a lt = refl
kinds_fine b (kind ∷ kinds) a lt =
    and_from (is_disciplined_from b zeros (Fault kind a ∷ [])) (are_disciplined b (blocks_for kinds a))
    (and_from (nat_lt a b.places) true (lt-ltb a b.places lt) refl) (kinds_fine b kinds a lt)

part_faults_fine : (b : Bounds) (s : StraightPart) → IsFine b.places s → are_disciplined b (part_blocks s) ≡ true
part_faults_fine b (part.Literal v) fine = refl
part_faults_fine b (part.Cell k) fine = refl
part_faults_fine b (part.Unary op a) fine = kinds_fine b (unary_kinds op) a fine
part_faults_fine b (part.Binary op a) fine = kinds_fine b (binary_kinds op) a fine

pub faults_fine : FaultsAreDisciplined
faults_fine b [] fine = refl
faults_fine b (s ∷ ss) fine =
    joined b (part_blocks s) (fault_blocks ss) (part_faults_fine b s (All-head (λ z. IsFine b.places z) s ss fine)) (faults_fine b ss (All-tail (λ z. IsFine b.places z) s ss fine))

-- ---- what is read is near enough for the offsets of loads

both_near : (xs ys : List Micro) → are_near xs ≡ true → are_near ys ≡ true → are_near (xs ++ ys) ≡ true
both_near xs ys h k = list_all-append is_near xs ys ∙ and_from (are_near xs) (are_near ys) h k

frame_near : (r : Register) (word : ℕ) → word < 765 → are_near (word_of_frame r word) ≡ true
frame_near r word most =
    let twice : List Micro = behind r Frame 255 ∷ behind r r 255 ∷ Get r r (word - 510) ∷ [] in
    let once : List Micro = behind r Frame 255 ∷ Get r r (word - 255) ∷ [] in
    let P : List Micro → Type 0 = λ ms. are_near ms ≡ true in
    cond_both (nat_lt word 256) (Get r Frame word ∷ []) (if nat_lt word 510 then once else twice) P
    (λ near. and_from (nat_lt word 256) true near refl)
    (λ past. cond_both (nat_lt word 510) once twice P
    (λ below. and_from (nat_lt (word - 255) 256) true (lt-ltb (word - 255) 256 (omega (arith, ltb-true word 510 below))) refl)
    (λ above. and_from (nat_lt (word - 510) 256) true (lt-ltb (word - 510) 256 (omega arith)) refl))

pub reach_near : (r : Register) (k : ℕ) → k < 512 → are_near (reach_in r k) ≡ true
reach_near r zero h = refl
reach_near r (suc k) h = frame_near r (display_start + k) (omega arith)

cell_near : (r : Register) (k : ℕ) → k < 512 → are_near (cell_code r k) ≡ true
cell_near r zero h = refl
cell_near r (suc k) h = both_near (reach_in r (suc k)) (Window r 3 ∷ Get r r 2 ∷ []) (reach_near r (suc k) h) refl

unary_near : (op : UnOp) (r : Register) (label : ℕ) → are_near (unary_code op r label) ≡ true
unary_near Neg r label = refl
unary_near Not r label = refl
unary_near Ord r label = refl
unary_near Chr r label = refl

binary_near : (op : BinOp) (x y : Register) (label : ℕ) → are_near (binary_code op x y label) ≡ true
binary_near Add x y label = refl
binary_near Sub x y label = refl
binary_near Mul x y label = refl
binary_near Div x y label = refl
binary_near Rem x y label = refl
binary_near Eq x y label = refl
binary_near Ne x y label = refl
binary_near Lt x y label = refl
binary_near Le x y label = refl
binary_near Gt x y label = refl
binary_near Ge x y label = refl
binary_near And x y label = refl
binary_near Or x y label = refl

part_near : (s : StraightPart) (n label : ℕ) → IsNear s → are_near (part_code s n label) ≡ true
part_near (part.Literal v) n label h = refl
part_near (part.Cell k) n label h = cell_near (slot n) k h
part_near (part.Unary op a) zero label h = refl
part_near (part.Unary op a) (suc n) label h = unary_near op (slot n) label
part_near (part.Binary op a) zero label h = refl
part_near (part.Binary op a) (suc zero) label h = refl
part_near (part.Binary op a) (suc (suc n)) label h = binary_near op (slot n) (slot (suc n)) label

pub straight_near : (ss : List StraightPart) (n label : ℕ) → All IsNear ss → are_near (straight_code ss n label) ≡ true
straight_near [] n label h = refl
straight_near (s ∷ ss) n label h =
    let next = label + length (kinds_of s) in
    both_near (part_code s n label) (straight_code ss (height_behind s n) next) (part_near s n label (All-head IsNear s ss h)) (straight_near ss (height_behind s n) next (All-tail IsNear s ss h))

-- and the blocks of faults read nothing
kinds_near : (kinds : List FaultKind) (a : ℕ) → list_all are_near (blocks_for kinds a) ≡ true
kinds_near [] a = refl
kinds_near (kind ∷ kinds) a = kinds_near kinds a

part_faults_near : (s : StraightPart) → list_all are_near (part_blocks s) ≡ true
part_faults_near (part.Literal v) = refl
part_faults_near (part.Cell k) = refl
part_faults_near (part.Unary op a) = kinds_near (unary_kinds op) a
part_faults_near (part.Binary op a) = kinds_near (binary_kinds op) a

pub faults_near : (ss : List StraightPart) → list_all are_near (fault_blocks ss) ≡ true
faults_near [] = refl
faults_near (s ∷ ss) =
    list_all-append are_near (part_blocks s) (fault_blocks ss) ∙ and_from (list_all are_near (part_blocks s)) (list_all are_near (fault_blocks ss)) (part_faults_near s) (faults_near ss)
