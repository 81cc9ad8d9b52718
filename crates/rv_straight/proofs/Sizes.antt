-- How many instructions straight code takes, and how many words with its faults.
use Rattle.std.proofs.Common.{◌≡◌, ℕ, zero, suc, ◌+◌, ◌-◌, ◌*◌, ◌^◌, ◌≤◌, nat_lt, nat_le, List, [], ◌∷◌, ◌++◌, length, arith, length-append}
use Rattle.std.specs.Prelude.{if◌then◌else◌}
use Rattle.std.proofs.lemmas.Bool.{cond_both}
use Rattle.fy_base.specs.declared.data.UnOp.{UnOp}
use Rattle.fy_base.specs.declared.data.UnOp.TheVariants.{Neg, Not, Ord, Chr}
use Rattle.fy_base.specs.declared.data.BinOp.{BinOp}
use Rattle.fy_base.specs.declared.data.BinOp.TheVariants.{Add, Sub, Mul, Div, Rem, Eq, Ne, Lt, Le, Gt, Ge, And, Or}
use Rattle.pe_code.specs.declared.code.StraightPart.{StraightPart}
use Rattle.pe_code.specs.declared.code.StraightPart.TheVariants as part
use Rattle.pe_frame.specs.Frames.{display_start}
use Rattle.rv_word.specs.declared.micros.Register.{Register}
use Rattle.rv_word.specs.declared.micros.Register.TheVariants.{Frame}
use Rattle.rv_word.specs.declared.micros.Micro.{Micro}
use Rattle.rv_word.specs.declared.micros.Micro.TheVariants.{Window, Get}
use Rattle.rv_word.specs.Costs.{set_cost, window_cost, block_cost, block_words}
use Rattle.rv_flow.specs.Laws.{blocks_words}
use Rattle.rv_operators.specs.Operators.{word_of}
use Rattle.rv_straight.specs.Straight.{behind, word_of_frame, reach_in, cell_code, unary_code, binary_code, slot, part_code, height_behind, kinds_of, straight_code, part_blocks, fault_blocks}
use Rattle.rv_straight.specs.Laws.{StraightCodeIsShort}

set_few : (v : ℕ) → set_cost v ≤ 8
set_few v =
    cond_both (nat_lt v (2 ^ 11)) 1 (if nat_lt v (2 ^ 31) then 2 else 8) (λ n. n ≤ 8) (λ e. omega arith)
    (λ e. cond_both (nat_lt v (2 ^ 31)) 2 8 (λ n. n ≤ 8) (λ q. omega arith) (λ q. omega arith))

window_few : (k : ℕ) → window_cost k ≤ 8
window_few k = cond_both (nat_le k 255) 5 8 (λ n. n ≤ 8) (λ e. omega arith) (λ e. omega arith)

-- ---- one part behind another

cost_joined : (xs ys : List Micro) → block_cost (xs ++ ys) ≡ block_cost xs + block_cost ys
cost_joined [] ys = omega arith
cost_joined (x ∷ xs) ys = let rest = cost_joined xs ys in omega arith

words_joined : (xs ys : List Micro) → block_words (xs ++ ys) ≡ block_words xs + block_words ys
words_joined [] ys = omega arith
words_joined (x ∷ xs) ys = let rest = words_joined xs ys in omega arith

blocks_joined : (xs ys : List (List Micro)) → blocks_words (xs ++ ys) ≡ blocks_words xs + blocks_words ys
blocks_joined [] ys = omega arith
blocks_joined (x ∷ xs) ys = let rest = blocks_joined xs ys in omega arith

-- ---- a part

pub record TakesFew (most : ℕ) (ms : List Micro) : Type 0 where
  pub cost : block_cost ms ≤ most
  pub words : block_words ms ≤ most

frame_few : (r : Register) (word : ℕ) → TakesFew 3 (word_of_frame r word)
frame_few r word =
    cond_both (nat_lt word 256) (Get r Frame word ∷ [])
    (if nat_lt word 510 then behind r Frame 255 ∷ Get r r (word - 255) ∷ [] else behind r Frame 255 ∷ behind r r 255 ∷ Get r r (word - 510) ∷ [])
    (TakesFew 3)
    (λ e. record { cost = omega arith; words = omega arith })
    (λ e. cond_both (nat_lt word 510) (behind r Frame 255 ∷ Get r r (word - 255) ∷ []) (behind r Frame 255 ∷ behind r r 255 ∷ Get r r (word - 510) ∷ [])
    (TakesFew 3)
    (λ q. record { cost = omega arith; words = omega arith })
    (λ q. record { cost = omega arith; words = omega arith }))

pub reach_few : (r : Register) (k : ℕ) → TakesFew 11 (reach_in r k)
reach_few r zero = record { cost = omega arith; words = omega arith }
reach_few r (suc k) =
    let window = window_few (display_start + suc k) in
    let frame = frame_few r (display_start + k) in
    let cost = frame.cost in
    let words = frame.words in
    record { cost = omega arith; words = omega arith }

cell_few : (r : Register) (k : ℕ) → TakesFew 18 (cell_code r k)
cell_few r zero = record { cost = omega arith; words = omega arith }
cell_few r (suc k) =
    let window = window_few (display_start + suc k) in
    let frame = frame_few r (display_start + k) in
    let first = frame.cost in
    let second = frame.words in
    let cost = cost_joined (word_of_frame r (display_start + k)) (Window r 3 ∷ Get r r 2 ∷ []) in
    let words = words_joined (word_of_frame r (display_start + k)) (Window r 3 ∷ Get r r 2 ∷ []) in
    record { cost = omega arith; words = omega arith }

-- with its faults
pub record IsFew (s : StraightPart) (ms : List Micro) : Type 0 where
  pub cost : block_cost ms ≤ 18
  pub words : block_words ms + blocks_words (part_blocks s) ≤ 23
  pub faults : length (part_blocks s) ≤ 2

unary_few : (op : UnOp) (a : ℕ) (r : Register) (label : ℕ) → IsFew (part.Unary op a) (unary_code op r label)
unary_few Neg a r label = record { cost = omega arith; words = omega arith; faults = omega arith }
unary_few Not a r label = record { cost = omega arith; words = omega arith; faults = omega arith }
unary_few Ord a r label = record { cost = omega arith; words = omega arith; faults = omega arith }
unary_few Chr a r label = record { cost = omega arith; words = omega arith; faults = omega arith }

binary_few : (op : BinOp) (a : ℕ) (x y : Register) (label : ℕ) → IsFew (part.Binary op a) (binary_code op x y label)
binary_few Add a x y label = record { cost = omega arith; words = omega arith; faults = omega arith }
binary_few Sub a x y label = record { cost = omega arith; words = omega arith; faults = omega arith }
binary_few Mul a x y label = record { cost = omega arith; words = omega arith; faults = omega arith }
binary_few Div a x y label = record { cost = omega arith; words = omega arith; faults = omega arith }
binary_few Rem a x y label = record { cost = omega arith; words = omega arith; faults = omega arith }
binary_few Eq a x y label = record { cost = omega arith; words = omega arith; faults = omega arith }
binary_few Ne a x y label = record { cost = omega arith; words = omega arith; faults = omega arith }
binary_few Lt a x y label = record { cost = omega arith; words = omega arith; faults = omega arith }
binary_few Le a x y label = record { cost = omega arith; words = omega arith; faults = omega arith }
binary_few Gt a x y label = record { cost = omega arith; words = omega arith; faults = omega arith }
binary_few Ge a x y label = record { cost = omega arith; words = omega arith; faults = omega arith }
binary_few And a x y label = record { cost = omega arith; words = omega arith; faults = omega arith }
binary_few Or a x y label = record { cost = omega arith; words = omega arith; faults = omega arith }

-- nothing in place of operations
none_few : (s : StraightPart) (ms : List Micro) → IsFew s ms → IsFew s []
none_few s ms h = let words = h.words in record { cost = omega arith; words = omega arith; faults = h.faults }

part_few : (s : StraightPart) (n label : ℕ) → IsFew s (part_code s n label)
part_few (part.Literal v) n label = let few = set_few (word_of v) in record { cost = omega arith; words = omega arith; faults = omega arith }
part_few (part.Cell k) n label =
    let few = cell_few (slot n) k in
    let cost = few.cost in
    let words = few.words in
    record { cost = omega arith; words = omega arith; faults = omega arith }
part_few (part.Unary op a) zero label = none_few (part.Unary op a) (unary_code op (slot 0) label) (unary_few op a (slot 0) label)
part_few (part.Unary op a) (suc n) label = unary_few op a (slot n) label
part_few (part.Binary op a) zero label = none_few (part.Binary op a) (binary_code op (slot 0) (slot 1) label) (binary_few op a (slot 0) (slot 1) label)
part_few (part.Binary op a) (suc zero) label = none_few (part.Binary op a) (binary_code op (slot 0) (slot 1) label) (binary_few op a (slot 0) (slot 1) label)
part_few (part.Binary op a) (suc (suc n)) label = binary_few op a (slot n) (slot (suc n)) label

-- ---- all parts

pub code_cost : (ss : List StraightPart) (n label : ℕ) → block_cost (straight_code ss n label) ≤ 18 * length ss
code_cost [] n label = omega arith
code_cost (s ∷ ss) n label =
    let here = (part_few s n label).cost in
    let rest = code_cost ss (height_behind s n) (label + length (kinds_of s)) in
    let all = cost_joined (part_code s n label) (straight_code ss (height_behind s n) (label + length (kinds_of s))) in
    omega arith

code_words : (ss : List StraightPart) (n label : ℕ) → block_words (straight_code ss n label) + blocks_words (fault_blocks ss) ≤ 23 * length ss
code_words [] n label = omega arith
code_words (s ∷ ss) n label =
    let here = (part_few s n label).words in
    let rest = code_words ss (height_behind s n) (label + length (kinds_of s)) in
    let code = words_joined (part_code s n label) (straight_code ss (height_behind s n) (label + length (kinds_of s))) in
    let faults = blocks_joined (part_blocks s) (fault_blocks ss) in
    omega arith

pub faults_few : (ss : List StraightPart) → length (fault_blocks ss) ≤ 2 * length ss
faults_few [] = omega arith
faults_few (s ∷ ss) =
    let here = (part_few s 0 0).faults in
    let rest = faults_few ss in
    let all = length-append (part_blocks s) (fault_blocks ss) in
    omega arith

pub short : StraightCodeIsShort
short ss label = record { words = code_words ss 0 label; faults = faults_few ss }
