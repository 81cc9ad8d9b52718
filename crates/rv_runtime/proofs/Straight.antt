-- Operations that lead on to the next, and those that end a block.
use Rattle.std.proofs.Common.{◌≡◌, ℕ, suc, ◌+◌, ◌%◌, Bool, true, false, ◌&&◌, if◌then◌else◌, List, [], ◌∷◌, ◌++◌, length, refl, sym, ap, true≢false, arith}
use Rattle.std.specs.Int.{cast_unsigned, w64}
use Rattle.rv_insn.specs.declared.instructions.BranchOp.{BranchOp}
use Rattle.rv_insn.specs.Operations.{reg_value, imm_value, is_taken}
use Rattle.rv_word.specs.declared.micros.Register.{Register}
use Rattle.rv_word.specs.declared.micros.Micro.{Micro}
use Rattle.rv_word.specs.declared.micros.Micro.TheVariants.{Set, Imm, Alu, Test, Jump, Put}
use Rattle.rv_word.specs.Word.{Data, Code, get, set, block, onward, does}
use Rattle.rv_word.specs.Costs.{cost, block_cost}
use Rattle.rv_runtime.proofs.Runs.{Comes, stays, one, join, at}

-- it leads on whatever the data
abbrev pub is_straight : Micro → Bool
is_straight (Set r v) = true
is_straight (Imm op r s imm) = true
is_straight (Alu op r s t) = true
is_straight (Put r) = true
is_straight _ = false

-- what it makes of the data
abbrev pub behind : Micro → Data → Data
behind (Set r v) e = record e { named = set e.named r v }
behind (Imm op r s imm) e = record e { named = set e.named r (imm_value op (get e.named s) (cast_unsigned w64 imm)) }
behind (Alu op r s t) e = record e { named = set e.named r (reg_value op (get e.named s) (get e.named t)) }
behind (Put r) e = record e { output = e.output ++ (get e.named r % 256) ∷ [] }
behind _ e = e

does-straight : (code : Code) (m : Micro) (rest : List Micro) (e : Data) → is_straight m ≡ true → does code m rest e ≡ onward rest (behind m e)
does-straight code (Set r v) rest e h = refl
does-straight code (Imm op r s imm) rest e h = refl
does-straight code (Alu op r s t) rest e h = refl
does-straight code (Put r) rest e h = refl
does-straight code _ rest e h = absurd (true≢false (sym h))

abbrev pub are_straight : List Micro → Bool
are_straight [] = true
are_straight (m ∷ micros) = is_straight m && are_straight micros

abbrev pub behind_all : List Micro → Data → Data
behind_all [] e = e
behind_all (m ∷ micros) e = behind_all micros (behind m e)

-- both tests hold
pub both : (a b : Bool) → (a && b) ≡ true → (a ≡ true) × (b ≡ true)
both true b h = (refl, h)
both false b h = absurd (true≢false (sym h))

pub straight : (code : Code) (micros rest : List Micro) (e : Data) → are_straight micros ≡ true → Comes code (at (micros ++ rest) e) (at rest (behind_all micros e)) (length micros) (block_cost micros)
straight code [] rest e h = stays code (at rest e)
straight code (m ∷ micros) rest e h =
    let part : (is_straight m ≡ true) × (are_straight micros ≡ true) = both (is_straight m) (are_straight micros) h in
    let here : Comes code (at (m ∷ (micros ++ rest)) e) (at (micros ++ rest) (behind m e)) 1 (cost m) = one code (at (m ∷ (micros ++ rest)) e) (at (micros ++ rest) (behind m e)) (does-straight code m (micros ++ rest) e part.0) in
    let there : Comes code (at (micros ++ rest) (behind m e)) (at rest (behind_all micros (behind m e))) (length micros) (block_cost micros) = straight code micros rest (behind m e) part.1 in
    let both_ways : Comes code (at (m ∷ (micros ++ rest)) e) (at rest (behind_all micros (behind m e))) (1 + length micros) (cost m + block_cost micros) = join here there in
    let e1 : 1 + length micros ≡ suc (length micros) = omega arith in
    rw e1 at both_ways

pub jumps : (code : Code) (label : ℕ) (rest : List Micro) (e : Data) → Comes code (at (Jump label ∷ rest) e) (at (block code label) e) 1 2
jumps code label rest e = one code (at (Jump label ∷ rest) e) (at (block code label) e) refl

pub branches : (code : Code) (op : BranchOp) (r s : Register) (label : ℕ) (rest : List Micro) (e : Data) → is_taken op (get e.named r) (get e.named s) ≡ true → Comes code (at (Test op r s label ∷ rest) e) (at (block code label) e) 1 3
branches code op r s label rest e h = one code (at (Test op r s label ∷ rest) e) (at (block code label) e) (ap (λ (b : Bool). onward (if b then block code label else rest) e) h)

pub passes : (code : Code) (op : BranchOp) (r s : Register) (label : ℕ) (rest : List Micro) (e : Data) → is_taken op (get e.named r) (get e.named s) ≡ false → Comes code (at (Test op r s label ∷ rest) e) (at rest e) 1 3
passes code op r s label rest e h = one code (at (Test op r s label ∷ rest) e) (at rest e) (ap (λ (b : Bool). onward (if b then block code label else rest) e) h)
