-- A write at the beginning of what lies from a place on, as code writes it.
use Rattle.std.proofs.Common.{◌≡◌, ℕ, ◌+◌, ◌-◌, ◌≤◌, List, [], ◌++◌, length, take, drop, drop-drop, ◌∙◌, ap, arith}
use Rattle.std.proofs.lemmas.List.{append-nil, drop_all, take_all, length-drop}
use Rattle.rv_insn.specs.Memory.{overwritten}

-- `&mut stack[place..]` after its first bytes were written, back in its place
pub written : (stack bytes part : List ℕ) (place : ℕ) → place + length bytes ≤ length stack
    → part ≡ bytes ++ drop (length bytes) (take (length stack - place) (drop place stack))
    → take place stack ++ (part ++ drop (length stack - place) (drop place stack)) ≡ overwritten place bytes stack
written stack bytes part place h e =
    let rest : List ℕ = drop place stack in
    let count : ℕ = length stack - place in
    let whole : take count rest ≡ rest = take_all count rest (omega (arith, length-drop place stack)) in
    let none : drop count rest ≡ [] = drop_all count rest (omega (arith, length-drop place stack)) in
    let is : part ≡ bytes ++ drop (place + length bytes) stack =
    e ∙ ap (λ r. bytes ++ drop (length bytes) r) whole ∙ ap (λ r. bytes ++ r) (drop-drop (length bytes) place stack) in
    ap (λ r. take place stack ++ (part ++ r)) none ∙ ap (λ r. take place stack ++ r) (append-nil part ∙ is)
