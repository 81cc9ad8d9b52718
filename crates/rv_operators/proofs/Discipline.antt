-- The operators' blocks as code.
use Rattle.std.proofs.Common.{◌≡◌, ℕ, ◌+◌, true, nat_lt, List, [], ◌++◌, slice_index_or, refl, sym, ap, ◌∙◌, arith, lt-ltb, lit≤, get_or-append-add}
use Rattle.std.proofs.lemmas.List.{get_or_append_left}
use Rattle.rv_word.specs.declared.micros.Micro.{Micro}
use Rattle.rv_operators.specs.Operators.{operator_blocks}
use Rattle.rv_operators.specs.Laws.{OperatorsAreDisciplined, OperatorsAreFew, OperatorsAreHeld, OperatorsReadNoTable}

pub disciplined : OperatorsAreDisciplined
disciplined b first meet within below =
    let next : nat_lt first b.blocks ≡ true = lt-ltb first b.blocks (omega arith) in
    let after : nat_lt (first + 1) b.blocks ≡ true = lt-ltb (first + 1) b.blocks (omega arith) in
    let second : nat_lt (first + 10) b.blocks ≡ true = lt-ltb (first + 10) b.blocks (omega arith) in
    let end : nat_lt meet b.blocks ≡ true = lt-ltb meet b.blocks below in
    simp (next, after, second, end)

pub few : OperatorsAreFew
few first meet = record { count = refl; words = lit≤ tt }

pub table_free : OperatorsReadNoTable
table_free entries table_words first meet = refl

pub held_there : OperatorsAreHeld
held_there code before others first meet place are fits =
    record {
      blocks = λ k lt.
          ap (λ (blocks : List (List Micro)). slice_index_or blocks (first + k) []) are
          ∙ ap (λ (n : ℕ). slice_index_or (before ++ (operator_blocks first meet ++ others)) (n + k) []) (sym place)
          ∙ get_or-append-add before (operator_blocks first meet ++ others) k []
          ∙ get_or_append_left (operator_blocks first meet) others [] k lt;
      entries = fits;
    }
