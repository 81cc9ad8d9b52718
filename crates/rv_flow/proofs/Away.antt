-- The last part of disciplined code leads elsewhere.
use Rattle.std.proofs.Common.{◌≡◌, ℕ, suc, ◌<◌, ◌≤◌, true, nat_lt, List, [], ◌∷◌, ◌++◌, length, arith, refl, sym, inl, inr}
use Rattle.std.proofs.lemmas.Bool.{and_parts, ltb-true, true≢false}
use Rattle.rv_word.specs.declared.micros.Micro.{Micro}
use Rattle.rv_word.specs.declared.micros.Micro.TheVariants.{Jump, Enter, End, Exhaust, Fault}
use Rattle.rv_word.specs.Word.{Named, Code, zeros}
use Rattle.rv_word.specs.Discipline.{Bounds, has_needs, windows_behind, closes, is_disciplined_from, are_disciplined, are_below, bounds_of}
use Rattle.rv_flow.proofs.Parts.{Part, mark, far, parts_of, micros_parts, blocks_parts, entry_parts, parts_in}
use Rattle.rv_flow.proofs.PieceStarts.{LastLeadsAway}

away_append : (xs ys : List Part) → LastLeadsAway ys → LastLeadsAway (xs ++ ys)
away_append [] ys h = h
away_append (x ∷ []) [] h = absurd h
away_append (x ∷ []) (y ∷ ys) h = h
away_append (x ∷ next ∷ xs) ys h = away_append (next ∷ xs) ys h

closing : (entries table_words : ℕ) (m : Micro) → closes m ≡ true → LastLeadsAway (parts_of entries table_words m ++ [])
closing entries table_words (Jump label) h = tt
closing entries table_words (Enter r) h = tt
closing entries table_words End h = inl refl
closing entries table_words Exhaust h = inr refl
closing entries table_words (Fault kind place) h = tt
closing entries table_words m h = absurd (true≢false (sym h))

module _ (b : Bounds) (entries table_words : ℕ) where
  micros_last : (windows : Named) (ms : List Micro) → is_disciplined_from b windows ms ≡ true → LastLeadsAway (micros_parts entries table_words ms [])
  micros_last windows [] h = absurd (true≢false (sym h))
  micros_last windows (m ∷ []) h = closing entries table_words m (and_parts (has_needs b m windows) (closes m) h).1
  micros_last windows (m ∷ next ∷ ms) h =
      away_append (parts_of entries table_words m) (micros_parts entries table_words (next ∷ ms) [])
      (micros_last (windows_behind m windows) (next ∷ ms) (and_parts (has_needs b m windows) (is_disciplined_from b (windows_behind m windows) (next ∷ ms)) h).1)

  micros_on : (ms : List Micro) (rest : List Part) → LastLeadsAway rest → LastLeadsAway (micros_parts entries table_words ms rest)
  micros_on [] rest h = h
  micros_on (m ∷ ms) rest h = away_append (parts_of entries table_words m) (micros_parts entries table_words ms rest) (micros_on ms rest h)

  blocks_away : (label : ℕ) (blocks : List (List Micro)) → 1 ≤ length blocks → are_disciplined b blocks ≡ true → LastLeadsAway (blocks_parts entries table_words label blocks)
  blocks_away label [] some h = absurd (omega arith)
  blocks_away label (ms ∷ []) some h = away_append (mark label ∷ []) (micros_parts entries table_words ms []) (micros_last zeros ms (and_parts (is_disciplined_from b zeros ms) (are_disciplined b []) h).0)
  blocks_away label (ms ∷ next ∷ blocks) some h =
      let rest : List Part = blocks_parts entries table_words (suc label) (next ∷ blocks) in
      away_append (mark label ∷ []) (micros_parts entries table_words ms rest)
      (micros_on ms rest (blocks_away (suc label) (next ∷ blocks) (omega arith) (and_parts (is_disciplined_from b zeros ms) (are_disciplined b (next ∷ blocks)) h).1))

  entries_away : (labels : List ℕ) (rest : List Part) → LastLeadsAway rest → LastLeadsAway (entry_parts labels rest)
  entries_away [] rest h = h
  entries_away (label ∷ labels) rest h = away_append (far label ∷ []) (entry_parts labels rest) (entries_away labels rest h)

-- an entry leads to a block, so there is one
some_block : (n : ℕ) (labels : List ℕ) → 1 ≤ length labels → are_below n labels ≡ true → 1 ≤ n
some_block n [] some h = absurd (omega arith)
some_block n (label ∷ labels) some h = let below : label < n = ltb-true label n (and_parts (nat_lt label n) (are_below n labels) h).0 in omega arith

pub code_away : (code : Code) → are_disciplined (bounds_of code) code.blocks ≡ true → are_below (length code.blocks) code.entries ≡ true → 1 ≤ length code.entries → LastLeadsAway (parts_in code)
code_away code h below some =
    entries_away (bounds_of code) (length code.entries) (length code.table) code.entries (blocks_parts (length code.entries) (length code.table) 0 code.blocks)
    (blocks_away (bounds_of code) (length code.entries) (length code.table) 0 code.blocks (some_block (length code.blocks) code.entries some below) h)
