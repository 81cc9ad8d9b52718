-- A text at its level of the grammar is one at each lower level, and in parentheses one at each level.
use Rattle.std.proofs.Common.{◌≡◌, ℕ, zero, suc, ◌+◌, ◌-◌, ◌≤◌, Bool, true, false, nat_lt, if◌then◌else◌, List, codes, ◌++◌, refl, subst, arith}
use Rattle.std.proofs.lemmas.Bool.Decides.{nat_tests}
use Rattle.fy_base.specs.Outside.{Bytes}
use Rattle.fy_lexer.specs.declared.token.Symbol.TheVariants as symbol
use Rattle.fy_syntax.specs.Signs.{Level}
use Rattle.fy_phrase.specs.Tree as plain
use Rattle.fy_expand.specs.Scope.{Scope}
use Rattle.fy_show.specs.declared.manner.Manner.TheVariants.{Whole}
use Rattle.fy_show.specs.Texts.{Shown, enclosed, is_halved}
use Rattle.fy_again.proofs.PhraseLemmas.{ShowsPhrase, shows_enclosed, to_select, to_apply, to_prefixed, to_product, to_sum, to_relation, to_both, to_either, to_term, to_sequence, to_phrase}
use Rattle.fy_again.proofs.SequenceLemmas.{ShowsMany, leaves}

-- a level by its number
abbrev pub level_at : ℕ → Level
level_at zero = Level.phrase
level_at (suc zero) = Level.phrase
level_at (suc (suc zero)) = Level.sequence
level_at (suc (suc (suc zero))) = Level.term
level_at (suc (suc (suc (suc zero)))) = Level.either
level_at (suc (suc (suc (suc (suc zero))))) = Level.both
level_at (suc (suc (suc (suc (suc (suc zero)))))) = Level.relation
level_at (suc (suc (suc (suc (suc (suc (suc zero))))))) = Level.sum
level_at (suc (suc (suc (suc (suc (suc (suc (suc zero)))))))) = Level.product
level_at (suc (suc (suc (suc (suc (suc (suc (suc (suc zero))))))))) = Level.prefixed
level_at (suc (suc (suc (suc (suc (suc (suc (suc (suc (suc zero)))))))))) = Level.apply
level_at (suc (suc (suc (suc (suc (suc (suc (suc (suc (suc (suc zero))))))))))) = Level.select
level_at (suc (suc (suc (suc (suc (suc (suc (suc (suc (suc (suc (suc n)))))))))))) = Level.primary

one_lower : {names : List Bytes} {s : Scope} {v : ℕ → ℕ} {p : plain.Tree} {text : Bytes} (n : ℕ) → ShowsPhrase names s v (level_at (suc n)) p text → ShowsPhrase names s v (level_at n) p text
one_lower zero h = h
one_lower (suc zero) h = to_phrase h
one_lower (suc (suc zero)) h = to_sequence h
one_lower (suc (suc (suc zero))) h = to_term h
one_lower (suc (suc (suc (suc zero)))) h = to_either h
one_lower (suc (suc (suc (suc (suc zero))))) h = to_both h
one_lower (suc (suc (suc (suc (suc (suc zero)))))) h = to_relation h
one_lower (suc (suc (suc (suc (suc (suc (suc zero))))))) h = to_sum h
one_lower (suc (suc (suc (suc (suc (suc (suc (suc zero)))))))) h = to_product h
one_lower (suc (suc (suc (suc (suc (suc (suc (suc (suc zero))))))))) h = to_prefixed h
one_lower (suc (suc (suc (suc (suc (suc (suc (suc (suc (suc zero)))))))))) h = to_apply h
one_lower (suc (suc (suc (suc (suc (suc (suc (suc (suc (suc (suc zero))))))))))) h = to_select h
one_lower (suc (suc (suc (suc (suc (suc (suc (suc (suc (suc (suc (suc n)))))))))))) h = h

lower_by : {names : List Bytes} {s : Scope} {v : ℕ → ℕ} {p : plain.Tree} {text : Bytes} (d l n : ℕ) → n ≡ l + d → ShowsPhrase names s v (level_at n) p text → ShowsPhrase names s v (level_at l) p text
lower_by {names} {s} {v} {p} {text} zero l n e h = let same : n ≡ l = omega (arith, e) in subst (λ k. ShowsPhrase names s v (level_at k) p text) same h
lower_by {names} {s} {v} {p} {text} (suc d) l n e h =
    let same : n ≡ suc (l + d) = omega (arith, e) in
    lower_by d l (l + d) refl (one_lower (l + d) (subst (λ k. ShowsPhrase names s v (level_at k) p text) same h))

-- at a lower level
pub lower : (names : List Bytes) (s : Scope) (v : ℕ → ℕ) (p : plain.Tree) (text : Bytes) (l n : ℕ) → l ≤ n → ShowsPhrase names s v (level_at n) p text → ShowsPhrase names s v (level_at l) p text
lower names s v p text l n h shown = let same : n ≡ l + (n - l) = omega (arith, h) in lower_by (n - l) l n same shown

-- what a phrase is shown as shows it at that level; the items of a sequence that is parted into halves stand there without parentheses
pub record ShownPhrase (names : List Bytes) (s : Scope) (v : ℕ → ℕ) (p : plain.Tree) (q : Shown) : Type 0 where
  pub whole : ShowsPhrase names s v (level_at q.0) p (q.1 Whole)
  pub items : q.0 ≡ 2 → is_halved p ≡ true → ShowsMany symbol.Semicolon names s v (leaves p) (q.1 Whole)

-- `[p:l]`
pub part_shown : (names : List Bytes) (s : Scope) (v : ℕ → ℕ) (p : plain.Tree) (q : Shown) (l : ℕ) → l ≤ 12 → ShownPhrase names s v p q → ShowsPhrase names s v (level_at l) p (enclosed l q.0 (q.1 Whole))
part_shown names s v p q l few h = by (nat_lt q.0 l) refl
  where
    by : (b : Bool) → nat_lt q.0 l ≡ b → ShowsPhrase names s v (level_at l) p (if b then codes "(" ++ q.1 Whole ++ codes ")" else q.1 Whole)
    by true e = lower names s v p (codes "(" ++ q.1 Whole ++ codes ")") l 12 few (shows_enclosed names s v p (q.1 Whole) (lower names s v p (q.1 Whole) 0 q.0 (omega arith) h.whole))
    by false e = let order : l ≤ q.0 = grind (arith, nat_tests) in lower names s v p (q.1 Whole) l q.0 order h.whole
