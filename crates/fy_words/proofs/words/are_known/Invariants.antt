use Rattle.std.proofs.Common.{◌≡◌, drop, map}
use Rattle.std.specs.Prelude.{string_bytes}
use Rattle.fy_words.specs.Order.{are_known}
use Rattle.fy_words.proofs.words.are_known.Given as goal

-- what is left decides
abbrev pub invariant-loop-word : goal.invariant-loop-word
invariant-loop-word l = are_known (map (λ key. key.now) l.keys) (map string_bytes (drop l.word-index l.words)) ≡ are_known (map (λ key. key.now) l.keys) (map string_bytes l.words)
