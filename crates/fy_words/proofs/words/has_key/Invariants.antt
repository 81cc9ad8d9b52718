use Rattle.std.proofs.Common.{◌≡◌, drop, map}
use Rattle.fy_words.specs.Order.{has_key}
use Rattle.fy_words.proofs.words.has_key.Given as goal

-- what is left decides
abbrev pub invariant-loop-key : goal.invariant-loop-key
invariant-loop-key l = has_key (map (λ key. key.now) (drop l.key-index l.keys)) l.word ≡ has_key (map (λ key. key.now) l.keys) l.word
