-- Runs of the word machine, step by step.
use Rattle.std.proofs.Common.{◌≡◌, ℕ, zero, suc, ◌+◌, refl, ap, add-zero, add-suc}
use Rattle.rv_word.specs.Word.{Code, Led, after_step, led_on}

pub led_none : (code : Code) (r : Led) → led_on code 0 r ≡ r
unfolding led_on
led_none code r = refl

pub led_more : (code : Code) (n : ℕ) (r : Led) → led_on code (suc n) r ≡ after_step code (led_on code n r)
unfolding led_on
led_more code n r = refl

pub led_splits : (code : Code) (n m : ℕ) (r : Led) → led_on code (n + m) r ≡ led_on code m (led_on code n r)
unfolding led_on
led_splits code n zero r = rw (add-zero n) refl
led_splits code n (suc m) r = rw (add-suc n m) (ap (after_step code) (led_splits code n m r))
