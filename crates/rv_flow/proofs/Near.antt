-- Disciplined blocks read and write near words.
use Rattle.std.proofs.Common.{◌≡◌, Bool, true, false, ◌&&◌, nat_lt, [], ◌∷◌, refl, sym, true≢false}
use Rattle.rv_word.specs.declared.micros.Micro.{Micro}
use Rattle.rv_word.specs.declared.micros.Micro.TheVariants.{Get, Save}
use Rattle.rv_word.specs.Word.{Named, get}
use Rattle.rv_word.specs.Discipline.{Bounds, has_needs, windows_behind, closes, is_disciplined_from}
use Rattle.rv_flow.specs.Emission.{is_near, are_near, DisciplinedAreNear}

both : (a b : Bool) → (a && b) ≡ true → (a ≡ true) × (b ≡ true)
both true b h = (refl, h)
both false b h = absurd (true≢false (sym h))

near : (b : Bounds) (windows : Named) (m : Micro) → has_needs b m windows ≡ true → is_near m ≡ true
near b windows (Get r s k) h = (both (nat_lt k (get windows s)) (nat_lt k 256) h).1
near b windows (Save s k r) h = (both (nat_lt k (get windows s)) (nat_lt k 256) h).1
near b windows _ h = refl

and : (a b : Bool) → a ≡ true → b ≡ true → (a && b) ≡ true
and true b p q = q
and false b p q = p

pub disciplined_are_near : DisciplinedAreNear
disciplined_are_near b windows [] h = refl
disciplined_are_near b windows (m ∷ []) h = and (is_near m) true (near b windows m (both (has_needs b m windows) (closes m) h).0) refl
disciplined_are_near b windows (m ∷ n ∷ rest) h =
    let parts : (has_needs b m windows ≡ true) × (is_disciplined_from b (windows_behind m windows) (n ∷ rest) ≡ true) = both (has_needs b m windows) (is_disciplined_from b (windows_behind m windows) (n ∷ rest)) h in
    and (is_near m) (are_near (n ∷ rest)) (near b windows m parts.0) (disciplined_are_near b (windows_behind m windows) (n ∷ rest) parts.1)
