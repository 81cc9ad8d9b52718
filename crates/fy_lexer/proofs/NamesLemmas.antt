-- Lists of names that grow at their end.
use Rattle.std.proofs.Common.{◌≡◌, ℕ, zero, suc, ◌+◌, ◌≤◌, Bool, true, false, if◌then◌else◌, List, [], ◌∷◌, ◌++◌, length, refl, sym, ap, ◌∙◌, arith, add-one, append-nil, append_assoc}
use Rattle.std.specs.Prelude.{Some, slice_get}
use Rattle.std.specs.Str.{bytes_eq}
use Rattle.std.proofs.lemmas.Slice.Eq.{bytes_eq-Decides}
use Rattle.fy_base.specs.Outside.{Bytes}
use Rattle.fy_types.specs.Names.{number_of, with_name}
use Rattle.fy_lexer.specs.Tokens.{HasAdded}

added_step : (b : Bool) (name : Bytes) (names more : List Bytes) → HasAdded names more → HasAdded (name ∷ names) (if b then name ∷ names else name ∷ more)
added_step true name names more h = record { later = []; is = sym (append-nil (name ∷ names)) }
added_step false name names more h = record { later = h.later; is = ap (λ l. name ∷ l) h.is }

pub HasAdded-with_name : (names : List Bytes) (text : Bytes) → HasAdded names (with_name names text)
HasAdded-with_name [] text = record { later = text ∷ []; is = refl }
HasAdded-with_name (name ∷ names) text = added_step (bytes_eq text name) name names (with_name names text) (HasAdded-with_name names text)

pub HasAdded-none : (names : List Bytes) → HasAdded names names
HasAdded-none names = record { later = []; is = sym (append-nil names) }

pub HasAdded-then : (a b c : List Bytes) → HasAdded a b → HasAdded b c → HasAdded a c
HasAdded-then a b c h k = record { later = h.later ++ k.later; is = k.is ∙ ap (λ l. l ++ k.later) h.is ∙ append_assoc a h.later k.later }

longer_step : (b : Bool) (name : Bytes) (names more : List Bytes) → length more ≤ length names + 1 → length (if b then name ∷ names else name ∷ more) ≤ length (name ∷ names) + 1
longer_step true name names more h = omega arith
longer_step false name names more h = omega (arith, h)

pub length-with_name : (names : List Bytes) (text : Bytes) → length (with_name names text) ≤ length names + 1
length-with_name [] text = omega arith
length-with_name (name ∷ names) text = longer_step (bytes_eq text name) name names (with_name names text) (length-with_name names text)

-- a name has its number in the list that it is in, and in longer ones
found_step : (names more : List Bytes) (name w : Bytes) (i : ℕ) (b : Bool) → bytes_eq w name ≡ b → slice_get more i ≡ Some w →
    slice_get (if b then name ∷ names else name ∷ more) (if b then 0 else i + 1) ≡ Some w
found_step names more name w i true e h = ap Some (sym ((bytes_eq-Decides w name).0 e))
found_step names more name w i false e h = ap (slice_get (name ∷ more)) (add-one i) ∙ h

numbered : (names : List Bytes) (w : Bytes) → slice_get (with_name names w) (number_of names w) ≡ Some w
numbered [] w = refl
numbered (name ∷ names) w = found_step names (with_name names w) name w (number_of names w) (bytes_eq w name) refl (numbered names w)

get-append : (names more : List Bytes) (i : ℕ) (w : Bytes) → slice_get names i ≡ Some w → slice_get (names ++ more) i ≡ Some w
get-append [] more i w h = absurd cc
get-append (name ∷ names) more zero w h = h
get-append (name ∷ names) more (suc i) w h = get-append names more i w h

pub get-later : {names later : List Bytes} (i : ℕ) (w : Bytes) → HasAdded names later → slice_get names i ≡ Some w → slice_get later i ≡ Some w
get-later {names = names} i w added h = ap (λ ns. slice_get ns i) added.is ∙ get-append names added.later i w h

pub numbered_later : (names later : List Bytes) (w : Bytes) → HasAdded (with_name names w) later → slice_get later (number_of names w) ≡ Some w
numbered_later names later w added = get-later (number_of names w) w added (numbered names w)
