-- What is put piece by piece is the text of a form.
use Rattle.std.proofs.Common.{◌≡◌, Bool, true, false, if◌then◌else◌, ◌++◌, codes, refl, sym, ap, ◌∙◌, append_assoc, Result}
use Rattle.std.specs.Result.{OnOk}
use Rattle.std.proofs.lemmas.Result.{on_ok_weaker}
use Rattle.fy_base.specs.Outside.{Bytes}
use Rattle.fy_base.specs.declared.data.Place.{Place}
use Rattle.fy_phrase.specs.Tree.{Tree, merge}
use Rattle.fy_show.specs.declared.view.View.{View}
use Rattle.fy_show.specs.Reading.{known_in, scope_in, shown_in, text_in, part_in}
use Rattle.fy_show.specs.Texts.{Shown, part, called, is_sequence}

-- a text that is that of the form
pub as_form : {T E : Type 0} (r : Result T E) (old new text : Bytes) (v : View) (p q : Tree) → p ≡ q → text ≡ text_in v q → OnOk r (new ≡ old ++ text) → OnOk r (new ≡ old ++ text_in v p)
as_form r old new text v p q e f h = on_ok_weaker r (λ g. g ∙ ap (λ t. old ++ t) (f ∙ ap (text_in v) (sym e))) h

grouped_two : (old a b c : Bytes) → ((old ++ a) ++ b) ++ c ≡ old ++ ((a ++ b) ++ c)
grouped_two old a b c = ap (λ l. l ++ c) (append_assoc old a b) ∙ append_assoc old (a ++ b) c

-- two, three and four pieces
pub put_both : {T E : Type 0} (r : Result T E) (old new a b : Bytes) → OnOk r (new ≡ (old ++ a) ++ b) → OnOk r (new ≡ old ++ (a ++ b))
put_both r old new a b h = on_ok_weaker r (λ g. g ∙ append_assoc old a b) h

pub put_three : {T E : Type 0} (r : Result T E) (old new a b c : Bytes) → OnOk r (new ≡ ((old ++ a) ++ b) ++ c) → OnOk r (new ≡ old ++ ((a ++ b) ++ c))
put_three r old new a b c h = on_ok_weaker r (λ g. g ∙ grouped_two old a b c) h

pub put_four : {T E : Type 0} (r : Result T E) (old new a b c d : Bytes) → OnOk r (new ≡ (((old ++ a) ++ b) ++ c) ++ d) → OnOk r (new ≡ old ++ (((a ++ b) ++ c) ++ d))
put_four r old new a b c d h = on_ok_weaker r (λ g. g ∙ (ap (λ l. l ++ d) (grouped_two old a b c) ∙ append_assoc old ((a ++ b) ++ c) d)) h

other : (b : Bool) (x y : Shown) → b ≡ false → (if b then x else y) ≡ y
other true x y e = absurd cc
other false x y e = refl

-- a merge that means no sequence
pub merge_text : (v : View) (p q : Tree) (at : Place) → is_sequence p q ≡ false → (part_in v 1 p ++ codes ", ") ++ part_in v 2 q ≡ text_in v (merge p q at)
merge_text v p q at e =
    sym (ap (λ (x : Shown). x.1 v.manner)
    (other (is_sequence p q) (12, λ m. called (known_in v) (scope_in v) m p) (1, λ m. (part m 1 (shown_in v p) ++ codes ", ") ++ part m 2 (shown_in v q)) e))
