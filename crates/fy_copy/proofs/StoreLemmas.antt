-- Parts by number, rows from the newest on, and what they hold.
use Rattle.std.proofs.Common.{◌≡◌, ℕ, zero, suc, ◌+◌, ◌<◌, ◌≤◌, Bool, true, false, List, [], ◌∷◌, ◌++◌, length, get_or, take, drop, map, refl, ap, sym, ◌∙◌, arith, append_assoc, eq-eqb, ℤ, pos, negsuc}
use Rattle.std.specs.Prelude.{nat_eq, if◌then◌else◌, set, Some, None, Ok, Err, OnOk, OnErr}
use Rattle.std.specs.declared.result.Result.{Result}
use Rattle.std.specs.declared.option.Option.{Option}
use Rattle.std.proofs.lemmas.List.{set_split, set-get_or, drop_more}
use Rattle.std.proofs.lemmas.Bool.{ne_eqb}
use Rattle.std.proofs.lemmas.Option.{same_Some}
use Rattle.fy_base.specs.declared.data.Place.{Place}
use Rattle.fy_base.specs.declared.data.Datum.{Datum}
use Rattle.fy_base.specs.declared.data.Datum.TheVariants as datum
use Rattle.fy_phrase.specs.Tree.{Tree, lit}
use Rattle.fy_phrase.specs.Reads.{reads, trees_from}
use Rattle.fy_phrase.specs.Copy as copy
use Rattle.fy_phrase.specs.Copy.{Content, single, several, CopyState, goes, sticks, focused, part_at, content_of, with_content, without_row, value_in, measured, element_picked}
use Rattle.fy_phrase.specs.declared.phrase.Phrase.{Phrase}
use Rattle.fy_copy.specs.Shown.{row_of, rows_onto}
use Rattle.fy_copy.specs.Store.{IsNewest, extent_in, picked_in}
use Rattle.fy_copy.specs.declared.context.Extent.{Extent}
use Rattle.fy_copy.specs.declared.context.Row.{Row}

pub part_at-in : (ps : List Phrase) (n : ℕ) (d : Phrase) → n < length ps → part_at (trees_from (map reads ps)) n ≡ Some (reads (get_or ps n d))
part_at-in [] n d h = absurd (omega (arith, h))
part_at-in (p ∷ ps) zero d h = refl
part_at-in (p ∷ ps) (suc n) d h = part_at-in ps n d (omega (arith, h))

pub part_at-past : (ps : List Phrase) (n : ℕ) → length ps ≤ n → part_at (trees_from (map reads ps)) n ≡ None
part_at-past [] n h = refl
part_at-past (p ∷ ps) zero h = absurd (omega (arith, h))
part_at-past (p ∷ ps) (suc n) h = part_at-past ps n (omega (arith, h))

pub chosen_if : {A : Type 0} (b : Bool) (x y : A) → b ≡ true → (if b then x else y) ≡ x
chosen_if true x y is = refl
chosen_if false x y is = absurd (cc)

pub other_if : {A : Type 0} (b : Bool) (x y : A) → b ≡ false → (if b then x else y) ≡ y
other_if true x y is = absurd (cc)
other_if false x y is = refl

-- the row with the content
abbrev pub row_with : ℕ → Content → copy.Row
row_with n content = record { number = n; content = content }

-- ---- rows of the copy rule's store, behind others of which none has the number

passed_by : (b : Bool) (x : Content) (more : Option Content) → (if b then Some x else more) ≡ None → (b ≡ false) × (more ≡ None)
passed_by true x more none = absurd (cc)
passed_by false x more none = (refl, none)

content_behind : (n : ℕ) (newer older : List copy.Row) (r : copy.Row) → content_of n newer ≡ None → r.number ≡ n → content_of n (newer ++ r ∷ older) ≡ Some r.content
content_behind n [] older r none is = chosen_if (nat_eq r.number n) _ _ (eq-eqb r.number n is)
content_behind n (c ∷ newer) older r none is =
    let h = passed_by (nat_eq c.number n) c.content (content_of n newer) none in
    other_if (nat_eq c.number n) _ _ h.0 ∙ content_behind n newer older r h.1 is

changed_behind : (n : ℕ) (change : Content → Content) (newer older : List copy.Row) (r : copy.Row) → content_of n newer ≡ None → r.number ≡ n
    → with_content n change (newer ++ r ∷ older) ≡ newer ++ row_with n (change r.content) ∷ older
changed_behind n change [] older r none is = chosen_if (nat_eq r.number n) _ _ (eq-eqb r.number n is)
changed_behind n change (c ∷ newer) older r none is =
    let h = passed_by (nat_eq c.number n) c.content (content_of n newer) none in
    other_if (nat_eq c.number n) _ _ h.0
    ∙ ap (λ (rs : List copy.Row). c ∷ rs) (changed_behind n change newer older r h.1 is)

lost_behind : (n : ℕ) (newer older : List copy.Row) (r : copy.Row) → content_of n newer ≡ None → r.number ≡ n → without_row n (newer ++ r ∷ older) ≡ newer ++ older
lost_behind n [] older r none is = chosen_if (nat_eq r.number n) _ _ (eq-eqb r.number n is)
lost_behind n (c ∷ newer) older r none is =
    let h = passed_by (nat_eq c.number n) c.content (content_of n newer) none in
    other_if (nat_eq c.number n) _ _ h.0 ∙ ap (λ (rs : List copy.Row). c ∷ rs) (lost_behind n newer older r h.1 is)

-- a store in which nothing has the number

pub unchanged : (n : ℕ) (change : Content → Content) (rows : List copy.Row) → content_of n rows ≡ None → with_content n change rows ≡ rows
unchanged n change [] none = refl
unchanged n change (c ∷ rows) none =
    let h = passed_by (nat_eq c.number n) c.content (content_of n rows) none in
    other_if (nat_eq c.number n) _ _ h.0
    ∙ ap (λ (rs : List copy.Row). c ∷ rs) (unchanged n change rows h.1)

pub not_lost : (n : ℕ) (rows : List copy.Row) → content_of n rows ≡ None → without_row n rows ≡ rows
not_lost n [] none = refl
not_lost n (c ∷ rows) none =
    let h = passed_by (nat_eq c.number n) c.content (content_of n rows) none in
    other_if (nat_eq c.number n) _ _ h.0 ∙ ap (λ (rs : List copy.Row). c ∷ rs) (not_lost n rows h.1)

-- one older row, of another number
still_none : (n : ℕ) (rows : List copy.Row) (r : copy.Row) → content_of n rows ≡ None → (r.number ≡ n → ⊥) → content_of n (rows ++ r ∷ []) ≡ None
still_none n [] r none differs = other_if (nat_eq r.number n) _ _ (ne_eqb r.number n differs)
still_none n (c ∷ rows) r none differs =
    let h = passed_by (nat_eq c.number n) c.content (content_of n rows) none in
    other_if (nat_eq c.number n) _ _ h.0 ∙ still_none n rows r h.1 differs

-- ---- the program's rows, the newest last

rows_onto-append : (rs : List copy.Row) (xs ys : List Row) → rows_onto rs (xs ++ ys) ≡ rows_onto (rows_onto rs xs) ys
rows_onto-append rs [] ys = refl
rows_onto-append rs (x ∷ xs) ys = rows_onto-append (row_of x ∷ rs) xs ys

rows_onto-front : (rs : List copy.Row) (ys : List Row) → rows_onto rs ys ≡ rows_onto [] ys ++ rs
rows_onto-front rs [] = refl
rows_onto-front rs (y ∷ ys) =
    rows_onto-front (row_of y ∷ rs) ys ∙ sym (append_assoc (rows_onto [] ys) (row_of y ∷ []) rs) ∙ ap (λ l. l ++ rs) (sym (rows_onto-front (row_of y ∷ []) ys))

-- the newest rows first, and then the others
rows_of-append : (xs ys : List Row) → rows_onto [] (xs ++ ys) ≡ rows_onto [] ys ++ rows_onto [] xs
rows_of-append xs ys = rows_onto-append [] xs ys ∙ rows_onto-front (rows_onto [] xs) ys

-- a row between older and newer ones
rows_of-between : (xs ys : List Row) (y : Row) → rows_onto [] (xs ++ y ∷ ys) ≡ rows_onto [] ys ++ row_of y ∷ rows_onto [] xs
rows_of-between xs ys y =
    rows_of-append xs (y ∷ ys)
    ∙ ap (λ l. l ++ rows_onto [] xs) (rows_onto-front (row_of y ∷ []) ys)
    ∙ append_assoc (rows_onto [] ys) (row_of y ∷ []) (rows_onto [] xs)

-- a row that was set
rows_of-set : (rows : List Row) (i : ℕ) (y : Row) → i < length rows → rows_onto [] (set rows i y) ≡ rows_onto [] (drop (i + 1) rows) ++ row_of y ∷ rows_onto [] (take i rows)
rows_of-set rows i y h =
    let e : suc i ≡ i + 1 = omega arith in
    ap (rows_onto []) (set_split rows i y h)
    ∙ rows_of-between (take i rows) (drop (suc i) rows) y
    ∙ ap (λ k. rows_onto [] (drop k rows) ++ row_of y ∷ rows_onto [] (take i rows)) e

-- the rows around one
rows_of-at : (rows : List Row) (i : ℕ) (d : Row) → i < length rows → rows_onto [] rows ≡ rows_onto [] (drop (i + 1) rows) ++ row_of (get_or rows i d) ∷ rows_onto [] (take i rows)
rows_of-at rows i d h = ap (rows_onto []) (sym (set-get_or rows i d)) ∙ rows_of-set rows i (get_or rows i d) h

-- ---- the search for a number, from the newest row on

pub none_so_far : (n i : ℕ) (rows : List Row) (d : Row) → i < length rows → ((get_or rows i d).number ≡ n → ⊥) → content_of n (rows_onto [] (drop (i + 1) rows)) ≡ None
    → content_of n (rows_onto [] (drop i rows)) ≡ None
none_so_far n i rows d h differs none =
    ap (λ l. content_of n (rows_onto [] l)) (drop_more rows i d h)
    ∙ ap (content_of n) (rows_onto-front (row_of (get_or rows i d) ∷ []) (drop (i + 1) rows))
    ∙ still_none n (rows_onto [] (drop (i + 1) rows)) (row_of (get_or rows i d)) none differs

-- none is among no rows
pub none_past : (n i : ℕ) (rows : List Row) → length rows ≤ i → content_of n (rows_onto [] (drop i rows)) ≡ None
none_past n zero [] past = refl
none_past n (suc i) [] past = refl
none_past n zero (r ∷ rows) past = absurd (omega (arith, past))
none_past n (suc i) (r ∷ rows) past = none_past n i rows (omega (arith, past))

any_default : {A : Type 0} (xs : List A) (i : ℕ) (d e : A) → i < length xs → get_or xs i d ≡ get_or xs i e
any_default [] i d e h = absurd (omega (arith, h))
any_default (x ∷ xs) zero d e h = refl
any_default (x ∷ xs) (suc i) d e h = any_default xs i d e (omega (arith, h))

pub is_newest : (n i : ℕ) (rows : List Row) (x : Row) → i < length rows → x ≡ get_or rows i x → x.number ≡ n → content_of n (rows_onto [] (drop (i + 1) rows)) ≡ None → IsNewest n rows i
is_newest n i rows x h is number newer = record {
  within = h;
  number = λ d. ap (λ (r : Row). r.number) (any_default rows i d x h ∙ sym is) ∙ number;
  newer = newer;
}

-- ---- what stands at a number

pub content_at : (n i : ℕ) (rows : List Row) (x : Row) → IsNewest n rows i → x ≡ get_or rows i x → content_of n (rows_onto [] rows) ≡ Some (row_of x).content
content_at n i rows x newest is =
    ap (content_of n) (rows_of-at rows i x newest.within)
    ∙ content_behind n (rows_onto [] (drop (i + 1) rows)) (rows_onto [] (take i rows)) (row_of (get_or rows i x)) newest.newer (newest.number x)
    ∙ ap (λ (r : Row). Some (row_of r).content) (sym is)

-- the row there is changed
pub changed_at : (n i : ℕ) (rows : List Row) (x y : Row) (change : Content → Content) → IsNewest n rows i → x ≡ get_or rows i x → row_of y ≡ record (row_of x) { content = change (row_of x).content }
    → rows_onto [] (set rows i y) ≡ with_content n change (rows_onto [] rows)
changed_at n i rows x y change newest is changed =
    let newer = rows_onto [] (drop (i + 1) rows) in
    let older = rows_onto [] (take i rows) in
    let number : x.number ≡ n = ap (λ (r : Row). r.number) is ∙ newest.number x in
    rows_of-set rows i y newest.within
    ∙ ap (λ (r : copy.Row). newer ++ r ∷ older) (changed ∙ ap (λ (k : ℕ). row_with k (change (row_of x).content)) number)
    ∙ sym (changed_behind n change newer older (row_of x) newest.newer number)
    ∙ ap (λ (r : Row). with_content n change (newer ++ row_of r ∷ older)) is
    ∙ ap (with_content n change) (sym (rows_of-at rows i x newest.within))

-- or lost
pub lost_at : (n i : ℕ) (rows : List Row) (x : Row) → IsNewest n rows i → x ≡ get_or rows i x → rows_onto [] (take i rows ++ drop (suc i) rows) ≡ without_row n (rows_onto [] rows)
lost_at n i rows x newest is =
    let newer = rows_onto [] (drop (i + 1) rows) in
    let older = rows_onto [] (take i rows) in
    let number : x.number ≡ n = ap (λ (r : Row). r.number) is ∙ newest.number x in
    let e : suc i ≡ i + 1 = omega arith in
    rows_of-append (take i rows) (drop (suc i) rows)
    ∙ ap (λ k. rows_onto [] (drop k rows) ++ older) e
    ∙ sym (lost_behind n newer older (row_of x) newest.newer number)
    ∙ ap (λ (r : Row). without_row n (newer ++ row_of r ∷ older)) is
    ∙ ap (without_row n) (sym (rows_of-at rows i x newest.within))

-- or looks as it did
pub same_at : (n i : ℕ) (rows : List Row) (x y : Row) → IsNewest n rows i → x ≡ get_or rows i x → row_of y ≡ row_of x → rows_onto [] (set rows i y) ≡ rows_onto [] rows
same_at n i rows x y newest is same =
    rows_of-set rows i y newest.within
    ∙ ap (λ (r : copy.Row). rows_onto [] (drop (i + 1) rows) ++ r ∷ rows_onto [] (take i rows)) (same ∙ ap row_of is)
    ∙ sym (rows_of-at rows i x newest.within)

-- no cell has a value where nothing stands
pub no_value : (which : copy.Which) → value_in which None ≡ None
no_value copy.own = refl
no_value (copy.element i) = refl

-- what follows on success
pub on_ok : {T E : Type 0} (r : Result T E) (P Q : Type 0) → OnOk r P → (P → Q) → OnOk r Q
on_ok (Ok x) P Q p f = f p
on_ok (Err e) P Q p f = tt

-- and on a refusal
pub on_err : {T E : Type 0} (r : Result T E) (P Q : Type 0) → OnErr r P → (P → Q) → OnErr r Q
on_err (Ok x) P Q p f = tt
on_err (Err e) P Q p f = f p

-- ---- a value past the end isn't set

pub set_past : (vs : List Datum) (i : ℕ) (v : Datum) → length vs ≤ i → set vs i v ≡ vs
set_past [] i v h = refl
set_past (u ∷ vs) zero v h = absurd (omega (arith, h))
set_past (u ∷ vs) (suc i) v h = ap (λ (l : List Datum). u ∷ l) (set_past vs i v (omega (arith, h)))

-- ---- sequences by their extents

abbrev pub extent_with : Place → ℕ → Extent
extent_with at n = record { place = at; count = n }

pub measured_none : (o : Option Content) (here : Place) (s : CopyState) → extent_in o ≡ None → measured o here s ≡ sticks
measured_none None here s none = refl
measured_none (Some (single v)) here s none = refl
measured_none (Some (several at vs)) here s none = absurd (cc)

pub measured_some : (o : Option Content) (here : Place) (s : CopyState) (e : Extent) → extent_in o ≡ Some e → measured o here s ≡ focused (lit (datum.Int (pos e.count)) here) s
measured_some None here s e is = absurd (cc)
measured_some (Some (single v)) here s e is = absurd (cc)
measured_some (Some (several at vs)) here s e is = let same = same_Some (extent_with at (length vs)) e is in ap (λ (x : Extent). focused (lit (datum.Int (pos x.count)) here) s) same

-- its number, the focus that reads so, and the state with it
pub measured_steps : (o : Option Content) (here : Place) (s t : CopyState) (e : Extent) (z : ℤ) (p : Tree) → extent_in o ≡ Some e → z ≡ pos e.count → p ≡ lit (datum.Int z) here → t ≡ record s { focus = p } → measured o here s ≡ goes t
measured_steps o here s t e z p is number focus state =
    measured_some o here s e is
    ∙ ap (λ (x : Tree). focused x s) (ap (λ (i : ℤ). lit (datum.Int i) here) (sym number) ∙ sym focus)
    ∙ ap goes (sym state)

pub picked_none : (v : Datum) (n : ℕ) (o : Option Content) (here : Place) (s : CopyState) → extent_in o ≡ None → element_picked v n o here s ≡ sticks
picked_none (datum.Int (pos i)) n None here s none = refl
picked_none (datum.Int (pos i)) n (Some (single v)) here s none = refl
picked_none (datum.Int (negsuc i)) n None here s none = refl
picked_none (datum.Int (negsuc i)) n (Some (single v)) here s none = refl
picked_none v n (Some (several at vs)) here s none = absurd (cc)
picked_none v n o here s none = refl

pub picked_some : (v : Datum) (n : ℕ) (o : Option Content) (here : Place) (s : CopyState) (e : Extent) → extent_in o ≡ Some e → element_picked v n o here s ≡ picked_in e v n here s
picked_some v n None here s e is = absurd (cc)
picked_some v n (Some (single u)) here s e is = absurd (cc)
picked_some (datum.Int (pos i)) n (Some (several at vs)) here s e is =
    let same = same_Some (extent_with at (length vs)) e is in ap (λ (x : Extent). picked_in x (datum.Int (pos i)) n here s) same
picked_some (datum.Int (negsuc i)) n (Some (several at vs)) here s e is =
    let same = same_Some (extent_with at (length vs)) e is in ap (λ (x : Extent). picked_in x (datum.Int (negsuc i)) n here s) same
picked_some (datum.Bool b) n (Some (several at vs)) here s e is = refl
picked_some (datum.Char c) n (Some (several at vs)) here s e is = refl
