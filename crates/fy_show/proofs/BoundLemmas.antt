-- The names of binders aren't used under them.
use Rattle.std.proofs.Common.{◌≡◌, ◌≤◌, ℕ, ◌+◌, Bool, true, false, ◌||◌, inl, inr, List, [], ◌∷◌, ◌++◌, length, map, refl, sym, ap, ap₂, ◌∙◌, arith}
use Rattle.std.specs.List.{list_any}
use Rattle.std.specs.Str.{bytes_eq}
use Rattle.std.proofs.lemmas.Bool.{false≢true, or_cases, cases_Bool}
use Rattle.std.proofs.lemmas.List.{length-append, length-map}
use Rattle.std.proofs.lemmas.List.Folds.{list_any-append}
use Rattle.std.proofs.lemmas.Slice.Eq.{bytes_eq-Decides}
use Rattle.fy_base.specs.Outside.{Bytes}
use Rattle.fy_base.specs.declared.data.Place.{Place}
use Rattle.fy_types.specs.Types.{PlainType}
use Rattle.fy_types.specs.Print.{name_text}
use Rattle.fy_phrase.specs.Tree.{Tree, lam, let_in, rec, new, cells, escape, accept}
use Rattle.fy_show.specs.declared.binders.BinderForm.{BinderForm}
use Rattle.fy_show.specs.declared.binders.BinderForm.TheVariants as binder_form
use Rattle.fy_show.specs.Binders.{source_name}
use Rattle.fy_show.specs.Entries.{Fields, unnamed, Scope, Known, is_field_name, has_name}
use Rattle.fy_show.specs.Fresh.{fresh, most_names, uses, fields_of, is_taken, one_fresh, fields_behind, all_fresh}
use Rattle.fy_show.specs.Names.{names_in, names_of_all}
use Rattle.fy_show.specs.Laws.{NoUseIsCaptured}
use Rattle.fy_show.proofs.NameLemmas.{uses-names, fields-names}
use Rattle.fy_show.proofs.CaptureLemmas.{fresh-few}

or-regrouped : (a b c : Bool) → (a || (b || c)) ≡ ((a || b) || c)
or-regrouped true b c = refl
or-regrouped false b c = refl

taken-parts : (k : Known) (s : Scope) (ps : List Tree) (done : Fields) (t : Bytes) → is_taken k s ps done t ≡ (list_any (λ b. uses k t (unnamed ∷ s) b) ps || is_field_name t done)
taken-parts k s [] done t = refl
taken-parts k s (p ∷ ps) done t =
    ap (λ (b : Bool). uses k t (unnamed ∷ s) p || b) (taken-parts k s ps done t)
    ∙ or-regrouped (uses k t (unnamed ∷ s) p) (list_any (λ b. uses k t (unnamed ∷ s) b) ps) (is_field_name t done)

used-names : (k : Known) (s : Scope) (ps : List Tree) (t : Bytes) → list_any (λ b. uses k t (unnamed ∷ s) b) ps ≡ list_any (bytes_eq t) (names_of_all k (unnamed ∷ s) ps)
used-names k s [] t = refl
used-names k s (p ∷ ps) t =
    ap₂ (λ (a b : Bool). a || b) (uses-names k t (unnamed ∷ s) p) (used-names k s ps t)
    ∙ sym (list_any-append (bytes_eq t) (names_in k (unnamed ∷ s) p) (names_of_all k (unnamed ∷ s) ps))

taken-names : (k : Known) (s : Scope) (ps : List Tree) (done : Fields) (t : Bytes) →
    is_taken k s ps done t ≡ list_any (bytes_eq t) (names_of_all k (unnamed ∷ s) ps ++ map (λ f. f.1) done)
taken-names k s ps done t =
    taken-parts k s ps done t
    ∙ ap₂ (λ (a b : Bool). a || b) (used-names k s ps t) (fields-names t done)
    ∙ sym (list_any-append (bytes_eq t) (names_of_all k (unnamed ∷ s) ps) (map (λ f. f.1) done))

left-false : (a b : Bool) → (a || b) ≡ false → a ≡ false
left-false true b h = h
left-false false b h = refl

-- a name made fresh is used by none of them
fresh-unused : (k : Known) (s : Scope) (ps : List Tree) (done : Fields) (x : Bytes) → length (names_of_all k (unnamed ∷ s) ps) + length done ≤ most_names →
    list_any (λ b. uses k (fresh (is_taken k s ps done) x) (unnamed ∷ s) b) ps ≡ false
fresh-unused k s ps done x few =
    let t = fresh (is_taken k s ps done) x in
    let counted = length-append (names_of_all k (unnamed ∷ s) ps) (map (λ f. f.1) done) in
    let mapped = length-map {A = ℕ × Bytes} {B = Bytes} done (λ f. f.1) in
    let free = fresh-few (is_taken k s ps done) x (names_of_all k (unnamed ∷ s) ps ++ map (λ f. f.1) done) (omega (arith, counted, mapped)) (taken-names k s ps done) in
    left-false (list_any (λ b. uses k t (unnamed ∷ s) b) ps) (is_field_name t done) (sym (taken-parts k s ps done t) ∙ free)

same-name : (k : Known) (s : Scope) (ps : List Tree) (t u : Bytes) → bytes_eq t u ≡ true → list_any (λ b. uses k u (unnamed ∷ s) b) ps ≡ false →
    list_any (λ b. uses k t (unnamed ∷ s) b) ps ≡ false
same-name k s ps t u e h = ap (λ v. list_any (λ b. uses k v (unnamed ∷ s) b) ps) ((bytes_eq-Decides t u).0 e) ∙ h

one-unused : (k : Known) (s : Scope) (form : BinderForm) (at : Place) (d : ℕ) (ps : List Tree) (t : Bytes) → length (names_of_all k (unnamed ∷ s) ps) + 0 ≤ most_names →
    has_name t (one_fresh k s form at d ps) ≡ true → list_any (λ b. uses k t (unnamed ∷ s) b) ps ≡ false
one-unused k s form at d ps t few h =
    let x = source_name k.names k.binders form at d in
    same-name k s ps t (fresh (is_taken k s ps []) x) h (fresh-unused k s ps [] x few)

-- a name of a field is that of one before, or the one at the end
last-front : (t : Bytes) (b c d : Bool) (x : Bytes) → (b || c) ≡ true → (b || d) ≡ false → (c ≡ true → d ≡ false → bytes_eq t x ≡ true) → bytes_eq t x ≡ true
last-front t true c d x h e more = absurd (false≢true (sym e))
last-front t false c d x h e more = more h e

last-named : (t : Bytes) (done : Fields) (f : ℕ × Bytes) → is_field_name t (done ++ f ∷ []) ≡ true → is_field_name t done ≡ false → bytes_eq t f.1 ≡ true
last-named t [] f h e = elim (or_cases (bytes_eq t f.1) false h) [ inl g ↦ g | inr g ↦ absurd (false≢true g) ]
last-named t (g ∷ done) f h e =
    last-front t (bytes_eq t g.1) (is_field_name t (done ++ f ∷ [])) (is_field_name t done) f.1 h e (last-named t done f)

length-more : (done : Fields) (f : ℕ × Bytes) → length (done ++ f ∷ []) ≡ length done + 1
length-more done f = length-append done (f ∷ [])

all-unused : (k : Known) (s : Scope) (ps : List Tree) (fs : List (ℕ × PlainType)) (done : Fields) → length (names_of_all k (unnamed ∷ s) ps) + (length done + length fs) ≤ most_names →
    ((t : Bytes) → is_field_name t done ≡ true → list_any (λ b. uses k t (unnamed ∷ s) b) ps ≡ false) →
    (t : Bytes) → is_field_name t (fields_behind k s ps done fs) ≡ true → list_any (λ b. uses k t (unnamed ∷ s) b) ps ≡ false
all-unused k s ps [] done few are t h = are t h
all-unused k s ps (f ∷ fs) done few are t h =
    let x = fresh (is_taken k s ps done) (name_text k.names f.0) in
    let more = length-more done (f.0, x) in
    let free = fresh-unused k s ps done (name_text k.names f.0) (omega arith) in
    all-unused k s ps fs (done ++ (f.0, x) ∷ []) (omega (arith, more))
    (λ u g. elim (cases_Bool (is_field_name u done)) [ inl e ↦ are u e | inr e ↦ same-name k s ps u x (last-named u done (f.0, x) g e) free ])
    t h

record-unused : (k : Known) (s : Scope) (T : PlainType) (ps : List Tree) (t : Bytes) → length (names_of_all k (unnamed ∷ s) ps) + length (fields_of T) ≤ most_names →
    has_name t (all_fresh k s T ps) ≡ true → list_any (λ b. uses k t (unnamed ∷ s) b) ps ≡ false
record-unused k s T ps t few h = all-unused k s ps (fields_of T) [] (omega arith) (λ u g. absurd (false≢true g)) t h

pub none-captured : NoUseIsCaptured
none-captured k s (lam d As b at) t few h = one-unused k s binder_form.Lam at d (b ∷ []) t few h
none-captured k s (let_in d (rec c T p here) b at) t few h = record-unused k s T (p ∷ b ∷ []) t few h
none-captured k s (let_in d p b at) t few h = one-unused k s binder_form.Let at d (b ∷ []) t few h
none-captured k s (rec d T b at) t few h = record-unused k s T (b ∷ []) t few h
none-captured k s (new d D e b at) t few h = one-unused k s binder_form.New at d (b ∷ []) t few h
none-captured k s (cells d e b at) t few h = one-unused k s binder_form.Cells at d (b ∷ []) t few h
none-captured k s (escape d b at) t few h = one-unused k s binder_form.Escape at d (b ∷ []) t few h
none-captured k s (accept d D b at) t few h = one-unused k s binder_form.Accept at d (b ∷ []) t few h
none-captured k s p t few h = absurd (false≢true h)
