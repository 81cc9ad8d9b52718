-- Looking a name up in files in memory.
use Rattle.std.proofs.Common.{◌≡◌, ℕ, ◌+◌, ◌<◌, ◌≤◌, List, [], ◌∷◌, ◌++◌, length, drop, get_or, sym, ap, ◌∙◌, refl, Some, None, Bool, true, false, cond, string_bytes, add-one, drop-cons}
use Rattle.std.specs.declared.cmp.Ordering.TheVariants.{Less, Equal, Greater}
use Rattle.std.specs.Ordering.{nat_cmp, eq_by_cmp, is_eq}
use Rattle.std.specs.Cmp.{eq_by_cmp_equiv}
use Rattle.std.specs.Cmp.Lexicographic.{slice_cmp, nat_list_cmp_total}
use Rattle.std.specs.declared.option.Option.{Option}
use Rattle.std.specs.FinMap.{get, insert, get-insert, get-empty, slice_cmp-IsAntisymmetric, nat_cmp-IsAntisymmetric}
use Rattle.std.proofs.Math.ListN.{drop_of_length-le}
use Rattle.fy_base.specs.Outside.{Bytes, Folder}
use Rattle.fy_base.specs.Memory.{folder_of}
use Rattle.fy_base.specs.declared.memory.Entry.{Entry}

-- two names that differ compare as different
differ : (x y : Bytes) → (x ≡ y → ⊥) → eq_by_cmp (slice_cmp nat_cmp) x y ≡ false
differ x y apart =
    elim (slice_cmp nat_cmp x y) as (λ o. slice_cmp nat_cmp x y ≡ o → is_eq o ≡ false) [
      | Less ↦ λ e. refl
      | Equal ↦ λ e. absurd (apart (slice_cmp-IsAntisymmetric nat_cmp-IsAntisymmetric x y e))
      | Greater ↦ λ e. refl
    ] refl

-- what a folder has under the name just kept, and under another
pub get-insert_same : (m : Folder) (name bytes : Bytes) → get (insert m name bytes) name ≡ Some bytes
get-insert_same m name bytes =
    get-insert nat_list_cmp_total m name bytes name ∙ ap (λ b. cond b (Some bytes) (get m name)) ((eq_by_cmp_equiv nat_list_cmp_total).refl name)

pub get-insert_other : (m : Folder) (name bytes other : Bytes) → (other ≡ name → ⊥) → get (insert m name bytes) other ≡ get m other
get-insert_other m name bytes other apart =
    get-insert nat_list_cmp_total m name bytes other ∙ ap (λ b. cond b (Some bytes) (get m other)) (differ other name apart)

rest_from : (es : List Entry) (i : ℕ) (e : Entry) → i < length es → e ≡ get_or es i e → drop i es ≡ e ∷ drop (i + 1) es
rest_from es i e lt is = rw (add-one i) (drop-cons es i e lt) ∙ ap (λ x. x ∷ drop (i + 1) es) (sym is)

-- the entry here has the name
pub found_here : (es : List Entry) (i : ℕ) (e : Entry) (name : Bytes) → i < length es → e ≡ get_or es i e → string_bytes e.name ≡ name
    → get (folder_of (drop i es)) name ≡ Some e.bytes.items
found_here es i e name lt is same =
    ap (λ l. get (folder_of l) name) (rest_from es i e lt is)
    ∙ ap (λ q. get (folder_of (e ∷ drop (i + 1) es)) q) (sym same)
    ∙ get-insert_same (folder_of (drop (i + 1) es)) (string_bytes e.name) e.bytes.items

-- it has another
pub found_later : (es : List Entry) (i : ℕ) (e : Entry) (name : Bytes) → i < length es → e ≡ get_or es i e → (string_bytes e.name ≡ name → ⊥)
    → get (folder_of (drop (i + 1) es)) name ≡ get (folder_of (drop i es)) name
found_later es i e name lt is apart =
    sym (ap (λ l. get (folder_of l) name) (rest_from es i e lt is)
    ∙ get-insert_other (folder_of (drop (i + 1) es)) (string_bytes e.name) e.bytes.items name (λ s. apart (sym s)))

pub found_none : (es : List Entry) (i : ℕ) (name : Bytes) → length es ≤ i → get (folder_of (drop i es)) name ≡ None
found_none es i name le = ap (λ l. get (folder_of l) name) (drop_of_length-le es le) ∙ get-empty (slice_cmp nat_cmp) name

-- what the first of two lists of files has hides what the second has
here_or_some : (b : Bool) (here rest more : Option Bytes) (bytes : Bytes) → (rest ≡ Some bytes → more ≡ Some bytes) → cond b here rest ≡ Some bytes → cond b here more ≡ Some bytes
here_or_some true here rest more bytes go e = e
here_or_some false here rest more bytes go e = go e

here_or_none : (b : Bool) (bytes : Bytes) (rest more : Option Bytes) (then : Option Bytes) → (rest ≡ None → more ≡ then) → cond b (Some bytes) rest ≡ None → cond b (Some bytes) more ≡ then
here_or_none true bytes rest more then go e = absurd (cc)
here_or_none false bytes rest more then go e = go e

not_here : (b : Bool) (bytes : Bytes) (rest : Option Bytes) → cond b (Some bytes) rest ≡ None → rest ≡ None
not_here true bytes rest e = absurd (cc)
not_here false bytes rest e = e

get_first : (x : Entry) (xs : List Entry) (name : Bytes) → get (folder_of (x ∷ xs)) name ≡ cond (eq_by_cmp (slice_cmp nat_cmp) name (string_bytes x.name)) (Some x.bytes.items) (get (folder_of xs) name)
get_first x xs name = get-insert nat_list_cmp_total (folder_of xs) (string_bytes x.name) x.bytes.items name

pub both_some : (xs ys : List Entry) (name bytes : Bytes) → get (folder_of xs) name ≡ Some bytes → get (folder_of (xs ++ ys)) name ≡ Some bytes
both_some [] ys name bytes e = absurd (let no = sym (get-empty (slice_cmp nat_cmp) name) ∙ e in cc)
both_some (x ∷ xs) ys name bytes e =
    get_first x (xs ++ ys) name
    ∙ here_or_some (eq_by_cmp (slice_cmp nat_cmp) name (string_bytes x.name)) (Some x.bytes.items) (get (folder_of xs) name) (get (folder_of (xs ++ ys)) name) bytes
    (both_some xs ys name bytes) (sym (get_first x xs name) ∙ e)

pub both_none : (xs ys : List Entry) (name : Bytes) → get (folder_of xs) name ≡ None → get (folder_of (xs ++ ys)) name ≡ get (folder_of ys) name
both_none [] ys name e = refl
both_none (x ∷ xs) ys name e =
    get_first x (xs ++ ys) name
    ∙ here_or_none (eq_by_cmp (slice_cmp nat_cmp) name (string_bytes x.name)) x.bytes.items (get (folder_of xs) name) (get (folder_of (xs ++ ys)) name) (get (folder_of ys) name)
    (both_none xs ys name) (sym (get_first x xs name) ∙ e)

-- a name that none of two lists has, the second hasn't
pub older_none : (xs ys : List Entry) (name : Bytes) → get (folder_of (xs ++ ys)) name ≡ None → get (folder_of ys) name ≡ None
older_none [] ys name e = e
older_none (x ∷ xs) ys name e =
    older_none xs ys name
    (not_here (eq_by_cmp (slice_cmp nat_cmp) name (string_bytes x.name)) x.bytes.items (get (folder_of (xs ++ ys)) name) (sym (get_first x (xs ++ ys) name) ∙ e))
