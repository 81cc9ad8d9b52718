-- A phrase within the core limits uses fewer names than are tried.
use Rattle.std.proofs.Common.{◌≡◌, ℕ, zero, suc, ◌+◌, ◌*◌, ◌≤◌, Option, Some, None, List, [], ◌∷◌, ◌++◌, length, refl, sym, ap, subst, arith, codes, length-append}
use Rattle.std.proofs.lemmas.List.{length-map}
use Rattle.fy_base.specs.Outside.{Bytes}
use Rattle.fy_types.specs.Nested.{type_nodes, types_nodes}
use Rattle.fy_types.specs.Types.{PlainType, PlainTypes}
use Rattle.fy_phrase.specs.CoreLimits.{size_of, parts_size}
use Rattle.fy_phrase.specs.Tree.{Tree, Trees, var, lit, unary, binary, cond, case, lam, app, field, sel, merge, let_in, rec, skip, seq, assign, while_do, forever, new, cells, escape, accept, put, read, mark, no_trees, and_tree}
use Rattle.fy_short.specs.DataTexts.{put_word}
use Rattle.fy_show.specs.declared.binders.Binder.{Binder}
use Rattle.fy_show.specs.Entries.{Fields, Entry, unnamed, all, entry_at, field_name}
use Rattle.fy_show.specs.Fresh.{record_at, fields_of, fields_of_all, most_names}
use Rattle.fy_show.specs.Names.{entry_names, name_alone, field_names_as, names_in, all_names_in}
use Rattle.fy_again.specs.Phrases.{plainly}
use Rattle.fy_again.proofs.RecordLemmas.{AreSame}
use Rattle.fy_again.proofs.StandingLemmas.{entry_later}

-- ---- sums

both_few : (xs ys : List Bytes) (a b : ℕ) → length xs ≤ a * 65534 → length ys ≤ b * 65534 → length (xs ++ ys) ≤ suc (a + b) * 65534
both_few xs ys a b h g = let e = length-append xs ys in omega (arith, e, h, g)

three_few : (xs ys zs : List Bytes) (a b c : ℕ) → length xs ≤ a * 65534 → length ys ≤ b * 65534 → length zs ≤ c * 65534 → length (xs ++ (ys ++ zs)) ≤ suc (a + b + c) * 65534
three_few xs ys zs a b c h g f =
    let d = length-append xs (ys ++ zs) in
    let e = length-append ys zs in omega (arith, d, e, h, g, f)

one_few : (xs : List Bytes) (a t : ℕ) → length xs ≤ a * 65534 → length xs ≤ suc (t + a) * 65534
one_few xs a t h = omega (arith, h)

part_few : (xs : List Bytes) (a : ℕ) → length xs ≤ a * 65534 → length xs ≤ suc a * 65534
part_few xs a h = omega (arith, h)

front_few : (x : Bytes) (xs : List Bytes) (a : ℕ) → length xs ≤ a * 65534 → length (x ∷ xs) ≤ suc a * 65534
front_few x xs a h = omega (arith, h)

front_both_few : (x : Bytes) (xs ys : List Bytes) (a b : ℕ) → length xs ≤ a * 65534 → length ys ≤ b * 65534 → length (x ∷ (xs ++ ys)) ≤ suc (a + b) * 65534
front_both_few x xs ys a b h g = let e = length-append xs ys in omega (arith, e, h, g)

joined_few : (xs ys : List Bytes) (a b : ℕ) → length xs ≤ a * 65534 → length ys ≤ b * 65534 → length (xs ++ ys) ≤ (a + b) * 65534
joined_few xs ys a b h g = let e = length-append xs ys in omega (arith, e, h, g)

alone_few : (o : Option Bytes) → length (name_alone o) ≤ 1
alone_few None = omega arith
alone_few (Some x) = omega arith

field_few : (i : ℕ) (o : Option Fields) (xs : List Bytes) (a : ℕ) → length xs ≤ a * 65534 → length (field_names_as i o xs) ≤ suc a * 65534
field_few i None xs a h = omega (arith, h)
field_few i (Some fs) xs a h = let e = alone_few (field_name fs i) in omega (arith, e)

-- ---- names

-- each variable has at most so many names
abbrev pub AllFew : List Entry → Type 0
AllFew s = (n : ℕ) → length (entry_names (entry_at s n)) ≤ 65534

pub few_under : (s : List Entry) (e : Entry) → length (entry_names e) ≤ 65534 → AllFew s → AllFew (e ∷ s)
few_under s e h few zero = h
few_under s e h few (suc n) = subst (λ w. length (entry_names w) ≤ 65534) (sym (entry_later e s n)) (few n)

few_unnamed : (s : List Entry) → AllFew s → AllFew (unnamed ∷ s)
few_unnamed s few = few_under s unnamed (omega arith) few

mutual
  pub names_few : (names : List Bytes) (binders : List Binder) (s : List Entry) → AllFew s → (p : Tree) → length (names_in (plainly names binders) s p) ≤ size_of p * 65534
  names_few names binders s few (var n at) = few n
  names_few names binders s few (lit v at) = omega arith
  names_few names binders s few (unary op p at) = part_few _ _ (names_few names binders s few p)
  names_few names binders s few (binary op p q at) = both_few _ _ _ _ (names_few names binders s few p) (names_few names binders s few q)
  names_few names binders s few (cond b p q at) = three_few _ _ _ _ _ _ (names_few names binders s few b) (names_few names binders s few p) (names_few names binders s few q)
  names_few names binders s few (case e parts at) = both_few _ _ _ _ (names_few names binders s few e) (all_names_few names binders s few parts)
  names_few names binders s few (lam d As b at) = one_few _ _ (types_nodes As) (names_few names binders (unnamed ∷ s) (few_unnamed s few) b)
  names_few names binders s few (app p q at) = both_few _ _ _ _ (names_few names binders s few p) (names_few names binders s few q)
  names_few names binders s few (field i p at) = part_few _ _ (names_few names binders s few p)
  names_few names binders s few (sel p i at) = field_few i (record_at (plainly names binders) s p) _ _ (names_few names binders s few p)
  names_few names binders s few (merge p q at) = both_few _ _ _ _ (names_few names binders s few p) (names_few names binders s few q)
  names_few names binders s few (let_in d p b at) = both_few _ _ _ _ (names_few names binders s few p) (names_few names binders (unnamed ∷ s) (few_unnamed s few) b)
  names_few names binders s few (rec d T b at) = one_few _ _ (type_nodes T) (names_few names binders (unnamed ∷ s) (few_unnamed s few) b)
  names_few names binders s few (skip at) = omega arith
  names_few names binders s few (seq p q at) = both_few _ _ _ _ (names_few names binders s few p) (names_few names binders s few q)
  names_few names binders s few (assign p q at) = both_few _ _ _ _ (names_few names binders s few p) (names_few names binders s few q)
  names_few names binders s few (while_do p q at) = both_few _ _ _ _ (names_few names binders s few p) (names_few names binders s few q)
  names_few names binders s few (forever p at) = part_few _ _ (names_few names binders s few p)
  names_few names binders s few (new d D e b at) = both_few _ _ _ _ (names_few names binders s few e) (names_few names binders (unnamed ∷ s) (few_unnamed s few) b)
  names_few names binders s few (cells d e b at) = front_both_few (codes "newintseq") _ _ _ _ (names_few names binders s few e) (names_few names binders (unnamed ∷ s) (few_unnamed s few) b)
  names_few names binders s few (escape d b at) = part_few _ _ (names_few names binders (unnamed ∷ s) (few_unnamed s few) b)
  names_few names binders s few (accept d D b at) = part_few _ _ (names_few names binders (unnamed ∷ s) (few_unnamed s few) b)
  names_few names binders s few (put kind p at) = front_few (put_word kind) _ _ (names_few names binders s few p)
  names_few names binders s few (read p at) = front_few (codes "read") _ _ (names_few names binders s few p)
  names_few names binders s few (mark m at) = omega arith

  all_names_few : (names : List Bytes) (binders : List Binder) (s : List Entry) → AllFew s → (ps : Trees) → length (all_names_in (plainly names binders) s ps) ≤ parts_size ps * 65534
  all_names_few names binders s few no_trees = omega arith
  all_names_few names binders s few (and_tree p more) = joined_few _ _ _ _ (names_few names binders s few p) (all_names_few names binders s few more)

-- ---- fields

all_fields_few : (As : PlainTypes) → length (fields_of_all As) ≤ types_nodes As
all_fields_few PlainTypes.no_types = omega arith
all_fields_few (PlainTypes.and_type (PlainType.field i A) As) = let e = all_fields_few As in omega (arith, e)
all_fields_few (PlainTypes.and_type A As) = let e = all_fields_few As in omega (arith, e)

pub fields_few : (T : PlainType) → length (fields_of T) ≤ type_nodes T
fields_few (PlainType.field i A) = omega arith
fields_few (PlainType.meet As) = let e = all_fields_few As in omega (arith, e)
fields_few T = omega arith

same_length : (fs : Fields) (gs : List (ℕ × PlainType)) → AreSame fs gs → length fs ≡ length gs
same_length [] [] h = refl
same_length [] (g ∷ gs) h = absurd h
same_length (f ∷ fs) [] h = absurd h
same_length (f ∷ fs) (g ∷ gs) h = ap suc (same_length fs gs h.1)

-- the names of a `letrec` of that type
pub record_few : (T : PlainType) (fs : Fields) → AreSame fs (fields_of T) → type_nodes T ≤ 65534 → length (entry_names (all fs)) ≤ 65534
record_few T fs same h =
    let a = length-map fs (λ (f : ℕ × Bytes). f.1) in
    let b = same_length fs (fields_of T) same in
    let c = fields_few T in omega (arith, a, b, c, h)

-- ---- under a binder

-- one phrase, and two with fields
pub one_counted : (xs : List Bytes) (a : ℕ) → length xs ≤ a * 65534 → a ≤ 65536 → length (xs ++ []) + 0 ≤ most_names
unfolding most_names
one_counted xs a h g = let e = length-append xs [] in omega (arith, e, h, g)

pub two_counted : (xs ys : List Bytes) (a b n t : ℕ) → length xs ≤ a * 65534 → length ys ≤ b * 65534 → n ≤ t → suc (suc (t + a) + b) ≤ 65536 → length (xs ++ (ys ++ [])) + n ≤ most_names
unfolding most_names
two_counted xs ys a b n t h g f k =
    let d = length-append xs (ys ++ []) in
    let e = length-append ys [] in omega (arith, d, e, h, g, f, k)
