-- What a phrase means in two scopes in which its names stand for the same.
use Rattle.std.proofs.Common.{ℕ, zero, suc, ◌/◌, ◌≡◌, Bool, true, false, List, [], ◌∷◌, ◌++◌, length, take, drop, Option, Some, None, is_none, refl, sym, ap, ◌∙◌, subst, arith}
use Rattle.fy_base.specs.Outside.{Bytes}
use Rattle.fy_base.specs.declared.data.Place.{Place}
use Rattle.fy_types.specs.Types.{PlainType, PlainTypes}
use Rattle.fy_syntax.specs.declared.surface.Prefixed.{Prefixed}
use Rattle.fy_syntax.specs.Trees.{DeclTree, Defs, Links}
use Rattle.fy_syntax.specs.Trees as written
use Rattle.fy_syntax.specs.Places.{no_place, type_without_places, types_without_places, decls_without_places, operators_without_places, without_places, trees_without_places, defs_without_places, links_without_places}
use Rattle.fy_phrase.specs.Tree as tree
use Rattle.fy_phrase.specs.Tree.{Tree, Trees}
use Rattle.fy_phrase.specs.Alike as alike
use Rattle.fy_phrase.specs.Alike.{Alike, AllAlike, lifted}
use Rattle.fy_expand.specs.declared.error.ExpandError.{ExpandError}
use Rattle.fy_expand.specs.declared.frame.Standing.{Standing}
use Rattle.fy_expand.specs.declared.frame.Standing.TheVariants.{Variable, Member}
use Rattle.fy_expand.specs.Types.{types_of}
use Rattle.fy_expand.specs.Scope.{Scope, behind, under, under_defs, under_members, with_type}
use Rattle.fy_expand.specs.Front.{front}
use Rattle.fy_expand.specs.Core.{used, trees_count, prefixed, selected, Item, by_halves, one_after, no_item, sequence, declared, meet_of, indexed, letters, text_parts, core, linked, applied, items_of, merged_all, merged, lets, all_fields, with_fields, parts_of}
use Rattle.fy_expand.specs.Faults.{fault_if, is_operand, fault, all_faults, links_fault, members_fault, operands_fault, defs_fault, fields_fault}
use Rattle.fy_expand.proofs.AlikeScopes.{types-placed, declared-placed, IsSameStanding, IsSameScope, IsClear, scope-behind, scope-under, scope-type, scope-members, lifted_by, scope-defs, clear-first, clear-second, clear-operand, KnownTogether, IsKnown, known-behind, known-under, known-type, known-members, known-defs}

-- ---- parts

abbrev EachItem : (ℕ → ℕ) → List Item → List Item → Type 0
EachItem f [] [] = Unit {0}
EachItem f [] (y ∷ ys) = ⊥
EachItem f (x ∷ xs) [] = ⊥
EachItem f (x ∷ xs) (y ∷ ys) = Alike f x.phrase y.phrase × EachItem f xs ys

items-length : (f : ℕ → ℕ) (xs ys : List Item) → EachItem f xs ys → length ys ≡ length xs
items-length f [] [] h = refl
items-length f [] (y ∷ ys) h = absurd h
items-length f (x ∷ xs) [] h = absurd h
items-length f (x ∷ xs) (y ∷ ys) h = let e = items-length f xs ys h.1 in omega (arith, e)

items-take : (f : ℕ → ℕ) (k : ℕ) (xs ys : List Item) → EachItem f xs ys → EachItem f (take k xs) (take k ys)
items-take f zero xs ys h = tt
items-take f (suc k) [] [] h = tt
items-take f (suc k) [] (y ∷ ys) h = absurd h
items-take f (suc k) (x ∷ xs) [] h = absurd h
items-take f (suc k) (x ∷ xs) (y ∷ ys) h = (h.0, items-take f k xs ys h.1)

items-drop : (f : ℕ → ℕ) (k : ℕ) (xs ys : List Item) → EachItem f xs ys → EachItem f (drop k xs) (drop k ys)
items-drop f zero xs ys h = h
items-drop f (suc k) [] [] h = tt
items-drop f (suc k) [] (y ∷ ys) h = absurd h
items-drop f (suc k) (x ∷ xs) [] h = absurd h
items-drop f (suc k) (x ∷ xs) (y ∷ ys) h = items-drop f k xs ys h.1

abbrev halved : Place → ℕ → List Item → Item
halved at n xs = by_halves one_after (no_item at) n xs

halves-alike : (f : ℕ → ℕ) (a b : Place) (n : ℕ) (xs ys : List Item) → EachItem f xs ys → Alike f (halved a n xs).phrase (halved b n ys).phrase
halves-alike f a b zero [] [] h = alike.skip
halves-alike f a b (suc n) [] [] h = alike.skip
halves-alike f a b n [] (y ∷ ys) h = absurd h
halves-alike f a b n (x ∷ xs) [] h = absurd h
halves-alike f a b zero (x ∷ []) (y ∷ []) h = h.0
halves-alike f a b (suc n) (x ∷ []) (y ∷ []) h = h.0
halves-alike f a b n (x ∷ []) (y ∷ z ∷ ys) h = absurd h.1
halves-alike f a b n (x ∷ w ∷ xs) (y ∷ []) h = absurd h.1
halves-alike f a b zero (x ∷ w ∷ xs) (y ∷ z ∷ ys) h = h.0
halves-alike f a b (suc n) (x ∷ w ∷ xs) (y ∷ z ∷ ys) h =
    let l : List Item = x ∷ w ∷ xs in
    let m : List Item = y ∷ z ∷ ys in
    let k = length l / 2 in
    let e : length l / 2 ≡ length m / 2 = ap (λ i. i / 2) (sym (items-length f l m h)) in
    subst (λ j. Alike f (halved a (suc n) l).phrase (tree.seq (halved b n (take j m)).phrase (halved b n (drop j m)).phrase (halved b n (take j m)).front)) e
    (alike.seq (halves-alike f a b n (take k l) (take k m) (items-take f k l m h)) (halves-alike f a b n (drop k l) (drop k m) (items-drop f k l m h)))

sequence-alike : (f : ℕ → ℕ) (a b : Place) (xs ys : List Item) → EachItem f xs ys → Alike f (sequence a xs) (sequence b ys)
sequence-alike f a b xs ys h =
    subst (λ n. Alike f (sequence a xs) (halved b n ys).phrase) (sym (items-length f xs ys h)) (halves-alike f a b (length xs) xs ys h)

count-alike : (f : ℕ → ℕ) (ps qs : Trees) → AllAlike f ps qs → trees_count ps ≡ trees_count qs
count-alike f _ _ alike.no_parts = refl
count-alike f _ _ (alike.and_part {p} {q} {ps} {qs} h hs) = ap suc (count-alike f ps qs hs)

indexed-alike : (f : ℕ → ℕ) (d e : ℕ) (a b : Place) (n m : ℕ) (ps qs : Trees) → AllAlike (lifted f) ps qs → n ≡ m → Alike f (indexed d a n ps) (indexed e b m qs)
indexed-alike f d e a b n m ps qs h i =
    subst (λ k. Alike f (indexed d a n ps) (indexed e b k qs)) i (alike.merge (alike.lam (alike.case (alike.var refl) h)) (alike.field alike.lit))

letters-alike : (f : ℕ → ℕ) (a b : Place) (bytes : Bytes) → AllAlike f (letters a bytes) (letters b bytes)
letters-alike f a b [] = alike.no_parts
letters-alike f a b (x ∷ bytes) = alike.and_part alike.lit (letters-alike f a b bytes)

text-alike : (f : ℕ → ℕ) (a b : Place) (bytes : Bytes) → AllAlike f (text_parts a bytes) (text_parts b bytes)
text-alike f a b [] = alike.and_part (alike.unary alike.lit) alike.no_parts
text-alike f a b (x ∷ bytes) = alike.and_part alike.lit (letters-alike f a b bytes)

prefixed-alike : (f : ℕ → ℕ) (os : List Prefixed) (p q : Tree) → Alike f p q → Alike f (prefixed os p) (prefixed (operators_without_places os) q)
prefixed-alike f [] p q h = h
prefixed-alike f (o ∷ os) p q h = alike.unary (prefixed-alike f os p q h)

selected-alike : (f : ℕ → ℕ) (a b : Place) (names : List ℕ) (p q : Tree) → Alike f p q → Alike f (selected a p names) (selected b q names)
selected-alike f a b [] p q h = h
selected-alike f a b (i ∷ names) p q h = selected-alike f a b names (tree.sel p i a) (tree.sel q i b) (alike.sel h)

-- a name where it is used
used-alike : (c : Bool) (f : ℕ → ℕ) (d e x : ℕ) (a b : Place) (err : ExpandError) (z o r : Option Standing) → IsClear c (fault_if (is_none z) err) → KnownTogether z o →
    IsSameStanding c f d e o r → Alike f (used d x a o) (used e x b r)
used-alike true f d e x a b err None None r g k h = absurd cc
used-alike true f d e x a b err (Some y) None r g k h = absurd k
used-alike false f d e x a b err z None r g k h = subst (λ r. Alike f (tree.skip a) (used e x b r)) (sym h) alike.skip
used-alike c f d e x a b err z (Some (Variable i)) r g k h = subst (λ r. Alike f (used d x a (Some (Variable i))) (used e x b r)) (sym h.1) (alike.var h.2.2)
used-alike c f d e x a b err z (Some (Member i)) r g k h = subst (λ r. Alike f (used d x a (Some (Member i))) (used e x b r)) (sym h.1) (alike.sel (alike.var h.2.2))

typed-alike : (f : ℕ → ℕ) (d e : ℕ) (a b : Place) (As Bs : PlainTypes) (p q : Tree) → As ≡ Bs → Alike (lifted f) p q → Alike f (tree.lam d As p a) (tree.lam e Bs q b)
typed-alike f d e a b As Bs p q e2 h = subst (λ X. Alike f (tree.lam d As p a) (tree.lam e X q b)) e2 (alike.lam h)

rec-alike : (f : ℕ → ℕ) (d e : ℕ) (a b : Place) (A B : PlainType) (p q : Tree) → A ≡ B → Alike (lifted f) p q → Alike f (tree.rec d A p a) (tree.rec e B q b)
rec-alike f d e a b A B p q e2 h = subst (λ X. Alike f (tree.rec d A p a) (tree.rec e X q b)) e2 (alike.rec h)

-- ---- phrases

mutual
  pub core-alike : (t : written.Tree) (c : Bool) (f : ℕ → ℕ) (z s r : Scope) → IsSameScope c f s r → IsKnown z s → IsClear c (fault z t) → Alike f (core s t) (core r (without_places t))
  core-alike (written.Tree.merge members at) c f z s r h k g = merged_all-alike members c f z s r at no_place h k g
  core-alike (written.Tree.sequence items at) c f z s r h k g = sequence-alike f at no_place (items_of s items) (items_of r (trees_without_places items)) (items-alike items c f z s r h k g)
  core-alike (written.Tree.lam x alternatives p at) c f z s r h k g =
      typed-alike f s.depth r.depth at no_place (types_of s.types alternatives) (types_of r.types (types_without_places alternatives)) (core (under x s) p) (core (under x r) (without_places p))
      (types-placed s.types alternatives ∙ ap (λ y. types_of y (types_without_places alternatives)) h.types)
      (core-alike p c (lifted f) (under x z) (under x s) (under x r) (scope-under c f s r x h) (known-under z s x k) (clear-second c _ _ (clear-second c _ _ g)))
  core-alike (written.Tree.let_in defs p at) c f z s r h k g =
      lets-alike defs c f z s r at no_place (core (under_defs defs s) p) (core (under_defs (defs_without_places defs) r) (without_places p)) [] h k (clear-first c _ _ g)
      (core-alike p c (lifted_by defs f) (under_defs defs z) (under_defs defs s) (under_defs (defs_without_places defs) r) (scope-defs c f s r defs h) (known-defs z s defs k) (clear-second c _ _ g))
  core-alike (written.Tree.letrec decls defs in_at p at) c f z s r h k g =
      let g2 = clear-second c _ _ g in
      let y = scope-members c f s r decls h in
      let l = known-members z s decls k in
      alike.let_in
      (rec-alike f s.depth r.depth at no_place (meet_of (declared s.types decls)) (meet_of (declared r.types (decls_without_places decls)))
      (all_fields (under_members decls s) at defs) (all_fields (under_members (decls_without_places decls) r) no_place (defs_without_places defs))
      (ap meet_of (declared-placed s.types decls ∙ ap (λ x. declared x (decls_without_places decls)) h.types))
      (all_fields-alike defs decls c (lifted f) (under_members decls z) (under_members decls s) (under_members (decls_without_places decls) r) in_at at no_place y l (clear-first c _ _ g2)))
      (core-alike p c (lifted f) (under_members decls z) (under_members decls s) (under_members (decls_without_places decls) r) y l (clear-second c _ _ g2))
  core-alike (written.Tree.let_type x a p at) c f z s r h k g =
      core-alike p c f (with_type x a z) (with_type x a s) (with_type x (type_without_places a) r) (scope-type c f s r x a h) (known-type z s x a a k) (clear-second c _ _ g)
  core-alike (written.Tree.new x kind p q at) c f z s r h k g =
      alike.new (core-alike p c f z s r h k (clear-first c _ _ g))
      (core-alike q c (lifted f) (under x z) (under x s) (under x r) (scope-under c f s r x h) (known-under z s x k) (clear-second c _ _ g))
  core-alike (written.Tree.escape x p at) c f z s r h k g =
      alike.escape (core-alike p c (lifted f) (under x z) (under x s) (under x r) (scope-under c f s r x h) (known-under z s x k) g)
  core-alike (written.Tree.accept x kind p at) c f z s r h k g =
      alike.accept (core-alike p c (lifted f) (under x z) (under x s) (under x r) (scope-under c f s r x h) (known-under z s x k) g)
  core-alike (written.Tree.cond b p q at) c f z s r h k g =
      let g2 = clear-second c _ _ g in
      alike.cond (core-alike b c f z s r h k (clear-first c _ _ g)) (core-alike p c f z s r h k (clear-first c _ _ g2)) (core-alike q c f z s r h k (clear-second c _ _ g2))
  core-alike (written.Tree.while_do b p at) c f z s r h k g =
      alike.while_do (core-alike b c f z s r h k (clear-first c _ _ g)) (core-alike p c f z s r h k (clear-second c _ _ g))
  core-alike (written.Tree.loop p at) c f z s r h k g = alike.forever (core-alike p c f z s r h k g)
  core-alike (written.Tree.field i p at) c f z s r h k g = alike.field (core-alike p c f z s r h k g)
  core-alike (written.Tree.assign p becomes_at q at) c f z s r h k g =
      alike.assign (core-alike p c f z s r h k (clear-first c _ _ g)) (core-alike q c f z s r h k (clear-second c _ _ g))
  core-alike (written.Tree.chain p links at) c f z s r h k g =
      linked-alike links c f z s r (core s p) (core r (without_places p)) h k (clear-second c _ _ g) (core-alike p c f z s r h k (clear-first c _ _ g))
  core-alike (written.Tree.prefixed operators p at) c f z s r h k g = prefixed-alike f operators (core s p) (core r (without_places p)) (core-alike p c f z s r h k g)
  core-alike (written.Tree.apply p arguments at) c f z s r h k g =
      applied-alike arguments c f z s r at no_place (core s p) (core r (without_places p)) h k (clear-second c _ _ g) (core-alike p c f z s r h k (clear-first c _ _ g))
  core-alike (written.Tree.select p names at) c f z s r h k g = selected-alike f at no_place names (core s p) (core r (without_places p)) (core-alike p c f z s r h k g)
  core-alike (written.Tree.ident x at) c f z s r h k g = used-alike c f s.depth r.depth x at no_place _ (z.phrases x) (s.phrases x) (r.phrases x) g (k.names x) (h.phrases x)
  core-alike (written.Tree.number v at) c f z s r h k g = alike.lit
  core-alike (written.Tree.letter v at) c f z s r h k g = alike.lit
  core-alike (written.Tree.string bytes at) c f z s r h k g =
      indexed-alike f s.depth r.depth at no_place (length bytes) (length bytes) (text_parts at bytes) (text_parts no_place bytes) (text-alike (lifted f) at no_place bytes) refl
  core-alike (written.Tree.truth b at) c f z s r h k g = alike.lit
  core-alike (written.Tree.skip at) c f z s r h k g = alike.skip
  core-alike (written.Tree.group p at) c f z s r h k g = core-alike p c f z s r h k g
  core-alike (written.Tree.seq_of parts at) c f z s r h k g =
      let x = parts-alike parts c (lifted f) z (behind s) (behind r) (scope-behind c f s r h) (known-behind z s k) g in
      indexed-alike f s.depth r.depth at no_place (trees_count (parts_of (behind s) parts)) (trees_count (parts_of (behind r) (trees_without_places parts))) (parts_of (behind s) parts) (parts_of (behind r) (trees_without_places parts)) x
      (count-alike (lifted f) (parts_of (behind s) parts) (parts_of (behind r) (trees_without_places parts)) x)

  items-alike : (ts : written.Trees) (c : Bool) (f : ℕ → ℕ) (z s r : Scope) → IsSameScope c f s r → IsKnown z s → IsClear c (all_faults z ts) →
      EachItem f (items_of s ts) (items_of r (trees_without_places ts))
  items-alike written.Trees.no_trees c f z s r h k g = tt
  items-alike (written.Trees.and_tree p more) c f z s r h k g = (core-alike p c f z s r h k (clear-first c _ _ g), items-alike more c f z s r h k (clear-second c _ _ g))

  parts-alike : (ts : written.Trees) (c : Bool) (f : ℕ → ℕ) (z s r : Scope) → IsSameScope c f s r → IsKnown z s → IsClear c (all_faults z ts) →
      AllAlike f (parts_of s ts) (parts_of r (trees_without_places ts))
  parts-alike written.Trees.no_trees c f z s r h k g = alike.no_parts
  parts-alike (written.Trees.and_tree p more) c f z s r h k g = alike.and_part (core-alike p c f z s r h k (clear-first c _ _ g)) (parts-alike more c f z s r h k (clear-second c _ _ g))

  applied-alike : (ts : written.Trees) (c : Bool) (f : ℕ → ℕ) (z s r : Scope) (a b : Place) (p q : Tree) → IsSameScope c f s r → IsKnown z s → IsClear c (all_faults z ts) → Alike f p q →
      Alike f (applied s a p ts) (applied r b q (trees_without_places ts))
  applied-alike written.Trees.no_trees c f z s r a b p q h k g i = i
  applied-alike (written.Trees.and_tree t more) c f z s r a b p q h k g i =
      applied-alike more c f z s r a b (tree.app p (core s t) a) (tree.app q (core r (without_places t)) b) h k (clear-second c _ _ g) (alike.app i (core-alike t c f z s r h k (clear-first c _ _ g)))

  linked-alike : (ls : Links) (c : Bool) (f : ℕ → ℕ) (z s r : Scope) (p q : Tree) → IsSameScope c f s r → IsKnown z s → IsClear c (links_fault z ls) → Alike f p q →
      Alike f (linked s p ls) (linked r q (links_without_places ls))
  linked-alike Links.no_links c f z s r p q h k g i = i
  linked-alike (Links.and_link op at t more) c f z s r p q h k g i =
      linked-alike more c f z s r (tree.binary op p (core s t) at) (tree.binary op q (core r (without_places t)) no_place) h k (clear-second c _ _ g) (alike.binary i (core-alike t c f z s r h k (clear-first c _ _ g)))

  merged_all-alike : (ts : written.Trees) (c : Bool) (f : ℕ → ℕ) (z s r : Scope) (a b : Place) → IsSameScope c f s r → IsKnown z s → IsClear c (members_fault z ts) →
      Alike f (merged_all s a ts) (merged_all r b (trees_without_places ts))
  merged_all-alike written.Trees.no_trees c f z s r a b h k g = alike.skip
  merged_all-alike (written.Trees.and_tree t more) c f z s r a b h k g =
      merged-alike more c f z s r a b (core s t) (core r (without_places t)) h k (clear-second c _ _ g) (core-alike t c f z s r h k (clear-first c _ _ g))

  merged-alike : (ts : written.Trees) (c : Bool) (f : ℕ → ℕ) (z s r : Scope) (a b : Place) (p q : Tree) → IsSameScope c f s r → IsKnown z s → IsClear c (operands_fault z ts) → Alike f p q →
      Alike f (merged s a p ts) (merged r b q (trees_without_places ts))
  merged-alike written.Trees.no_trees c f z s r a b p q h k g i = i
  merged-alike (written.Trees.and_tree t more) c f z s r a b p q h k g i =
      merged-alike more c f z s r a b (tree.merge p (core s t) a) (tree.merge q (core r (without_places t)) b) h k (clear-second c _ _ g)
      (alike.merge i (core-alike t c f z s r h k (clear-operand c (is_operand t) (front t) (fault z t) (clear-first c _ _ g))))

  lets-alike : (defs : Defs) (c : Bool) (f : ℕ → ℕ) (z s r : Scope) (a b : Place) (p q : Tree) (seen : List ℕ) → IsSameScope c f s r → IsKnown z s → IsClear c (defs_fault z seen defs) →
      Alike (lifted_by defs f) p q → Alike f (lets s a defs p) (lets r b (defs_without_places defs) q)
  lets-alike Defs.no_defs c f z s r a b p q seen h k g i = i
  lets-alike (Defs.and_def x at t more) c f z s r a b p q seen h k g i =
      let g2 = clear-second c _ _ g in
      alike.let_in (core-alike t c f z s r h k (clear-first c _ _ g2))
      (lets-alike more c (lifted f) z (behind s) (behind r) a b p q (seen ++ x ∷ []) (scope-behind c f s r h) (known-behind z s k) (clear-second c _ _ g2) i)

  all_fields-alike : (defs : Defs) (ds : List DeclTree) (c : Bool) (f : ℕ → ℕ) (z s r : Scope) (i a b : Place) → IsSameScope c f s r → IsKnown z s → IsClear c (fields_fault z i ds defs) →
      Alike f (all_fields s a defs) (all_fields r b (defs_without_places defs))
  all_fields-alike Defs.no_defs ds c f z s r i a b h k g = alike.skip
  all_fields-alike (Defs.and_def x at t more) [] true f z s r i a b h k g = absurd cc
  all_fields-alike (Defs.and_def x at t more) [] false f z s r i a b h k g =
      with_fields-alike more [] false f z s r i at no_place (tree.field x (core s t) at) (tree.field x (core r (without_places t)) no_place) h k tt
      (alike.field (core-alike t false f z s r h k tt))
  all_fields-alike (Defs.and_def x at t more) (d ∷ ds) c f z s r i a b h k g =
      let g2 = clear-second c _ _ g in
      with_fields-alike more ds c f z s r i at no_place (tree.field x (core s t) at) (tree.field x (core r (without_places t)) no_place) h k (clear-second c _ _ g2)
      (alike.field (core-alike t c f z s r h k (clear-first c _ _ g2)))

  with_fields-alike : (defs : Defs) (ds : List DeclTree) (c : Bool) (f : ℕ → ℕ) (z s r : Scope) (i a b : Place) (p q : Tree) → IsSameScope c f s r → IsKnown z s →
      IsClear c (fields_fault z i ds defs) → Alike f p q → Alike f (with_fields s a p defs) (with_fields r b q (defs_without_places defs))
  with_fields-alike Defs.no_defs ds c f z s r i a b p q h k g e = e
  with_fields-alike (Defs.and_def x at t more) [] true f z s r i a b p q h k g e = absurd cc
  with_fields-alike (Defs.and_def x at t more) [] false f z s r i a b p q h k g e =
      with_fields-alike more [] false f z s r i a b (tree.merge p (tree.field x (core s t) at) a) (tree.merge q (tree.field x (core r (without_places t)) no_place) b) h k tt
      (alike.merge e (alike.field (core-alike t false f z s r h k tt)))
  with_fields-alike (Defs.and_def x at t more) (d ∷ ds) c f z s r i a b p q h k g e =
      let g2 = clear-second c _ _ g in
      with_fields-alike more ds c f z s r i a b (tree.merge p (tree.field x (core s t) at) a) (tree.merge q (tree.field x (core r (without_places t)) no_place) b) h k (clear-second c _ _ g2)
      (alike.merge e (alike.field (core-alike t c f z s r h k (clear-first c _ _ g2))))
