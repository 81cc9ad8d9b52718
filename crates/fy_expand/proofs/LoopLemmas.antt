-- Loops over written lists: the next member is shallow where the rest is, and what one more step gives.
use Rattle.std.proofs.Common.{◌≡◌, ℕ, zero, suc, ◌+◌, ◌<◌, ◌≤◌, Bool, true, false, List, [], ◌∷◌, ◌++◌, length, map, get_or, take, drop, refl, sym, ap, ◌∙◌, subst, arith, add-one}
use Rattle.std.proofs.lemmas.List.{drop_more, take_more, map-append}
use Rattle.fy_base.specs.declared.data.Place.{Place}
use Rattle.fy_syntax.specs.declared.surface.Surface.{Surface}
use Rattle.fy_syntax.specs.declared.surface.Def.{Def, out-Def}
use Rattle.fy_syntax.specs.declared.surface.Link.{Link, out-Link}
use Rattle.fy_syntax.specs.Trees.{Defs, Links}
use Rattle.fy_syntax.specs.Trees as written
use Rattle.fy_syntax.specs.Reading.{DefTree, LinkTree, tree_of, trees_from, def_of, defs_from, link_of, links_from}
use Rattle.fy_syntax.proofs.ReadLemmas.{def_of-at, link_of-at}
use Rattle.fy_phrase.specs.Tree.{Tree, binary, app, merge, field, let_in}
use Rattle.fy_expand.specs.Scope.{Scope, behind}
use Rattle.fy_expand.specs.Front.{front}
use Rattle.fy_expand.specs.Core.{core, linked, applied, lets, items_of, parts_of, Item}
use Rattle.fy_phrase.specs.Sizes.{all_nesting}
use Rattle.fy_expand.specs.Frames.{behind_all}
use Rattle.fy_expand.specs.declared.build.Item as built
use Rattle.fy_expand.specs.Built.{IsShallow, items_nesting, rest_merged, rest_fields, with_field, item_of}
use Rattle.fy_expand.proofs.NestingLemmas.{nesting-linked, nesting-applied, nesting-merged, nesting-with_fields}

rest_at : {A : Type 0} (xs : List A) (i : ℕ) (x : A) → i < length xs → x ≡ get_or xs i x → drop i xs ≡ x ∷ drop (i + 1) xs
rest_at xs i x h e = drop_more xs i x h ∙ ap (λ y. y ∷ drop (i + 1) xs) (sym e)

behind_all-behind : (n : ℕ) (s : Scope) → behind_all n (behind s) ≡ behind (behind_all n s)
behind_all-behind zero s = refl
behind_all-behind (suc n) s = ap behind (behind_all-behind n s)

-- operators between operands
shallow-linked-first : (s : Scope) (p : Tree) (l : LinkTree) (more : Links) → IsShallow s (linked s p (Links.and_link l.op l.at l.item more)) → IsShallow s (core s l.item)
shallow-linked-first s p l more h = let k = nesting-linked s (binary l.op p (core s l.item) l.at) more in record { bound = omega arith }

pub shallow-link : (s : Scope) (p : Tree) (xs : List Link) (i : ℕ) (x : Link) (whole : Tree) → i < length xs → x ≡ get_or xs i x →
    linked s p (links_from (map link_of (drop i xs))) ≡ whole → IsShallow s whole → IsShallow s (core s (tree_of (out-Link x).item))
shallow-link s p xs i x whole h e is k =
    let F : List Link → Tree = λ ys. linked s p (links_from (map link_of ys)) in
    let all : whole ≡ F (x ∷ drop (i + 1) xs) = sym is ∙ ap F (rest_at xs i x h e) in
    let first = shallow-linked-first s p (link_of x) (links_from (map link_of (drop (i + 1) xs))) (subst (λ q. IsShallow s q) all k) in
    subst (λ (l : LinkTree). IsShallow s (core s l.item)) (link_of-at x) first

-- arguments
shallow-applied-first : (s : Scope) (at : Place) (p : Tree) (q : written.Tree) (more : written.Trees) → IsShallow s (applied s at p (written.Trees.and_tree q more)) → IsShallow s (core s q)
shallow-applied-first s at p q more h = let k = nesting-applied s at (app p (core s q) at) more in record { bound = omega arith }

pub shallow-argument : (s : Scope) (at : Place) (p : Tree) (xs : List Surface) (i : ℕ) (x : Surface) (whole : Tree) → i < length xs → x ≡ get_or xs i x →
    applied s at p (trees_from (map tree_of (drop i xs))) ≡ whole → IsShallow s whole → IsShallow s (core s (tree_of x))
shallow-argument s at p xs i x whole h e is k =
    let F : List Surface → Tree = λ ys. applied s at p (trees_from (map tree_of ys)) in
    let all : whole ≡ F (x ∷ drop (i + 1) xs) = sym is ∙ ap F (rest_at xs i x h e) in
    shallow-applied-first s at p (tree_of x) (trees_from (map tree_of (drop (i + 1) xs))) (subst (λ q. IsShallow s q) all k)

-- members of a merge
shallow-merged-first : (b : Bool) (s : Scope) (at : Place) (p : Tree) (q : written.Tree) (more : written.Trees) → IsShallow s (rest_merged b s at p (written.Trees.and_tree q more)) → IsShallow s (core s q)
shallow-merged-first true s at p q more h = let k = nesting-merged s at (core s q) more in record { bound = omega arith }
shallow-merged-first false s at p q more h = let k = nesting-merged s at (merge p (core s q) at) more in record { bound = omega arith }

pub shallow-member : (b : Bool) (s : Scope) (at : Place) (p : Tree) (xs : List Surface) (i : ℕ) (x : Surface) (whole : Tree) → i < length xs → x ≡ get_or xs i x →
    rest_merged b s at p (trees_from (map tree_of (drop i xs))) ≡ whole → IsShallow s whole → IsShallow s (core s (tree_of x))
shallow-member b s at p xs i x whole h e is k =
    let F : List Surface → Tree = λ ys. rest_merged b s at p (trees_from (map tree_of ys)) in
    let all : whole ≡ F (x ∷ drop (i + 1) xs) = sym is ∙ ap F (rest_at xs i x h e) in
    shallow-merged-first b s at p (tree_of x) (trees_from (map tree_of (drop (i + 1) xs))) (subst (λ q. IsShallow s q) all k)

-- fields of a `letrec`
shallow-fields-first : (b : Bool) (s : Scope) (at : Place) (p : Tree) (d : DefTree) (more : Defs) → IsShallow s (rest_fields b s at p (Defs.and_def d.name d.at d.body more)) → IsShallow s (core s d.body)
shallow-fields-first true s at p d more h = let k = nesting-with_fields s d.at (field d.name (core s d.body) d.at) more in record { bound = omega arith }
shallow-fields-first false s at p d more h = let k = nesting-with_fields s at (merge p (field d.name (core s d.body) d.at) at) more in record { bound = omega arith }

pub shallow-field : (b : Bool) (s : Scope) (at : Place) (p : Tree) (xs : List Def) (i : ℕ) (x : Def) (whole : Tree) → i < length xs → x ≡ get_or xs i x →
    rest_fields b s at p (defs_from (map def_of (drop i xs))) ≡ whole → IsShallow s whole → IsShallow s (core s (tree_of (out-Def x).body))
shallow-field b s at p xs i x whole h e is k =
    let F : List Def → Tree = λ ys. rest_fields b s at p (defs_from (map def_of ys)) in
    let all : whole ≡ F (x ∷ drop (i + 1) xs) = sym is ∙ ap F (rest_at xs i x h e) in
    let first = shallow-fields-first b s at p (def_of x) (defs_from (map def_of (drop (i + 1) xs))) (subst (λ q. IsShallow s q) all k) in
    subst (λ (d : DefTree). IsShallow s (core s d.body)) (def_of-at x) first

-- items of a sequence
pub shallow-item : (s : Scope) (xs : List Surface) (i : ℕ) (x : Surface) → i < length xs → x ≡ get_or xs i x →
    s.depth + items_nesting (items_of s (trees_from (map tree_of xs))) ≤ 1024 → IsShallow s (core s (tree_of x))
shallow-item s [] i x h e k = absurd (omega arith)
shallow-item s (y ∷ ys) zero x h e k = subst (λ z. IsShallow s (core s (tree_of z))) (sym e) (record { bound = omega arith })
shallow-item s (y ∷ ys) (suc i) x h e k = shallow-item s ys i x (omega arith) e (omega arith)

-- parts of a `seq`
pub shallow-part : (s : Scope) (xs : List Surface) (i : ℕ) (x : Surface) → i < length xs → x ≡ get_or xs i x →
    s.depth + all_nesting (parts_of s (trees_from (map tree_of xs))) ≤ 1024 → IsShallow s (core s (tree_of x))
shallow-part s [] i x h e k = absurd (omega arith)
shallow-part s (y ∷ ys) zero x h e k = subst (λ z. IsShallow s (core s (tree_of z))) (sym e) (record { bound = omega arith })
shallow-part s (y ∷ ys) (suc i) x h e k = shallow-part s ys i x (omega arith) e (omega arith)

-- definitions of a `let`, from the innermost on
shallow-lets-at : (s : Scope) (at : Place) (xs : List Def) (body : Tree) (i : ℕ) → i ≤ length xs → IsShallow s (lets s at (defs_from (map def_of xs)) body) →
    IsShallow (behind_all i s) (lets (behind_all i s) at (defs_from (map def_of (drop i xs))) body)
shallow-lets-at s at xs body zero h k = k
shallow-lets-at s at [] body (suc i) h k = absurd (omega arith)
shallow-lets-at s at (x ∷ xs) body (suc i) h k =
    let rest : IsShallow (behind s) (lets (behind s) at (defs_from (map def_of xs)) body) = record { bound = omega arith } in
    subst (λ (t : Scope). IsShallow t (lets t at (defs_from (map def_of (drop i xs))) body)) (behind_all-behind i s) (shallow-lets-at (behind s) at xs body i (omega arith) rest)

-- one more definition around what is made
pub lets-more : (s : Scope) (at : Place) (xs : List Def) (body : Tree) (i : ℕ) (x : Def) → i < length xs → x ≡ get_or xs i x →
    lets (behind_all i s) at (defs_from (map def_of (drop i xs))) body
    ≡ let_in (behind_all i s).depth (core (behind_all i s) (tree_of (out-Def x).body)) (lets (behind_all (i + 1) s) at (defs_from (map def_of (drop (i + 1) xs))) body) at
lets-more s at xs body i x h e =
    let t = behind_all i s in
    let more = defs_from (map def_of (drop (i + 1) xs)) in
    ap (λ ys. lets t at (defs_from (map def_of ys)) body) (rest_at xs i x h e)
    ∙ ap (λ (d : DefTree). let_in t.depth (core t d.body) (lets (behind t) at more body) at) (def_of-at x)
    ∙ ap (λ n. let_in t.depth (core t (tree_of (out-Def x).body)) (lets (behind_all n s) at more body) at) (sym (add-one i))

shallow-let-first : (t : Scope) (at : Place) (d : ℕ) (p rest : Tree) → IsShallow t (let_in d p rest at) → IsShallow t p
shallow-let-first t at d p rest h = record { bound = omega arith }

pub shallow-def : (s : Scope) (at : Place) (xs : List Def) (body : Tree) (i : ℕ) (x : Def) → i < length xs → x ≡ get_or xs i x →
    IsShallow s (lets s at (defs_from (map def_of xs)) body) → IsShallow (behind_all i s) (core (behind_all i s) (tree_of (out-Def x).body))
shallow-def s at xs body i x h e k =
    let t = behind_all i s in
    let here = shallow-lets-at s at xs body i (omega arith) k in
    shallow-let-first t at t.depth (core t (tree_of (out-Def x).body)) (lets (behind_all (i + 1) s) at (defs_from (map def_of (drop (i + 1) xs))) body)
    (subst (λ q. IsShallow t q) (lets-more s at xs body i x h e) here)

-- the binders around are few
pub shallow-depth : (s : Scope) (p : Tree) → IsShallow s p → s.depth ≤ 1024
shallow-depth s p h = omega arith

-- one more item
items_of-append : (s : Scope) (xs : List Surface) (x : Surface) → items_of s (trees_from (map tree_of (xs ++ x ∷ []))) ≡ items_of s (trees_from (map tree_of xs)) ++ record { phrase = core s (tree_of x); front = front (tree_of x) } ∷ []
items_of-append s [] x = refl
items_of-append s (y ∷ ys) x = ap (λ more. record { phrase = core s (tree_of y); front = front (tree_of y) } ∷ more) (items_of-append s ys x)

pub items_of-more : (s : Scope) (xs : List Surface) (i : ℕ) (x : Surface) → i < length xs → x ≡ get_or xs i x →
    items_of s (trees_from (map tree_of (take (i + 1) xs))) ≡ items_of s (trees_from (map tree_of (take i xs))) ++ record { phrase = core s (tree_of x); front = front (tree_of x) } ∷ []
items_of-more s xs i x h e =
    ap (λ ys. items_of s (trees_from (map tree_of ys))) (take_more xs i x h ∙ ap (λ y. take i xs ++ y ∷ []) (sym e))
    ∙ items_of-append s (take i xs) x

-- one more operand, argument and field
pub linked-more : (s : Scope) (p : Tree) (xs : List Link) (i : ℕ) (x : Link) → i < length xs → x ≡ get_or xs i x →
    linked s p (links_from (map link_of (drop i xs))) ≡ linked s (binary (out-Link x).op p (core s (tree_of (out-Link x).item)) (out-Link x).at) (links_from (map link_of (drop (i + 1) xs)))
linked-more s p xs i x h e =
    let more = links_from (map link_of (drop (i + 1) xs)) in
    ap (λ ys. linked s p (links_from (map link_of ys))) (rest_at xs i x h e)
    ∙ ap (λ (l : LinkTree). linked s (binary l.op p (core s l.item) l.at) more) (link_of-at x)

pub applied-more : (s : Scope) (at : Place) (p : Tree) (xs : List Surface) (i : ℕ) (x : Surface) → i < length xs → x ≡ get_or xs i x →
    applied s at p (trees_from (map tree_of (drop i xs))) ≡ applied s at (app p (core s (tree_of x)) at) (trees_from (map tree_of (drop (i + 1) xs)))
applied-more s at p xs i x h e = ap (λ ys. applied s at p (trees_from (map tree_of ys))) (rest_at xs i x h e)

fields-next : (b : Bool) (s : Scope) (made : Item) (d : DefTree) (more : Defs) →
    rest_fields b s made.front made.phrase (Defs.and_def d.name d.at d.body more)
    ≡ rest_fields false s (with_field b made (field d.name (core s d.body) d.at) d.at).front (with_field b made (field d.name (core s d.body) d.at) d.at).phrase more
fields-next true s made d more = refl
fields-next false s made d more = refl

pub fields-more : (b : Bool) (s : Scope) (made next : Item) (xs : List Def) (i : ℕ) (x : Def) → i < length xs → x ≡ get_or xs i x →
    next ≡ with_field b made (field (out-Def x).name (core s (tree_of (out-Def x).body)) (out-Def x).at) (out-Def x).at →
    rest_fields false s next.front next.phrase (defs_from (map def_of (drop (i + 1) xs))) ≡ rest_fields b s made.front made.phrase (defs_from (map def_of (drop i xs)))
fields-more b s made next xs i x h e is =
    let more = defs_from (map def_of (drop (i + 1) xs)) in
    let F : Item → Tree = λ n. rest_fields false s n.front n.phrase more in
    let G : DefTree → Item = λ (d : DefTree). with_field b made (field d.name (core s d.body) d.at) d.at in
    ap F (is ∙ ap G (sym (def_of-at x)))
    ∙ sym (fields-next b s made (def_of x) more)
    ∙ sym (ap (λ ys. rest_fields b s made.front made.phrase (defs_from (map def_of ys))) (rest_at xs i x h e))

-- one more item at the end
pub items-pushed : (xs ys : List built.Item) (x : built.Item) (zs : List Item) (z : Item) → ys ≡ xs ++ x ∷ [] → map item_of xs ≡ zs → item_of x ≡ z → map item_of ys ≡ zs ++ z ∷ []
items-pushed xs ys x zs z h k l =
    ap (map item_of) h ∙ map-append item_of xs (x ∷ []) ∙ ap (λ before. before ++ item_of x ∷ []) k ∙ ap (λ a. zs ++ a ∷ []) l
