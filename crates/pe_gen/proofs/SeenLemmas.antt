-- Lists of nodes that are made from their ends.
use Rattle.std.proofs.Common.{◌≡◌, ◌<◌, ◌≤◌, arith, ℕ, List, [], ◌∷◌, ◌++◌, length, get_or, map, Some, refl, ap, sym, ◌∙◌}
use Rattle.std.specs.Option.{option_map}
use Rattle.std.specs.Prelude.{reverse, slice_get}
use Rattle.std.proofs.lemmas.List.{map-append, reverse-append, length-map}
use Rattle.std.proofs.lemmas.Option.{slice_get-map, slice_get_read}
use Rattle.pe_gen.specs.declared.nodes.Node.{Node}
use Rattle.fy_phrase.specs.Sizes.{nodes}
use Rattle.fy_phrase.specs.Tree.{Tree}
use Rattle.pe_gen.specs.Preorder.{preorder, seen, seen_back}
use Rattle.pe_gen.proofs.NodeLists.{length-preorder}

pub seen_back-push : (ns : List Node) (n : Node) → seen_back (ns ++ n ∷ []) ≡ seen n ∷ seen_back ns
seen_back-push ns n = ap reverse (map-append seen ns (n ∷ [])) ∙ reverse-append (map seen ns) (seen n ∷ [])

pub map-reverse : {X Y : Type 0} (f : X → Y) (xs : List X) → map f (reverse xs) ≡ reverse (map f xs)
map-reverse f [] = refl
map-reverse f (x ∷ xs) =
    ap (map f) (reverse-append (x ∷ []) xs)
    ∙ (map-append f (reverse xs) (x ∷ [])
    ∙ (ap (λ ys. ys ++ f x ∷ []) (map-reverse f xs) ∙ sym (reverse-append (f x ∷ []) (map f xs))))

-- what the node at a place stands for
pub seen-at : (ns : List Node) (i : ℕ) (n : Node) → i < length ns → n ≡ get_or ns i n → slice_get (map seen ns) i ≡ Some (seen n)
seen-at ns i n h is = slice_get-map seen ns i ∙ ap (option_map seen) (slice_get_read ns (length ns) i n refl h is)

pub nodes-few : (p : Tree) (ns : List Node) → map seen ns ≡ preorder 0 p → nodes p ≤ 65536 → length ns ≤ 65536
nodes-few p ns made few = omega (arith, length-map ns seen, ap length made, length-preorder 0 p, few)
