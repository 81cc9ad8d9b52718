-- The names of the variables in scope, from the outside in.
use Rattle.std.proofs.Common.{ℕ, ◌+◌, ◌<◌, ◌≤◌, ◌≡◌, List, [], ◌∷◌, ◌++◌, length, map, take, get_or, Bor, refl, sym, ap, ◌∙◌, arith}
use Rattle.std.proofs.lemmas.List.{length-map, map-append, take-map, take_all, take_more}
use Rattle.fy_phrase.specs.declared.phrase.Phrase.{Phrase}
use Rattle.fy_phrase.specs.Reads.{reads}
use Rattle.fy_phrase.specs.Tree.{Tree}
use Rattle.fy_show.specs.Entries.{Scope, Known}
use Rattle.fy_show.specs.Fresh.{bound}
use Rattle.fy_causes.specs.Occurrences.{Variable}
use Rattle.fy_why.specs.Sentences.{scope_of}
use Rattle.fy_why.specs.Readings.{binders_of, named}

abbrev pub read_each : List (Bor Phrase) → List Tree
read_each xs = map (λ (p : Bor Phrase). reads p.now) xs

-- the last of them binds the outermost variable
named-last : (k : Known) (ps : List Tree) (p : Tree) (s : Scope) → named k (ps ++ p ∷ []) s ≡ named k ps (bound k s p ∷ s)
named-last k [] p s = refl
named-last k (q ∷ ps) p s = ap (λ (z : Scope). bound k z q ∷ z) (named-last k ps p s)

pub named-step : (k : Known) (xs : List (Bor Phrase)) (n : ℕ) (x : Bor Phrase) (s : Scope) → n < length xs → x ≡ get_or xs n x →
    named k (take n (read_each xs)) (bound k s (reads x.now) ∷ s) ≡ named k (take (n + 1) (read_each xs)) s
named-step k xs n x s within is =
    sym (ap (λ ps. named k ps s)
    (take-map (λ (p : Bor Phrase). reads p.now) (n + 1) xs
    ∙ (ap read_each (take_more xs n x within ∙ ap (λ y. take n xs ++ y ∷ []) (sym is))
    ∙ (map-append (λ (p : Bor Phrase). reads p.now) (take n xs) (x ∷ []) ∙ ap (λ ps. ps ++ reads x.now ∷ []) (sym (take-map (λ (p : Bor Phrase). reads p.now) n xs)))))
    ∙ named-last k (take n (read_each xs)) (reads x.now) s)

-- all variables in scope
pub named-all : (k : Known) (G : List Variable) → named k (binders_of G) [] ≡ scope_of k G
named-all k [] = refl
named-all k (v ∷ G) = ap (λ (z : Scope). bound k z v.binder ∷ z) (named-all k G)

-- all phrases that bind them, outside
pub named-whole : (k : Known) (G : List Variable) (xs : List (Bor Phrase)) (s : Scope) → read_each xs ≡ binders_of G → s ≡ [] → named k (take (length xs) (read_each xs)) s ≡ scope_of k G
named-whole k G xs s are outside =
    let short : length (read_each xs) ≤ length xs = omega (arith, length-map xs (λ (p : Bor Phrase). reads p.now)) in
    ap (λ ps. named k ps s) (take_all (length xs) (read_each xs) short ∙ are)
    ∙ (ap (λ (z : Scope). named k (binders_of G) z) outside ∙ named-all k G)
